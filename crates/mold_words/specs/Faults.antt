-- Defines the faults that are returned for arguments that give no order.
use Rattle.std.specs.Prelude.{◌≡◌, ◌⊎◌, Bool, if◌then◌else◌, List, None, Result, Ok, Err}
use Rattle.std.specs.declared.string.String.{String}
use Rattle.std.specs.declared.alloc.AllocError.{AllocError}
use Rattle.std.specs.declared.alloc.Global.{Global}
use Rattle.clap.specs.Words.{IsAmong, Kinds, Text, fault_of, subcommand_of}
use Rattle.clap.specs.declared.error.kind.ErrorKind.{ErrorKind}
use Rattle.clap.specs.declared.error.kind.ErrorKind.TheVariants as kind
use Rattle.mold_words.specs.Orders.{lacks_address, order_of}
use Rattle.mold_words.specs.Words.{mold_app}
use Rattle.mold_words.specs.declared.fault.UsageFault.{UsageFault}
use Rattle.mold_words.specs.declared.fault.UsageFault.TheVariants.{Address, Help, Version, Usage, Memory}

-- The fault that reports an error of this kind with the text of the error.
abbrev pub fault_of_kind : ErrorKind → String Global → UsageFault
fault_of_kind kind.DisplayHelp text = Help text
fault_of_kind kind.DisplayVersion text = Version text
fault_of_kind kind.OutOfMemory text = Memory
fault_of_kind _ text = Usage text

-- The fault for an error of this kind that `clap` reports. It is `Memory` if the allocation of the fault's text failed.
abbrev pub fault_if_made : ErrorKind → Result (String Global) AllocError → UsageFault
fault_if_made error (Ok text) = fault_of_kind error text
fault_if_made error (Err _) = Memory

-- The fault is `Memory`, or reports an error of one of these kinds.
abbrev pub IsClapFault : Kinds → UsageFault → Type 0
IsClapFault kinds fault = (fault ≡ Memory) ⊎ ((error : ErrorKind) × (text : String Global)
    × IsAmong error kinds × (fault ≡ fault_of_kind error text))

-- The fault that reports an invalid value of an option, an address or another one. It is `Memory` if the allocation of
-- the text failed.
abbrev pub value_fault : Bool → Result (String Global) AllocError → UsageFault
value_fault is_address (Ok text) = if is_address then Address text else Usage text
value_fault is_address (Err _) = Memory

-- The fault is `Memory`, or reports an error that `clap` finds in the arguments, or reports an invalid value of an
-- option. In the last case it is `Address` exactly when an address of the command is invalid.
abbrev pub IsFaultOf : List Text → UsageFault → Type 0
IsFaultOf words fault = IsClapFault (fault_of mold_app words) fault
    ⊎ ((order_of words ≡ None)
    × ((text : String Global) × (fault ≡ value_fault (lacks_address (subcommand_of mold_app words)) (Ok text))))
