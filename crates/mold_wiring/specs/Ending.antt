-- How a command ends.
use Rattle.std.specs.Prelude.{◌≡◌, ℕ, ◌<◌, List, ◌++◌, codes, Option, Result, Ok, Err}
use Rattle.std.specs.Io.KnownBytes.{Appends}
use Rattle.mold_devices.specs.Faults.{fault_word}
use Rattle.mold_devices.specs.declared.fault.CommandFault.{CommandFault}
use Rattle.mold_devices.specs.declared.fault.CommandFault.TheVariants.{Write}
use Rattle.mold_wiring.specs.declared.program_fault.ProgramFault.{ProgramFault}
use Rattle.mold_wiring.specs.declared.program_fault.ProgramFault.TheVariants.{Command, Locked, Socket}

-- The outcome of a command after its output was flushed. A failed flush is the fault `Write`, unless the command had
-- failed before.
abbrev pub flushed : {T E : Type 0} → Result ℕ CommandFault → Result T E → Result ℕ CommandFault
flushed (Err fault) flush = Err fault
flushed (Ok status) (Ok _) = Ok status
flushed (Ok status) (Err _) = Err Write

-- The name of the fault that the program prints after `fault`.
abbrev pub program_fault_word : ProgramFault → List ℕ
program_fault_word (Command fault) = fault_word fault
program_fault_word Socket = codes "Socket"
program_fault_word Locked = codes "Locked"

-- The line that the program prints for the fault with this name: `fault`, a space, the name, and the byte 0A.
abbrev pub fault_line : List ℕ → List ℕ
fault_line word = codes "fault " ++ word ++ codes "\n"

-- The text was appended to the bytes that a sink holds, unless the sink failed: `failed` and `failures` are its counts
-- of failures before and after. Nothing is stated if `failed` is 18,446,744,073,709,551,615, where the count stops.
abbrev pub AppendsUnlessFailed : ℕ → ℕ → Option (List ℕ) → Option (List ℕ) → List ℕ → Type 0
AppendsUnlessFailed failed failures old new text =
    failed < 18446744073709551615 → failures ≡ failed → Appends old new text

-- The status of the program: the command's status, or 3 if a fault ended the command.
abbrev pub program_status : Result ℕ ProgramFault → ℕ
program_status (Ok status) = status
program_status (Err fault) = 3
