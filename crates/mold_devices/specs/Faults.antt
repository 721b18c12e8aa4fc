-- How the counts of failures of devices relate to faults.
use Rattle.std.specs.Prelude.{◌≡◌, ◌⊎◌, ℕ, List, codes, Result, Ok, Err}
use Rattle.mold_devices.specs.Devices.{one_more}
use Rattle.mold_devices.specs.declared.fault.ReadFault.{ReadFault}
use Rattle.mold_devices.specs.declared.fault.ReadFault.TheVariants as reading
use Rattle.mold_devices.specs.declared.fault.CommandFault.{CommandFault}
use Rattle.mold_devices.specs.declared.fault.CommandFault.TheVariants as command

-- The source's count of failures increases by one with the fault `Read`, and is unchanged with `Memory`.
abbrev pub CountsReadFault : ℕ → ℕ → ReadFault → Type 0
CountsReadFault old new reading.Read = new ≡ one_more old
CountsReadFault old new reading.Memory = new ≡ old

-- How a result of reading changes the source's count of failures. It increases by one with the fault `Read`, and is
-- unchanged otherwise.
abbrev pub CountsRead : {T : Type 0} → ℕ → ℕ → Result T ReadFault → Type 0
CountsRead old new (Ok _) = new ≡ old
CountsRead old new (Err fault) = CountsReadFault old new fault

-- The fault of a command that reads no input. The sink's count of failures increases by one with `Write`, and
-- is unchanged with `Memory`. `Read` does not occur.
abbrev pub CountsSinkFault : ℕ → ℕ → CommandFault → Type 0
CountsSinkFault old new command.Read = ⊥
CountsSinkFault old new command.Write = new ≡ one_more old
CountsSinkFault old new command.Memory = new ≡ old

-- How the result of a command that reads no input changes the sink's count of failures. `Write` increases it by one,
-- `Read` does not occur, and other results leave it unchanged.
abbrev pub CountsSink : {T : Type 0} → ℕ → ℕ → Result T CommandFault → Type 0
CountsSink old new (Ok _) = new ≡ old
CountsSink old new (Err fault) = CountsSinkFault old new fault

-- The fault of a command that corresponds to a fault of reading.
abbrev pub from_read_fault : ReadFault → CommandFault
from_read_fault reading.Read = command.Read
from_read_fault reading.Memory = command.Memory

-- The source's count of failures increases by one with `Read`, the sink's with `Write`, and neither with
-- `Memory`. With `Write`, the source's count may have increased too, since the text of earlier turns is
-- written after a failed read.
abbrev pub CountsFault : ℕ → ℕ → ℕ → ℕ → CommandFault → Type 0
CountsFault source_old source_new sink_old sink_new command.Read =
    (source_new ≡ one_more source_old) × (sink_new ≡ sink_old)
CountsFault source_old source_new sink_old sink_new command.Write =
    ((source_new ≡ source_old) ⊎ (source_new ≡ one_more source_old)) × (sink_new ≡ one_more sink_old)
CountsFault source_old source_new sink_old sink_new command.Memory =
    (source_new ≡ source_old) × (sink_new ≡ sink_old)

-- How a result of a command changes the counts of failures of the source and the sink. `Read` increases the source's
-- count by one; `Write` increases the sink's, and the source's too if a read failed before. Otherwise both are
-- unchanged.
abbrev pub CountsCommand : {T : Type 0} → ℕ → ℕ → ℕ → ℕ → Result T CommandFault → Type 0
CountsCommand source_old source_new sink_old sink_new (Ok _) = (source_new ≡ source_old) × (sink_new ≡ sink_old)
CountsCommand source_old source_new sink_old sink_new (Err fault) =
    CountsFault source_old source_new sink_old sink_new fault

-- The word that the program prints after `fault`.
abbrev pub fault_word : CommandFault → List ℕ
fault_word command.Read = codes "Read"
fault_word command.Write = codes "Write"
fault_word command.Memory = codes "Memory"
