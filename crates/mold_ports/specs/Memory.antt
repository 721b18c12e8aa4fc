-- Ports in memory.
use Rattle.std.specs.Prelude.{◌<◌, ◌≤◌, ◌⊎◌, ℕ, Bool, true, false, List, length}
use Rattle.std.specs.Global.{Vec}
use Rattle.mold_ports.specs.Ports.{Port, Receipt, Datagram, Quiet, Failure, offered}
use Rattle.mold_ports.specs.declared.step.Step.{Step}
use Rattle.mold_ports.specs.declared.step.Step.TheVariants as step

-- What a receive gives at this step of the port's script.
abbrev pub receipt_at : Step → Receipt ℕ
receipt_at (step.Come from bytes) = Datagram from bytes.items
receipt_at step.Quiet = Quiet
receipt_at step.Fail = Failure

-- A datagram that a port in memory sent: the peer that it was sent to, and its bytes.
abbrev pub datagram_of : ℕ × Vec ℕ → ℕ × List ℕ
datagram_of kept = (kept.0, kept.1.items)

-- The port after it was to keep a datagram. The Boolean is `true` if that failed, and then the port is the same.
abbrev pub kept_datagram : Bool → ℕ → List ℕ → Port ℕ → Port ℕ
kept_datagram true to bytes port = port
kept_datagram false to bytes port = offered false to bytes port

-- A port in memory, with its room for sent datagrams and the send that fails.
pub record MemoryState : Type 0 where
  pub port : Port ℕ
  -- the number of datagrams that can be kept before their list is reallocated
  pub room : ℕ
  -- the send that fails, counted from 1 for the next one, or 0
  pub fails_at : ℕ

-- Keeping one more datagram of these bytes allocates memory, for the bytes or for the list of datagrams.
abbrev pub AsksMemory : MemoryState → List ℕ → Type 0
AsksMemory memory bytes = (0 < length bytes) ⊎ (memory.room ≤ length memory.port.sent)
