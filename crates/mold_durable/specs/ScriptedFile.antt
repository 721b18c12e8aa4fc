-- A file in memory that grows, and what a read of it returns.
use Rattle.std.specs.Prelude.{◌≡◌, ℕ, ◌-◌, ◌<◌, min, List, [], length, slice_get, slice_index, Option, None, Some}
use Rattle.std.specs.Global.{Vec}

-- The bytes of a snapshot. If there is none, there are no bytes.
abbrev pub bytes_of : Option (Vec ℕ) → List ℕ
bytes_of None = []
bytes_of (Some snapshot) = snapshot.items

-- The contents of the file at a moment: the snapshot of that moment, or the last one if there are fewer.
abbrev pub contents : List (Vec ℕ) → ℕ → List ℕ
contents snapshots moment = bytes_of (slice_get snapshots (min moment (length snapshots - 1)))

-- The file has these bytes at each moment.
abbrev pub IsScript : List (Vec ℕ) → (ℕ → List ℕ) → Type 0
IsScript snapshots bytes = (moment : ℕ) → bytes moment ≡ contents snapshots moment

-- The byte is at this offset of the bytes.
pub record IsByteAt (bytes : List ℕ) (offset byte : ℕ) : Type 0 where
  pub within : offset < length bytes
  pub same : byte ≡ slice_index bytes offset
