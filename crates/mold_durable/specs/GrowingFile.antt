-- What a read of a growing file returns.
use Rattle.std.specs.Prelude.{◌≡◌, ℕ, ◌+◌, ◌-◌, ◌<◌, ◌≤◌, min, List, length, slice_index}
use Rattle.std.proofs.Common.{arith}

-- The byte was in the file at this offset, at some moment from `start` to `end`.
pub record IsByteAmong (history : ℕ → List ℕ) (start end offset byte : ℕ) : Type 0 where
  pub moment : ℕ
  pub since : start ≤ moment
  pub until : moment ≤ end
  pub within : offset < length (history moment)
  pub same : byte ≡ slice_index (history moment) offset

-- At some moment from `start` to `end`, the file had at most `count` bytes from offset `at` on, or `count` fills the
-- buffer.
pub record IsAllAmong (history : ℕ → List ℕ) (start end at size count : ℕ) : Type 0 where
  pub moment : ℕ
  pub since : start ≤ moment
  pub until : moment ≤ end
  pub all : min size (length (history moment) - at) ≤ count

-- The first `count` bytes of the buffer are those from offset `at` on, as many as there are or as fit. Each byte, and
-- the length of the file, may be that of another moment from `start` to `end`.
pub record ReadsAmong (history : ℕ → List ℕ) (start end at count : ℕ) (buffer : List ℕ) : Type 0 where
  pub each : (index : ℕ) → index < count → IsByteAmong history start end (at + index) (slice_index buffer index)
  pub all : IsAllAmong history start end at (length buffer) count

-- Time passes in a file that another process writes: the same histories are possible, and no less of it is durable.
pub record Passes {F : Type 0} (history : F → (ℕ → List ℕ) → Type 0) (moment synced : F → ℕ) (old new : F) :
    Type 0 where
  pub kept : (bytes : ℕ → List ℕ) → history old bytes → history new bytes
  pub later : moment old ≤ moment new
  pub durable : synced old ≤ synced new

-- What is durable is not later than now.
pub no_later : (synced moment : ℕ) → min synced moment ≤ moment
no_later synced moment = omega arith
