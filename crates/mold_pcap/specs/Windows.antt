-- How bytes are read and passed.
use Rattle.std.specs.Prelude.{◌≡◌, ℕ, ◌+◌, ◌<◌, ◌≤◌, List, ◌++◌, length, take, drop, Option, None, Some, IfSome, ⊤}
use Rattle.std.specs.Io.KnownBytes.{Consumes, Keeps, prepend_known}

-- A read of `count` bytes to the memory after its first `end` bytes.
pub record ReadsAfter (end count : ℕ) (old new : List ℕ) (known left : Option (List ℕ)) : Type 0 where
  pub few : count ≤ 65536
  pub added : List ℕ
  pub long : length added ≡ count
  pub joined : take (end + count) new ≡ take end old ++ added
  pub consumed : Consumes known left added

-- A read of `count` bytes: they are at the end of the bytes that were there.
pub record Reads (count : ℕ) (old new : List ℕ) (known left : Option (List ℕ)) : Type 0 where
  pub few : count ≤ 65536
  pub longer : length new ≡ length old + count
  pub same : Keeps (prepend_known old known) (prepend_known new left)

-- The first `count` bytes were passed. If the bytes are not known, the relation states nothing.
abbrev pub Passes : ℕ → Option (List ℕ) → Option (List ℕ) → Type 0
Passes count None left = ⊤
Passes count (Some bytes) None = ⊥
Passes count (Some bytes) (Some rest) = (count ≤ length bytes) × (rest ≡ drop count bytes)

-- There are fewer bytes than `count`.
abbrev pub IsShort : ℕ → Option (List ℕ) → Type 0
IsShort count known = IfSome known (λ bytes. length bytes < count)
