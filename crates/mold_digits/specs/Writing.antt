-- Text that is written into a buffer.
use Rattle.std.specs.Prelude.{◌≡◌, ℕ, ◌+◌, List, ◌++◌, length, take}

-- `new` is `old` after the text was written from offset `at` up to, but not including, `end`. The length and the bytes
-- before `at` are unchanged; the bytes from `end` on may differ.
pub record IsWritten (old new : List ℕ) (at end : ℕ) (text : List ℕ) : Type 0 where
  pub stops : end ≡ at + length text
  pub front : take end new ≡ take at old ++ text
  pub size : length new ≡ length old
