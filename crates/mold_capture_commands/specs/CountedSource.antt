-- A source that counts the bytes that were read.
use Rattle.std.specs.Prelude.{ℕ}

-- The model of such a source.
pub record CountedState (S : Type 0) : Type 0 where
  pub source : S
  -- The bytes that were read.
  pub count : ℕ
