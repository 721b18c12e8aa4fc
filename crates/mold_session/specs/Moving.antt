-- How bytes move from a buffer to a sink.
use Rattle.std.specs.Prelude.{◌≡◌, ℕ, List, ◌++◌, Option}
use Rattle.std.specs.Io.KnownBytes.{Appends}

-- The text was put after the kept bytes. A prefix of all these bytes was written to the sink, and the buffer
-- still keeps the rest.
pub record Moves (old new : Option (List ℕ)) (kept text still : List ℕ) : Type 0 where
  pub written : List ℕ
  pub parts : kept ++ text ≡ written ++ still
  pub appended : Appends old new written
