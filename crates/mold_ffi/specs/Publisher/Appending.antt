-- A file to which a program appends records, for the laws.
use Rattle.std.specs.Prelude.{ℕ, List, ◌++◌, length, take, drop}

-- The bytes of a file after the text was written at this offset.
abbrev pub written_at : ℕ → List ℕ → List ℕ → List ℕ
written_at at text file = take at file ++ (text ++ drop (length text) (drop at file))
