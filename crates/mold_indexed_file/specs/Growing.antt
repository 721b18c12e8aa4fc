-- How an indexed file changes while it is read.
use Rattle.std.specs.Prelude.{◌≡◌, ℕ, List}
use Rattle.mold_durable.specs.GrowingFile.{Passes}
use Rattle.mold_indexed_file.specs.Shown.{IndexedState}

-- The file was read, and time has passed. Only the file and the buffer have changed.
pub record WasRead {F : Type 0} (history : F → (ℕ → List ℕ) → Type 0) (moment synced : F → ℕ)
    (old new : IndexedState F) : Type 0 where
  pub kept : new ≡ record old { file = new.file; buffer = new.buffer }
  pub passes : Passes history moment synced old.file new.file
