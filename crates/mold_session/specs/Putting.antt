-- How a file is written to the start of a buffer.
use Rattle.std.specs.Prelude.{◌≡◌, ℕ, Bool, List, ◌++◌, length, drop}
use Rattle.mold_wire.specs.declared.session.Session.{Session}
use Rattle.mold_session.specs.File.{SpellsJournal2}

-- The first `size` bytes of the buffer are now the text, and the bytes after them are unchanged.
pub record Puts (old new text : List ℕ) (size : ℕ) : Type 0 where
  pub sized : size ≡ length text
  pub put : new ≡ text ++ drop size old

-- The first `size` bytes of the buffer are now the file of version 2 of a journal, and the bytes after them are
-- unchanged.
pub record PutsFile (old new : List ℕ) (session : Session) (messages : List (List ℕ)) (closed : Bool)
    (size : ℕ) : Type 0 where
  pub file : List ℕ
  pub spelled : SpellsJournal2 session messages closed file
  pub put : Puts old new file size
