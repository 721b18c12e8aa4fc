-- The contents of a file: the messages of its blocks, and why it is not the file of a journal if it isn't.
use Rattle.std.specs.Prelude.{◌≡◌, ◌⊎◌, ℕ, List, [], ◌++◌, length, Option, None, Some}
use Rattle.mold_wire.specs.Block.{blocks}
use Rattle.mold_wire.specs.declared.block.TheConstants.{MAX_MESSAGE}
use Rattle.mold_session.specs.FileFault.{IsBody1, IsBody2, IsBody3, BlockFault, JournalFault, PrecedeRecord}
use Rattle.mold_session.specs.Journal.{AreMessages}
use Rattle.mold_session.specs.Loading.{SpellsFile}
use Rattle.mold_session.specs.declared.error.FileError.{FileError}
use Rattle.mold_session.specs.declared.error.FileError.TheVariants.{TooLong, Memory, BadMagic, Short, BlockCut, Read}
use Rattle.mold_session.specs.declared.error.FileError.TheVariants.{Write, Full, CountDiffers, BadFlag}
use Rattle.mold_session.specs.declared.error.FileError.TheVariants.{Damaged}
use Rattle.mold_session.specs.declared.loading.FileHead.{FileHead}

-- The file, of version 1 or 2, has a valid head. The blocks of `messages` follow the head, and then come the bytes
-- `rest`.
pub record HasBlocks (bytes : List ℕ) (messages : List (List ℕ)) (rest : List ℕ) : Type 0 where
  -- all bytes after the head
  pub behind : List ℕ
  pub head : IsBody1 bytes behind ⊎ IsBody2 bytes behind
  pub listed : AreMessages MAX_MESSAGE messages
  pub parts : behind ≡ blocks messages ++ rest

-- The file has these messages in whole blocks, and the bytes after them have the fault `error`.
pub record AreBefore (bytes : List ℕ) (messages : List (List ℕ)) (error : FileError) : Type 0 where
  pub rest : List ℕ
  pub front : HasBlocks bytes messages rest
  pub fault : BlockFault MAX_MESSAGE (length messages) rest error

-- The file, of version 3, has these messages in whole records, and the bytes after them have the fault `error`.
abbrev pub AreBeforeRecord : List ℕ → List (List ℕ) → FileError → Type 0
AreBeforeRecord bytes messages error =
    (behind : List ℕ) × IsBody3 bytes behind × PrecedeRecord MAX_MESSAGE behind messages error

-- The messages of a file with this fault: none if the fault is in the head, otherwise those of the whole blocks, or of
-- the whole records, before the fault.
abbrev pub PrecedeFault : List ℕ → List (List ℕ) → FileError → Type 0
PrecedeFault bytes messages (Short len) = messages ≡ []
PrecedeFault bytes messages BadMagic = messages ≡ []
PrecedeFault bytes messages (BadFlag byte) = messages ≡ []
PrecedeFault bytes messages (CountDiffers count found) = HasBlocks bytes messages []
PrecedeFault bytes messages Full = AreBefore bytes messages Full ⊎ AreBeforeRecord bytes messages Full
PrecedeFault bytes messages (TooLong len) =
    AreBefore bytes messages (TooLong len) ⊎ AreBeforeRecord bytes messages (TooLong len)
PrecedeFault bytes messages (BlockCut number) = AreBefore bytes messages (BlockCut number)
PrecedeFault bytes messages (Damaged number) = AreBeforeRecord bytes messages (Damaged number)
PrecedeFault bytes messages Read = ⊥
PrecedeFault bytes messages Memory = ⊥
PrecedeFault bytes messages Write = ⊥

-- The bytes are a file with these messages and this fault. Without a fault they are the file of a journal, of any
-- version; with a fault, `messages` are the messages before it.
abbrev pub Gives : List ℕ → List (List ℕ) → Option FileError → Type 0
Gives bytes messages None = (head : FileHead) × SpellsFile head messages head.version bytes
Gives bytes messages (Some error) = JournalFault MAX_MESSAGE bytes error × PrecedeFault bytes messages error

-- What the bytes contain as a file: messages, which may have any length, and a fault, if there is one.
pub record FileContents (bytes : List ℕ) : Type 0 where
  pub messages : List (List ℕ)
  pub fault : Option FileError
  pub gives : Gives bytes messages fault

-- The messages `front` are a prefix of the messages `all`.
pub record IsFront (front all : List (List ℕ)) : Type 0 where
  pub extra : List (List ℕ)
  pub longer : all ≡ front ++ extra
