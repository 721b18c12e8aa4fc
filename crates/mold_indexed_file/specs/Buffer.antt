-- The buffer for pieces of a file.
use Rattle.std.specs.Prelude.{ℕ, ◌+◌, ◌*◌, List}
use Rattle.mold_session.specs.declared.file_version.FileVersion.{FileVersion}
use Rattle.mold_session.specs.declared.file_version.FileVersion.TheVariants.{One, Two, Three}
use Rattle.mold_index.specs.declared.entry.Entry.{Entry}

-- A buffer for pieces of a file, and the piece that it has.
pub record BufferState : Type 0 where
  -- the number of bytes for which it has room
  pub size : ℕ
  -- the message with which the piece begins, and the offset of the piece in the file
  pub entry : Entry
  -- the bytes of the piece. There are none if the last read failed
  pub bytes : List ℕ

-- The number of bytes that the messages of a datagram and the first message that no longer fits have at most in a file
-- of this version. `limit` is that of the datagram.
abbrev pub most_bytes : FileVersion → ℕ → ℕ → ℕ
most_bytes One limit max_message = limit + max_message
most_bytes (Two count) limit max_message = limit + max_message
most_bytes Three limit max_message = 2 * limit + max_message
