-- Which bytes of a file are read for a datagram.
use Rattle.std.specs.Prelude.{◌≡◌, ◌⊎◌, ℕ, ◌+◌, ◌<◌, ◌≤◌, List, length, slice_index}
use Rattle.mold_durable.specs.GrowingFile.{IsAllAmong, IsByteAmong}
use Rattle.mold_index.specs.Index.{IndexState, Indexes}
use Rattle.mold_index.specs.Piece.{IsPiece}
use Rattle.mold_index.specs.declared.piece.Piece.{Piece}
use Rattle.mold_indexed_file.specs.Buffer.{BufferState}

-- The bytes are what a read of this piece returned: the bytes of the piece, unless the file ended before. Each byte,
-- and the length of the file, may be that of another moment from `start` to `end`.
pub record IsRead (history : ℕ → List ℕ) (start end : ℕ) (piece : Piece) (bytes : List ℕ) : Type 0 where
  pub few : length bytes ≤ piece.len
  pub each : (index : ℕ) → index < length bytes →
      IsByteAmong history start end (piece.entry.offset + index) (slice_index bytes index)
  pub all : IsAllAmong history start end piece.entry.offset piece.len (length bytes)

-- The buffer is unchanged, and has all bytes of this piece.
pub record IsKept (piece : Piece) (old new : BufferState) : Type 0 where
  pub same : new ≡ old
  pub whole : length new.bytes ≡ piece.len

-- The buffer has the piece for the messages from `from` up to, but not including, `to`, of which at most `most` bytes
-- are needed. It had the piece before, or has what a read returned.
pub record HasReadFor (index : IndexState) (from to most : ℕ) (history : ℕ → List ℕ) (start end : ℕ)
    (old new : BufferState) : Type 0 where
  pub piece : Piece
  pub is : (lengths : List ℕ) → Indexes index lengths → IsPiece index.layout lengths from to most piece
  pub begins : new.entry ≡ piece.entry
  pub read : IsKept piece old new ⊎ IsRead history start end piece new.bytes
