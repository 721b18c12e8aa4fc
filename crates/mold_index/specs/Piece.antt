-- The piece of a file that is read for some messages.
use Rattle.std.specs.Prelude.{ℕ, ◌+◌, ◌<◌, ◌≤◌, List, length}
use Rattle.mold_index.specs.Index.{LeadsTo, offset_of}
use Rattle.mold_index.specs.declared.entries.TheConstants.{STRIDE_BYTES, STRIDE_MESSAGES}
use Rattle.mold_index.specs.declared.layout.Layout.{Layout}
use Rattle.mold_index.specs.declared.piece.Piece.{Piece}

-- The piece has each message from `from` up to, but not including, `to` that ends at most `most` bytes after the offset
-- at which message `from` begins. It is not much longer.
pub record IsPiece (layout : Layout) (lengths : List ℕ) (from to most : ℕ) (piece : Piece) : Type 0 where
  pub begins : LeadsTo layout lengths from piece.entry
  pub whole : (number : ℕ) → from ≤ number → number < to → number ≤ length lengths →
      offset_of layout lengths (number + 1) ≤ offset_of layout lengths from + most →
      offset_of layout lengths (number + 1) ≤ piece.entry.offset + piece.len
  -- it ends with the last message at the latest
  pub within : piece.entry.offset + piece.len ≤ offset_of layout lengths (length lengths + 1)
  pub short : piece.len < most + STRIDE_BYTES
  -- it has at most 64 messages and `most` bytes more
  pub narrow : piece.entry.offset + piece.len ≤ offset_of layout lengths (piece.entry.number + STRIDE_MESSAGES) + most
