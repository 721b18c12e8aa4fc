-- What the laws of a capture state.
use Rattle.std.specs.Prelude.{◌≡◌, ℕ, ◌^◌, ◌<◌, List, [], ◌∷◌, ◌++◌, map, None}
use Rattle.std.specs.List.{AllByRecursion, flat_map}
use Rattle.mold_pcap.specs.Captures.{Frame, capture_of}
use Rattle.mold_pcap.specs.Written.{ClassicHead, ClassicRecord, IsRecord, head_bytes, record_bytes, record_frame}
use Rattle.mold_pcap.specs.WrittenBlocks.{AreBlocks, Block, blocks_bytes, frames_in, header}
use Rattle.mold_pcap.specs.declared.order.Order.{Order}

-- Records are read back as they were written.
abbrev pub ReadsRecords : ClassicHead → List ClassicRecord → Type 0
ReadsRecords head records =
    head.network < 2 ^ 32 → AllByRecursion IsRecord records →
    capture_of (head_bytes head ++ flat_map (record_bytes head.order) records)
    ≡ record { frames = map (record_frame head) records; fault = None }

-- Blocks are read back as they were written. The first one is a section header.
abbrev pub ReadsBlocks : Order → List ℕ → List Block → Type 0
ReadsBlocks order bytes blocks =
    AreBlocks order [] (header order bytes ∷ blocks) →
    capture_of (blocks_bytes order (header order bytes ∷ blocks))
    ≡ record { frames = frames_in order [] (header order bytes ∷ blocks); fault = None }

-- These frames are the first ones of others.
pub record IsFront (frames all : List Frame) : Type 0 where
  pub later : List Frame
  pub parts : all ≡ frames ++ later
