use Rattle.std.proofs.Common.{◌≡◌, ◌+◌, ◌-◌, ◌*◌, ◌<◌, ◌^◌, min, length}
use Rattle.std.specs.Prelude.{vec_capacity}
use Rattle.slab.specs.Slab.{entries}
use Rattle.mold_receiver.specs.Segments.{memory_of}
use Rattle.mold_receiver.specs.declared.segment.TheConstants.{SEGMENT_BYTES}
use Rattle.mold_receiver.proofs.segments.Segments.memory.Given as goal

abbrev pub invariant-loop-segment : goal.invariant-loop-segment
invariant-loop-segment l = record {
  fits : l.memory < 2 ^ 64;
  sum :
      min (l.memory + memory_of l.segment-iterator) (2 ^ 64 - 1) ≡ min
      (length l.self.spare.items * SEGMENT_BYTES + vec_capacity l.self.small + memory_of (entries l.self.table))
      (2 ^ 64 - 1);
}
