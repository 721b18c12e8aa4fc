use Rattle.std.proofs.Common.{◌≡◌, ◌≤◌, ◌++◌, take, drop, replicate, None}
use Rattle.mold_receiver.specs.Segments.{AreSegments}
use Rattle.mold_receiver.specs.Shelf.{slots_in}
use Rattle.mold_receiver.specs.Slots.{count_held}
use Rattle.mold_receiver.proofs.ReleaseLemmas.{IsReleasing}
use Rattle.mold_receiver.proofs.release.release.Given as goal

abbrev pub invariant-loop-slot : goal.invariant-loop-slot
invariant-loop-slot l = record {
  whole : AreSegments l.segments;
  releasing : IsReleasing l.fn.segments l.segments (take l._slot l.fn.ring) l.key l.pending;
  held : l.held ≡ count_held (slots_in l.fn.segments (take l._slot l.fn.ring));
  few : l.pending ≤ l.held;
  left : l.ring ≡ drop l._slot l.fn.ring ++ replicate l._slot None;
}
