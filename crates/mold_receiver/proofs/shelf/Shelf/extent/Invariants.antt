use Rattle.std.proofs.Common.{◌≡◌, ◌≤◌, ◌<◌, ◌+◌, ◌-◌, ℕ, length}
use Rattle.std.specs.Prelude.{Some}
use Rattle.mold_receiver.specs.Places.{end_from, place_at}
use Rattle.mold_receiver.specs.Segments.{bytes_at}
use Rattle.mold_receiver.proofs.shelf.Shelf.extent.Given as goal

abbrev pub invariant-loop-first : goal.invariant-loop-first
invariant-loop-first l = record {
  some : 0 < l.count;
  ends : l.end ≡ end_from (bytes_at l.self.segments l.first.segment) l.first.start l.count;
  within : l.end ≤ length (bytes_at l.self.segments l.first.segment);
  there :
      (i : ℕ) → i < l.count → place_at l.self.ring (l.slot + i) ≡ Some
      (record { segment = l.first.segment; start = end_from (bytes_at l.self.segments l.first.segment) l.first.start i });
  fits : l.slot + l.count ≤ length l.self.ring;
}

abbrev pub decreases-loop-first : goal.decreases-loop-first
decreases-loop-first l = length l.self.ring - (l.slot + l.count)
