use Rattle.std.proofs.Common.{◌≡◌, ◌+◌, ◌≤◌, ℕ, drop, length}
use Rattle.std.specs.List.{AllByRecursion}
use Rattle.mold_wire.specs.Block.{IsMessage, blocks}
use Rattle.mold_receiver.specs.Keeping.{filled, fresh, fresh_messages}
use Rattle.mold_receiver.specs.Segments.{bytes_at, count_at}
use Rattle.mold_receiver.specs.Shelf.{IsKept, slots_on}
use Rattle.mold_receiver.specs.Tight.{ArePlaced, length_in}
use Rattle.mold_receiver.proofs.keep.mark_fresh.Given as goal

abbrev pub invariant-loop-message : goal.invariant-loop-message
invariant-loop-message l = record {
  kept : IsKept l.shelf;
  each : AllByRecursion IsMessage l.message-iterator;
  there :
      drop l.at (bytes_at l.shelf.segments l.begin.segment) ≡ blocks
      (fresh_messages (slots_on l.shelf) l.slot l.message-iterator);
  filled :
      filled (slots_on l.shelf) l.slot l.message-iterator ≡ filled (slots_on l.fn.shelf) l.first l.blocks;
  count :
      l.count + length (fresh (slots_on l.shelf) l.slot l.message-iterator) ≡ length
      (fresh (slots_on l.fn.shelf) l.first l.blocks);
  order : l.first ≤ l.slot;
  numbered : l.slot + length l.message-iterator ≡ l.first + length l.blocks;
  bytes : (key : ℕ) → bytes_at l.shelf.segments key ≡ bytes_at l.fn.shelf.segments key;
  placed : ArePlaced l.fn.shelf.ring l.shelf.ring l.first l.slot l.begin.segment;
  longer :
      (key : ℕ) →
      length_in l.shelf.segments key l.shelf.ring + count_at l.begin.segment
      (length (blocks (fresh_messages (slots_on l.shelf) l.slot l.message-iterator))) key ≡ length_in
      l.fn.shelf.segments key l.fn.shelf.ring + count_at l.begin.segment
      (length (blocks (fresh_messages (slots_on l.fn.shelf) l.first l.blocks))) key;
}
