use Rattle.std.proofs.Common.{◌≡◌, ◌+◌, ℕ, List, length, ap, sym, subst, ◌∙◌, arith}
use Rattle.mold_wire.specs.Block.{blocks}
use Rattle.mold_receiver.specs.Keeping.{fresh_messages}
use Rattle.mold_receiver.specs.Shelf.{slots_on}
use Rattle.mold_receiver.specs.Slots.{Slot}
use Rattle.mold_receiver.specs.Tight.{HasMarked}
use Rattle.mold_receiver.proofs.KeepLemmas.{length-messages}
use Rattle.mold_receiver.proofs.PlacedLemmas.{blocks_long}
use Rattle.mold_receiver.proofs.TightLemmas.{near_new, tight_left, tight_marked}
use Rattle.mold_receiver.proofs.keep.keep_some.Goals as goal

pub add_segment-requires-clause-some : goal.add_segment-requires-clause-some
add_segment-requires-clause-some c =
    let messages = fresh_messages (slots_on c.args.shelf.now) c.args.first c.args.blocks.now in
    omega (
      arith,
      blocks_long messages,
      length-messages (slots_on c.args.shelf.now) c.args.first c.args.blocks.now,
      c.requires.some,
      ap (λ (t : List ℕ). length t) (c.deref.ensures.value ∙ c.in_ok-bytes.ensures.blocks),
    )

pub returns-in_err-begin-clause-tight : goal.returns-in_err-begin-clause-tight
returns-in_err-begin-clause-tight c =
    tight_left c.args.shelf.now c.add_segment.new.self c.requires.kept c.requires.tight c.add_segment.ensures.ring
    c.in_err-begin.ensures.left

pub returns-clause-tight : goal.returns-clause-tight
returns-clause-tight c =
    let old = c.args.shelf.now in
    let middle = c.add_segment.new.self in
    let begin = c.in_ok-begin.begin in
    let end = c.args.first + length c.args.blocks.now in
    let bytes : c.deref.result.now ≡ blocks (fresh_messages (slots_on old) c.args.first c.args.blocks.now) =
    c.deref.ensures.value ∙ c.in_ok-bytes.ensures.blocks in
    let more : length (blocks (fresh_messages (slots_on middle) c.args.first c.args.blocks.now)) ≡ length c.deref.result.now =
    ap (λ (t : List Slot). length (blocks (fresh_messages t c.args.first c.args.blocks.now))) c.add_segment.ensures.same
    ∙ sym (ap (λ (t : List ℕ). length t) bytes) in
    tight_marked old middle c.mark_fresh.new.shelf begin c.deref.result.now c.args.first end c.requires.kept
    c.requires.tight c.add_segment.ensures.ring c.in_ok-begin.ensures.added
    (subst (λ (n : ℕ). HasMarked middle c.mark_fresh.new.shelf c.args.first end begin.segment n) more
    c.mark_fresh.ensures.marked)
    (near_new old.segments old.ring c.args.first end begin.segment c.requires.kept.within c.in_ok-begin.ensures.new)
