use Rattle.std.proofs.Common.{◌≡◌, ℕ, suc, ◌+◌, ◌∷◌, List, length, drop, cond, Bool, ap, sym, ◌∙◌, arith}
use Rattle.std.proofs.Common.{add-one, refl, subst, true, false, slice_set, Some}
use Rattle.std.specs.List.{AllByRecursion}
use Rattle.std.proofs.lemmas.Bool.{cond-true, cond-false}
use Rattle.mold_wire.specs.Block.{IsMessage, blocks}
use Rattle.mold_receiver.specs.Keeping.{filled, fresh, fresh_messages, is_fresh, put_fresh}
use Rattle.mold_receiver.specs.Segments.{bytes_at, count_at}
use Rattle.mold_receiver.specs.Shelf.{slots_on}
use Rattle.mold_receiver.specs.Slots.{Slot}
use Rattle.mold_receiver.specs.Store.{Message}
use Rattle.mold_receiver.specs.Tight.{ArePlaced, length_in}
use Rattle.mold_receiver.specs.declared.place.Place.{Place}
use Rattle.mold_receiver.proofs.KeepLemmas.{count_fresh, fresh_later, fresh_some, messages_behind}
use Rattle.mold_receiver.proofs.KeepLemmas.{messages_no, messages_yes}
use Rattle.mold_receiver.proofs.AboveLemmas.{fresh_short}
use Rattle.mold_receiver.proofs.MarkLemmas.{block_there, is_there, message_there}
use Rattle.mold_receiver.proofs.SegmentLemmas.{bytes_few, count_none}
use Rattle.mold_receiver.proofs.TightLemmas.{longer_one, placed_empty, placed_more, placed_still}
use Rattle.mold_receiver.proofs.keep.mark_fresh.Goals.{then-is_free, else-is_free}
use Rattle.mold_receiver.proofs.keep.mark_fresh.Goals as goal

pub loop-message-preserved : goal.loop-message-preserved
loop-message-preserved c =
    let i = c.loop-message.invariant in
    let shelf = c.loop-message.shelf in
    let key = c.args.begin.segment in
    let bytes = bytes_at shelf.segments key in
    let at = c.loop-message.at in
    let slot = c.loop-message.slot in
    let slots = slots_on shelf in
    let message = c.in-Some.message.now in
    let rest = c.next.new.self in
    let split : c.loop-message.message-iterator ≡ message ∷ rest = c.in-Some.ensures.steps in
    let each = subst (AllByRecursion IsMessage) split i.each in
    let here = i.there ∙ ap (λ (t : List Message). blocks (fresh_messages slots slot t)) split in
    let all : length (fresh slots slot c.loop-message.message-iterator) ≡ length (fresh slots slot (message ∷ rest)) =
    ap (λ (t : List Message). length (fresh slots slot t)) split in
    elim c.if-is_free.branch [
      | then-is_free w ↦
          let free : is_fresh slots slot ≡ true = sym w.if-is_free.ensures in
          let new = w.mark.new.self in
          let left = fresh_messages slots (suc slot) rest in
          let place : Place = record { segment = key; start = at } in
          let there : drop at bytes ≡ blocks (message ∷ left) = here ∙ ap blocks (messages_yes slots slot message rest free) in
          let parts = is_there bytes at message left there in
          let marked : slots_on new ≡ put_fresh slots slot message =
          w.mark.ensures.marked
          ∙ ap (λ (t : Message). slice_set slots slot (Some t)) (message_there bytes at message left each.0 there)
          ∙ sym (cond-true (is_fresh slots slot) (slice_set slots slot (Some message)) slots free) in
          let same : fresh_messages (slots_on new) (slot + 1) rest ≡ left =
          ap (λ (t : List Slot). fresh_messages t (slot + 1) rest) marked
          ∙ ap (λ (n : ℕ). fresh_messages (put_fresh slots slot message) n rest) (add-one slot)
          ∙ messages_behind slots slot message (suc slot) rest (omega arith) in
          let next : at + (2 + length message) ≡ at + 2 + length message = omega arith in
          let one : ◌≡◌ {A = ℕ} (cond (is_fresh slots slot) 1 0) 1 = ap {B = ℕ} (λ (b : Bool). cond b 1 0) free in
          let counted : length (fresh (slots_on new) (slot + 1) rest) ≡ length
          (fresh (put_fresh slots slot message) (suc slot) rest) =
          ap (λ (t : List Slot). length (fresh t (slot + 1) rest)) marked
          ∙ ap (λ (n : ℕ). length (fresh (put_fresh slots slot message) n rest)) (add-one slot) in
          rw (w.shelf-is, w.at-is, w.count-is) (record {
            kept = w.mark.ensures.kept;
            each = each.1;
            there = ap (λ (n : ℕ). drop n (bytes_at new.segments key)) next
                ∙ ap (drop (at + 2 + length message)) (w.mark.ensures.bytes key)
                ∙ parts.behind
                ∙ ap blocks (sym same);
            filled = ap (λ (t : List Slot). filled t (slot + 1) rest) marked
                ∙ ap (λ (n : ℕ). filled (put_fresh slots slot message) n rest) (add-one slot)
                ∙ sym (ap (filled slots slot) split) ∙ i.filled;
            count = omega (arith, counted, all, count_fresh slots slot message rest, one, i.count);
            order = omega (arith, i.order);
            numbered = omega (arith, i.numbered, ap (λ (t : List Message). length t) split);
            bytes = λ k. w.mark.ensures.bytes k ∙ i.bytes k;
            placed = placed_more shelf new slot place message left each.0 there free w.mark.ensures.ring
                w.mark.ensures.bytes c.args.shelf.now.ring c.args.first i.order i.placed;
            longer = λ k.
                ap (λ (t : List Message). length_in new.segments k new.ring + count_at key (length (blocks t)) k) same
                ∙ longer_one shelf new slot place message left each.0 there free w.mark.ensures.ring
                w.mark.ensures.bytes k
                ∙ ap (λ (t : List Message). length_in shelf.segments k shelf.ring + count_at key (length (blocks t)) k)
                (sym (messages_yes slots slot message rest free))
                ∙ ap (λ (t : List Message). length_in shelf.segments k shelf.ring
                + count_at key (length (blocks (fresh_messages slots slot t))) k) (sym split)
                ∙ i.longer k;
          })
      | else-is_free w ↦
          let taken : is_fresh slots slot ≡ false = sym w.if-is_free.ensures in
          let same : fresh_messages slots (slot + 1) rest ≡ fresh_messages slots slot c.loop-message.message-iterator =
          ap (λ (n : ℕ). fresh_messages slots n rest) (add-one slot)
          ∙ sym (messages_no slots slot message rest taken)
          ∙ ap (fresh_messages slots slot) (sym split) in
          let put : put_fresh slots slot message ≡ slots =
          cond-false (is_fresh slots slot) (slice_set slots slot (Some message)) slots taken in
          let counted : length (fresh slots (slot + 1) rest) ≡ length (fresh slots slot (message ∷ rest)) =
          ap (λ (n : ℕ). length (fresh slots n rest)) (add-one slot)
          ∙ sym (ap (λ (t : List (ℕ × Message)). length t) (fresh_later slots slot message rest taken)) in
          rw (w.shelf-is, w.at-is, w.count-is) (record {
            kept = i.kept;
            each = each.1;
            there = i.there ∙ ap blocks (sym same);
            filled = ap (λ (n : ℕ). filled slots n rest) (add-one slot)
                ∙ ap (λ (t : List Slot). filled t (suc slot) rest) (sym put)
                ∙ sym (ap (filled slots slot) split) ∙ i.filled;
            count = omega (arith, counted, all, i.count);
            order = omega (arith, i.order);
            numbered = omega (arith, i.numbered, ap (λ (t : List Message). length t) split);
            bytes = i.bytes;
            placed = placed_still shelf slot c.args.shelf.now.ring c.args.first key taken i.order i.placed;
            longer = λ k.
                ap (λ (t : List Message). length_in shelf.segments k shelf.ring + count_at key (length (blocks t)) k) same
                ∙ i.longer k;
          })
    ]

pub mark-requires-clause-there : goal.mark-requires-clause-there
mark-requires-clause-there c =
    let i = c.loop-message.invariant in
    let slots = slots_on c.loop-message.shelf in
    let slot = c.loop-message.slot in
    let message = c.in-Some.message.now in
    let rest = c.next.new.self in
    let split = c.in-Some.ensures.steps in
    block_there (bytes_at c.loop-message.shelf.segments c.args.begin.segment) c.loop-message.at message
    (fresh_messages slots (suc slot) rest) (subst (AllByRecursion IsMessage) split i.each).0
    (i.there ∙ ap (λ (t : List Message). blocks (fresh_messages slots slot t)) split
    ∙ ap blocks (messages_yes slots slot message rest (sym c.if-is_free.ensures)))

pub overflow_add-count : goal.overflow_add-count
overflow_add-count c =
    let i = c.loop-message.invariant in
    let slots = slots_on c.loop-message.shelf in
    let slot = c.loop-message.slot in
    let some = fresh_some slots slot c.in-Some.message.now c.next.new.self (sym c.if-is_free.ensures) in
    let split : length (fresh slots slot c.loop-message.message-iterator) ≡ length
    (fresh slots slot (c.in-Some.message.now ∷ c.next.new.self)) =
    ap (λ (t : List Message). length (fresh slots slot t)) c.in-Some.ensures.steps in
    omega (
      arith,
      i.count,
      some,
      split,
      fresh_short (slots_on c.args.shelf.now) c.args.first c.args.blocks.now,
      c.requires.few,
    )

pub overflow_add-at-then-is_free : goal.overflow_add-at-then-is_free
overflow_add-at-then-is_free c =
    let i = c.loop-message.invariant in
    let slots = slots_on c.loop-message.shelf in
    let slot = c.loop-message.slot in
    let message = c.in-Some.message.now in
    let rest = c.next.new.self in
    let split = c.in-Some.ensures.steps in
    let bytes = bytes_at c.loop-message.shelf.segments c.args.begin.segment in
    let there : drop c.loop-message.at bytes ≡ blocks (message ∷ fresh_messages slots (suc slot) rest) =
    i.there ∙ ap (λ (t : List Message). blocks (fresh_messages slots slot t)) split
    ∙ ap blocks (messages_yes slots slot message rest (sym c.if-is_free.ensures)) in
    omega (
      arith,
      (is_there bytes c.loop-message.at message (fresh_messages slots (suc slot) rest) there).within,
      bytes_few c.loop-message.shelf.segments c.args.begin.segment i.kept.segments,
    )

pub loop-message-init : goal.loop-message-init
loop-message-init c =
    let old = c.args.shelf.now in
    rw (c.into_iter-message-iterator.ensures.into_iter_gives ∙ c.iter-message-items.ensures)
    (record {
      kept = c.requires.kept;
      each = c.requires.each;
      there = c.requires.there;
      filled = refl;
      count = omega arith;
      order = omega arith;
      numbered = refl;
      bytes = λ k. refl;
      placed = placed_empty old.ring c.args.first c.args.begin.segment;
      longer = λ k. refl;
    })

pub returns-clause-filled : goal.returns-clause-filled
returns-clause-filled c =
    let i = c.loop-message.invariant in
    sym (ap (filled (slots_on c.loop-message.shelf) c.loop-message.slot) c.in-None.ensures.steps.0) ∙ i.filled

pub returns-clause-count : goal.returns-clause-count
returns-clause-count c =
    omega (
      arith,
      c.loop-message.invariant.count,
      ap (λ (t : List Message). length (fresh (slots_on c.loop-message.shelf) c.loop-message.slot t))
          c.in-None.ensures.steps.0,
    )

pub returns-clause-marked : goal.returns-clause-marked
returns-clause-marked c =
    let i = c.loop-message.invariant in
    let shelf = c.loop-message.shelf in
    let slot = c.loop-message.slot in
    let key = c.args.begin.segment in
    let none = c.in-None.ensures.steps.0 in
    record {
      bytes = i.bytes;
      placed = subst (λ (n : ℕ). ArePlaced c.args.shelf.now.ring shelf.ring c.args.first n key)
          (omega (arith, i.numbered, ap (λ (t : List Message). length t) none)) i.placed;
      longer = λ k.
          omega (
            arith,
            i.longer k,
            ap (λ (t : List Message). count_at key (length (blocks (fresh_messages (slots_on shelf) slot t))) k) none,
            count_none key k,
          );
    }
