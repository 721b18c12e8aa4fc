use Rattle.std.proofs.Common.{◌≡◌, ◌+◌, ◌++◌, ◌<◌, ◌≤◌, ℕ, None, Bool, List, length, length-append, take, drop, replicate}
use Rattle.std.proofs.Common.{sym, ap, subst, ◌∙◌, arith}
use Rattle.std.specs.Prelude.{Option, Result, Ok, Err, OnErr, Some, is_some}
use Rattle.std.specs.Option.{option_map}
use Rattle.std.proofs.lemmas.List.{length-drop, length-map, length-replicate}
use Rattle.mold_receiver.specs.Batch.{Handed, followed_by}
use Rattle.mold_receiver.specs.Places.{IsBlockAt, end_from, ends_from, messages_from, place_at}
use Rattle.mold_receiver.specs.Ring.{IsListed}
use Rattle.mold_receiver.specs.Segments.{AreLost, HasLost, bytes_at, live_at}
use Rattle.mold_receiver.specs.Shelf.{IsExtent, IsKept, message_on, slots_on}
use Rattle.mold_receiver.specs.Slots.{slot_at}
use Rattle.mold_receiver.specs.declared.place.Place.{Place}
use Rattle.mold_receiver.specs.declared.segments.Segments.{Segments}
use Rattle.mold_receiver.specs.declared.shelf.Shelf.{Shelf}
use Rattle.mold_receiver.proofs.ExchangeLemmas.{extent_listed, has_delivered, left_twice, no_some, run_bytes, run_held}
use Rattle.mold_receiver.proofs.ExchangeLemmas.{run_live, run_lost, whole_fits, whole_numbered}
use Rattle.mold_receiver.proofs.GivingUpLemmas.{run_held as run_there}
use Rattle.mold_receiver.proofs.ReleaseLemmas.{held_short, place_there}
use Rattle.mold_receiver.proofs.ShelfLemmas.{slot_in}
use Rattle.mold_receiver.proofs.SkipLemmas.{held_first, kept_skipped, skipped}
use Rattle.mold_receiver.proofs.TightLemmas.{tight_skipped}
use Rattle.mold_receiver.proofs.shelf.Shelf.deliver_whole.Goals as goal

on_err : {T E : Type 0} {P : Type 0} (r : Result T E) → P → OnErr r P
on_err (Ok x) p = tt
on_err (Err e) p = p

-- The messages of a segment that were listed, and what is left of the store after they and the messages in the slots
-- before them.
module _ (old : Shelf) (slot count next : ℕ) (first : Place) (bytes ends : List ℕ) (kept : IsKept old)
    (at : Some first ≡ place_at old.ring slot) (begins : first.start ≤ 0)
    (live : count ≡ live_at old.segments first.segment) (is : bytes ≡ bytes_at old.segments first.segment)
    (found : IsListed old.ring slot first.segment count bytes ends) where
  listed : IsListed old.ring slot first.segment count (bytes_at old.segments first.segment) ends
  listed = subst (λ (t : List ℕ). IsListed old.ring slot first.segment count t ends) is found

  extent : IsExtent old slot first count (length (bytes_at old.segments first.segment))
  extent = extent_listed old slot count first ends kept (sym at) (omega (arith, begins)) live listed

  fits : slot + count ≤ length (slots_on old)
  fits = whole_fits old slot count _ next first extent

  ring_fits : slot + count ≤ length old.ring
  ring_fits = omega (arith, fits, length-map old.ring (option_map (message_on old.segments)))

  moved : (now ring : List (Option Place)) → now ≡ drop slot old.ring ++ replicate slot None →
      ring ≡ drop count now ++ replicate count None →
      ring ≡ drop (slot + count) old.ring ++ replicate (slot + count) None
  moved now ring once twice = twice ∙ left_twice old.ring now slot count once ring_fits

  module _ (middle : Segments) (left : AreLost old.segments middle (take slot old.ring)) where
    same : bytes_at middle first.segment ≡ bytes_at old.segments first.segment
    same = run_bytes old slot count _ next first extent middle kept live left

    counted : live_at middle first.segment ≡ count
    counted = run_live old slot count _ next first extent middle kept live left

    middle_ends : ends ≡ ends_from (bytes_at middle first.segment) 0 (live_at middle first.segment)
    middle_ends =
        listed.ends
        ∙ ap (λ (t : List ℕ). ends_from t 0 count) (sym same)
        ∙ ap (ends_from (bytes_at middle first.segment) 0) (sym counted)

    middle_blocks : end_from (bytes_at middle first.segment) 0 (live_at middle first.segment)
        ≡ length (bytes_at middle first.segment)
    middle_blocks =
        ap (end_from (bytes_at middle first.segment) 0) counted
        ∙ ap (λ (t : List ℕ). end_from t 0 count) same
        ∙ listed.whole
        ∙ ap (λ (t : List ℕ). length t) (sym same)

    middle_messages : messages_from (bytes_at middle first.segment) 0 (live_at middle first.segment)
        ≡ messages_from (bytes_at old.segments first.segment) 0 count
    middle_messages =
        ap (messages_from (bytes_at middle first.segment) 0) counted
        ∙ ap (λ (t : List ℕ). messages_from t 0 count) same

    middle_some : 0 < length (bytes_at middle first.segment)
    middle_some =
        omega (arith, ap (λ (t : List ℕ). length t) same, kept.within slot first (sym at))

    lost : (new : Segments) → HasLost middle new first.segment (live_at middle first.segment) →
        AreLost old.segments new (take (slot + count) old.ring)
    lost new gone = run_lost old slot count _ next first extent middle kept live left new gone

pub list_ends-requires-clause-blocks : goal.list_ends-requires-clause-blocks
list_ends-requires-clause-blocks c = λ i place at same.
    subst (λ (t : List ℕ). IsBlockAt t place.start)
    (ap (bytes_at c.args.self.now.segments) same ∙ sym c.stored-count.ensures.bytes)
    (c.requires.kept.within i place at)

pub list_ends-requires-clause-few : goal.list_ends-requires-clause-few
list_ends-requires-clause-few c =
    let old = c.args.self.now in
    omega (
      arith,
      place_there old.ring c.args.slot c.in-Some.first (sym c.in-Some.ensures),
      c.requires.kept.slots.few,
      length-map old.ring (option_map (message_on old.segments)),
    )

pub returns-in_err-whole-clause-needed : goal.returns-in_err-whole-clause-needed
returns-in_err-whole-clause-needed c =
    let old = c.args.self.now in
    on_err c.from_residual.result
    (run_there (slots_on old) c.args.slot _
    (slot_in old.segments old.ring c.args.slot ∙ ap (option_map (message_on old.segments)) (sym c.in-Some.ensures)))

pub release-earlier-requires-clause-within : goal.release-earlier-requires-clause-within
release-earlier-requires-clause-within c =
    omega (arith, place_there c.args.self.now.ring c.args.slot c.in-Some.first (sym c.in-Some.ensures))

pub drop_first-requires : goal.drop_first-requires
drop_first-requires c =
    let old = c.args.self.now in
    let all = ring_fits old c.args.slot c.stored-count.result.0 c.args.next c.in-Some.first c.stored-count.result.1.now
    c.list_ends.new.ends.items c.requires.kept c.in-Some.ensures c.if-first-gt0.false c.stored-count.ensures.count
    c.stored-count.ensures.bytes (c.in_ok-whole.ensures c.if-not-whole.false) in
    omega (
      arith,
      all,
      ap (λ (t : List (Option Place)). length t) c.release-earlier.ensures.moved,
      length-append (drop c.args.slot old.ring) (replicate c.args.slot None),
      length-drop c.args.slot old.ring,
      length-replicate {A = Option Place} c.args.slot None,
    )

pub overflow_add-self : goal.overflow_add-self
overflow_add-self c =
    let old = c.args.self.now in
    let run = extent old c.args.slot c.stored-count.result.0 c.args.next c.in-Some.first c.stored-count.result.1.now
    c.list_ends.new.ends.items c.requires.kept c.in-Some.ensures c.if-first-gt0.false c.stored-count.ensures.count
    c.stored-count.ensures.bytes (c.in_ok-whole.ensures c.if-not-whole.false) in
    let more = run_held old c.args.slot c.stored-count.result.0 _ c.args.next c.in-Some.first run in
    omega (
      arith,
      c.release-earlier.ensures.count,
      more,
      held_short old.segments old.ring (c.args.slot + c.stored-count.result.0),
      whole_fits old c.args.slot c.stored-count.result.0 _ c.args.next c.in-Some.first run,
      c.requires.kept.slots.few,
    )

pub overflow_sub-self : goal.overflow_sub-self
overflow_sub-self c =
    let old = c.args.self.now in
    let run = extent old c.args.slot c.stored-count.result.0 c.args.next c.in-Some.first c.stored-count.result.1.now
    c.list_ends.new.ends.items c.requires.kept c.in-Some.ensures c.if-first-gt0.false c.stored-count.ensures.count
    c.stored-count.ensures.bytes (c.in_ok-whole.ensures c.if-not-whole.false) in
    let more = run_held old c.args.slot c.stored-count.result.0 _ c.args.next c.in-Some.first run in
    omega (
      arith,
      c.release-earlier.ensures.count,
      more,
      c.requires.kept.slots.counted,
      held_first old.segments old.ring (c.args.slot + c.stored-count.result.0),
    )

pub overflow_add-number : goal.overflow_add-number
overflow_add-number c =
    let old = c.args.self.now in
    let run = extent old c.args.slot c.stored-count.result.0 c.args.next c.in-Some.first c.stored-count.result.1.now
    c.list_ends.new.ends.items c.requires.kept c.in-Some.ensures c.if-first-gt0.false c.stored-count.ensures.count
    c.stored-count.ensures.bytes (c.in_ok-whole.ensures c.if-not-whole.false) in
    omega (
      arith,
      whole_numbered old c.args.slot c.stored-count.result.0 _ c.args.next c.in-Some.first run c.requires.numbered,
    )

pub deliver-requires-clause-some : goal.deliver-requires-clause-some
deliver-requires-clause-some c =
    let old = c.args.self.now in
    middle_some old c.args.slot c.stored-count.result.0 c.args.next c.in-Some.first c.stored-count.result.1.now
    c.list_ends.new.ends.items c.requires.kept c.in-Some.ensures c.if-first-gt0.false c.stored-count.ensures.count
    c.stored-count.ensures.bytes (c.in_ok-whole.ensures c.if-not-whole.false) c.release-earlier.new.segments
    c.release-earlier.ensures.lost

pub deliver-requires-clause-ends : goal.deliver-requires-clause-ends
deliver-requires-clause-ends c =
    let old = c.args.self.now in
    middle_ends old c.args.slot c.stored-count.result.0 c.args.next c.in-Some.first c.stored-count.result.1.now
    c.list_ends.new.ends.items c.requires.kept c.in-Some.ensures c.if-first-gt0.false c.stored-count.ensures.count
    c.stored-count.ensures.bytes (c.in_ok-whole.ensures c.if-not-whole.false) c.release-earlier.new.segments
    c.release-earlier.ensures.lost

pub deliver-requires-clause-blocks : goal.deliver-requires-clause-blocks
deliver-requires-clause-blocks c =
    let old = c.args.self.now in
    middle_blocks old c.args.slot c.stored-count.result.0 c.args.next c.in-Some.first c.stored-count.result.1.now
    c.list_ends.new.ends.items c.requires.kept c.in-Some.ensures c.if-first-gt0.false c.stored-count.ensures.count
    c.stored-count.ensures.bytes (c.in_ok-whole.ensures c.if-not-whole.false) c.release-earlier.new.segments
    c.release-earlier.ensures.lost

pub deliver-requires-clause-counted : goal.deliver-requires-clause-counted
deliver-requires-clause-counted c =
    let old = c.args.self.now in
    let run = extent old c.args.slot c.stored-count.result.0 c.args.next c.in-Some.first c.stored-count.result.1.now
    c.list_ends.new.ends.items c.requires.kept c.in-Some.ensures c.if-first-gt0.false c.stored-count.ensures.count
    c.stored-count.ensures.bytes (c.in_ok-whole.ensures c.if-not-whole.false) in
    omega (
      arith,
      whole_numbered old c.args.slot c.stored-count.result.0 _ c.args.next c.in-Some.first run c.requires.numbered,
      counted old c.args.slot c.stored-count.result.0 c.args.next c.in-Some.first c.stored-count.result.1.now
          c.list_ends.new.ends.items c.requires.kept c.in-Some.ensures c.if-first-gt0.false c.stored-count.ensures.count
          c.stored-count.ensures.bytes (c.in_ok-whole.ensures c.if-not-whole.false) c.release-earlier.new.segments
          c.release-earlier.ensures.lost,
    )

pub skip-requires : goal.skip-requires
skip-requires c =
    let old = c.args.self.now in
    let all = fits old c.args.slot c.stored-count.result.0 c.args.next c.in-Some.first c.stored-count.result.1.now
    c.list_ends.new.ends.items c.requires.kept c.in-Some.ensures c.if-first-gt0.false c.stored-count.ensures.count
    c.stored-count.ensures.bytes (c.in_ok-whole.ensures c.if-not-whole.false) in
    omega (
      arith,
      all,
      ap (λ (t : List Bool). length t) c.requires.kept.slots.flagged,
      length-map (slots_on old) (λ slot. is_some slot),
    )

pub returns-clause-kept : goal.returns-clause-kept
returns-clause-kept c =
    let old = c.args.self.now in
    let run = extent old c.args.slot c.stored-count.result.0 c.args.next c.in-Some.first c.stored-count.result.1.now
    c.list_ends.new.ends.items c.requires.kept c.in-Some.ensures c.if-first-gt0.false c.stored-count.ensures.count
    c.stored-count.ensures.bytes (c.in_ok-whole.ensures c.if-not-whole.false) in
    let count = c.stored-count.result.0 in
    let end = c.args.slot + count in
    let all = fits old c.args.slot c.stored-count.result.0 c.args.next c.in-Some.first c.stored-count.result.1.now
    c.list_ends.new.ends.items c.requires.kept c.in-Some.ensures c.if-first-gt0.false c.stored-count.ensures.count
    c.stored-count.ensures.bytes (c.in_ok-whole.ensures c.if-not-whole.false) in
    let gone = lost old c.args.slot c.stored-count.result.0 c.args.next c.in-Some.first c.stored-count.result.1.now
    c.list_ends.new.ends.items c.requires.kept c.in-Some.ensures c.if-first-gt0.false c.stored-count.ensures.count
    c.stored-count.ensures.bytes (c.in_ok-whole.ensures c.if-not-whole.false) c.release-earlier.new.segments
    c.release-earlier.ensures.lost
    c.deliver.new.self c.deliver.ensures.lost in
    let ring = moved old c.args.slot c.stored-count.result.0 c.args.next c.in-Some.first c.stored-count.result.1.now
    c.list_ends.new.ends.items c.requires.kept c.in-Some.ensures c.if-first-gt0.false c.stored-count.ensures.count
    c.stored-count.ensures.bytes (c.in_ok-whole.ensures c.if-not-whole.false) c.release-earlier.new.ring
    c.drop_first.new.self c.release-earlier.ensures.moved c.drop_first.ensures in
    kept_skipped old c.drop_first.new.self c.deliver.new.self end c.requires.kept all ring c.deliver.ensures.whole gone _
    c.skip.new.self
    (omega (arith, c.release-earlier.ensures.count, run_held old c.args.slot count _ c.args.next c.in-Some.first run))
    c.skip.ensures

pub returns-clause-tight : goal.returns-clause-tight
returns-clause-tight c =
    let old = c.args.self.now in
    let run = extent old c.args.slot c.stored-count.result.0 c.args.next c.in-Some.first c.stored-count.result.1.now
    c.list_ends.new.ends.items c.requires.kept c.in-Some.ensures c.if-first-gt0.false c.stored-count.ensures.count
    c.stored-count.ensures.bytes (c.in_ok-whole.ensures c.if-not-whole.false) in
    let count = c.stored-count.result.0 in
    let end = c.args.slot + count in
    let all = fits old c.args.slot c.stored-count.result.0 c.args.next c.in-Some.first c.stored-count.result.1.now
    c.list_ends.new.ends.items c.requires.kept c.in-Some.ensures c.if-first-gt0.false c.stored-count.ensures.count
    c.stored-count.ensures.bytes (c.in_ok-whole.ensures c.if-not-whole.false) in
    let gone = lost old c.args.slot c.stored-count.result.0 c.args.next c.in-Some.first c.stored-count.result.1.now
    c.list_ends.new.ends.items c.requires.kept c.in-Some.ensures c.if-first-gt0.false c.stored-count.ensures.count
    c.stored-count.ensures.bytes (c.in_ok-whole.ensures c.if-not-whole.false) c.release-earlier.new.segments
    c.release-earlier.ensures.lost
    c.deliver.new.self c.deliver.ensures.lost in
    let ring = moved old c.args.slot c.stored-count.result.0 c.args.next c.in-Some.first c.stored-count.result.1.now
    c.list_ends.new.ends.items c.requires.kept c.in-Some.ensures c.if-first-gt0.false c.stored-count.ensures.count
    c.stored-count.ensures.bytes (c.in_ok-whole.ensures c.if-not-whole.false) c.release-earlier.new.ring
    c.drop_first.new.self c.release-earlier.ensures.moved c.drop_first.ensures in
    tight_skipped old end c.requires.kept c.requires.tight (no_some (place_at old.ring end) (sym c.if-has.ensures)) _ all
    ring c.deliver.ensures.whole gone

pub returns-clause-delivered : goal.returns-clause-delivered
returns-clause-delivered c =
    let old = c.args.self.now in
    let run = extent old c.args.slot c.stored-count.result.0 c.args.next c.in-Some.first c.stored-count.result.1.now
    c.list_ends.new.ends.items c.requires.kept c.in-Some.ensures c.if-first-gt0.false c.stored-count.ensures.count
    c.stored-count.ensures.bytes (c.in_ok-whole.ensures c.if-not-whole.false) in
    let count = c.stored-count.result.0 in
    let end = c.args.slot + count in
    let all = fits old c.args.slot c.stored-count.result.0 c.args.next c.in-Some.first c.stored-count.result.1.now
    c.list_ends.new.ends.items c.requires.kept c.in-Some.ensures c.if-first-gt0.false c.stored-count.ensures.count
    c.stored-count.ensures.bytes (c.in_ok-whole.ensures c.if-not-whole.false) in
    let gone = lost old c.args.slot c.stored-count.result.0 c.args.next c.in-Some.first c.stored-count.result.1.now
    c.list_ends.new.ends.items c.requires.kept c.in-Some.ensures c.if-first-gt0.false c.stored-count.ensures.count
    c.stored-count.ensures.bytes (c.in_ok-whole.ensures c.if-not-whole.false) c.release-earlier.new.segments
    c.release-earlier.ensures.lost
    c.deliver.new.self c.deliver.ensures.lost in
    let ring = moved old c.args.slot c.stored-count.result.0 c.args.next c.in-Some.first c.stored-count.result.1.now
    c.list_ends.new.ends.items c.requires.kept c.in-Some.ensures c.if-first-gt0.false c.stored-count.ensures.count
    c.stored-count.ensures.bytes (c.in_ok-whole.ensures c.if-not-whole.false) c.release-earlier.new.ring
    c.drop_first.new.self c.release-earlier.ensures.moved c.drop_first.ensures in
    let none : slot_at (slots_on old) end ≡ None =
    slot_in old.segments old.ring end
    ∙ ap (option_map (message_on old.segments)) (no_some (place_at old.ring end) (sym c.if-has.ensures)) in
    let messages = middle_messages old c.args.slot c.stored-count.result.0 c.args.next c.in-Some.first c.stored-count.result.1.now
    c.list_ends.new.ends.items c.requires.kept c.in-Some.ensures c.if-first-gt0.false c.stored-count.ensures.count
    c.stored-count.ensures.bytes (c.in_ok-whole.ensures c.if-not-whole.false) c.release-earlier.new.segments
    c.release-earlier.ensures.lost in
    has_delivered old c.args.slot count _ c.args.next c.in-Some.first run _ c.args.batch.now c.deliver.new.batch none
    (omega (arith, c.if-first-gt0.false)) c.requires.numbered c.requires.kept.slots.few
    (c.deliver.ensures.added
    ∙ ap (followed_by c.exchange_ends.new.self (c.args.next + c.args.slot)) messages
    ∙ ap (λ (b : Handed). followed_by b (c.args.next + c.args.slot)
    (messages_from (bytes_at old.segments c.in-Some.first.segment) 0 count)) c.exchange_ends.ensures)
    (skipped old c.drop_first.new.self c.deliver.new.self end c.requires.kept all ring c.deliver.ensures.whole gone)
