-- The view after missing messages were given up.
use Rattle.std.proofs.Common.{◌≡◌, ℕ, ◌+◌, ◌-◌, ◌<◌, ◌≤◌, ◌&&◌, true, min, cond, ltb, ◌++◌, drop, replicate, List, [], length}
use Rattle.std.proofs.Common.{length-append, length-drop, max, refl, sym, ap, subst, ◌∙◌, inl, inr, arith}
use Rattle.std.specs.Prelude.{Option, None, Some, is_some}
use Rattle.std.specs.FinMap as finite
use Rattle.std.proofs.lemmas.Bool.{cases_Bool, cases_lt, cases_order, true≢false, and_parts, cond-true, cond-false, le-ltb, lt-ltb, ltb-true}
use Rattle.std.proofs.lemmas.List.{length-replicate}
use Rattle.mold_wire.specs.declared.session.Session.{Session}
use Rattle.mold_receiver.specs.Handing.{run_in}
use Rattle.mold_receiver.specs.Skip.{moved_to, skipped, skipped_run}
use Rattle.mold_receiver.specs.Slots.{IsFirstEmpty, IsNextHeld, Slot, slot_at, store_of}
use Rattle.mold_receiver.specs.Store.{Message, Store, cut, stored_bytes}
use Rattle.mold_receiver.specs.View.{View, IsWellFormed, view_over}
use Rattle.mold_receiver.specs.Wanted.{HasNoGap, IsFirstAbsent, IsNextGap}
use Rattle.mold_receiver.proofs.BatchLemmas.{run_more}
use Rattle.mold_receiver.proofs.NextLemmas.{moved_looks, run_of_slots}
use Rattle.mold_receiver.proofs.LawLemmas.{cut_had}
use Rattle.mold_receiver.proofs.RoomLemmas.{cut_from, same_from, stored_more, within_less}
use Rattle.mold_receiver.proofs.RuleLemmas.{cut_is}
use Rattle.mold_receiver.proofs.StoreLemmas.{get-cut, none_some, run_is, run_short}
use Rattle.mold_receiver.proofs.ViewLemmas.{between_of, get_from}

-- A view stays well formed with a greater `next`.
pub moved_well : (v : View) (next : ℕ) → IsWellFormed v → v.next ≤ next → next ≤ v.known → IsWellFormed (moved_to v next)
moved_well v next well low high = record {
  first = omega (arith, well.first, low);
  ahead = high;
  last = well.last;
  stored = λ q m is.
      let limit = ltb next q && ltb q (next + v.window) in
      elim (cases_Bool limit) [
        | inr out ↦ absurd
            (none_some (sym (get-cut v.store next v.window q ∙ cond-false limit (finite.get v.store q) None out) ∙ is))
        | inl inside ↦
            let parts = and_parts (ltb next q) (ltb q (next + v.window)) inside in
            let lies = well.stored q m
            (sym (get-cut v.store next v.window q ∙ cond-true limit (finite.get v.store q) None inside) ∙ is) in
            (ltb-true next q parts.0, ltb-true q (next + v.window) parts.1, lies.2)
      ];
  ends = well.ends;
  bounded = within_less v.room (stored_bytes v.store) (stored_bytes (cut v.store next v.window))
      (omega (
        arith,
        stored_more v.store (cut v.store next v.window) 0 [] v.known (λ q m is. (well.stored q m is).2) (λ q m is.
            (well.stored q m (cut_had v.store next v.window q m is).0).2)
            (cut_from v.store v.store next v.window 0 [] (same_from v.store)),
      )) well.bounded;
}

-- The store after the slots moved to `new`, where nothing is stored.
cut_moved : (v : View) (new : ℕ) (t : Store) → IsWellFormed v → v.next ≤ new → finite.get v.store new ≡ None →
    ((q : ℕ) → finite.get t q ≡ cond (ltb q new) None (finite.get v.store q)) → cut v.store new v.window ≡ t
cut_moved v new t well ahead stops looks =
    cut_is v.store t new v.window
    (λ q m is.
    elim (cases_order q new) [
      | inl same ↦ absurd
          (none_some (sym (looks q ∙ cond-false (ltb q new) None (finite.get v.store q) (le-ltb q new (omega arith))
          ∙ subst (λ (k : ℕ). finite.get v.store k ≡ None) (sym same) stops) ∙ is))
      | inr (inl below) ↦
          absurd (none_some
          (sym (looks q ∙ cond-true (ltb q new) None (finite.get v.store q) (lt-ltb q new below)) ∙ is))
      | inr (inr above) ↦
          let lies = between_of v well q m
          (sym (looks q ∙ cond-false (ltb q new) None (finite.get v.store q) (le-ltb q new (omega arith))) ∙ is) in
          (above, omega (arith, lies.1))
    ])
    (λ q low high.
    sym (looks q ∙ cond-false (ltb q new) None (finite.get v.store q) (le-ltb q new (omega arith))))

-- Messages are given up over slots, of which `count` are dropped.
module _ (room : Option ℕ) (session : Session) (next known : ℕ) (ended : Option ℕ) (slots : List Slot) (to : ℕ)
    (well : IsWellFormed (view_over room session next known ended slots)) (ahead : next ≤ to) (within : to ≤ known) where
  pub skipped_run_is : skipped_run (view_over room session next known ended slots) to ≡ run_in slots (to - next)
  skipped_run_is =
      let run = run_of_slots room session next known ended slots to well ahead in
      run_is (finite.get (store_of next slots)) to (known - to) (run_in slots (to - next)) run.each run.stops
      (omega (arith, run.within))

  pub skipped_low : to + length (run_in slots (to - next)) ≤ known
  skipped_low = let run = run_of_slots room session next known ended slots to well ahead in omega (arith, run.within)

  pub skipped_few : length (run_in slots (to - next)) ≤ length slots
  skipped_few = omega (arith, run_short (slot_at slots) (to - next) (length slots - (to - next)))

  module _ (new count : ℕ) (is : new ≡ to + length (run_in slots (to - next)))
      (counted : count ≡ min (new - next) (length slots)) where
    pub skipped_view :
        view_over room session new known ended (drop count slots ++ replicate count None) ≡ skipped
        (view_over room session next known ended slots) to
    skipped_view =
        let v = view_over room session next known ended slots in
        let moved = drop count slots ++ replicate count None in
        let run = run_of_slots room session next known ended slots to well ahead in
        let here : to + length (skipped_run v to) ≡ new =
        ap (λ (t : List Message). to + length t) skipped_run_is ∙ sym is in
        let stored : cut v.store new v.window ≡ store_of new moved =
        cut_moved v new (store_of new moved) well (omega (arith, is))
        (subst (λ (q : ℕ). finite.get v.store q ≡ None) (sym is) run.stops)
        (moved_looks next new slots count (omega (arith, is)) counted) in
        let size : length slots ≡ length moved =
        omega (
          arith,
          counted,
          length-append (drop count slots) (replicate {A = Slot} count None),
          length-drop count slots,
          length-replicate {A = Slot} count None,
        ) in
        sym (ap (moved_to v) here
        ∙ (λ i. record {
          session = session;
          next = new;
          known = known;
          ended = ended;
          store = stored i;
          window = size i;
          room = room;
        }))

none_some_held : (o : Option Message) → o ≡ None → is_some o ≡ true → ⊥
none_some_held None none some = true≢false (sym some)
none_some_held (Some m) none some = none_some (sym none)

-- The gaps, from the slots.
module _ (room : Option ℕ) (session : Session) (next known : ℕ) (ended : Option ℕ) (slots : List Slot) where
  pub held_from : (from first : ℕ) → next ≤ from → IsFirstEmpty slots (from - next) first → (number : ℕ) →
      from ≤ number → number < next + first → is_some (finite.get (store_of next slots) number) ≡ true
  held_from from first low is number least below =
      ap is_some (get_from next slots number (omega (arith, low, least)))
      ∙ is.held (number - next) (omega (arith, least)) (omega (arith, below))

  known_of : (i : ℕ) (o : Option Message) → IsWellFormed (view_over room session next known ended slots) →
      slot_at slots i ≡ o → is_some o ≡ true → next + i < known
  known_of i None well is some = absurd (true≢false (sym some))
  known_of i (Some m) well is some =
      (well.stored (next + i) m
      (get_from next slots (next + i) (omega arith)
      ∙ ap (slot_at slots) (let e : next + i - next ≡ i = omega arith in e)
      ∙ is)).2

  pub no_gap : (from first : ℕ) → next ≤ from → IsFirstEmpty slots (from - next) first → known - next ≤ first →
      HasNoGap (view_over room session next known ended slots) from
  no_gap from first low is past number least below = held_from from first low is number least (omega (arith, past, below))

  pub first_absent_is : (from first : ℕ) → next ≤ from → IsFirstEmpty slots (from - next) first →
      IsFirstAbsent (view_over room session next known ended slots) from (next + first)
  first_absent_is from first low is = record {
    after = omega (arith, is.after, low);
    held = λ number least below. held_from from first low is number least below;
    lacked = get_from next slots (next + first) (omega arith)
        ∙ ap (slot_at slots) (let e : next + first - next ≡ first = omega arith in e)
        ∙ is.empty;
  }

  -- It is at most `known`, or it is `from`.
  pub absent_low : (from first : ℕ) → IsWellFormed (view_over room session next known ended slots) → next ≤ from
      → IsFirstEmpty slots (from - next) first → next + first ≤ max from known
  absent_low from first well low is =
      elim (cases_lt (from - next) first) [
        | inl more ↦
            let held = is.held (first - 1) (omega (arith, more)) (omega (arith, more)) in
            omega (arith, known_of (first - 1) (slot_at slots (first - 1)) well refl held, more, low)
        | inr none ↦ omega (arith, none, low)
      ]

  pub next_gap : (from first after : ℕ) → next ≤ known → next ≤ from → IsFirstEmpty slots (from - next) first →
      first < known - next → IsNextHeld slots first (known - next) after →
      IsNextGap (view_over room session next known ended slots) from (record { first = next + first; end = next + after })
  next_gap from first after ahead low is inside held =
      let look : (i : ℕ) → finite.get (store_of next slots) (next + i) ≡ slot_at slots i =
      λ i. get_from next slots (next + i) (omega arith)
      ∙ ap (slot_at slots) (let e : next + i - next ≡ i = omega arith in e) in
      record {
        after = omega (arith, is.after, low);
        some = elim (cases_lt first after) [
          | inl below ↦ omega (arith, below)
          | inr past ↦
              let same : after ≡ first = omega (arith, past, held.after) in
              absurd (elim held.stops [
                | inl end ↦ omega (arith, end, same, inside)
                | inr some ↦ none_some_held (slot_at slots first) is.empty
                    (ap (λ (n : ℕ). is_some (slot_at slots n)) (sym same) ∙ some)
              ])
        ];
        within = omega (arith, held.within, ahead);
        held = λ number least below. held_from from first low is number least below;
        lacked = λ number least below.
            get_from next slots number (omega (arith, least))
            ∙ held.none (number - next) (omega (arith, least)) (omega (arith, below));
        stops = elim held.stops [
          | inl end ↦ inl (omega (arith, end, ahead))
          | inr some ↦ inr (ap is_some (look after) ∙ some)
        ];
      }

-- A slot with a message begins a run.
pub run_held : (slots : List Slot) (at : ℕ) (m : Message) → slot_at slots at ≡ Some m → 0 < length (run_in slots at)
run_held slots at m is =
    subst (λ (t : List Message). 0 < length t) (sym (run_more slots at m is)) (omega arith)
