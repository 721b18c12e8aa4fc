-- The requests that can still be sent at one time are finitely many: each takes a place of the table.
use Rattle.std.proofs.Common.{◌≡◌, ℕ, zero, suc, ◌+◌, ◌-◌, ◌<◌, ◌≤◌, Bool, true, false, List, [], ◌∷◌, ◌++◌, Option, Some, None}
use Rattle.std.proofs.Common.{arith, nat_le, refl, ap, ◌∙◌, sym, subst, slice_get, length, cond, min, is_some, MatchOption}
use Rattle.std.proofs.lemmas.Bool.Decides.{nat_tests}
use Rattle.std.specs.List.{remove}
use Rattle.mold_pacing.specs.Flight.{is_over}
use Rattle.mold_pacing.specs.Most.{is_partial, learned}
use Rattle.mold_pacing.specs.Polls.{HasAsked, last_request}
use Rattle.mold_pacing.specs.Repeat.{flight_for, pause_for}
use Rattle.mold_pacing.specs.Table.{CanLeave, placed, without}
use Rattle.mold_pacing.specs.declared.ask.Ask.{Ask as Sent}
use Rattle.mold_pacing.specs.declared.flight.Flight.{Flight}
use Rattle.mold_pacing.specs.declared.gap.Gap.{Gap}
use Rattle.mold_pacing.specs.declared.options.PacerOptions.{PacerOptions}
use Rattle.mold_pacing.specs.declared.pacer.Pacer.{Pacer}
use Rattle.mold_pacing.specs.declared.state.PacerState.{PacerState}
use Rattle.mold_receiver.specs.View.{View}
use Rattle.mold_repair.specs.Polls.{HasRequested, HasSentAll, HaveRequested, IsStill}
use Rattle.mold_repair.proofs.GapLemmas.{true_is_false}

-- How many requests are over.
abbrev pub count_over : ℕ → List Flight → ℕ
count_over now [] = 0
count_over now (f ∷ fs) = cond (is_over now f) (suc (count_over now fs)) (count_over now fs)

-- How many places are spare, or have a request that is over.
abbrev pub spare : ℕ → ℕ → List Flight → ℕ
spare places now fs = (places - length fs) + count_over now fs

placed_length : (sent : Flight) (fs : List Flight) → length (placed sent fs) ≡ length fs + 1
placed_length sent [] = refl
placed_length sent (f ∷ fs) =
    elim (nat_le sent.first f.first) as
    (λ b. length (cond b (sent ∷ f ∷ fs) (f ∷ placed sent fs)) ≡ length (f ∷ fs) + 1) [
      | true ↦ omega arith
      | false ↦ omega (arith, placed_length sent fs)
    ]

more_over : (now : ℕ) (f : Flight) (fs gs : List Flight) → count_over now fs ≡ count_over now gs →
    count_over now (f ∷ fs) ≡ count_over now (f ∷ gs)
more_over now f fs gs same = ap (λ n. cond (is_over now f) (suc n) n) same

placed_over : (now : ℕ) (sent : Flight) (fs : List Flight) → is_over now sent ≡ false →
    count_over now (placed sent fs) ≡ count_over now fs
placed_over now sent [] flies = ap (λ b. cond b 1 0) flies
placed_over now sent (f ∷ fs) flies =
    elim (nat_le sent.first f.first) as
    (λ b. count_over now (cond b (sent ∷ f ∷ fs) (f ∷ placed sent fs)) ≡ count_over now (f ∷ fs)) [
      | true ↦ ap (λ b. cond b (suc (count_over now (f ∷ fs))) (count_over now (f ∷ fs))) flies
      | false ↦ more_over now f (placed sent fs) fs (placed_over now sent fs flies)
    ]

removed_length : (fs : List Flight) (index : ℕ) (f : Flight) → slice_get fs index ≡ Some f →
    length (remove fs index) + 1 ≡ length fs
removed_length [] index f there = absurd (let none : ⊥ = cc in none)
removed_length (g ∷ gs) zero f there = omega arith
removed_length (g ∷ gs) (suc index) f there = omega (arith, removed_length gs index f there)

removed_over : (now : ℕ) (fs : List Flight) (index : ℕ) (f : Flight) → slice_get fs index ≡ Some f →
    is_over now f ≡ true → count_over now (remove fs index) + 1 ≡ count_over now fs
removed_over now [] index f there over = absurd (let none : ⊥ = cc in none)
removed_over now (g ∷ gs) zero f there over =
    let same : g ≡ f = grind (arith, there) in
    let on : is_over now g ≡ true = ap (is_over now) same ∙ over in
    (let one : count_over now gs + 1 ≡ suc (count_over now gs) = omega arith in one)
    ∙ sym (ap (λ b. cond b (suc (count_over now gs)) (count_over now gs)) on)
removed_over now (g ∷ gs) (suc index) f there over =
    let more = removed_over now gs index f there over in
    elim (is_over now g) as (λ b. cond b (suc (count_over now (remove gs index))) (count_over now (remove gs index)) + 1
    ≡ cond b (suc (count_over now gs)) (count_over now gs)) [
      | true ↦ omega (arith, more)
      | false ↦ more
    ]

-- The request that leaves makes room for one.
spare_without : (places now : ℕ) (sent : Flight) (fs : List Flight) (leaves : Option ℕ) → length fs ≤ places
    → is_over now sent ≡ false → CanLeave fs places now leaves
    → spare places now (placed sent (without leaves fs)) < spare places now fs
spare_without places now sent fs None few flies can =
    omega (arith, can, placed_length sent fs, placed_over now sent fs flies)
spare_without places now sent fs (Some index) few flies can =
    let over : is_over now can.flight ≡ true = grind (arith, nat_tests, can.over) in
    omega (
      arith,
      few,
      placed_length sent (remove fs index),
      placed_over now sent (remove fs index) flies,
      removed_length fs index can.flight can.there,
      removed_over now fs index can.flight can.there over,
    )

waits_some : (o : PacerOptions) (before : Option Flight) → 0 < pause_for o before
waits_some o None = o.waits.0
waits_some o (Some f) = omega (arith, o.waits.0)

now_of : (b : Bool) (s t : PacerState) (n : ℕ) → s.now ≡ n → t.now ≡ n → (cond b s t).now ≡ n
now_of true s t n left right = left
now_of false s t n left right = right

learned_now : (o : PacerOptions) (before : Option Flight) (s : PacerState) → (learned o before s).now ≡ s.now
learned_now o None s = refl
learned_now o (Some f) s =
    now_of (is_partial f) (record s { most = min (f.reached - f.first) o.most; full = 0 }) s s.now refl refl

asked_now : (old new : Pacer) (gaps : List Gap) (sent : Sent) → HasAsked old new gaps sent →
    new.state.now ≡ old.state.now
asked_now old new gaps sent did =
    ap (λ (s : PacerState). s.now) did.state
    ∙ learned_now old.options (last_request old sent.first) old.state

-- How many more requests the pacer can send now.
abbrev pub room_of : Pacer → ℕ
room_of p = spare p.options.places p.state.now p.flights.items

pub asked_room : (old new : Pacer) (gaps : List Gap) (sent : Sent) → HasAsked old new gaps sent → room_of new < room_of old
asked_room old new gaps sent did =
    let now = old.state.now in
    let before = last_request old sent.first in
    let flight = flight_for old.options now before sent in
    let flies : is_over now flight ≡ false = grind (arith, nat_tests, waits_some old.options before) in
    let less = spare_without old.options.places now flight old.flights.items did.leaves
    (omega (arith, old.few, old.flights.ok.0)) flies did.place.can in
    let same : room_of new ≡ spare old.options.places now (placed flight (without did.leaves old.flights.items)) =
    λ i. spare (did.options i).places (asked_now old new gaps sent did i) (did.flights i) in
    omega (arith, less, same)

-- One more request.
pub have_more : (give_up : ℕ) (v : View) (old mid new : Pacer) (all : List Sent) (sent : Sent)
    → HaveRequested give_up v old mid all → HasRequested give_up v mid new sent
    → HaveRequested give_up v old new (all ++ sent ∷ [])
have_more give_up v old mid new [] sent have did =
    (new, subst (λ (p : Pacer). HasRequested give_up v p new sent) have did, refl)
have_more give_up v old mid new (first ∷ all) sent have did =
    (have.0, have.1, have_more give_up v have.0 mid new all sent have.2 did)

sent_some : (P : Type 0) (Q : Sent → Type 0) (r : Option Sent) → is_some r ≡ true → MatchOption r P Q →
    (sent : Sent) × Q sent
sent_some P Q None some did = absurd (true_is_false (sym some))
sent_some P Q (Some sent) some did = (sent, did)

sent_none : (P : Type 0) (Q : Sent → Type 0) (r : Option Sent) → is_some r ≡ false → MatchOption r P Q → P
sent_none P Q None none did = did
sent_none P Q (Some sent) none did = absurd (true_is_false none)

-- What a turn did, by the options and the view before the loop.
pub turned : (give_up now_up : ℕ) (v w : View) (mid new : Pacer) (r : Option Sent) → now_up ≡ give_up → w ≡ v
    → MatchOption r (IsStill now_up w mid new) (HasRequested now_up w mid new)
    → MatchOption r (IsStill give_up v mid new) (HasRequested give_up v mid new)
turned give_up now_up v w mid new r same view did =
    subst (λ (u : View). MatchOption r (IsStill give_up u mid new) (HasRequested give_up u mid new)) view
    (subst (λ (n : ℕ). MatchOption r (IsStill n w mid new) (HasRequested n w mid new)) same did)

pub turn_smaller : (give_up : ℕ) (v : View) (mid new : Pacer) (r : Option Sent) → is_some r ≡ true
    → MatchOption r (IsStill give_up v mid new) (HasRequested give_up v mid new) → room_of new < room_of mid
turn_smaller give_up v mid new r some did =
    let one = sent_some (IsStill give_up v mid new) (HasRequested give_up v mid new) r some did in
    asked_room mid new one.1.gaps one.0 one.1.asked

pub turn_sent : (give_up : ℕ) (v : View) (old mid new : Pacer) (all : List Sent) (r : Option Sent) → is_some r ≡ true
    → HaveRequested give_up v old mid all
    → MatchOption r (IsStill give_up v mid new) (HasRequested give_up v mid new)
    → (more : List Sent) × HaveRequested give_up v old new more
turn_sent give_up v old mid new all r some have did =
    let one = sent_some (IsStill give_up v mid new) (HasRequested give_up v mid new) r some did in
    (all ++ one.0 ∷ [], have_more give_up v old mid new all one.0 have one.1)

pub turn_last : (give_up : ℕ) (v : View) (old mid new : Pacer) (all : List Sent) (r : Option Sent) → is_some r ≡ false
    → HaveRequested give_up v old mid all
    → MatchOption r (IsStill give_up v mid new) (HasRequested give_up v mid new) → HasSentAll give_up v old new
turn_last give_up v old mid new all r none have did = record {
  sent = all;
  after = mid;
  requested = have;
  still = sent_none (IsStill give_up v mid new) (HasRequested give_up v mid new) r none did;
}
