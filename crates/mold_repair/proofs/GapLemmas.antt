-- The gaps that may be requested.
use Rattle.std.proofs.Common.{◌≡◌, ℕ, ◌+◌, ◌<◌, ◌≤◌, true, false, List, [], ◌∷◌, Option, None, Some}
use Rattle.std.proofs.Common.{IfNone, IfSome, MatchOption, slice_get, zero, suc, refl, subst, sym, ap, ◌∙◌, arith, min, inl, inr}
use Rattle.std.specs.Prelude.{is_some}
use Rattle.std.specs.FinMap as finite
use Rattle.std.proofs.lemmas.Bool.{cases_lt}
use Rattle.std.proofs.lemmas.Bool.Decides.{nat_tests}
use Rattle.mold_pacing.specs.Asks.{are_gaps}
use Rattle.mold_pacing.specs.Deadline.{can_send}
use Rattle.mold_pacing.specs.Flight.{covers, in_flight}
use Rattle.mold_pacing.specs.Polls.{HasAsked, IsIdle}
use Rattle.mold_pacing.specs.declared.ask.Ask.{Ask as Sent}
use Rattle.mold_pacing.specs.declared.flight.Flight.{Flight}
use Rattle.mold_pacing.specs.declared.gap.Gap.{Gap}
use Rattle.mold_pacing.specs.declared.pacer.Pacer.{Pacer}
use Rattle.mold_receiver.specs.View.{View}
use Rattle.mold_repair.specs.Gaps.{IsLimit}
use Rattle.mold_repair.specs.GivingUp.{is_due}
use Rattle.mold_repair.specs.Missing.{IsWanted}
use Rattle.mold_repair.specs.Polls.{AreGapsOf, HasRequested, IsFree, IsStill}

pub true_is_false : true ≡ false → ⊥
true_is_false same = cc

one_gap : (g h : Gap) (i : ℕ) → slice_get (g ∷ []) i ≡ Some h → h ≡ g
one_gap g h zero there = (let same : h ≡ g = grind (arith, there) in same)
one_gap g h (suc i) there = absurd (let none : ⊥ = cc in none)

pub one_in_order : (g : Gap) → g.first < g.end → are_gaps 0 (g ∷ []) ≡ true
one_in_order g some = grind (arith, nat_tests, some)

-- The gap is a list of gaps that may be requested.
pub gaps_of : (v : View) (p : Pacer) (g : Gap) → IsFree v p g → AreGapsOf v p (g ∷ [])
gaps_of v p g is = record {
  order = one_in_order g is.some;
  wanted = λ i h there number low high.
      let same = one_gap g h i there in
      is.wanted number (omega (arith, ap (λ (k : Gap). k.first) same, low))
      (omega (arith, ap (λ (k : Gap). k.end) same, high));
  whole = λ i h there wants.
      is.whole (subst (IsWanted v p.state.ripe) (ap (λ (k : Gap). k.end) (one_gap g h i there)) wants);
}

-- A request for numbers of the gap begins with its first number.
pub asks_at : (v : View) (old new : Pacer) (g : Gap) (sent : Sent) → IsFree v old g → HasAsked old new (g ∷ []) sent →
    sent.first ≡ g.first
asks_at v old new g sent is asked =
    let free = asked.least in
    let same = ap (λ (k : Gap). k.first) (one_gap g free.gap free.index free.there) in
    elim (cases_lt g.first sent.first) [
      | inl later ↦
          absurd (true_is_false (sym (free.least g.first (omega (arith, same)) later) ∙ is.free))
      | inr not_later ↦ omega (arith, not_later, same, free.low)
    ]

-- What the pacer did, in terms of missing numbers.
pub sent_is : (give_up : ℕ) (v : View) (old new : Pacer) (g : Gap) (r : Option Sent) → IsFree v old g
    → is_due give_up v old old.state.now ≡ false → can_send old ≡ true → IfSome r (HasAsked old new (g ∷ []))
    → IfNone r (IsIdle old new (g ∷ [])) → MatchOption r (IsStill give_up v old new) (HasRequested give_up v old new)
sent_is give_up v old new g None is kept can asked idle =
    elim idle.reason [
      | inl shut ↦
          absurd (true_is_false (sym can ∙ (let off : can_send old ≡ false = grind (arith, nat_tests, shut) in off)))
      | inr other ↦ elim other [
        | inl all ↦
            let ripe = (is.wanted g.first (omega arith) is.some).ripe in
            let busy = all 0 g refl g.first (omega arith) (omega (arith, is.some, ripe)) in
            absurd (true_is_false (sym busy ∙ is.free))
        | inr full ↦
            absurd (true_is_false (sym can ∙ (let off : can_send old ≡ false = grind (arith, nat_tests, full) in off)))
      ]
    ]
sent_is give_up v old new g (Some sent) is kept can asked idle = record {
  kept = kept;
  gaps = g ∷ [];
  are = gaps_of v old g is;
  asked = asked;
  least = λ number before wants. is.least number (omega (arith, asks_at v old new g sent is asked, before)) wants;
}

-- A stored number is not requested.
pub not_wanted : (v : View) (ripe number : ℕ) → IsWanted v ripe number →
    is_some (finite.get v.store number) ≡ true → ⊥
not_wanted v ripe number wants some = true_is_false (sym some ∙ ap is_some wants.missing.lacked)

pub limit_is : (v : View) (next window past known ripe below limit : ℕ) → next ≡ v.next → window ≡ v.window
    → known ≡ v.known → known < 18446744073709551616 → past ≡ min (next + window) 18446744073709551615
    → below ≡ min past known → limit ≡ min below ripe → IsLimit v ripe limit
limit_is v next window past known ripe below limit n w k fits is_past is_below is = record {
  known = omega (arith, k, is_below, is);
  window = omega (arith, n, w, is_past, is_below, is);
  ripens = omega (arith, is);
  all = λ number wants. omega (arith, n, w, k, fits, is_past, is_below, is, wants.missing.below, wants.window, wants.ripe);
}

free_both : (now time number : ℕ) (f : Flight) → now ≤ time → covers now number f ≡ false →
    covers time number f ≡ false
free_both now time number f later free = grind (arith, nat_tests, later, free)

pub free_stays : (fs : List Flight) (now time number : ℕ) → now ≤ time → in_flight now number fs ≡ false →
    in_flight time number fs ≡ false
free_stays [] now time number later free = refl
free_stays (f ∷ fs) now time number later free =
    let here : covers now number f ≡ false = grind (arith, free) in
    let rest : in_flight now number fs ≡ false = grind (arith, free) in
    grind (arith, free_both now time number f later here, free_stays fs now time number later rest)
