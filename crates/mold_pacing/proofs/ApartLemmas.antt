-- Requests in flight are apart.
use Rattle.std.proofs.Common.{◌≡◌, ℕ, zero, suc, ◌+◌, ◌<◌, ◌≤◌, ◌&&◌, Bool, true, false, List, [], ◌∷◌, Option, None, Some}
use Rattle.std.proofs.Common.{arith, refl, ap, ◌∙◌, cond, inl, inr, map, nat_le, nat_lt, slice_get, sym}
use Rattle.std.proofs.lemmas.Bool.{cases_lt}
use Rattle.std.proofs.lemmas.Bool.Decides.{nat_tests}
use Rattle.std.specs.List.{list_all, remove}
use Rattle.mold_pacing.proofs.EndLemmas.{true_is_false}
use Rattle.mold_pacing.proofs.TableLemmas.{ascending_low, covers_within, none_any}
use Rattle.mold_pacing.specs.Flight.{NoneInFlight, are_apart, covers, is_ascending}
use Rattle.mold_pacing.specs.Table.{placed, without}
use Rattle.mold_pacing.specs.declared.flight.Flight.{Flight}

flying_is : (now low : ℕ) (f : Flight) (fs : List Flight) → now < f.until →
    are_apart now low (f ∷ fs) ≡ (nat_lt f.first f.end && (nat_le low f.first && are_apart now f.end fs))
flying_is now low f fs flies =
    let test : nat_lt now f.until ≡ true = grind (arith, nat_tests, flies) in
    ap (λ (b : Bool). nat_lt f.first f.end && cond b (nat_le low f.first && are_apart now f.end fs) (are_apart now low fs)) test

over_is : (now low : ℕ) (f : Flight) (fs : List Flight) → f.until ≤ now →
    are_apart now low (f ∷ fs) ≡ (nat_lt f.first f.end && are_apart now low fs)
over_is now low f fs over =
    let test : nat_lt now f.until ≡ false = grind (arith, nat_tests, over) in
    ap (λ (b : Bool). nat_lt f.first f.end && cond b (nat_le low f.first && are_apart now f.end fs) (are_apart now low fs)) test

record IsFlying (now low : ℕ) (f : Flight) (fs : List Flight) : Type 0 where
  some : f.first < f.end
  from : low ≤ f.first
  rest : are_apart now f.end fs ≡ true

record IsPast (now low : ℕ) (f : Flight) (fs : List Flight) : Type 0 where
  some : f.first < f.end
  rest : are_apart now low fs ≡ true

flying : (now low : ℕ) (f : Flight) (fs : List Flight) → now < f.until → are_apart now low (f ∷ fs) ≡ true →
    IsFlying now low f fs
flying now low f fs flies apart =
    let is : (nat_lt f.first f.end && (nat_le low f.first && are_apart now f.end fs)) ≡ true = sym (flying_is now low f fs flies) ∙ apart in
    record {
      some = (let some : f.first < f.end = grind (arith, nat_tests, is) in some);
      from = (let from : low ≤ f.first = grind (arith, nat_tests, is) in from);
      rest = (let rest : are_apart now f.end fs ≡ true = grind (arith, is) in rest);
    }

past : (now low : ℕ) (f : Flight) (fs : List Flight) → f.until ≤ now → are_apart now low (f ∷ fs) ≡ true →
    IsPast now low f fs
past now low f fs over apart =
    let is : (nat_lt f.first f.end && are_apart now low fs) ≡ true = sym (over_is now low f fs over) ∙ apart in
    record {
      some = (let some : f.first < f.end = grind (arith, nat_tests, is) in some);
      rest = (let rest : are_apart now low fs ≡ true = grind (arith, is) in rest);
    }

flies_on : (now low : ℕ) (f : Flight) (fs : List Flight) → now < f.until → f.first < f.end → low ≤ f.first →
    are_apart now f.end fs ≡ true → are_apart now low (f ∷ fs) ≡ true
flies_on now low f fs flies some from rest =
    let is : (nat_lt f.first f.end && (nat_le low f.first && are_apart now f.end fs)) ≡ true = grind (arith, nat_tests, some, from, rest) in
    flying_is now low f fs flies ∙ is

over_on : (now low : ℕ) (f : Flight) (fs : List Flight) → f.until ≤ now → f.first < f.end →
    are_apart now low fs ≡ true → are_apart now low (f ∷ fs) ≡ true
over_on now low f fs over some rest =
    let is : (nat_lt f.first f.end && are_apart now low fs) ≡ true = grind (arith, nat_tests, some, rest) in
    over_is now low f fs over ∙ is

-- Each request asks for a number.
pub apart_some : (now low : ℕ) (fs : List Flight) (i : ℕ) (f : Flight) → are_apart now low fs ≡ true →
    slice_get fs i ≡ Some f → f.first < f.end
apart_some now low [] i f apart there = cc
apart_some now low (g ∷ gs) zero f apart there =
    let is : g ≡ f = grind (arith, there) in
    elim (cases_lt now g.until) [
      | inl flies ↦ omega (arith, (flying now low g gs flies apart).some, ap (λ (h : Flight). h.first) is, ap (λ (h : Flight). h.end) is)
      | inr over ↦ omega (arith, (past now low g gs over apart).some, ap (λ (h : Flight). h.first) is, ap (λ (h : Flight). h.end) is)
    ]
apart_some now low (g ∷ gs) (suc i) f apart there =
    elim (cases_lt now g.until) [
      | inl flies ↦ apart_some now g.end gs i f (flying now low g gs flies apart).rest there
      | inr over ↦ apart_some now low gs i f (past now low g gs over apart).rest there
    ]

apart_low : (now low : ℕ) (fs : List Flight) (i : ℕ) (f : Flight) → are_apart now low fs ≡ true →
    slice_get fs i ≡ Some f → now < f.until → low ≤ f.first
apart_low now low [] i f apart there later = cc
apart_low now low (g ∷ gs) zero f apart there later =
    let is : g ≡ f = grind (arith, there) in
    let flies : now < g.until = omega (arith, later, ap (λ (h : Flight). h.until) is) in
    omega (arith, (flying now low g gs flies apart).from, ap (λ (h : Flight). h.first) is)
apart_low now low (g ∷ gs) (suc i) f apart there later =
    elim (cases_lt now g.until) [
      | inl flies ↦
          let is = flying now low g gs flies apart in
          omega (arith, is.some, is.from, apart_low now g.end gs i f is.rest there later)
      | inr over ↦ apart_low now low gs i f (past now low g gs over apart).rest there later
    ]

-- Of two requests in flight, the later one begins at or above the end of the other one.
pub apart_at : (now low : ℕ) (fs : List Flight) (i j : ℕ) (f g : Flight) → are_apart now low fs ≡ true → i < j →
    slice_get fs i ≡ Some f → slice_get fs j ≡ Some g → now < f.until → now < g.until → f.end ≤ g.first
apart_at now low [] i j f g apart order there other later last = cc
apart_at now low (h ∷ hs) i zero f g apart order there other later last = absurd (omega (arith, order))
apart_at now low (h ∷ hs) zero (suc j) f g apart order there other later last =
    let is : h ≡ f = grind (arith, there) in
    let flies : now < h.until = omega (arith, later, ap (λ (k : Flight). k.until) is) in
    omega (arith, apart_low now h.end hs j g (flying now low h hs flies apart).rest other last, ap (λ (k : Flight). k.end) is)
apart_at now low (h ∷ hs) (suc i) (suc j) f g apart order there other later last =
    elim (cases_lt now h.until) [
      | inl flies ↦ apart_at now h.end hs i j f g (flying now low h hs flies apart).rest (omega (arith, order)) there other later last
      | inr over ↦ apart_at now low hs i j f g (past now low h hs over apart).rest (omega (arith, order)) there other later last
    ]

pub apart_lower : (now low less : ℕ) (fs : List Flight) → less ≤ low → are_apart now low fs ≡ true →
    are_apart now less fs ≡ true
apart_lower now low less [] lower apart = refl
apart_lower now low less (f ∷ fs) lower apart =
    elim (cases_lt now f.until) [
      | inl flies ↦
          let is = flying now low f fs flies apart in
          flies_on now less f fs flies is.some (omega (arith, lower, is.from)) is.rest
      | inr over ↦
          let is = past now low f fs over apart in
          over_on now less f fs over is.some (apart_lower now low less fs lower is.rest)
    ]

-- A change that leaves the numbers, and sends nothing again.
pub apart_map : (now later low : ℕ) (change : Flight → Flight) (fs : List Flight) →
    ((f : Flight) → (change f).first ≡ f.first) → ((f : Flight) → (change f).end ≡ f.end) →
    ((f : Flight) → later < (change f).until → now < f.until) → are_apart now low fs ≡ true →
    are_apart later low (map change fs) ≡ true
apart_map now later low change [] firsts ends still apart = refl
apart_map now later low change (f ∷ fs) firsts ends still apart =
    elim (cases_lt later (change f).until) [
      | inl flies ↦
          let is = flying now low f fs (still f flies) apart in
          let rest = apart_map now later f.end change fs firsts ends still is.rest in
          flies_on later low (change f) (map change fs) flies (omega (arith, firsts f, ends f, is.some)) (omega (arith, firsts f, is.from))
          (ap (λ (n : ℕ). are_apart later n (map change fs)) (ends f) ∙ rest)
      | inr over ↦
          elim (cases_lt now f.until) [
            | inl flew ↦
                let is = flying now low f fs flew apart in
                let rest = apart_map now later f.end change fs firsts ends still is.rest in
                over_on later low (change f) (map change fs) over (omega (arith, firsts f, ends f, is.some))
                (apart_lower later f.end low (map change fs) (omega (arith, is.from, is.some)) rest)
            | inr before ↦
                let is = past now low f fs before apart in
                over_on later low (change f) (map change fs) over (omega (arith, firsts f, ends f, is.some))
                (apart_map now later low change fs firsts ends still is.rest)
          ]
    ]

map_same : (fs : List Flight) → map (λ f. f) fs ≡ fs
map_same [] = refl
map_same (f ∷ fs) = ap (λ (t : List Flight). f ∷ t) (map_same fs)

pub apart_later : (now later : ℕ) (fs : List Flight) → now ≤ later → are_apart now 0 fs ≡ true →
    are_apart later 0 fs ≡ true
apart_later now later fs order apart =
    ap (are_apart later 0) (sym (map_same fs))
    ∙ apart_map now later 0 (λ f. f) fs (λ f. refl) (λ f. refl) (λ f flies. omega (arith, order, flies)) apart

apart_removed : (now low : ℕ) (fs : List Flight) (index : ℕ) → are_apart now low fs ≡ true →
    are_apart now low (remove fs index) ≡ true
apart_removed now low [] zero apart = refl
apart_removed now low [] (suc index) apart = refl
apart_removed now low (f ∷ fs) zero apart =
    elim (cases_lt now f.until) [
      | inl flies ↦
          let is = flying now low f fs flies apart in
          apart_lower now f.end low fs (omega (arith, is.some, is.from)) is.rest
      | inr over ↦ (past now low f fs over apart).rest
    ]
apart_removed now low (f ∷ fs) (suc index) apart =
    elim (cases_lt now f.until) [
      | inl flies ↦
          let is = flying now low f fs flies apart in
          flies_on now low f (remove fs index) flies is.some is.from (apart_removed now f.end fs index is.rest)
      | inr over ↦
          let is = past now low f fs over apart in
          over_on now low f (remove fs index) over is.some (apart_removed now low fs index is.rest)
    ]

-- No request of the list is in flight for a number from `first` to `end - 1`.
abbrev AreOff : List Flight → ℕ → ℕ → ℕ → Type 0
AreOff fs now first end = (i n : ℕ) (f : Flight) → slice_get fs i ≡ Some f → first ≤ n → n < end →
    covers now n f ≡ false

not_over : (now number : ℕ) (f : Flight) → covers now number f ≡ false → now < f.until → f.first ≤ number →
    number < f.end → ⊥
not_over now number f off flies low high = true_is_false (sym (covers_within now number f flies low high) ∙ off)

-- Requests that begin at or above a range of free numbers, and are in flight, begin at or above its end.
apart_above : (now low first end : ℕ) (fs : List Flight) → is_ascending first fs ≡ true → AreOff fs now first end →
    are_apart now low fs ≡ true → are_apart now end fs ≡ true
apart_above now low first end [] sorted off apart = refl
apart_above now low first end (f ∷ fs) sorted off apart =
    let at : first ≤ f.first = ascending_low first (f ∷ fs) 0 f sorted refl in
    let tail : is_ascending f.first fs ≡ true = grind (arith, sorted) in
    elim (cases_lt now f.until) [
      | inl flies ↦
          let is = flying now low f fs flies apart in
          let from : end ≤ f.first = elim (cases_lt f.first end) [
            | inl within ↦ absurd (not_over now f.first f (off 0 f.first f refl at within) flies (omega arith) is.some)
            | inr above ↦ above
          ] in
          flies_on now end f fs flies is.some from is.rest
      | inr over ↦
          let is = past now low f fs over apart in
          over_on now end f fs over is.some (apart_above now low f.first end fs tail
          (λ i n g there from before. off (suc i) n g there (omega (arith, at, from)) before) is.rest)
    ]

apart_placed : (now low : ℕ) (sent : Flight) (fs : List Flight) (from : ℕ) → is_ascending from fs ≡ true →
    AreOff fs now sent.first sent.end → sent.first < sent.end → now < sent.until → low ≤ sent.first →
    are_apart now low fs ≡ true → are_apart now low (placed sent fs) ≡ true
apart_placed now low sent [] from sorted off some flies above apart = flies_on now low sent [] flies some above refl
apart_placed now low sent (f ∷ fs) from sorted off some flies above apart =
    let tail : is_ascending f.first fs ≡ true = grind (arith, sorted) in
    elim (cases_lt f.first sent.first) [
      | inl below ↦
          let test : nat_le sent.first f.first ≡ false = grind (arith, nat_tests, below) in
          ap (λ (b : Bool). are_apart now low (cond b (sent ∷ f ∷ fs) (f ∷ placed sent fs))) test
          ∙ elim (cases_lt now f.until) [
            | inl flew ↦
                let is = flying now low f fs flew apart in
                let ended : f.end ≤ sent.first = elim (cases_lt sent.first f.end) [
                  | inl within ↦ absurd (not_over now sent.first f (off 0 sent.first f refl (omega arith) some) flew (omega (arith, below)) within)
                  | inr done ↦ done
                ] in
                flies_on now low f (placed sent fs) flew is.some is.from
                (apart_placed now f.end sent fs f.first tail (λ i n g there. off (suc i) n g there) some flies ended is.rest)
            | inr over ↦
                let is = past now low f fs over apart in
                over_on now low f (placed sent fs) over is.some
                (apart_placed now low sent fs f.first tail (λ i n g there. off (suc i) n g there) some flies above is.rest)
          ]
      | inr after ↦
          let test : nat_le sent.first f.first ≡ true = grind (arith, nat_tests, after) in
          let order : is_ascending sent.first (f ∷ fs) ≡ true = grind (arith, nat_tests, after, tail) in
          ap (λ (b : Bool). are_apart now low (cond b (sent ∷ f ∷ fs) (f ∷ placed sent fs))) test
          ∙ flies_on now low sent (f ∷ fs) flies some above (apart_above now low sent.first sent.end (f ∷ fs) order off apart)
    ]

removed_off : (fs : List Flight) (now first end index : ℕ) → AreOff fs now first end →
    AreOff (remove fs index) now first end
removed_off [] now first end zero off i n f there = off i n f there
removed_off [] now first end (suc index) off i n f there = off i n f there
removed_off (g ∷ gs) now first end zero off i n f there = off (suc i) n f there
removed_off (g ∷ gs) now first end (suc index) off zero n f there = off zero n f there
removed_off (g ∷ gs) now first end (suc index) off (suc i) n f there =
    removed_off gs now first end index (λ j m h other. off (suc j) m h other) i n f there

without_off : (leaves : Option ℕ) (fs : List Flight) (now first end : ℕ) → AreOff fs now first end →
    AreOff (without leaves fs) now first end
without_off None fs now first end off = off
without_off (Some index) fs now first end off = removed_off fs now first end index off

apart_without : (now low : ℕ) (leaves : Option ℕ) (fs : List Flight) → are_apart now low fs ≡ true →
    are_apart now low (without leaves fs) ≡ true
apart_without now low None fs apart = apart
apart_without now low (Some index) fs apart = apart_removed now low fs index apart

-- The table after a request was sent for numbers that were free.
pub sent_apart : (now : ℕ) (sent : Flight) (leaves : Option ℕ) (fs : List Flight) →
    is_ascending 0 (without leaves fs) ≡ true → NoneInFlight fs now sent.first sent.end → sent.first < sent.end →
    now < sent.until → are_apart now 0 fs ≡ true → are_apart now 0 (placed sent (without leaves fs)) ≡ true
sent_apart now sent leaves fs sorted free some flies apart =
    apart_placed now 0 sent (without leaves fs) 0 sorted
    (without_off leaves fs now sent.first sent.end
    (λ i n f there low high. none_any (covers now n) fs i f (free n low high) there)) some flies (omega arith)
    (apart_without now 0 leaves fs apart)
