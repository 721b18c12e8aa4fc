-- The arrival of a datagram that a line brought before.
use Rattle.std.proofs.Common.{◌≡◌, ◌∙◌, ℕ, zero, suc, ◌+◌, ◌-◌, ◌%◌, true, false, cond, List, [], ◌∷◌, Some, arith, ap, refl, set, slice_get}
use Rattle.std.proofs.Common.{◌*◌, ◌&&◌, Bool, nat_eq, not, subst, sym}
use Rattle.std.proofs.lemmas.Bool.Decides.{nat_tests}
use Rattle.mold_pacing.specs.Delays.{delay_of, is_same, is_second, kept, line_of, mark_of, of_both, slot_of, time_of}
use Rattle.mold_pacing.specs.Lines.{IsTaken}
use Rattle.mold_pacing.specs.declared.arrival.Arrival.{Arrival}
use Rattle.mold_pacing.specs.declared.delay.Delay.{Delay}
use Rattle.mold_pacing.specs.declared.delays.Delays.{Delays}
use Rattle.mold_pacing.specs.declared.delays.TheConstants.{DELAYS}
use Rattle.mold_pacing.specs.declared.mark.Mark.{Mark}
use Rattle.mold_pacing.specs.declared.mark.TheConstants.{BOTH, LINES}

set_there : (xs : List Mark) (i : ℕ) (x : Mark) → slice_get xs i ≡ Some x → set xs i x ≡ xs
set_there [] i x there = refl
set_there (y ∷ ys) zero x there =
    let is : y ≡ x = grind (arith, there) in
    ap (λ (m : Mark). m ∷ ys) (sym is)
set_there (y ∷ ys) (suc i) x there = ap (λ (ms : List Mark). y ∷ ms) (set_there ys i x there)

kept_same : (before : Mark) (a : Arrival) → is_same before a ≡ true → is_second before a ≡ false →
    kept before a ≡ before
kept_same before a same second =
    λ i. cond {A = Mark} (second i) (of_both before) (cond {A = Mark} (same i) before (mark_of a))

kept_both : (before : Mark) (a : Arrival) → is_second before a ≡ true → kept before a ≡ of_both before
kept_both before a second =
    λ i. cond {A = Mark} (second i) (of_both before) (cond {A = Mark} (is_same before a) before (mark_of a))

-- The mark of a datagram that both lines brought stays.
both_stays : (before : Mark) → line_of before ≡ BOTH → of_both before ≡ before
both_stays before is =
    let same : time_of before * LINES + BOTH ≡ before.stamp = omega (arith, is) in
    λ i. record before { stamp = same i }

none_same : (s e b : Bool) → e ≡ true → (s && (not e && not b)) ≡ false
none_same true true b is = refl
none_same false true b is = refl
none_same s false b is = absurd (let none : ⊥ = cc in none)

none_both : (s e b : Bool) → b ≡ true → (s && (not e && not b)) ≡ false
none_both true true true is = refl
none_both true false true is = refl
none_both false e true is = refl
none_both s e false is = absurd (let none : ⊥ = cc in none)

all_hold : (s e b : Bool) → s ≡ true → e ≡ false → b ≡ false → (s && (not e && not b)) ≡ true
all_hold s e b same other once = λ i. same i && (not (other i) && not (once i))

pub same_line : (before : Mark) (a : Arrival) → line_of before ≡ a.line → is_second before a ≡ false
same_line before a is =
    none_same (is_same before a) (nat_eq (line_of before) a.line) (nat_eq (line_of before) BOTH)
    (grind (arith, nat_tests, is))

pub both_lines : (before : Mark) (a : Arrival) → line_of before ≡ BOTH → is_second before a ≡ false
both_lines before a is =
    none_both (is_same before a) (nat_eq (line_of before) a.line) (nat_eq (line_of before) BOTH)
    (grind (arith, nat_tests, is))

pub other_line : (before : Mark) (a : Arrival) → is_same before a ≡ true → (line_of before ≡ a.line → ⊥) →
    (line_of before ≡ BOTH → ⊥) → is_second before a ≡ true
other_line before a same other once =
    all_hold (is_same before a) (nat_eq (line_of before) a.line) (nat_eq (line_of before) BOTH) same
    (grind (arith, nat_tests, other)) (grind (arith, nat_tests, once))

taken_by : (old new : Delays) (a : Arrival) (before : Mark) (second : Bool) → is_second before a ≡ second →
    slice_get old.arrivals.items (slot_of a.first) ≡ Some before →
    new.arrivals.items ≡ set old.arrivals.items (slot_of a.first) (kept before a) →
    new.recent.items ≡ cond second (set old.recent.items old.next (delay_of (a.time - time_of before) a.line))
    old.recent.items → new.next ≡ cond second ((old.next + 1) % DELAYS) old.next → IsTaken old new a
taken_by old new a before second is there arrivals recent next = record {
  before = before;
  there = there;
  arrivals = arrivals;
  recent =
      recent ∙ (λ i. cond {A = List Delay} (sym is i)
      (set old.recent.items old.next (delay_of (a.time - time_of before) a.line)) old.recent.items);
  index = next ∙ (λ i. cond {A = ℕ} (sym is i) ((old.next + 1) % DELAYS) old.next);
}

-- The same line brought the datagram again: nothing changes.
pub taken_again : (old : Delays) (a : Arrival) (slot : ℕ) (before : Mark) → slot ≡ slot_of a.first →
    slice_get old.arrivals.items slot ≡ Some before → is_same before a ≡ true → line_of before ≡ a.line →
    IsTaken old old a
taken_again old a slot before is there same line =
    let at = subst (λ n. slice_get old.arrivals.items n ≡ Some before) is there in
    taken_by old old a before false (same_line before a line) at
    (sym (ap (set old.arrivals.items (slot_of a.first)) (kept_same before a same (same_line before a line))
    ∙ set_there old.arrivals.items (slot_of a.first) before at)) refl refl

-- Both lines brought the datagram before: the same mark is written again.
pub taken_more : (old new : Delays) (a : Arrival) (slot : ℕ) (before : Mark) → slot ≡ slot_of a.first →
    slice_get old.arrivals.items slot ≡ Some before → is_same before a ≡ true → line_of before ≡ BOTH →
    new.arrivals.items ≡ set old.arrivals.items slot (of_both before) → new.recent.items ≡ old.recent.items →
    new.next ≡ old.next → IsTaken old new a
taken_more old new a slot before is there same line arrivals recent next =
    taken_by old new a before false (both_lines before a line)
    (subst (λ n. slice_get old.arrivals.items n ≡ Some before) is there)
    (arrivals ∙ (λ i. set old.arrivals.items (is i)
    ((both_stays before line ∙ sym (kept_same before a same (both_lines before a line))) i))) recent next

-- The other line brings the datagram: the time between is the newest delay.
pub taken_second : (old new : Delays) (a : Arrival) (slot : ℕ) (before : Mark) → slot ≡ slot_of a.first →
    slice_get old.arrivals.items slot ≡ Some before → is_same before a ≡ true → (line_of before ≡ a.line → ⊥) →
    (line_of before ≡ BOTH → ⊥) → new.arrivals.items ≡ set old.arrivals.items slot (of_both before) →
    new.recent.items ≡ set old.recent.items old.next (delay_of (a.time - time_of before) a.line) →
    new.next ≡ (old.next + 1) % DELAYS → IsTaken old new a
taken_second old new a slot before is there same other once arrivals recent next =
    let second = other_line before a same other once in
    taken_by old new a before true second (subst (λ n. slice_get old.arrivals.items n ≡ Some before) is there)
    (arrivals ∙ (λ i. set old.arrivals.items (is i) (sym (kept_both before a second) i))) recent next
