-- The number of missing messages: those below `known` that the store lacks.
use Rattle.std.proofs.Common.{◌≡◌, ℕ, zero, suc, ◌+◌, ◌-◌, ◌<◌, ◌≤◌, Bool, true, false, cond, eqb}
use Rattle.std.proofs.Common.{refl, sym, ap, subst, ◌∙◌, inl, inr, arith, nat_cmp}
use Rattle.std.specs.Prelude.{Option, None, Some, is_none, is_some}
use Rattle.std.specs.Cmp.{unsigned_tied, nat_cmp_total}
use Rattle.std.specs.FinMap as finite
use Rattle.std.proofs.lemmas.Bool.{cases_eq, cond-true, cond-false, eq-eqb, ne_eqb}
use Rattle.mold_rule.specs.Ranges.{lacking}
use Rattle.mold_receiver.specs.Store.{Message, Store}
use Rattle.mold_receiver.specs.View.{View, IsWellFormed}
use Rattle.mold_receiver.specs.Wanted.{lacks, missing}
use Rattle.mold_receiver.proofs.RuleLemmas.{none_unless}
use Rattle.mold_receiver.proofs.StoreLemmas.{none_some, same_store}

-- The laws of `mold_rule` on counting missing numbers.
pub record CountsLacking : Type 0 where
  pub parts : (f : ℕ → Bool) (low count more : ℕ) →
      lacking f low (count + more) ≡ lacking f low count + lacking f (low + count) more
  pub all : (f : ℕ → Bool) (low count : ℕ) →
      ((q : ℕ) → low ≤ q → q < low + count → f q ≡ true) → lacking f low count ≡ count
  pub none : (f : ℕ → Bool) (low count : ℕ) →
      ((q : ℕ) → low ≤ q → q < low + count → f q ≡ false) → lacking f low count ≡ 0
  pub same : (f g : ℕ → Bool) (low count : ℕ) →
      ((q : ℕ) → low ≤ q → q < low + count → f q ≡ g q) → lacking f low count ≡ lacking g low count

-- Each stored message has one of the `count` numbers from `low` on.
abbrev Lies : Store → ℕ → ℕ → Type 0
Lies s low count = (q : ℕ) (m : Message) → finite.get s q ≡ Some m → (low ≤ q) × (q < low + count)

get_without : (s : Store) (number q : ℕ) →
    finite.get (finite.remove s number) q ≡ cond (eqb q number) None (finite.get s q)
get_without s number q =
    finite.get-remove nat_cmp_total s number q
    ∙ ap (λ (b : Bool). cond b None (finite.get s q)) (unsigned_tied q number)

get_other : (s : Store) (number q : ℕ) → (q ≡ number → ⊥) → finite.get (finite.remove s number) q ≡ finite.get s q
get_other s number q other = get_without s number q
    ∙ cond-false (eqb q number) None (finite.get s q) (ne_eqb q number other)

some_stored : (s : Store) (number : ℕ) (m : Message) → finite.get s number ≡ Some m → 0 < finite.len s
some_stored s number m is =
    elim (cases_eq (finite.len s) 0) [
      | inr some ↦ omega (arith, some)
      | inl none ↦
          absurd (none_some
          (sym (ap (λ (t : Store). finite.get t number) (finite.empty_of_len s none) ∙ finite.get-empty nat_cmp number)
          ∙ is))
    ]

len_without : (s : Store) (number : ℕ) (m : Message) → finite.get s number ≡ Some m →
    finite.len s ≡ finite.len (finite.remove s number) + 1
len_without s number m is =
    let less : finite.len (finite.remove s number) ≡ finite.len s - 1 =
    finite.len-remove nat_cmp_total s number ∙ cond-true _ _ _ (ap is_some is) in
    omega (arith, less, some_stored s number m is)

lies_without : (s : Store) (low count : ℕ) → Lies s low (suc count) → Lies (finite.remove s low) (suc low) count
lies_without s low count lies q m is =
    elim (cases_eq q low) [
      | inl same ↦ absurd
          (none_some (sym (get_without s low q ∙ cond-true (eqb q low) None (finite.get s q) (eq-eqb q low same)) ∙ is))
      | inr other ↦
          let within = lies q m (sym (get_other s low q other) ∙ is) in
          (omega (arith, within.0, other), omega (arith, within.1))
    ]

none_stored : (s : Store) (low : ℕ) → Lies s low 0 → finite.len s ≡ 0
none_stored s low lies =
    ap (λ (t : Store). finite.len t) (same_store s finite.empty (λ q.
    none_unless (finite.get s q) (λ m is. let within = lies q m is in omega (arith, within.0, within.1))
    ∙ sym (finite.get-empty nat_cmp q)))
    ∙ finite.len-empty nat_cmp Message

lacking_one : CountsLacking → (f : ℕ → Bool) (low count : ℕ) →
    lacking f low (suc count) ≡ lacking f low 1 + lacking f (suc low) count
lacking_one counts f low count =
    let one : suc count ≡ 1 + count = omega arith in
    let next : low + 1 ≡ suc low = omega arith in
    ap (lacking f low) one ∙ counts.parts f low 1 count ∙ ap (λ (n : ℕ). lacking f low 1 + lacking f n count) next

at_low : (f : ℕ → Bool) (b : Bool) (low : ℕ) → f low ≡ b → (q : ℕ) → low ≤ q → q < low + 1 → f q ≡ b
at_low f b low here q from below = ap f (let e : q ≡ low = omega (arith, from, below) in e) ∙ here

-- The missing and the stored numbers together are all numbers.
pub lacking_stored : CountsLacking → (count low : ℕ) (s : Store) → Lies s low count →
    lacking (lacks s) low count + finite.len s ≡ count
lacking_stored counts zero low s lies =
    omega (
      arith,
      counts.none (lacks s) low 0 (λ q from below. absurd (omega (arith, from, below))),
      none_stored s low lies,
    )
lacking_stored counts (suc count) low s lies =
    elim (finite.get s low) as (λ o. finite.get s low ≡ o →
    lacking (lacks s) low (suc count) + finite.len s ≡ suc count) [
      | None ↦ λ e.
          let here = counts.all (lacks s) low 1 (at_low (lacks s) true low (ap is_none e)) in
          let rest = lacking_stored counts count (suc low) s (λ q m is.
          let within = lies q m is in
          elim (cases_eq q low) [
            | inl same ↦ absurd (none_some (sym (subst (λ (k : ℕ). finite.get s k ≡ None) (sym same) e) ∙ is))
            | inr other ↦ (omega (arith, within.0, other), omega (arith, within.1))
          ]) in
          omega (arith, lacking_one counts (lacks s) low count, here, rest)
      | Some m ↦ λ e.
          let t = finite.remove s low in
          let here = counts.none (lacks s) low 1 (at_low (lacks s) false low (ap is_none e)) in
          let rest = lacking_stored counts count (suc low) t (lies_without s low count lies) in
          let same = counts.same (lacks s) (lacks t) (suc low) count (λ q from below.
          sym (ap (λ (o : Option Message). is_none o) (get_other s low q (λ same. omega (arith, same, from))))) in
          omega (arith, lacking_one counts (lacks s) low count, here, rest, same, len_without s low m e)
    ] refl

pub missing_is : CountsLacking → (v : View) → IsWellFormed v →
    missing v ≡ lacking (lacks v.store) v.next (v.known - v.next)
missing_is counts v well =
    let all = lacking_stored counts (v.known - v.next) v.next v.store (λ q m is.
    let lies = well.stored q m is in
    (omega (arith, lies.0), omega (arith, lies.2, well.ahead))) in
    omega (arith, all)
