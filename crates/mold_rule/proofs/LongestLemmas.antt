-- The ranges are the longest ones.
use Rattle.std.proofs.Common.{◌≡◌, ℕ, zero, suc, ◌+◌, ◌-◌, ◌<◌, ◌≤◌, Bool, true, false, eqb, List, [], ◌∷◌, refl, sym}
use Rattle.std.proofs.Common.{ap, subst, ◌∙◌, inl, inr, arith}
use Rattle.std.specs.Prelude.{Option, None, Some, slice_get}
use Rattle.std.proofs.lemmas.Bool.{true≢false, cases_eq, cases_lt, cases_Bool, cond-true, cond-false, eq-eqb, ne_eqb}
use Rattle.mold_rule.specs.Ranges.{Range, IsLongest, joined, range, ranges}

none_some : {r : Range} → ◌≡◌ {A = Option Range} None (Some r) → ⊥
none_some e = cc

some_same : {r s : Range} → ◌≡◌ {A = Option Range} (Some r) (Some s) → r ≡ s
some_same e = cc

-- One of the ranges contains the number.
pub record IsIn (rs : List Range) (number : ℕ) : Type 0 where
  pub index : ℕ
  pub range : Range
  pub there : slice_get rs index ≡ Some range
  pub low : range.first ≤ number
  pub high : number ≤ range.last

-- The ranges are longest ones, at least one number lies between any two of them, and they contain every
-- missing number.
pub record AreLongest (lacks : ℕ → Bool) (low high : ℕ) (rs : List Range) : Type 0 where
  pub each : (i : ℕ) (r : Range) → slice_get rs i ≡ Some r → IsLongest lacks low high r
  pub cover : (number : ℕ) → low ≤ number → number < high → lacks number ≡ true → IsIn rs number
  pub ascend : (i j : ℕ) (r s : Range) → slice_get rs i ≡ Some r → slice_get rs j ≡ Some s → i < j →
      r.last + 1 < s.first

-- A range that is longest from the second number on is longest from the first on, unless it can be extended
-- by the first.
wider : (lacks : ℕ → Bool) (low high : ℕ) (r : Range) → IsLongest lacks (suc low) high r →
    (r.first ≡ suc low → lacks low ≡ false) → IsLongest lacks low high r
wider lacks low high r longest here = record {
  begins = omega (arith, longest.begins);
  ordered = longest.ordered;
  ends = longest.ends;
  all = longest.all;
  before = λ number from next.
      elim (cases_eq number low) [
        | inl same ↦
            subst (λ (n : ℕ). lacks n ≡ false) (sym same) (here (sym next ∙ ap suc same))
        | inr other ↦ longest.before number (omega (arith, from, other)) next
      ];
  behind = longest.behind;
}

-- The first number is present.
passed : (lacks : ℕ → Bool) (low high : ℕ) (rs : List Range) → lacks low ≡ false →
    AreLongest lacks (suc low) high rs → AreLongest lacks low high rs
passed lacks low high rs there are = record {
  each = λ i r is. wider lacks low high r (are.each i r is) (λ same. there);
  cover = λ number from below lacked.
      elim (cases_eq number low) [
        | inl same ↦
            absurd (true≢false (sym lacked ∙ ap lacks same ∙ there))
        | inr other ↦ are.cover number (omega (arith, from, other)) below lacked
      ];
  ascend = are.ascend;
}

-- A number that is in no range is present.
not_in : (lacks : ℕ → Bool) (low high : ℕ) (rs : List Range) → AreLongest lacks low high rs → (number : ℕ) →
    low ≤ number → number < high → (IsIn rs number → ⊥) → lacks number ≡ false
not_in lacks low high rs are number from below never =
    elim (cases_Bool (lacks number)) [
      | inl lacked ↦ absurd (never (are.cover number from below lacked))
      | inr there ↦ there
    ]

in_front : (r : Range) (rs : List Range) (number : ℕ) → IsIn rs number → IsIn (r ∷ rs) number
in_front r rs number is = record {
  index = suc is.index;
  range = is.range;
  there = is.there;
  low = is.low;
  high = is.high;
}

-- The first number is missing and the next one is present.
alone : (lacks : ℕ → Bool) (low high : ℕ) (rs : List Range) → low < high → lacks low ≡ true →
    AreLongest lacks (suc low) high rs
    → ((i : ℕ) (r : Range) → slice_get rs i ≡ Some r → suc low < r.first)
    → AreLongest lacks low high (range low low ∷ rs)
alone lacks low high rs within lacked are apart = record {
  each = λ i r is.
      elim i as (λ k. slice_get (range low low ∷ rs) k ≡ Some r → IsLongest lacks low high r) [
        | zero ↦ λ is. subst (λ (t : Range). IsLongest lacks low high t) (some_same is) (record {
          begins = omega arith;
          ordered = omega arith;
          ends = within;
          all = λ number from to. subst (λ (n : ℕ). lacks n ≡ true) (let e : low ≡ number = omega (arith, from, to) in
              e) lacked;
          before = λ number from next. absurd (omega (arith, from, next));
          behind = λ below.
              not_in lacks (suc low) high rs are (suc low) (omega arith) below (λ is.
              omega (arith, is.low, apart is.index is.range is.there));
        })
        | suc k ↦ λ is. wider lacks low high r (are.each k r is) (λ same. absurd (omega (arith, same, apart k r is)))
      ] is;
  cover = λ number from below hole.
      elim (cases_eq number low) [
        | inl same ↦ record {
          index = 0;
          range = range low low;
          there = refl;
          low = omega (arith, same);
          high =
              omega (arith, same);
        }
        | inr other ↦ in_front (range low low) rs number (are.cover number (omega (arith, from, other)) below hole)
      ];
  ascend = λ i j r s is at before.
      elim j as (λ n. i < n → slice_get (range low low ∷ rs) n ≡ Some s → r.last + 1 < s.first) [
        | zero ↦ λ before at. absurd (omega (arith, before))
        | suc m ↦ λ before at.
            elim i as (λ k. k < suc m → slice_get (range low low ∷ rs) k ≡ Some r → r.last + 1 < s.first) [
              | zero ↦ λ before is.
                  let last : low ≡ r.last = ap (λ (t : Range). t.last) (some_same is) in
                  omega (arith, last, apart m s at)
              | suc k ↦ λ before is. are.ascend k m r s is at (omega (arith, before))
            ] before is
      ] before at;
}

-- The first number is missing, and so is the next one, at which the first range starts.
joins : (lacks : ℕ → Bool) (low high : ℕ) (r : Range) (rs : List Range) → lacks low ≡ true →
    r.first ≡ suc low → AreLongest lacks (suc low) high (r ∷ rs)
    → AreLongest lacks low high (range low r.last ∷ rs)
joins lacks low high r rs lacked next are =
    let first = are.each 0 r refl in
    record {
      each = λ i s is.
          elim i as (λ k. slice_get (range low r.last ∷ rs) k ≡ Some s → IsLongest lacks low high s) [
            | zero ↦ λ is. subst (λ (t : Range). IsLongest lacks low high t) (some_same is) (record {
              begins = omega arith;
              ordered = omega (arith, first.ordered, next);
              ends = first.ends;
              all = λ number from to.
                  elim (cases_eq number low) [
                    | inl same ↦ subst (λ (n : ℕ). lacks n ≡ true) (sym same) lacked
                    | inr other ↦ first.all number (omega (arith, next, from, other)) to
                  ];
              before = λ number from next. absurd (omega (arith, from, next));
              behind = first.behind;
            })
            | suc k ↦ λ is. wider lacks low high s (are.each (suc k) s is) (λ same.
                absurd (omega (arith, same, next, first.ordered, are.ascend 0 (suc k) r s refl is (omega arith))))
          ] is;
      cover = λ number from below hole.
          elim (cases_lt r.last number) [
            | inr inside ↦ record { index = 0; range = range low r.last; there = refl; low = from; high = inside }
            | inl past ↦
                let found = are.cover number (omega (arith, past, next, first.ordered)) below hole in
                elim found.index as (λ k. slice_get (r ∷ rs) k ≡ Some found.range →
                IsIn (range low r.last ∷ rs) number) [
                  | zero ↦ λ is.
                      let last : r.last ≡ found.range.last = ap (λ (t : Range). t.last) (some_same is) in
                      absurd (omega (arith, last, past, found.high))
                  | suc k ↦ λ is.
                      record { index = suc k; range = found.range; there = is; low = found.low; high = found.high }
                ] found.there
          ];
      ascend = λ i j s t is at before.
          elim j as (λ n. i < n → slice_get (range low r.last ∷ rs) n ≡ Some t → s.last + 1 < t.first) [
            | zero ↦ λ before at. absurd (omega (arith, before))
            | suc m ↦ λ before at.
                elim i as (λ k. k < suc m → slice_get (range low r.last ∷ rs) k ≡ Some s → s.last + 1 < t.first) [
                  | zero ↦ λ before is.
                      let last : r.last ≡ s.last = ap (λ (t : Range). t.last) (some_same is) in
                      omega (arith, last, are.ascend 0 (suc m) r t refl at (omega arith))
                  | suc k ↦ λ before is. are.ascend (suc k) (suc m) s t is at before
                ] before is
          ] before at;
    }

first_of : (lacks : ℕ → Bool) (low high : ℕ) (r : Range) (rs : List Range) → low < high → lacks low ≡ true →
    AreLongest lacks (suc low) high (r ∷ rs) → AreLongest lacks low high (joined low (r ∷ rs))
first_of lacks low high r rs within lacked are =
    elim (cases_eq r.first (suc low)) [
      | inl next ↦
          subst (AreLongest lacks low high)
          (sym (cond-true (eqb r.first (suc low)) _ _ (eq-eqb r.first (suc low) next)))
          (joins lacks low high r rs lacked next are)
      | inr other ↦
          subst (AreLongest lacks low high)
          (sym (cond-false (eqb r.first (suc low)) _ _ (ne_eqb r.first (suc low) other)))
          (alone lacks low high (r ∷ rs) within lacked are (λ i s is.
          elim i as (λ k. slice_get (r ∷ rs) k ≡ Some s → suc low < s.first) [
            | zero ↦ λ is.
                let same : r.first ≡ s.first = ap (λ (t : Range). t.first) (some_same is) in
                omega (arith, same, other, (are.each 0 r refl).begins)
            | suc k ↦ λ is.
                omega (
                  arith,
                  (are.each 0 r refl).begins,
                  (are.each 0 r refl).ordered,
                  are.ascend 0 (suc k) r s refl is (omega arith),
                )
          ] is))
    ]

behind_first : (lacks : ℕ → Bool) (low high : ℕ) (rs : List Range) → low < high → lacks low ≡ true →
    AreLongest lacks (suc low) high rs → AreLongest lacks low high (joined low rs)
behind_first lacks low high [] within lacked are =
    alone lacks low high [] within lacked are (λ i r is. absurd (none_some is))
behind_first lacks low high (r ∷ rs) within lacked are = first_of lacks low high r rs within lacked are

pub are_longest : (lacks : ℕ → Bool) (low count : ℕ) → AreLongest lacks low (low + count) (ranges lacks low count)
unfolding ranges
are_longest lacks low zero = record {
  each = λ i r is. absurd (none_some is);
  cover = λ number from below hole. absurd (omega (arith, from, below));
  ascend = λ i j r s is at before. absurd (none_some is);
}
are_longest lacks low (suc count) =
    let same : suc low + count ≡ low + suc count = omega arith in
    let rest = subst (λ (high : ℕ). AreLongest lacks (suc low) high (ranges lacks (suc low) count)) same
    (are_longest lacks (suc low) count) in
    elim (cases_Bool (lacks low)) [
      | inl lacked ↦
          subst (AreLongest lacks low (low + suc count)) (sym (cond-true (lacks low) _ _ lacked))
          (behind_first lacks low (low + suc count) (ranges lacks (suc low) count) (omega arith) lacked rest)
      | inr there ↦
          subst (AreLongest lacks low (low + suc count)) (sym (cond-false (lacks low) _ _ there))
          (passed lacks low (low + suc count) (ranges lacks (suc low) count) there rest)
    ]

pub ranges_longest : (lacks : ℕ → Bool) (low count i : ℕ) (r : Range) →
    slice_get (ranges lacks low count) i ≡ Some r → IsLongest lacks low (low + count) r
ranges_longest lacks low count i r is = (are_longest lacks low count).each i r is

pub ranges_ascend : (lacks : ℕ → Bool) (low count i j : ℕ) (r s : Range) → slice_get (ranges lacks low count) i ≡ Some r
    → slice_get (ranges lacks low count) j ≡ Some s → i < j → r.last + 1 < s.first
ranges_ascend lacks low count i j r s is at before = (are_longest lacks low count).ascend i j r s is at before

-- Two longest ranges that share a number have the same first number and the same last number.
not_before : (lacks : ℕ → Bool) (low high : ℕ) (r s : Range) → IsLongest lacks low high r →
    IsLongest lacks low high s → s.first ≤ r.first → r.first ≤ s.last → s.first ≡ r.first
not_before lacks low high r s one other from to =
    elim (cases_lt s.first r.first) [
      | inl less ↦
          let last : suc (r.first - 1) ≡ r.first = omega (arith, less) in
          absurd (true≢false (sym (other.all (r.first - 1) (omega (arith, less)) (omega (arith, to)))
          ∙ one.before (r.first - 1) (omega (arith, less, other.begins)) last))
      | inr more ↦ omega (arith, more, from)
    ]

not_behind : (lacks : ℕ → Bool) (low high : ℕ) (r s : Range) → IsLongest lacks low high r →
    IsLongest lacks low high s → s.first ≡ r.first → s.last < r.last → ⊥
not_behind lacks low high r s one other same less =
    true≢false (sym (one.all (suc s.last) (omega (arith, same, other.ordered)) less)
    ∙ other.behind (omega (arith, less, one.ends)))

same_range : (r s : Range) → r.first ≡ s.first → r.last ≡ s.last → r ≡ s
same_range r s first last = λ i. record { first = first i; last = last i }

pub longest_among : (lacks : ℕ → Bool) (low count : ℕ) (r : Range) → IsLongest lacks low (low + count) r →
    (i : ℕ) × (slice_get (ranges lacks low count) i ≡ Some r)
longest_among lacks low count r longest =
    let are = are_longest lacks low count in
    let found = are.cover r.first longest.begins (omega (arith, longest.ordered, longest.ends))
    (longest.all r.first (omega arith) longest.ordered) in
    let other = are.each found.index found.range found.there in
    let first = not_before lacks low (low + count) r found.range longest other found.low found.high in
    let last : found.range.last ≡ r.last =
    elim (cases_lt found.range.last r.last) [
      | inl less ↦ absurd (not_behind lacks low (low + count) r found.range longest other first less)
      | inr more ↦
          elim (cases_lt r.last found.range.last) [
            | inl less ↦ absurd (not_behind lacks low (low + count) found.range r other longest (sym first) less)
            | inr same ↦ omega (arith, more, same)
          ]
    ] in
    (found.index, found.there ∙ ap (λ (t : Range). Some t) (same_range found.range r first last))
