-- Offsets: they ascend, and a message that is appended changes none of them.
use Rattle.std.proofs.Common.{◌≡◌, ℕ, ◌+◌, ◌-◌, ◌≤◌, List, [], ◌∷◌, ◌++◌, length, take, ap, arith}
use Rattle.std.proofs.lemmas.List.{take_all, take-append-le, take-take}
use Rattle.std.proofs.lemmas.List.Sums.{sum_by-take-le, sum_by_push}
use Rattle.std.specs.List.{sum_by}
use Rattle.mold_index.specs.Index.{offset_of}
use Rattle.mold_index.specs.declared.layout.Layout.{Layout}

-- A message that is appended changes no offset up to its own.
pub offset-push : (layout : Layout) (lengths : List ℕ) (len number : ℕ) → number ≤ length lengths + 1 →
    offset_of layout (lengths ++ len ∷ []) number ≡ offset_of layout lengths number
offset-push layout lengths len number within =
    ap (λ (t : List ℕ). layout.start + sum_by (λ l. layout.overhead + l) t)
    (take-append-le (number - 1) lengths (len ∷ []) (omega (arith, within)))

-- From the number after the last message's on, the offset is that of the end.
pub offset_past : (layout : Layout) (lengths : List ℕ) (number : ℕ) → length lengths + 1 ≤ number →
    offset_of layout lengths number ≡ layout.start + sum_by (λ l. layout.overhead + l) lengths
offset_past layout lengths number past =
    ap (λ (t : List ℕ). layout.start + sum_by (λ l. layout.overhead + l) t)
    (take_all (number - 1) lengths (omega (arith, past)))

-- A message that is appended moves the end by its size.
pub end-push : (layout : Layout) (lengths : List ℕ) (len : ℕ) →
    offset_of layout (lengths ++ len ∷ []) (length (lengths ++ len ∷ []) + 1)
    ≡ offset_of layout lengths (length lengths + 1) + (layout.overhead + len)
end-push layout lengths len =
    let new = offset_past layout (lengths ++ len ∷ []) (length (lengths ++ len ∷ []) + 1) (omega arith) in
    let old = offset_past layout lengths (length lengths + 1) (omega arith) in
    omega (arith, new, old, sum_by_push (λ l. layout.overhead + l) lengths len)

pub offset-mono : (layout : Layout) (lengths : List ℕ) (a b : ℕ) → a ≤ b →
    offset_of layout lengths a ≤ offset_of layout lengths b
offset-mono layout lengths a b order =
    let same : take (a - 1) (take (b - 1) lengths) ≡ take (a - 1) lengths =
    take-take (a - 1) (b - 1) lengths (omega (arith, order)) in
    omega (
      arith,
      sum_by-take-le (λ l. layout.overhead + l) (take (b - 1) lengths) (a - 1),
      ap (λ (t : List ℕ). sum_by (λ l. layout.overhead + l) t) same,
    )

-- No message begins after the end.
pub offset_last : (layout : Layout) (lengths : List ℕ) (number : ℕ) →
    offset_of layout lengths number ≤ offset_of layout lengths (length lengths + 1)
offset_last layout lengths number =
    let all = offset_past layout lengths (length lengths + 1) (omega arith) in
    omega (arith, all, sum_by-take-le (λ l. layout.overhead + l) lengths (number - 1))
