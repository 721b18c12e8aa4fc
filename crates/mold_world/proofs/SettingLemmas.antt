-- A list in which one element is replaced.
use Rattle.std.proofs.Common.{◌≡◌, ℕ, zero, suc, List, [], ◌∷◌, map, refl, sym, ap, ◌∙◌, inl, inr, arith}
use Rattle.std.specs.Prelude.{◌⊎◌, Some, slice_get, slice_set}
use Rattle.std.proofs.lemmas.Option.{none-some, same_Some}

-- The element that is set.
pub set_here :
    {X : Type 0} (xs : List X) (at : ℕ) (new x : X) → slice_get xs at ≡ Some x →
    slice_get (slice_set xs at new) at ≡ Some new
set_here [] at new x is = absurd (none-some x is)
set_here (first ∷ xs) zero new x is = refl
set_here (first ∷ xs) (suc at) new x is = set_here xs at new x is

-- Every other element.
pub set_elsewhere :
    {X : Type 0} (xs : List X) (at : ℕ) (new : X) (place : ℕ) → (place ≡ at → ⊥) →
    slice_get (slice_set xs at new) place ≡ slice_get xs place
set_elsewhere [] at new place other = refl
set_elsewhere (x ∷ xs) zero new zero other = absurd (other refl)
set_elsewhere (x ∷ xs) zero new (suc place) other = refl
set_elsewhere (x ∷ xs) (suc at) new zero other = refl
set_elsewhere (x ∷ xs) (suc at) new (suc place) other =
    set_elsewhere xs at new place (λ same. other (let z : suc place ≡ suc at = omega (arith, same) in z))

-- An element of the new list is the one that was set or an old one.
pub set_cases :
    {X : Type 0} (xs : List X) (at : ℕ) (new : X) (place : ℕ) (x : X) → slice_get (slice_set xs at new) place ≡ Some x →
    (new ≡ x) ⊎ (slice_get xs place ≡ Some x)
set_cases [] at new place x is = inr is
set_cases (first ∷ xs) zero new zero x is = inl (same_Some new x is)
set_cases (first ∷ xs) zero new (suc place) x is = inr is
set_cases (first ∷ xs) (suc at) new zero x is = inr is
set_cases (first ∷ xs) (suc at) new (suc place) x is = set_cases xs at new place x is

-- What happens to an old element.
pub set_at :
    {X : Type 0} (xs : List X) (at : ℕ) (new : X) (other : ℕ) (x : X) → slice_get xs other ≡ Some x →
    ((other ≡ at) × (slice_get (slice_set xs at new) other ≡ Some new))
    ⊎ (slice_get (slice_set xs at new) other ≡ Some x)
set_at [] at new other x is = absurd (none-some x is)
set_at (first ∷ xs) zero new zero x is = inl (refl, refl)
set_at (first ∷ xs) zero new (suc other) x is = inr is
set_at (first ∷ xs) (suc at) new zero x is = inr is
set_at (first ∷ xs) (suc at) new (suc other) x is =
    elim (set_at xs at new other x is) [
      | inl here ↦ inl (ap suc here.0, here.1)
      | inr there ↦ inr there
    ]

-- If the new element has the same image, so does the list.
pub map_set :
    {X Y : Type 0} (f : X → Y) (xs : List X) (at : ℕ) (old new : X) → slice_get xs at ≡ Some old → f new ≡ f old →
    map f (slice_set xs at new) ≡ map f xs
map_set f [] at old new is same = refl
map_set {Y = Y} f (x ∷ xs) zero old new is same =
    ap (λ (t : Y). t ∷ map f xs) (same ∙ ap f (sym (same_Some x old is)))
map_set {Y = Y} f (x ∷ xs) (suc at) old new is same =
    ap (λ (t : List Y). f x ∷ t) (map_set f xs at old new is same)

-- Setting an element to itself changes nothing.
pub set_back : {X : Type 0} (xs : List X) (at : ℕ) (x : X) → slice_get xs at ≡ Some x → slice_set xs at x ≡ xs
set_back [] at x is = refl
set_back (first ∷ xs) zero x is = let e : first ≡ x = (let s = is in cc) in ap (λ t. t ∷ xs) (sym e)
set_back (first ∷ xs) (suc at) x is = ap (λ t. first ∷ t) (set_back xs at x is)
