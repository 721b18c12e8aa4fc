-- Lemmas about a fold over the images of a list's elements, step by step.
use Rattle.std.proofs.Common.{◌≡◌, ◌∙◌, ℕ, ◌+◌, ◌<◌, List, [], ◌∷◌}
use Rattle.std.proofs.Common.{ap, get_or, length, map, take}
use Rattle.std.specs.Prelude.{fold}
use Rattle.std.proofs.lemmas.List.{map-append, take_more}
use Rattle.std.proofs.lemmas.List.Sums.{fold-append}

-- one more element takes one more step
pub fold-map_more : {X A B : Type 0} (f : B → A → B) (a : B) (g : X → A) (xs : List X) (i : ℕ) (d : X)
    → i < length xs
    → fold f a (map g (take (i + 1) xs)) ≡ f (fold f a (map g (take i xs))) (g (get_or xs i d))
fold-map_more f a g xs i d below =
    ap (λ ys. fold f a (map g ys)) (take_more xs i d below)
    ∙ ap (fold f a) (map-append g (take i xs) (get_or xs i d ∷ []))
    ∙ fold-append f a (map g (take i xs)) (g (get_or xs i d) ∷ [])
