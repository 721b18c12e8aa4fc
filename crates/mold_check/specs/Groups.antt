-- The elements of a list by their keys.
use Rattle.std.specs.Prelude.{Bool, not, List, [], ◌∷◌, if◌then◌else◌}
use Rattle.std.specs.List.{filter}

-- The keys of the list, each of them once, in the order of their first appearance.
unfoldable pub distinct : {K : Type 0} → (K → K → Bool) → List K → List K
distinct same [] = []
distinct same (key ∷ keys) = key ∷ filter (λ other. not (same other key)) (distinct same keys)

-- The states of the keys after one more step of a key. A new key is the last one; its state before the step is `start`.
unfoldable pub stepped : {K S : Type 0} → (K → K → Bool) → S → (S → S) → List (K × S) → K → List (K × S)
stepped same start step [] key = (key, step start) ∷ []
stepped same start step (entry ∷ entries) key =
    if same key entry.0 then (entry.0, step entry.1) ∷ entries
    else entry ∷ stepped same start step entries key
