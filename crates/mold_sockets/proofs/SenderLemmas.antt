-- Lemmas about lists of senders.
use Rattle.std.proofs.Common.{arith, ◌≡◌, ◌∙◌, ◌+◌, ◌-◌, ◌<◌, ◌++◌, List, [], ◌∷◌, ℕ, ap, get_or, length, map, replicate, set, sym, take}
use Rattle.std.proofs.Math.Seq.{set-append_seam}
use Rattle.std.proofs.lemmas.Grind.{common_steps}
use Rattle.std.proofs.lemmas.List.{append_assoc, map-append, map-set, replicate-append-replicate, take_more}

-- the first of the empty entries
first_empty : {Y : Type 0} (i : ℕ) (z : Y) → i < 8 → replicate (8 - i) z ≡ z ∷ replicate (8 - (i + 1)) z
first_empty i z few =
    sym (replicate-append-replicate 1 (8 - (i + 1)) z ∙ ap (λ n. replicate n z) (omega arith))

-- one more entry of a list whose other entries are empty
pub fill_more : {X Y S : Type 0} (f : X → Y) (g : S → Y) (xs : List X) (ss : List S) (i : ℕ) (x : X) (d : S) (z : Y)
    → i < length ss → i < 8 → g (get_or ss i d) ≡ f x → map f xs ≡ map g (take i ss) ++ replicate (8 - i) z
    → map f (set xs i x) ≡ map g (take (i + 1) ss) ++ replicate (8 - (i + 1)) z
fill_more f g xs ss i x d z lt few same before =
    let old = map g (take i ss) in
    let rest = replicate (8 - (i + 1)) z in
    let long : length old ≡ i = grind (arith, common_steps) in
    let more : map g (take (i + 1) ss) ≡ old ++ f x ∷ [] =
    ap (map g) (take_more ss i d lt) ∙ map-append g (take i ss) (get_or ss i d ∷ []) ∙ ap (λ y. old ++ y ∷ []) same in
    map-set f xs i x
    ∙ ap (λ l. set l i (f x)) (before ∙ ap (λ r. old ++ r) (first_empty i z few))
    ∙ ap (λ n. set (old ++ z ∷ rest) n (f x)) (sym long)
    ∙ set-append_seam old z rest (f x)
    ∙ sym (ap (λ l. l ++ rest) more ∙ append_assoc old (f x ∷ []) rest)
