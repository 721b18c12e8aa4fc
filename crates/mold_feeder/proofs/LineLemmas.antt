-- Datagrams that are sent on the lines, in order.
use Rattle.std.proofs.Common.{◌≡◌, ℕ, suc, zero, ◌+◌, List, [], ◌∷◌, ◌++◌, refl, ap, subst, ◌∙◌, arith, replicate}
use Rattle.mold_feeder.specs.FeedLines.{LinesState, SendsOn, after_both}
use Rattle.mold_feeder.specs.declared.feed_lines.FeedLines.{FeedLines}

-- Datagrams that are sent after others.
pub sends_more : {P : Type 0} (lines : FeedLines P) (xs ys : List (List ℕ)) (old mid new : LinesState P) →
    SendsOn lines xs old mid → SendsOn lines ys mid new → SendsOn lines (xs ++ ys) old new
sends_more lines [] ys old mid new first second = subst (λ (o : LinesState _). SendsOn lines ys o new) first second
sends_more lines (x ∷ xs) ys old mid new first second =
    (first.0, first.1, sends_more lines xs ys (after_both first.0 first.1 lines x old) mid new first.2 second)

-- One more copy at the end.
pub replicate_push : {A : Type 0} (n : ℕ) (x : A) → replicate n x ++ x ∷ [] ≡ replicate (n + 1) x
replicate_push zero x = refl
replicate_push {A} (suc n) x =
    ap (λ (l : List A). x ∷ l) (replicate_push n x)
    ∙ ap (λ (m : ℕ). replicate m x) (let same : suc (n + 1) ≡ suc n + 1 = omega arith in same)
