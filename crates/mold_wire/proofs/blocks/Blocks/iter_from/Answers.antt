use Rattle.std.proofs.Common.{◌≡◌, ℕ, List, [], ◌∷◌, drop, sym, ap, ◌∙◌}
use Rattle.std.proofs.lemmas.List.{drop-drop}
use Rattle.std.specs.Prelude.{MatchOption, None, Option, Some}
use Rattle.mold_wire.proofs.blocks.Blocks.iter_from.Goals as goal

-- A step of an iterator takes the first of the remaining messages, if there is one.
one_less : {A : Type 0} (item : Option A) (message : A → List ℕ) (old new : List (List ℕ)) →
    MatchOption item ((old ≡ []) × (new ≡ [])) (λ x. old ≡ message x ∷ new) → new ≡ drop 1 old
one_less None message old new steps = steps.1 ∙ sym (ap (λ (t : List (List ℕ)). drop 1 t) steps.0)
one_less (Some x) message old new steps = sym (ap (λ (t : List (List ℕ)). drop 1 t) steps)

pub loop-index-preserved : goal.loop-index-preserved
loop-index-preserved c =
    one_less c.next-message.result (λ x. x.now) c.loop-index.rest c.next-message.new.self c.next-message.ensures.steps
    ∙ ap (λ (t : List (List ℕ)). drop 1 t) c.loop-index.invariant
    ∙ drop-drop 1 c.loop-index._index c.args.self.now
