use Rattle.std.proofs.Common.{◌≡◌, ◌∙◌, ℕ, List, [], ap, refl, subst, sym, IfOk, Result, Ok, Err}
use Rattle.mold_durable.specs.Memory.{MayLeave, MemoryState, left_by}
use Rattle.mold_durable.proofs.MemoryLemmas.{left_possible}
use Rattle.mold_durable.proofs.memory_storage.MemoryStorage.after_crash.Goals as goal

-- The new storage has the bytes that were left.
made_possible : {E : Type 0} (result : Result MemoryState E) (P : List ℕ → Type 0) (left : List ℕ) →
    IfOk result (λ storage. storage.bytes ≡ left) → P left → IfOk result (λ storage. P storage.bytes)
made_possible (Ok storage) P left is here = subst P (sym is) here
made_possible (Err error) P left is here = tt

pub returns-clause-possible : goal.returns-clause-possible
returns-clause-possible c =
    let calls = c.args.self.now.calls in
    let tears = c.args.tears.now in
    made_possible c.with_bytes.result (MayLeave calls) c.deref-2.result.now c.with_bytes.ensures.bytes
    (subst (MayLeave calls)
    (sym (c.deref-2.ensures.value ∙ c.in_ok-left.ensures
    ∙ ap (λ t. left_by tears [] t tears) (c.deref.ensures.value ∙ ap (λ (s : MemoryState). s.calls) c.self.view_is)))
    (left_possible tears (λ bytes. bytes ≡ []) [] calls tears refl))
