-- An index that grows.
use Rattle.std.proofs.Common.{◌≡◌, ℕ, ◌+◌, List, [], ◌∷◌, ◌++◌, length-append, arith}
use Rattle.std.specs.Prelude.{Result, OnOk}
use Rattle.mold_index.specs.Index.{Indexes, IndexState, IsIndex}
use Rattle.mold_indexed_file.proofs.ShownLemmas.{on_ok}

-- An index that has one more message counts it.
pub counts_more : {E : Type 0} (result : Result (Unit {0}) E) (old new : IndexState) (len : ℕ) → IsIndex old →
    ((lengths : List ℕ) → Indexes old lengths → OnOk result (Indexes new (lengths ++ len ∷ []))) →
    OnOk result (new.count ≡ old.count + 1)
counts_more result old new len is indexes =
    on_ok result
    (λ (more : Indexes new (is.lengths ++ len ∷ [])).
    omega (arith, more.counted, is.indexes.counted, length-append is.lengths (len ∷ [])))
    (indexes is.lengths is.indexes)
