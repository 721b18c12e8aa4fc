use Rattle.std.proofs.Common.{ℕ, [], ◌∷◌, ◌++◌, sym, subst}
use Rattle.mold_index.specs.Index.{Indexes}
use Rattle.mold_index.specs.Layouts.{lengths_of}
use Rattle.mold_indexed_file.specs.Stored.{IsOfJournal, StoredState}
use Rattle.mold_indexed_file.proofs.ShownLemmas.{on_ok}
use Rattle.mold_indexed_file.proofs.StoredLemmas.{of_more}
use Rattle.mold_indexed_file.proofs.storage_index.StorageIndex.push.Goals as goal

pub returns-clause-is : goal.returns-clause-is
returns-clause-is c = λ journal message is long journaled.
    let f = c.self.inside in
    let old : StoredState =
    record { session = f.session; max_message = f.max_message; index = f.index; buffer = f.buffer } in
    let was : IsOfJournal old journal = subst (λ (s : StoredState). IsOfJournal s journal) (sym c.self.view_is) is in
    on_ok c.push.result
    (λ (indexes : Indexes c.push.new.self (lengths_of journal.messages ++ c.args.len ∷ [])).
    of_more old c.push.new.self journal message was journaled
    (subst (λ (n : ℕ). Indexes c.push.new.self (lengths_of journal.messages ++ n ∷ [])) (sym long) indexes))
    (c.push.ensures.indexes (lengths_of journal.messages) was.indexes)
