use Rattle.std.proofs.Common.{ℕ, [], ◌∷◌, ◌++◌, sym, subst, ap}
use Rattle.mold_session.specs.Journal.{appended}
use Rattle.mold_index.specs.Index.{Indexes}
use Rattle.mold_index.specs.Layouts.{lengths_of}
use Rattle.mold_indexed_file.specs.Buffer.{BufferState}
use Rattle.mold_indexed_file.specs.Stored.{IsOfJournal, StoredState}
use Rattle.mold_indexed_file.proofs.StoredLemmas.{lengths_more, of_fewer}
use Rattle.mold_indexed_file.proofs.storage_index.StorageIndex.retract.Goals as goal

pub returns-clause-is : goal.returns-clause-is
returns-clause-is c = λ journal message is long.
    let f = c.self.inside in
    let old : StoredState =
    record { session = f.session; max_message = f.max_message; index = f.index; buffer = f.buffer } in
    let was : IsOfJournal old (appended journal message) =
    subst (λ (s : StoredState). IsOfJournal s (appended journal message)) (sym c.self.view_is) is in
    of_fewer old c.retract.new.self c.clear.new.self journal message was
    (c.retract.ensures.indexes (lengths_of journal.messages)
    (subst (λ (n : ℕ). Indexes f.index (lengths_of journal.messages ++ n ∷ [])) long
    (subst (Indexes f.index) (lengths_more journal.messages message) was.indexes)))
    (ap (λ (b : BufferState). b.bytes) c.clear.ensures)
