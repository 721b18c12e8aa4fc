use Rattle.std.proofs.Common.{[], ◌∷◌, ◌++◌, ◌≡◌, ◌+◌, refl, sym, subst, ℕ}
use Rattle.std.specs.Prelude.{OnOk}
use Rattle.mold_session.specs.Journal.{appended}
use Rattle.mold_index.specs.Index.{Indexes}
use Rattle.mold_index.specs.Layouts.{lengths_of}
use Rattle.mold_indexed_file.specs.Shown.{IndexedState, IsInFile, Shows}
use Rattle.mold_indexed_file.proofs.GrowingLemmas.{counts_more}
use Rattle.mold_indexed_file.proofs.ShownLemmas.{on_ok, shows_more}
use Rattle.mold_indexed_file.proofs.indexed_file.IndexedFile.push.Goals as goal

pub returns-clause-shown : goal.returns-clause-shown
returns-clause-shown g c = λ journal message shows long journaled has.
    let history = g.F.GrowingFile.history in
    let moment = g.F.GrowingFile.moment in
    let f = c.self.inside in
    let old : IndexedState g.row.F.Denot = record {
      file = f.file;
      session = f.session;
      version = f.version;
      max_message = f.max_message;
      index = f.index;
      buffer = f.buffer;
    } in
    let new : IndexedState g.row.F.Denot = record old { index = c.push.new.self } in
    let was : Shows history moment old journal =
    subst (λ (s : IndexedState g.row.F.Denot). Shows history moment s journal) (sym c.self.view_is) shows in
    let had : IsInFile history moment old.file old.version (appended journal message) =
    subst (λ (s : IndexedState g.row.F.Denot). IsInFile history moment s.file s.version (appended journal message))
    (sym c.self.view_is) has in
    on_ok c.push.result
    (λ (indexes : Indexes c.push.new.self (lengths_of journal.messages ++ c.args.len ∷ [])).
    shows_more history moment old new journal message refl was journaled had
    (subst (λ (n : ℕ). Indexes c.push.new.self (lengths_of journal.messages ++ n ∷ [])) (sym long) indexes))
    (c.push.ensures.indexes (lengths_of journal.messages) was.indexes)

pub returns-clause-counted : goal.returns-clause-counted
returns-clause-counted g c =
    subst (λ (s : IndexedState g.row.F.Denot). OnOk c.push.result (c.push.new.self.count ≡ s.index.count + 1))
    c.self.view_is
    (counts_more c.push.result c.self.inside.index c.push.new.self c.args.len c.count-count.ensures.index
    c.push.ensures.indexes)
