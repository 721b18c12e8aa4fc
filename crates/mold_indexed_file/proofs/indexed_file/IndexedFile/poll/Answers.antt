use Rattle.std.proofs.Common.{◌≡◌, ◌++◌, false, sym, subst}
use Rattle.std.specs.Prelude.{IfOk}
use Rattle.mold_durable.specs.Follower.{Follows, follower_of}
use Rattle.mold_durable.specs.Following.{HasAll}
use Rattle.mold_indexed_file.specs.Shown.{IndexedState}
use Rattle.mold_indexed_file.proofs.indexed_file.IndexedFile.poll.Goals as goal

pub returns-clause-gained : goal.returns-clause-gained
returns-clause-gained g c = λ writer bytes told writes follows.
    c.poll.ensures.gained writer bytes told writes
    (subst (λ (s : IndexedState g.row.F.Denot). Follows g.F.GrowingFile.history g.F.GrowingFile.synced writer bytes
    (follower_of s.file c.args.follower.now) told) (sym c.self.view_is) follows)

pub returns-clause-nothing : goal.returns-clause-nothing
returns-clause-nothing g c = λ writer bytes told writes follows.
    subst (λ (s : IndexedState g.row.F.Denot).
    IfOk c.poll.result (λ more. more ≡ false →
    HasAll writer (told ++ c.poll.new.self.news) c.poll.new.self.closed (g.F.GrowingFile.moment s.file)))
    c.self.view_is
    (c.poll.ensures.nothing writer bytes told writes
    (subst (λ (s : IndexedState g.row.F.Denot). Follows g.F.GrowingFile.history g.F.GrowingFile.synced writer bytes
    (follower_of s.file c.args.follower.now) told) (sym c.self.view_is) follows))
