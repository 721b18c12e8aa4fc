use Rattle.std.proofs.Common.{[], ap, refl, subst, sym}
use Rattle.mold_durable.specs.Follower.{FollowerState, Follows, follower_of}
use Rattle.mold_indexed_file.specs.Shown.{IndexedState}
use Rattle.mold_follow.specs.Serving.{journal_of}
use Rattle.mold_follow.proofs.CatchUpLemmas.{in_file}
use Rattle.mold_follow.proofs.catching_up.index_followed.Goals as goal

pub returns-clause-serves : goal.returns-clause-serves
returns-clause-serves g c = λ writer bytes writes follows.
    let history = g.F.GrowingFile.history in
    let synced = g.F.GrowingFile.synced in
    let f = c.follower.inside in
    let has : Follows history synced writer bytes (follower_of f.file f.records) [] =
    subst (λ (s : FollowerState g.row.F.Denot). Follows history synced writer bytes s []) (sym c.follower.view_is)
    follows in
    let fresh = c.in_ok-indexed.ensures.fresh in
    record {
      follows = subst (λ (file : g.row.F.Denot). Follows history synced writer bytes (follower_of file f.records) [])
          (sym (ap (λ (s : IndexedState g.row.F.Denot). s.file) fresh)) has;
      shown = c.in_ok-indexed.ensures.shown (journal_of f.records []) (sym c.session.ensures)
          (sym c.max_message.ensures) refl
          (in_file history g.F.GrowingFile.moment synced c.growing_file_law.ensures writer bytes f.file f.records []
          (g.met.F.GrowingFile.synced_now f.file) writes has);
      third = ap (λ (s : IndexedState g.row.F.Denot). s.version) fresh;
    }
