use Rattle.std.proofs.Common.{◌≡◌, ◌-◌, ◌≤◌, ◌^◌, ℕ, List}
use Rattle.mold_durable.specs.Following.{Writer, Writes}
use Rattle.mold_follow.specs.Serving.{Serves, ServesMore}
use Rattle.mold_follow.proofs.catching_up.catch_up.Given as goal

-- The index has the messages that the follower returned so far.
abbrev pub invariant-looks : goal.invariant-looks
invariant-looks g l = record {
  serves :
      (writer : Writer) (bytes : ℕ → List ℕ) (told : List (List ℕ)) → Writes writer bytes →
      Serves g.F.GrowingFile.history g.F.GrowingFile.moment g.F.GrowingFile.synced writer bytes l.fn.indexed
      l.fn.follower told →
      ServesMore g.F.GrowingFile.history g.F.GrowingFile.moment g.F.GrowingFile.synced writer bytes l.indexed l.follower
      told;
  failures : g.F.GrowingFile.failed l.indexed.file ≡ g.F.GrowingFile.failed l.fn.indexed.file;
  later : g.F.GrowingFile.moment l.fn.indexed.file ≤ g.F.GrowingFile.moment l.indexed.file;
  kept : l.indexed ≡ record l.fn.indexed { file = l.indexed.file; index = l.indexed.index };
  follower : l.follower ≡ record l.fn.follower {
    count = l.follower.count;
    end = l.follower.end;
    closed = l.follower.closed;
    news = l.follower.news;
  };
}

abbrev pub decreases-looks : goal.decreases-looks
decreases-looks g l = 2 ^ 64 - l.indexed.index.count
