use Rattle.std.proofs.Common.{◌≡◌, ℕ, List, length}
use Rattle.mold_durable.specs.Following.{Writer, Writes}
use Rattle.mold_follow.specs.Serving.{Serves, ServesMore}
use Rattle.mold_wire.specs.declared.limits.TheConstants.{MAX_LIMIT}
use Rattle.mold_follow.proofs.serving.FollowingServer.take_turns.Given as goal

-- The server has the messages that its follower returned so far.
abbrev pub invariant-loop-turn : goal.invariant-loop-turn
invariant-loop-turn g l = record {
  serves :
      (writer : Writer) (bytes : ℕ → List ℕ) (told : List (List ℕ)) → Writes writer bytes →
      Serves g.F.GrowingFile.history g.F.GrowingFile.moment g.F.GrowingFile.synced writer bytes l.fn.self.indexed
      l.fn.self.follower told →
      ServesMore g.F.GrowingFile.history g.F.GrowingFile.moment g.F.GrowingFile.synced writer bytes l.self.indexed
      l.self.follower told;
  limits : l.self.server ≡ record l.fn.self.server { answered = l.self.server.answered };
  follower : l.self.follower ≡ record l.fn.self.follower {
    count = l.self.follower.count;
    end = l.self.follower.end;
    closed = l.self.follower.closed;
    news = l.self.follower.news;
  };
  buffer : length l.buffer ≡ MAX_LIMIT;
}
