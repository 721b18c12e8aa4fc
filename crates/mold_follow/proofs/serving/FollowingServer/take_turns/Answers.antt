use Rattle.std.proofs.Common.{ap, refl, ◌∙◌, arith}
use Rattle.mold_durable.specs.Follower.{RecordFollowerState}
use Rattle.mold_session.specs.Server.{ServerState}
use Rattle.mold_follow.proofs.CatchUpLemmas.{front_same}
use Rattle.mold_follow.proofs.ServingLemmas.{serves_twice}
use Rattle.mold_follow.proofs.serving.FollowingServer.take_turns.Goals as goal

pub loop-turn-init : goal.loop-turn-init
loop-turn-init g c = record {
  serves = λ writer bytes told writes was. record { told = told; longer = front_same told; serves = was };
  limits = refl;
  follower = refl;
  buffer = c.requires.buffer;
}

pub write_turn-requires-clause-longest : goal.write_turn-requires-clause-longest
write_turn-requires-clause-longest g c =
    let follower = ap (λ (f : RecordFollowerState). f.max_message) c.loop-turn.invariant.follower in
    let server = ap (λ (s : ServerState). s.max_message) c.loop-turn.invariant.limits in
    omega (arith, c.requires.longest, follower, server)

pub loop-turn-preserved : goal.loop-turn-preserved
loop-turn-preserved g c = record {
  serves = λ writer bytes told writes was.
      let has = c.loop-turn.invariant.serves writer bytes told writes was in
      serves_twice g.F.GrowingFile.history g.F.GrowingFile.moment g.F.GrowingFile.synced writer bytes
      c.loop-turn.self.indexed c.write_turn.new.self.indexed c.loop-turn.self.follower
      c.write_turn.new.self.follower told
      has (rw c.in-None.is at (c.in_ok-status.ensures.serves writer bytes has.told writes has.serves));
  limits =
      c.in_ok-status.ensures.limits
      ∙ ap (λ (s : ServerState). record s { answered = c.write_turn.new.self.server.answered })
      c.loop-turn.invariant.limits;
  follower =
      c.in_ok-status.ensures.follower
      ∙ ap (λ (f : RecordFollowerState). record f {
        count = c.write_turn.new.self.follower.count;
        end = c.write_turn.new.self.follower.end;
        closed = c.write_turn.new.self.follower.closed;
        news = c.write_turn.new.self.follower.news;
      }) c.loop-turn.invariant.follower;
  buffer = c.write_turn.auto.buffer ∙ c.loop-turn.invariant.buffer;
}
