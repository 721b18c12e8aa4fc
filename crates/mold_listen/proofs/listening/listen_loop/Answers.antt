use Rattle.std.proofs.Common.{false, inl, refl, rules, sym}
use Rattle.mold_turns.proofs.FaultLemmas.{two_memory}
use Rattle.std.proofs.lemmas.Result.{on_err_weaker}
use Rattle.mold_turns.proofs.OutgoingLemmas.{bounded_none}
use Rattle.mold_turns.proofs.RunLemmas.{in_time_none, on_err, ran_beside_none}
use Rattle.mold_listen.specs.Listening.{IsInNextTurn, beginning, listened_lines, listened_side, status}
use Rattle.mold_listen.proofs.TurnLemmas.{is_beside, is_loop, listened_so, timely_so}
use Rattle.mold_listen.proofs.listening.listen_loop.Goals as goal

pub returns-in_err-buffer-clause-run : goal.returns-in_err-buffer-clause-run
returns-in_err-buffer-clause-run g c = λ t.
    ran_beside_none (is_loop c.args.server c.args.burst) (is_beside c.args.server c.args.burst) c.args.turns
    (beginning c.args.format (g.D.Datagrams.port c.args.a.now) (g.D.Datagrams.port c.args.b.now)
    (g.D.Datagrams.port c.args.requests.now) c.args.arbiter.now)
    (listened_lines c.args.reporting) (listened_side c.args.reporting) status _ c.from_residual.result false
    (g.K.Sink.held c.args.sink.now) (g.E.Sink.held c.args.errors.now) c.from_residual.ensures.0

pub returns-in_err-buffer-clause-sinks : goal.returns-in_err-buffer-clause-sinks
returns-in_err-buffer-clause-sinks g c = two_memory c.from_residual.result _ _ _ _ c.from_residual.ensures.1 refl refl

pub returns-clause-run : goal.returns-clause-run
returns-clause-run g c = λ t.
    listened_so c.args.reporting g.D.Datagrams.port c.args.server c.args.burst c.args.turns
    (beginning c.args.format (g.D.Datagrams.port c.args.a.now) (g.D.Datagrams.port c.args.b.now)
    (g.D.Datagrams.port c.args.requests.now) c.args.arbiter.now)
    c.listen.result _ _ _ _ c.listen.new.self.a.now _ c.listen.new.self.b.now _ c.listen.new.self.requests.now _
    c.listen.new.self.arbiter.now _
    (let same = sym c.listen.ensures.same.a in search rules)
    (let same = sym c.listen.ensures.same.b in search rules)
    (let same = sym c.listen.ensures.same.requests in search rules)
    (let same = sym c.listen.ensures.same.arbiter in search rules)
    (rw c.new-printer.ensures at c.listen.ensures.run t)

-- ---- what a fault finds unwritten

pub returns-in_err-buffer-clause-timely : goal.returns-in_err-buffer-clause-timely
returns-in_err-buffer-clause-timely g c =
    on_err c.from_residual.result
    (λ t.
    in_time_none (is_loop c.args.server c.args.burst) (g.K.Sink.live c.args.sink.now)
    (IsInNextTurn (g.D.Datagrams.port c.args.a.now) (g.D.Datagrams.port c.args.b.now)) (inl (refl, refl)) (bounded_none (g.K.Sink.live c.args.sink.now)))

pub returns-clause-timely : goal.returns-clause-timely
returns-clause-timely g c =
    timely_so _ g.D.Datagrams.port c.args.server c.args.burst
    (beginning c.args.format (g.D.Datagrams.port c.args.a.now) (g.D.Datagrams.port c.args.b.now)
    (g.D.Datagrams.port c.args.requests.now) c.args.arbiter.now)
    c.listen.result (g.K.Sink.live c.args.sink.now) _ _ c.listen.new.self.a.now _ c.listen.new.self.b.now _
    (let same = sym c.listen.ensures.same.a in search rules)
    (let same = sym c.listen.ensures.same.b in search rules)
    (on_err_weaker c.listen.result
    (λ timely t. (rw c.new-printer.ensures at timely) t (bounded_none (g.K.Sink.live c.args.sink.now)))
    c.listen.ensures.timely)

pub returns-clause-lines : goal.returns-clause-lines
returns-clause-lines g c = λ lines. (rw c.new-printer.ensures at c.listen.ensures.lines) lines refl
