use Rattle.std.proofs.Common.{◌≡◌, ℕ, List, [], ◌∷◌, arith, replicate, refl, subst}
use Rattle.mold_send.specs.PublishLoop.{SendsBoth}
use Rattle.mold_send.proofs.SendingLemmas.{lines_at_first, lines_twice, replicate_push, sends_behind}
use Rattle.mold_send.proofs.sending.TwoLines.send_often.Goals as goal

pub loop-time-init : goal.loop-time-init
loop-time-init g c = record { sends = λ modeled. refl; same = lines_at_first c.args.self.now }

pub loop-time-preserved : goal.loop-time-preserved
loop-time-preserved g c = record {
  sends = λ modeled.
      subst
      (λ (xs : List (List ℕ)). SendsBoth g.D.Datagrams.port xs c.args.self.now c.send_both.new.self)
      (replicate_push c.loop-time._time c.args.datagram.now)
      (sends_behind g.D.Datagrams.port (replicate c.loop-time._time c.args.datagram.now) (c.args.datagram.now ∷ [])
      c.args.self.now c.loop-time.self c.send_both.new.self c.loop-time.invariant.same
      (c.loop-time.invariant.sends modeled) (c.send_both.ensures.sends modeled));
  same = lines_twice c.loop-time.invariant.same c.send_both.ensures.same;
}

pub returns-clause-sends : goal.returns-clause-sends
returns-clause-sends g c modeled =
    let all : c.loop-time._time ≡ c.args.times = omega (arith, c.loop-time.auto._time-end, c.loop-time-test.false) in
    subst
    (λ (n : ℕ). SendsBoth g.D.Datagrams.port (replicate n c.args.datagram.now) c.args.self.now c.loop-time.self)
    all
    (c.loop-time.invariant.sends modeled)

pub returns-clause-same : goal.returns-clause-same
returns-clause-same g c = c.loop-time.invariant.same
