use Rattle.std.proofs.Common.{arith, ◌≡◌, ◌∙◌, ℕ, Bool, inr, refl, subst, sym}
use Rattle.mold_devices.specs.Faults.{CountsSinkFault}
use Rattle.mold_turns.proofs.FaultLemmas.{counts_same, two_same}
use Rattle.mold_turns.proofs.RunLemmas.{beside_init, beside_rests_all, beside_rests_broken, beside_rests_turned}
use Rattle.mold_turns.proofs.RunLemmas.{beside_turned, in_time, on_err}
use Rattle.mold_turns.specs.Outgoing.{IsBounded}
use Rattle.mold_listen.specs.Listening.{IsInNextTurn}
use Rattle.mold_listen.proofs.TurnLemmas.{is_beside, is_loop, same_at_first, same_twice}
use Rattle.mold_listen.proofs.feed_listener.FeedListener.take_turns.Goals as goal

pub loop-turn-init : goal.loop-turn-init
loop-turn-init g c = record {
  going = λ t.
      beside_init (is_loop c.args.options.server c.args.options.burst) (is_beside c.args.options.server c.args.options.burst)
      _ (g.K.Sink.held c.args.sink.now) (g.E.Sink.held c.args.errors.now);
  bounded = λ bounded. bounded;
  live = refl;
  same = same_at_first c.args.self.now;
  sink = refl;
  errors = refl;
  format = refl;
  said = λ none. none;
  quiet = λ lines none. refl;
}

pub loop-turn-preserved : goal.loop-turn-preserved
loop-turn-preserved g c = record {
  going = λ t.
      let on = sym c.is_over.ensures ∙ c.if-is_over.false in
      beside_turned (is_loop c.args.options.server c.args.options.burst)
      (is_beside c.args.options.server c.args.options.burst) _ (c.loop-turn.invariant.going t)
      (c.in_ok-write_turn.ensures.run t) on;
  bounded = λ bounded.
      subst (λ (live : Bool). IsBounded live c.write_turn.new.self.printer.now.outgoing.text)
      c.loop-turn.invariant.live c.in_ok-write_turn.ensures.bounded;
  live = c.in_ok-write_turn.ensures.live ∙ c.loop-turn.invariant.live;
  same = same_twice c.loop-turn.invariant.same c.in_ok-write_turn.ensures.same;
  sink = c.in_ok-write_turn.ensures.sinks.0 ∙ c.loop-turn.invariant.sink;
  errors = c.in_ok-write_turn.ensures.sinks.1 ∙ c.loop-turn.invariant.errors;
  format = c.in_ok-write_turn.ensures.format ∙ c.loop-turn.invariant.format;
  said = λ none. c.in_ok-write_turn.ensures.said;
  quiet = λ lines none.
      (c.in_ok-write_turn.ensures.lines (c.loop-turn.invariant.format ∙ lines) (c.loop-turn.invariant.said none)).0
      ∙ c.loop-turn.invariant.quiet lines none;
}

pub returns-in_err-write_turn-clause-run : goal.returns-in_err-write_turn-clause-run
returns-in_err-write_turn-clause-run g c = λ t.
    beside_rests_broken (is_loop c.args.options.server c.args.options.burst)
    (is_beside c.args.options.server c.args.options.burst) c.from_residual.result c.write_turn.result
    c.args.options.turns _ (c.loop-turn.invariant.going t) c.loop-turn-test.true (c.write_turn.ensures.run t)
    c.from_residual.ensures.0

pub returns-in_err-write_turn-clause-live : goal.returns-in_err-write_turn-clause-live
returns-in_err-write_turn-clause-live g c = c.write_turn.ensures.live ∙ c.loop-turn.invariant.live

pub returns-in_err-write_turn-clause-same : goal.returns-in_err-write_turn-clause-same
returns-in_err-write_turn-clause-same g c =
    same_twice c.loop-turn.invariant.same c.write_turn.ensures.same

pub returns-in_err-write_turn-clause-sinks : goal.returns-in_err-write_turn-clause-sinks
returns-in_err-write_turn-clause-sinks g c =
    two_same c.from_residual.result c.in_err-write_turn.field-0.0 _ _ _ _ _ _ c.from_residual.ensures.1
    c.loop-turn.invariant.sink c.loop-turn.invariant.errors c.in_err-write_turn.ensures.sinks

pub returns-in_err-write_turn-clause-timely : goal.returns-in_err-write_turn-clause-timely
returns-in_err-write_turn-clause-timely g c =
    on_err c.from_residual.result
    (λ t bounded.
    let turned = c.write_turn.ensures.run t in
    in_time (is_loop c.args.options.server c.args.options.burst) (g.K.Sink.live c.args.sink.now)
    (IsInNextTurn (g.D.Datagrams.port c.write_turn.new.self.a.now) (g.D.Datagrams.port c.write_turn.new.self.b.now))
    turned.turn.written (c.loop-turn.invariant.going t).going
    (inr (c.write_turn.ensures.a t, c.write_turn.ensures.b t)) (c.loop-turn.invariant.bounded bounded)
    turned.turn.appended)

pub returns-then-is_over : goal.returns-then-is_over
returns-then-is_over g c = record {
  run = λ t.
      let over = sym c.is_over.ensures ∙ c.if-is_over.true in
      beside_rests_turned (is_loop c.args.options.server c.args.options.burst)
      (is_beside c.args.options.server c.args.options.burst) c.args.options.turns _
      (c.loop-turn.invariant.going t) c.loop-turn-test.true (c.in_ok-write_turn.ensures.run t) over;
  bounded = λ bounded.
      subst (λ (live : Bool). IsBounded live c.write_turn.new.self.printer.now.outgoing.text)
      c.loop-turn.invariant.live c.in_ok-write_turn.ensures.bounded;
  timely = tt;
  live = c.in_ok-write_turn.ensures.live ∙ c.loop-turn.invariant.live;
  same = same_twice c.loop-turn.invariant.same c.in_ok-write_turn.ensures.same;
  sinks = (
    c.in_ok-write_turn.ensures.sinks.0 ∙ c.loop-turn.invariant.sink,
    c.in_ok-write_turn.ensures.sinks.1 ∙ c.loop-turn.invariant.errors,
  );
  said = λ none. c.in_ok-write_turn.ensures.said;
  format = c.in_ok-write_turn.ensures.format ∙ c.loop-turn.invariant.format;
  lines = λ lines none. (
    (c.in_ok-write_turn.ensures.lines (c.loop-turn.invariant.format ∙ lines) (c.loop-turn.invariant.said none)).0
        ∙ c.loop-turn.invariant.quiet lines none,
    c.in_ok-write_turn.ensures.sinks.0 ∙ c.loop-turn.invariant.sink,
  );
}

pub returns : goal.returns
returns g c = record {
  run = λ t.
      let made : c.loop-turn._turn ≡ c.args.options.turns = omega (arith, c.loop-turn-test.false, c.loop-turn.auto._turn-end) in
      beside_rests_all (is_loop c.args.options.server c.args.options.burst)
      (is_beside c.args.options.server c.args.options.burst) c.args.options.turns made (c.loop-turn.invariant.going t);
  bounded = c.loop-turn.invariant.bounded;
  timely = tt;
  live = c.loop-turn.invariant.live;
  same = c.loop-turn.invariant.same;
  sinks = (c.loop-turn.invariant.sink, c.loop-turn.invariant.errors);
  said = c.loop-turn.invariant.said;
  format = c.loop-turn.invariant.format;
  lines = λ lines none. (c.loop-turn.invariant.quiet lines none, c.loop-turn.invariant.sink);
}

pub returns-in_err-write_turn-clause-format : goal.returns-in_err-write_turn-clause-format
returns-in_err-write_turn-clause-format g c = c.write_turn.ensures.format ∙ c.loop-turn.invariant.format

pub returns-in_err-write_turn-clause-lines : goal.returns-in_err-write_turn-clause-lines
returns-in_err-write_turn-clause-lines g c = λ lines none.
    let turned = c.in_err-write_turn.ensures.lines (c.loop-turn.invariant.format ∙ lines)
    (c.loop-turn.invariant.said none) in (
      turned.0 ∙ c.loop-turn.invariant.quiet lines none,
      counts_same c.from_residual.result c.in_err-write_turn.field-0.0 _ _ c.from_residual.ensures.1
          (subst (λ (n : ℕ). CountsSinkFault n (g.K.Sink.failed c.write_turn.new.sink) c.in_err-write_turn.field-0.0)
          c.loop-turn.invariant.sink turned.1),
    )
