use Rattle.std.proofs.Common.{◌≡◌, ◌∙◌, ◌++◌, [], ℕ, inr, refl, subst, Bool, Ok, Result, Option, None, List, arith}
use Rattle.std.proofs.KnownBytes.{Appends-nil, Appends-trans}
use Rattle.mold_devices.specs.declared.fault.CommandFault.{CommandFault}
use Rattle.mold_serve.specs.Serving.{IsInNextTurn, ResponderState, Service, behind, service_of, serving, state}
use Rattle.mold_serve.proofs.FileErrorLemmas.{counts_after, refused_later}
use Rattle.mold_serve.proofs.ServingLemmas.{may_answer, same_at_first, same_twice, service_is, serving_is}
use Rattle.mold_turns.specs.Outgoing.{IsBounded}
use Rattle.mold_turns.specs.Runs.{Rests, TurnRests}
use Rattle.mold_turns.proofs.RunLemmas.{going_init, going_turned, in_time, on_err, rests_broken, rests_end}
use Rattle.mold_serve.proofs.responder.Responder.take_turns.Goals as goal

-- a turn with its write, for an equal service
served : {P T E : Type 0} {one other : Service} {start now : ResponderState P} {result : Result T E}
    {old new : Option (List ℕ)} → one ≡ other →
    TurnRests (serving one) behind start result old new now → TurnRests (serving other) behind start result old new now
served {P} {T} {E} {one} {other} {start} {now} {result} {old} {new} same turned =
    subst (λ (s : Service). TurnRests (serving s) behind start result old new now) same turned

pub loop-turn-init : goal.loop-turn-init
loop-turn-init g c = record {
  going = λ journal may modeled. going_init (serving_is (service_of journal c.args.self.now.server.now)) _ _;
  bounded = λ bounded. bounded;
  written = ([], Appends-nil _);
  live = refl;
  shown = λ journal shows. shows;
  same = same_at_first c.args.self.now;
  buffer = c.requires;
  failures = λ journal may. (refl, refl);
}

pub loop-turn-preserved : goal.loop-turn-preserved
loop-turn-preserved g c =
    let was = c.loop-turn.invariant in
    record {
      going = λ journal may modeled.
          going_turned (serving_is (service_of journal c.args.self.now.server.now)) _ (was.going journal may modeled)
          (served (service_is journal was.same)
          (c.in_ok-status.ensures.rests journal (may_answer was.same was.shown may) modeled)) refl;
      bounded = λ bounded.
          subst (λ (live : Bool). IsBounded live c.write_turn.new.self.tally.now.outgoing.text)
          was.live (rw c.in-None.is at c.in_ok-status.ensures.bounded);
      written =
          let more = rw c.in-None.is at c.in_ok-status.ensures.written in
          (was.written.0 ++ more.0, Appends-trans _ _ _ was.written.0 more.0 was.written.1 more.1);
      live = c.in_ok-status.ensures.live ∙ was.live;
      shown = λ journal shows. c.in_ok-status.ensures.shown journal (was.shown journal shows);
      same = same_twice was.same c.in_ok-status.ensures.same;
      buffer = c.write_turn.auto.buffer ∙ was.buffer;
      failures = λ journal may.
          let turned = c.in_ok-status.ensures.failures journal (may_answer was.same was.shown may) in
          let before = was.failures journal may in (turned.0 ∙ before.0, turned.1 ∙ before.1);
    }

pub returns-in_err-status-clause-rests : goal.returns-in_err-status-clause-rests
returns-in_err-status-clause-rests g c journal may modeled =
    let was = c.loop-turn.invariant in
    rests_broken (serving_is (service_of journal c.args.self.now.server.now)) c.from_residual.result
    c.write_turn.result c.args.turns _
    (was.going journal may modeled) c.loop-turn-test.true
    (served (service_is journal was.same)
    (c.write_turn.ensures.rests journal (may_answer was.same was.shown may) modeled)) c.from_residual.ensures.0

pub returns-in_err-status-clause-live : goal.returns-in_err-status-clause-live
returns-in_err-status-clause-live g c = c.write_turn.ensures.live ∙ c.loop-turn.invariant.live

pub returns-in_err-status-clause-same : goal.returns-in_err-status-clause-same
returns-in_err-status-clause-same g c =
    same_twice c.loop-turn.invariant.same c.write_turn.ensures.same

pub returns-in_err-status-clause-failures : goal.returns-in_err-status-clause-failures
returns-in_err-status-clause-failures g c journal may =
    let was = c.loop-turn.invariant in
    let before = was.failures journal may in
    counts_after c.from_residual.result c.in_err-status.field-0.0 _ _ _ _ _ _ c.from_residual.ensures.1
    before.0 before.1 (c.in_err-status.ensures.failures journal (may_answer was.same was.shown may))

pub returns-in_err-status-clause-timely : goal.returns-in_err-status-clause-timely
returns-in_err-status-clause-timely g c =
    on_err c.from_residual.result
    (λ journal may t bounded.
    let was = c.loop-turn.invariant in
    let turned = c.write_turn.ensures.rests journal (may_answer was.same was.shown may) t in
    in_time (serving_is (service_of journal c.args.self.now.server.now)) (g.K.Sink.live c.args.sink.now)
    (IsInNextTurn (g.D.Datagrams.port c.write_turn.new.self.port.now)) turned.written (was.going journal may t)
    (inr (c.write_turn.ensures.comes t)) (was.bounded bounded) turned.appended)

pub returns-clause-rests : goal.returns-clause-rests
returns-clause-rests g c journal may modeled =
    let from = service_of journal c.args.self.now.server.now in
    let all : c.loop-turn._turn ≡ c.args.turns = omega (arith, c.loop-turn.auto._turn-end, c.loop-turn-test.false) in
    subst
    (λ (n : ℕ).
    Rests {T = Option ℕ} {E = CommandFault} (serving from) behind n
    (state g.D.Datagrams.port c.args.self.now) (Ok None)
    (g.K.Sink.held c.args.sink.now) (g.K.Sink.held c.loop-turn.sink)
    (state g.D.Datagrams.port c.loop-turn.self))
    all
    (rests_end (serving_is from) (Ok None) (c.loop-turn.invariant.going journal may modeled))

pub returns-clause-bounded : goal.returns-clause-bounded
returns-clause-bounded g c = c.loop-turn.invariant.bounded

pub returns-clause-live : goal.returns-clause-live
returns-clause-live g c = c.loop-turn.invariant.live

pub returns-clause-same : goal.returns-clause-same
returns-clause-same g c = c.loop-turn.invariant.same

pub returns-clause-failures : goal.returns-clause-failures
returns-clause-failures g c = c.loop-turn.invariant.failures

-- only a journal of which nothing is known ends the loop early
pub returns-in-Some-clause-rests : goal.returns-in-Some-clause-rests
returns-in-Some-clause-rests g c journal may modeled =
    let was = c.loop-turn.invariant in
    absurd ((rw c.in-Some.is at c.in_ok-status.ensures.ended) journal (may_answer was.same was.shown may))

pub returns-in-Some-clause-ended : goal.returns-in-Some-clause-ended
returns-in-Some-clause-ended g c journal may =
    let was = c.loop-turn.invariant in
    (rw c.in-Some.is at c.in_ok-status.ensures.ended) journal (may_answer was.same was.shown may)

pub returns-in-Some-clause-failures : goal.returns-in-Some-clause-failures
returns-in-Some-clause-failures g c journal may =
    let was = c.loop-turn.invariant in
    absurd ((rw c.in-Some.is at c.in_ok-status.ensures.ended) journal (may_answer was.same was.shown may))

pub returns-in-Some-clause-same : goal.returns-in-Some-clause-same
returns-in-Some-clause-same g c = same_twice c.loop-turn.invariant.same c.in_ok-status.ensures.same

-- ---- what was written

pub returns-in-Some-clause-refused : goal.returns-in-Some-clause-refused
returns-in-Some-clause-refused g c =
    let was = c.loop-turn.invariant in
    let ended = rw c.in-Some.is at c.in_ok-status.ensures.refused in
    (ended.0, refused_later was.written.0 was.written.1 ended.1)

pub returns-clause-written : goal.returns-clause-written
returns-clause-written g c = c.loop-turn.invariant.written
