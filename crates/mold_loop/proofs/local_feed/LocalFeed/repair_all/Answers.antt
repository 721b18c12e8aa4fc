use Rattle.std.proofs.Common.{arith, ◌≡◌, ◌≤◌, ◌∙◌, Bool, ℕ, ap, refl, subst, sym}
use Rattle.mold_devices.specs.Faults.{CountsSinkFault}
use Rattle.mold_loop.specs.LocalFeed.{rounds}
use Rattle.mold_loop.specs.Repairing.{answers_sent}
use Rattle.mold_turns.specs.Outgoing.{IsBounded}
use Rattle.mold_serve.specs.Serving.{service_of}
use Rattle.mold_receiver.specs.Wanted.{wanted}
use Rattle.mold_session.specs.Server.{ServerState}
use Rattle.mold_loop.proofs.LocalFeedLemmas.{repairs_at_first, repairs_twice, round_from}
use Rattle.mold_turns.proofs.FaultLemmas.{counts_same, two_same}
use Rattle.mold_turns.proofs.RunLemmas.{beside_init, beside_turned, two_all, two_broken}
use Rattle.mold_loop.proofs.RepairLemmas.{rests_still, round_answers, rounds_apart, rounds_are}
use Rattle.mold_serve.proofs.ServingLemmas.{same_service}
use Rattle.mold_loop.proofs.local_feed.LocalFeed.repair_all.Goals as goal

pub loop-turn-init : goal.loop-turn-init
loop-turn-init g c = record {
  going = λ t.
      let service = service_of c.args.journal.now c.args.server.now in
      beside_init (rounds_are c.args.self.now.options.now.peers.server service)
      (rounds_apart c.args.self.now.options.now.peers.server service) _ (g.K.Sink.held c.args.sink.now)
      (g.E.Sink.held c.args.errors.now);
  server = refl;
  only = repairs_at_first c.args.self.now;
  bounded = c.requires.bounded;
  live = refl;
  sink = refl;
  errors = refl;
  plain = λ plain. plain;
  quiet = λ plain. refl;
}

pub write_round-requires-clause-longest : goal.write_round-requires-clause-longest
write_round-requires-clause-longest g c =
    subst (λ (n : ℕ). c.args.journal.now.max_message ≤ n)
    (sym (ap (λ (s : ServerState). s.max_message) c.loop-turn.invariant.server))
    c.requires.longest

pub write_round-requires-clause-wanted : goal.write_round-requires-clause-wanted
write_round-requires-clause-wanted g c = ap wanted (sym c.receiver.ensures) ∙ sym c.in-Some.ensures.wanted

pub loop-turn-preserved : goal.loop-turn-preserved
loop-turn-preserved g c = record {
  going = λ t.
      let service = service_of c.args.journal.now c.args.server.now in
      let made = round_from
      (same_service c.args.journal.now c.loop-turn.server c.args.server.now _ c.loop-turn.invariant.server)
      c.loop-turn.invariant.only.same (c.in_ok-write_round.ensures.rests t) in
      let to = c.args.self.now.options.now.peers.server in
      beside_turned (rounds_are to service) (rounds_apart to service)
      (rounds g.D.Datagrams.port c.write_round.new.server c.write_round.new.self) (c.loop-turn.invariant.going t) made.turn
      refl;
  server =
      c.write_round.ensures.server
      ∙ ap (λ (s : ServerState). record s { answered = c.write_round.new.server.answered }) c.loop-turn.invariant.server;
  only = repairs_twice c.loop-turn.invariant.only c.write_round.ensures.only;
  bounded =
      subst (λ (live : Bool). IsBounded live c.write_round.new.self.listener.now.printer.outgoing.text)
      c.loop-turn.invariant.live c.in_ok-write_round.ensures.bounded;
  live = c.in_ok-write_round.ensures.live ∙ c.loop-turn.invariant.live;
  sink = c.in_ok-write_round.ensures.sinks.0 ∙ c.loop-turn.invariant.sink;
  errors = c.in_ok-write_round.ensures.sinks.1 ∙ c.loop-turn.invariant.errors;
  plain = λ plain. c.in_ok-write_round.ensures.plain (c.loop-turn.invariant.plain plain);
  quiet = λ plain.
      (c.in_ok-write_round.ensures.quiet (c.loop-turn.invariant.plain plain)).0 ∙ c.loop-turn.invariant.quiet plain;
}

pub returns-in_default-clause-rests : goal.returns-in_default-clause-rests
returns-in_default-clause-rests g c = λ t.
    rests_still c.args.self.now.options.now.peers.server (service_of c.args.journal.now c.args.server.now) _ _ _ _ _ _
    c.loop-turn._turn c.args.self.now.options.now.turns (c.loop-turn.invariant.going t) (omega (arith, c.loop-turn-test.true))
    (ap wanted (sym c.receiver.ensures) ∙ sym c.in_default.ensures.wanted)

pub returns-in_default-clause-only : goal.returns-in_default-clause-only
returns-in_default-clause-only g c = c.loop-turn.invariant.only

pub returns-in_default-clause-bounded : goal.returns-in_default-clause-bounded
returns-in_default-clause-bounded g c = c.loop-turn.invariant.bounded

pub returns-in_default-clause-live : goal.returns-in_default-clause-live
returns-in_default-clause-live g c = c.loop-turn.invariant.live

pub returns-in_err-write_round-clause-rests : goal.returns-in_err-write_round-clause-rests
returns-in_err-write_round-clause-rests g c = λ t.
    let to = c.args.self.now.options.now.peers.server in
    let service = service_of c.args.journal.now c.args.server.now in
    two_broken (rounds_are to service) (rounds_apart to service) answers_sent (λ front s. refl) (λ said s. refl)
    (round_answers to service)
    c.from_residual.result c.write_round.result c.args.self.now.options.now.turns
    (rounds g.D.Datagrams.port c.write_round.new.server c.write_round.new.self) (c.loop-turn.invariant.going t)
    c.loop-turn-test.true
    (round_from (same_service c.args.journal.now c.loop-turn.server c.args.server.now _ c.loop-turn.invariant.server)
    c.loop-turn.invariant.only.same (c.write_round.ensures.rests t))
    c.from_residual.ensures.0

pub returns-in_err-write_round-clause-only : goal.returns-in_err-write_round-clause-only
returns-in_err-write_round-clause-only g c = repairs_twice c.loop-turn.invariant.only c.write_round.ensures.only

pub returns-in_err-write_round-clause-live : goal.returns-in_err-write_round-clause-live
returns-in_err-write_round-clause-live g c = c.write_round.ensures.live ∙ c.loop-turn.invariant.live

pub returns-in_err-write_round-clause-sinks : goal.returns-in_err-write_round-clause-sinks
returns-in_err-write_round-clause-sinks g c =
    two_same c.from_residual.result c.in_err-write_round.field-0.0 _ _ _ _ _ _ c.from_residual.ensures.1
    c.loop-turn.invariant.sink c.loop-turn.invariant.errors c.in_err-write_round.ensures.sinks

pub returns-in_err-write_round-clause-quiet : goal.returns-in_err-write_round-clause-quiet
returns-in_err-write_round-clause-quiet g c = λ plain.
    let quiet = c.in_err-write_round.ensures.quiet (c.loop-turn.invariant.plain plain) in (
      quiet.0 ∙ c.loop-turn.invariant.quiet plain,
      counts_same c.from_residual.result c.in_err-write_round.field-0.0 _ _ c.from_residual.ensures.1
          (subst (λ (n : ℕ). CountsSinkFault n (g.K.Sink.failed c.write_round.new.sink) c.in_err-write_round.field-0.0)
          c.loop-turn.invariant.sink quiet.1),
    )

pub returns-in_default-clause-sinks : goal.returns-in_default-clause-sinks
returns-in_default-clause-sinks g c = (c.loop-turn.invariant.sink, c.loop-turn.invariant.errors)

pub returns-in_default-clause-plain : goal.returns-in_default-clause-plain
returns-in_default-clause-plain g c = c.loop-turn.invariant.plain

pub returns-in_default-clause-quiet : goal.returns-in_default-clause-quiet
returns-in_default-clause-quiet g c = λ plain. (c.loop-turn.invariant.quiet plain, c.loop-turn.invariant.sink)

pub returns-clause-sinks : goal.returns-clause-sinks
returns-clause-sinks g c = (c.loop-turn.invariant.sink, c.loop-turn.invariant.errors)

pub returns-clause-plain : goal.returns-clause-plain
returns-clause-plain g c = c.loop-turn.invariant.plain

pub returns-clause-quiet : goal.returns-clause-quiet
returns-clause-quiet g c = λ plain. (c.loop-turn.invariant.quiet plain, c.loop-turn.invariant.sink)

pub returns-clause-rests : goal.returns-clause-rests
returns-clause-rests g c = λ t.
    let to = c.args.self.now.options.now.peers.server in
    let made : c.loop-turn._turn ≡ c.args.self.now.options.now.turns = omega (arith, c.loop-turn-test.false, c.loop-turn.auto._turn-end) in
    let service = service_of c.args.journal.now c.args.server.now in
    two_all (rounds_are to service) (rounds_apart to service) answers_sent (λ front s. refl) (λ said s. refl)
    (round_answers to service) c.args.self.now.options.now.turns made (c.loop-turn.invariant.going t)

pub returns-clause-only : goal.returns-clause-only
returns-clause-only g c = c.loop-turn.invariant.only

pub returns-clause-bounded : goal.returns-clause-bounded
returns-clause-bounded g c = c.loop-turn.invariant.bounded

pub returns-clause-live : goal.returns-clause-live
returns-clause-live g c = c.loop-turn.invariant.live
