use Rattle.std.proofs.Common.{◌≡◌, ◌∙◌, ℕ, Err, List, Result, ap, inl, inr, refl, subst, take}
use Rattle.mold_devices.specs.Devices.{AppendsPrefix}
use Rattle.mold_devices.specs.declared.fault.CommandFault.{CommandFault}
use Rattle.mold_devices.proofs.WritingLemmas.{ends_front}
use Rattle.mold_ports.specs.Ports.{Port}
use Rattle.mold_serve.specs.Serving.{IsInNextTurn, ResponderState, served_by, service_of, state}
use Rattle.mold_serve.specs.Tally.{served_line}
use Rattle.mold_serve.specs.declared.tally.Tally.{Tally}
use Rattle.mold_serve.proofs.FileErrorLemmas.{counts_ended, served_later}
use Rattle.mold_serve.proofs.ServingLemmas.{serving_is}
use Rattle.mold_session.specs.Server.{ServerState}
use Rattle.mold_turns.proofs.PrintingLemmas.{front_more, kept_begins}
use Rattle.mold_turns.proofs.RunLemmas.{in_time_end, on_err, ran_cut, ran_front, ran_whole}
use Rattle.mold_serve.proofs.responder.Responder.serve.Goals as goal

-- the last line, and that port and server are as at the end
abbrev last : {P : Type 0} → ResponderState P → List ℕ
last responder = served_line responder.tally

abbrev Agrees : {P : Type 0} → Port P → ServerState → ServerState → ResponderState P → Type 0
Agrees port old new responder = (port ≡ responder.port) × (new ≡ served_by old responder)

pub returns-in_err-status-clause-run : goal.returns-in_err-status-clause-run
returns-in_err-status-clause-run g c journal may modeled =
    ran_cut (serving_is (service_of journal c.args.self.now.server.now)) c.args.turns
    (state g.D.Datagrams.port c.args.self.now) last (λ responder. 0) _
    c.take_turns.result c.from_residual.result
    (c.take_turns.ensures.rests journal may modeled) c.from_residual.ensures.0

pub returns-in_default-clause-run : goal.returns-in_default-clause-run
returns-in_default-clause-run g c journal may modeled =
    let before = c.take_turns.new.self.tally.now.outgoing.text in
    let result : Result ℕ CommandFault = Err c.end_with.result in
    ran_front (serving_is (service_of journal c.args.self.now.server.now)) c.args.turns
    (state g.D.Datagrams.port c.args.self.now) last (λ responder. 0) _
    (λ front responder. refl) c.in_ok-status.field-0
    (state g.D.Datagrams.port c.take_turns.new.self)
    (c.in_ok-status.ensures.rests journal may modeled)
    result _ refl
    (front_more _ _ before _
    (subst (λ (text : List ℕ). AppendsPrefix (g.K.Sink.held c.take_turns.new.sink) (g.K.Sink.held c.end_with.new.sink) text)
    (ap (λ (n : ℕ). take n c.push_last.new.self.outgoing.text) c.unwritten-told.ensures
    ∙ kept_begins before _ c.push_last.ensures.prints)
    (ends_front c.end_with.ensures.ends)))
    refl

pub returns-in_default-clause-failures : goal.returns-in_default-clause-failures
returns-in_default-clause-failures g c journal may =
    let before = c.in_ok-status.ensures.failures journal may in
    counts_ended _ _ _ _ _ before.0 before.1 c.end_with.ensures.ends

pub returns-in_err-send-clause-run : goal.returns-in_err-send-clause-run
returns-in_err-send-clause-run g c journal may modeled =
    ran_front (serving_is (service_of journal c.args.self.now.server.now)) c.args.turns
    (state g.D.Datagrams.port c.args.self.now) last (λ responder. 0) _
    (λ front responder. refl) c.in_ok-status.field-0
    (state g.D.Datagrams.port c.take_turns.new.self)
    (c.in_ok-status.ensures.rests journal may modeled)
    c.from_residual-in_err-send.result c.push_last.new.self.outgoing.text
    (ap (λ (tally : Tally). tally.outgoing.text) c.in-Ok.ensures.line)
    c.in_err-send.ensures.front c.from_residual-in_err-send.ensures.0

pub returns-clause-run : goal.returns-clause-run
returns-clause-run g c journal may modeled =
    ran_whole (serving_is (service_of journal c.args.self.now.server.now)) c.args.turns
    (state g.D.Datagrams.port c.args.self.now) last (λ responder. 0)
    (Agrees (g.D.Datagrams.port c.take_turns.new.self.port.now) c.args.self.now.server.now c.take_turns.new.self.server.now)
    (λ front responder. refl) c.in_ok-status.field-0
    (state g.D.Datagrams.port c.take_turns.new.self)
    (c.in_ok-status.ensures.rests journal may modeled)
    0 c.push_last.new.self.outgoing.text
    (ap (λ (tally : Tally). tally.outgoing.text) c.in-Ok.ensures.line)
    c.in_ok-send.ensures.whole refl (refl, c.in_ok-status.ensures.same.limits)

-- ---- what a fault finds unwritten

pub returns-in_err-status-clause-timely : goal.returns-in_err-status-clause-timely
returns-in_err-status-clause-timely g c = on_err c.from_residual.result c.in_err-status.ensures.timely

pub returns-in_default-clause-timely : goal.returns-in_default-clause-timely
returns-in_default-clause-timely g c = λ journal may t bounded.
    let cut = ends_front c.end_with.ensures.ends in
    in_time_end (serving_is (service_of journal c.args.self.now.server.now)) (g.K.Sink.live c.args.sink.now)
    (IsInNextTurn (g.D.Datagrams.port c.take_turns.new.self.port.now)) cut.front
    (c.in_ok-status.ensures.rests journal may t) (inl refl) ((rw c.in-None.is at c.in_ok-status.ensures.bounded) bounded) cut.appended

pub returns-in_err-send-clause-timely : goal.returns-in_err-send-clause-timely
returns-in_err-send-clause-timely g c =
    on_err c.from_residual-in_err-send.result
    (λ journal may t bounded.
    let cut = c.in_err-send.ensures.front in
    in_time_end (serving_is (service_of journal c.args.self.now.server.now)) (g.K.Sink.live c.args.sink.now)
    (IsInNextTurn (g.D.Datagrams.port c.take_turns.new.self.port.now)) cut.front
    (c.in_ok-status.ensures.rests journal may t) (inl refl) ((rw c.in-None.is at c.in_ok-status.ensures.bounded) bounded) cut.appended)

-- ---- a loop that ended early

pub returns-in-Some-clause-run : goal.returns-in-Some-clause-run
returns-in-Some-clause-run g c journal may modeled =
    absurd ((rw c.in-Some.is at c.in_ok-status.ensures.ended) journal may)

pub returns-in-Some-clause-whole : goal.returns-in-Some-clause-whole
returns-in-Some-clause-whole g c journal may =
    absurd ((rw c.in-Some.is at c.in_ok-status.ensures.ended) journal may)

pub returns-in-Some-clause-failures : goal.returns-in-Some-clause-failures
returns-in-Some-clause-failures g c journal may =
    absurd ((rw c.in-Some.is at c.in_ok-status.ensures.ended) journal may)

-- ---- what was written

pub returns-in-Some-clause-status : goal.returns-in-Some-clause-status
returns-in-Some-clause-status g c = inr (rw c.in-Some.is at c.in_ok-status.ensures.refused)

pub returns-clause-status : goal.returns-clause-status
returns-clause-status g c =
    let written = rw c.in-None.is at c.in_ok-status.ensures.written in
    inl (
      refl,
      served_later _ _ _ written.0 _ _ c.take_turns.new.self.tally.now written.1
          (ap (λ (tally : Tally). tally.outgoing.text) c.in-Ok.ensures.line) c.in_ok-send.ensures.whole,
    )
