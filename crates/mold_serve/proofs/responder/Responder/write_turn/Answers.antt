use Rattle.std.proofs.Common.{◌≡◌, ℕ, List, length, ap, refl, subst, take, ◌∙◌}
use Rattle.std.specs.Io.KnownBytes.{Appends}
use Rattle.mold_devices.specs.Devices.{AppendsPrefix}
use Rattle.mold_devices.proofs.WritingLemmas.{not_memory}
use Rattle.mold_serve.specs.Serving.{service_of, state}
use Rattle.mold_serve.proofs.FileErrorLemmas.{kept_refused, not_refused, refused_counts, refused_front}
use Rattle.mold_serve.proofs.ServingLemmas.{serving_is, wrote}
use Rattle.mold_turns.proofs.PrintingLemmas.{kept_begins}
use Rattle.mold_turns.specs.Runs.{Begins}
use Rattle.mold_turns.proofs.RunLemmas.{turn_cut, turn_failed, turn_sent}
use Rattle.mold_serve.proofs.responder.Responder.write_turn.Goals as goal

-- the text before the failed turn
told : (old new : List ℕ) (len : ℕ) → Begins old new → len ≡ length old → take len new ≡ old
told old new len begins is = ap (λ (n : ℕ). take n new) is ∙ kept_begins old new begins

pub returns-in_err-end_refused-in-Err-clause-rests : goal.returns-in_err-end_refused-in-Err-clause-rests
returns-in_err-end_refused-in-Err-clause-rests g c journal may modeled =
    let turned = c.in-Err.ensures.turn journal may modeled in
    let before = c.args.self.now.tally.now.outgoing.text in
    let after = c.take_turn.new.self.tally.now.outgoing.text in
    turn_failed (serving_is (service_of journal c.args.self.now.server.now)) c.from_residual.result turned.0 _
    (subst
    (λ (text : List ℕ). AppendsPrefix (g.K.Sink.held c.args.sink.now) (g.K.Sink.held c.end_refused.new.sink) text)
    (told before after _ c.take_turn.ensures.prints c.unwritten-told.ensures)
    (refused_front c.in-Err.error c.in_err-end_refused-in-Err.field-0.0 _ _ _ _ _ c.in_err-end_refused-in-Err.ensures.met
    (c.in-Err.ensures.refused journal may)))
    turned.1.sent c.from_residual.ensures.0

pub returns-in_err-end_refused-in-Err-clause-failures : goal.returns-in_err-end_refused-in-Err-clause-failures
returns-in_err-end_refused-in-Err-clause-failures g c journal may =
    refused_counts c.in-Err.error c.in_err-end_refused-in-Err.field-0.0 _ _ _ _ _ c.in_err-end_refused-in-Err.ensures.met
    c.from_residual.result _ _ c.from_residual.ensures.1 (c.in-Err.ensures.refused journal may)
    c.in-Err.ensures.failures

pub returns-in_err-end_refused-in-Err-clause-kept : goal.returns-in_err-end_refused-in-Err-clause-kept
returns-in_err-end_refused-in-Err-clause-kept g c =
    let before = c.args.self.now.tally.now.outgoing.text in
    let after = c.take_turn.new.self.tally.now.outgoing.text in
    kept_refused c.from_residual.result c.in_err-end_refused-in-Err.field-0.0 _ _ c.from_residual.ensures.1
    (subst (λ (text : List ℕ). Appends (g.K.Sink.held c.args.sink.now) (g.K.Sink.held c.end_refused.new.sink) text)
    (told before after _ c.take_turn.ensures.prints c.unwritten-told.ensures))
    c.in_err-end_refused-in-Err.ensures.kept

pub returns-in-Err-clause-ended : goal.returns-in-Err-clause-ended
returns-in-Err-clause-ended g c journal may =
    not_refused c.in-Err.error (c.in-Err.ensures.refused journal may) c.in_ok-end_refused-in-Err.ensures.refused

pub returns-in-Err-clause-failures : goal.returns-in-Err-clause-failures
returns-in-Err-clause-failures g c journal may =
    absurd (not_refused c.in-Err.error (c.in-Err.ensures.refused journal may) c.in_ok-end_refused-in-Err.ensures.refused)

pub returns-in-Err-clause-rests : goal.returns-in-Err-clause-rests
returns-in-Err-clause-rests g c journal may modeled =
    absurd (not_refused c.in-Err.error (c.in-Err.ensures.refused journal may) c.in_ok-end_refused-in-Err.ensures.refused)

pub returns-in_err-send_large-clause-rests : goal.returns-in_err-send_large-clause-rests
returns-in_err-send_large-clause-rests g c journal may modeled =
    let turned = c.in-Ok.ensures.turn journal may modeled in
    turn_cut (serving_is (service_of journal c.args.self.now.server.now)) c.from_residual-in_err-send_large.result turned.0
    (state g.D.Datagrams.port c.take_turn.new.self) _ turned.1.whole c.in_err-send_large.ensures.front refl
    c.from_residual-in_err-send_large.ensures.0

pub returns-clause-rests : goal.returns-clause-rests
returns-clause-rests g c journal may modeled =
    let turned = c.in-Ok.ensures.turn journal may modeled in
    turn_sent (serving_is (service_of journal c.args.self.now.server.now)) _ turned.0
    (state g.D.Datagrams.port c.take_turn.new.self) _ turned.1.whole c.in_ok-send_large.ensures.moved
    (wrote _ c.take_turn.new.self.tally.now c.send_large.new.self _ _ c.in_ok-send_large.ensures.moved.parts
    c.in_ok-send_large.ensures.failures c.in_ok-send_large.ensures.side c.in_ok-send_large.ensures.format
    c.in_ok-send_large.ensures.stopped)

-- a fault of the sink is not one of memory
pub returns-in_err-send_large-clause-kept : goal.returns-in_err-send_large-clause-kept
returns-in_err-send_large-clause-kept g c =
    not_memory c.from_residual-in_err-send_large.result c.in_err-send_large.field-0.0 _ c.from_residual-in_err-send_large.ensures.1
    c.in_err-send_large.ensures.fault

-- ---- what was written

pub returns-in-Err-clause-refused : goal.returns-in-Err-clause-refused
returns-in-Err-clause-refused g c =
    let ended = c.in_ok-end_refused-in-Err.ensures in (
      ended.status,
      record { text = _; error = c.in-Err.error; bytes = ended.refused; appended = ended.line },
    )

pub returns-clause-written : goal.returns-clause-written
returns-clause-written g c =
    let moved = c.in_ok-send_large.ensures.moved in (moved.front, moved.appended)
