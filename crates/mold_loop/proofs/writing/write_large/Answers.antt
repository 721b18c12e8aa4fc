use Rattle.std.proofs.Common.{◌∙◌, [], ap, refl, sym}
use Rattle.std.proofs.KnownBytes.{Appends-nil}
use Rattle.std.proofs.Common.{subst}
use Rattle.mold_devices.specs.Devices.{AppendsPrefix}
use Rattle.mold_loop.proofs.WritingLemmas.{write_fault}
use Rattle.mold_turns.proofs.FaultLemmas.{counts_write, two_said, two_write}
use Rattle.mold_turns.proofs.OutgoingLemmas.{said_front}
use Rattle.mold_turns.proofs.RunLemmas.{begins_none, begins_whole, none_ok}
use Rattle.mold_turns.specs.Outgoing.{OutgoingState}
use Rattle.mold_listen.proofs.TurnLemmas.{not_ok}
use Rattle.mold_loop.proofs.writing.write_large.Goals as goal

pub returns-in_err-send_side-clause-writes : goal.returns-in_err-send_side-clause-writes
returns-in_err-send_side-clause-writes g c =
    let cut = c.in_err-send_side.ensures.front in
    record {
      written = [];
      appended = Appends-nil (g.K.Sink.held c.args.sink.now);
      text = begins_none _;
      said = cut.front;
      told = cut.appended;
      side = record { rest = cut.rest; parts = cut.parts };
      whole = none_ok c.from_residual.result _ c.from_residual.ensures.0;
    }

pub returns-in_err-send_side-clause-format : goal.returns-in_err-send_side-clause-format
returns-in_err-send_side-clause-format g c = ap (λ (o : OutgoingState). o.format) c.in_err-send_side.ensures.same

pub returns-in_err-send_side-clause-fault : goal.returns-in_err-send_side-clause-fault
returns-in_err-send_side-clause-fault g c =
    write_fault c.from_residual.result c.in_err-send_side.field-0.0 c.from_residual.ensures.1
    c.in_err-send_side.ensures.fault

pub returns-in_err-send_side-clause-sinks : goal.returns-in_err-send_side-clause-sinks
returns-in_err-send_side-clause-sinks g c =
    two_said c.from_residual.result c.in_err-send_side.field-0.0 _ _ _ _ _ c.from_residual.ensures.1
    c.in_err-send_side.ensures.fault c.in_err-send_side.ensures.sink refl refl

pub returns-in_err-send_side-clause-quiet : goal.returns-in_err-send_side-clause-quiet
returns-in_err-send_side-clause-quiet g c = λ none. absurd (not_ok (c.in_err-send_side.ensures.none none).0)

pub returns-in_err-send_large-clause-writes : goal.returns-in_err-send_large-clause-writes
returns-in_err-send_large-clause-writes g c =
    let cut = subst
    (λ (o : OutgoingState). AppendsPrefix (g.K.Sink.held c.args.sink.now) (g.K.Sink.held c.send_large.new.sink) o.text)
    c.in_ok-send_side.ensures.empty c.send_large.ensures.front in
    record {
      written = cut.front;
      appended = cut.appended;
      text = record { rest = cut.rest; parts = cut.parts };
      said = c.args.outgoing.now.side;
      told = c.in_ok-send_side.ensures.whole;
      side = begins_whole c.args.outgoing.now.side;
      whole = none_ok c.from_residual-in_err-send_large.result _ c.from_residual-in_err-send_large.ensures.0;
    }

pub returns-in_err-send_large-clause-format : goal.returns-in_err-send_large-clause-format
returns-in_err-send_large-clause-format g c =
    c.send_large.ensures.format ∙ ap (λ (o : OutgoingState). o.format) c.in_ok-send_side.ensures.empty

pub returns-in_err-send_large-clause-fault : goal.returns-in_err-send_large-clause-fault
returns-in_err-send_large-clause-fault g c =
    write_fault c.from_residual-in_err-send_large.result c.in_err-send_large.field-0.0
    c.from_residual-in_err-send_large.ensures.1 c.in_err-send_large.ensures.fault

pub returns-in_err-send_large-clause-sinks : goal.returns-in_err-send_large-clause-sinks
returns-in_err-send_large-clause-sinks g c =
    two_write c.from_residual-in_err-send_large.result c.in_err-send_large.field-0.0 _ _ _ _ _
    c.from_residual-in_err-send_large.ensures.1 c.in_err-send_large.ensures.fault c.in_err-send_large.ensures.sink refl
    c.in_ok-send_side.ensures.sink

pub returns-in_err-send_large-clause-quiet : goal.returns-in_err-send_large-clause-quiet
returns-in_err-send_large-clause-quiet g c = λ none. (
  (c.in_ok-send_side.ensures.none none).1,
  counts_write c.from_residual-in_err-send_large.result c.in_err-send_large.field-0.0 _
      (g.K.Sink.failed c.args.sink.now) _ c.from_residual-in_err-send_large.ensures.1
      c.in_err-send_large.ensures.fault c.in_err-send_large.ensures.sink refl,
)

pub returns-clause-writes : goal.returns-clause-writes
returns-clause-writes g c =
    let moves = c.in_ok-send_large.ensures.moved in
    let empty = c.in_ok-send_side.ensures.empty in
    record {
      written = moves.front;
      appended = moves.appended;
      text = record {
        rest = c.send_large.new.self.text;
        parts = sym (ap (λ (o : OutgoingState). o.text) empty) ∙ moves.parts;
      };
      said = c.args.outgoing.now.side;
      told = c.in_ok-send_side.ensures.whole;
      side = begins_whole c.args.outgoing.now.side;
      whole =
          said_front c.args.outgoing.now c.send_side.new.self c.send_large.new.self moves.front empty moves.parts
          c.in_ok-send_large.ensures.failures c.in_ok-send_large.ensures.side c.in_ok-send_large.ensures.format
          c.in_ok-send_large.ensures.stopped;
    }

pub returns-clause-said : goal.returns-clause-said
returns-clause-said g c =
    c.in_ok-send_large.ensures.side ∙ ap (λ (o : OutgoingState). o.side) c.in_ok-send_side.ensures.empty

pub returns-clause-format : goal.returns-clause-format
returns-clause-format g c =
    c.in_ok-send_large.ensures.format ∙ ap (λ (o : OutgoingState). o.format) c.in_ok-send_side.ensures.empty

pub returns-clause-sinks : goal.returns-clause-sinks
returns-clause-sinks g c = (c.in_ok-send_large.ensures.sink, c.in_ok-send_side.ensures.sink)

pub returns-clause-quiet : goal.returns-clause-quiet
returns-clause-quiet g c = λ none. ((c.in_ok-send_side.ensures.none none).1, c.in_ok-send_large.ensures.sink)
