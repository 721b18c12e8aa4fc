use Rattle.std.proofs.Common.{◌≡◌, ◌∙◌, ℕ, [], Err, List, Result, ap, length, refl, subst, sym, take}
use Rattle.std.specs.Io.KnownBytes.{Appends}
use Rattle.std.proofs.KnownBytes.{Appends-nil}
use Rattle.mold_devices.specs.Devices.{AppendsPrefix}
use Rattle.mold_devices.proofs.WritingLemmas.{ends_front, ends_sink, ends_whole, not_memory}
use Rattle.mold_devices.specs.declared.fault.CommandFault.{CommandFault}
use Rattle.mold_turns.specs.Outgoing.{OutgoingState}
use Rattle.mold_turns.specs.Runs.{Begins}
use Rattle.mold_turns.proofs.FaultLemmas.{counts_write, two_faults, two_said, two_write}
use Rattle.mold_turns.proofs.PrintingLemmas.{front_none, kept_begins}
use Rattle.mold_turns.proofs.RunLemmas.{begins_none, begins_whole, turn_cut, turn_failed, turn_sent}
use Rattle.mold_listen.specs.Listening.{ListenerState, listener, side_text, state}
use Rattle.mold_listen.proofs.TurnLemmas.{is_loop, moved_same, not_ok}
use Rattle.mold_listen.proofs.feed_listener.FeedListener.write_turn.Goals as goal

-- the text before the failed turn
told : (old new : List ℕ) (len : ℕ) → Begins old new → len ≡ length old → take len new ≡ old
told old new len begins is = ap (λ (n : ℕ). take n new) is ∙ kept_begins old new begins

pub returns-in_default-clause-run : goal.returns-in_default-clause-run
returns-in_default-clause-run g c = λ t.
    let turned = c.take_turn.ensures.turned t in
    let before = c.args.self.now.printer.now.outgoing.text in
    let after = c.take_turn.new.self.printer.now.outgoing.text in
    let result : Result (Unit {0}) CommandFault = Err c.end_with.result in
    record {
      said = [];
      appended = Appends-nil (g.E.Sink.held c.args.errors.now);
      turn =
          turn_failed (is_loop c.args.options.server c.args.options.burst) result turned.fails _
          (subst (λ (text : List ℕ). AppendsPrefix (g.K.Sink.held c.args.sink.now) (g.K.Sink.held c.end_with.new.sink) text)
          (told before after _ c.take_turn.ensures.prints c.unwritten-told.ensures) (ends_front c.end_with.ensures.ends))
          turned.sent refl;
      front = begins_none _;
    }

pub returns-in_default-clause-kept : goal.returns-in_default-clause-kept
returns-in_default-clause-kept g c = λ is.
    let before = c.args.self.now.printer.now.outgoing.text in
    let after = c.take_turn.new.self.printer.now.outgoing.text in
    subst (λ (text : List ℕ). Appends (g.K.Sink.held c.args.sink.now) (g.K.Sink.held c.end_with.new.sink) text)
    (told before after _ c.take_turn.ensures.prints c.unwritten-told.ensures) (ends_whole c.end_with.ensures.ends is)

pub returns-in_default-clause-same : goal.returns-in_default-clause-same
returns-in_default-clause-same g c =
    let same = c.take_turn.ensures.same in
    record { a = same.a; b = same.b; requests = same.requests; arbiter = same.arbiter; printer = same.printer }

pub returns-in_default-clause-sinks : goal.returns-in_default-clause-sinks
returns-in_default-clause-sinks g c = two_faults _ _ _ _ c.end_with.result (ends_sink c.end_with.ensures.ends) refl

pub returns-in_err-send_side-clause-run : goal.returns-in_err-send_side-clause-run
unfolding turn_cut
returns-in_err-send_side-clause-run g c = λ t.
    let turned = c.in-Ok.ensures.turned t in
    let made = state g.D.Datagrams.port c.take_turn.new.self in
    let cut = c.in_err-send_side.ensures.front in
    record {
      said = cut.front;
      appended = cut.appended;
      turn =
          turn_cut (is_loop c.args.options.server c.args.options.burst) c.from_residual.result turned.fails made _
          turned.whole (front_none (g.K.Sink.held c.args.sink.now) made.progress.outgoing.text) refl
          c.from_residual.ensures.0;
      front =
          subst (λ (s : ListenerState _). Begins cut.front (side_text s)) turned.whole
          (record { rest = cut.rest; parts = cut.parts });
    }

pub returns-in_err-send_side-clause-same : goal.returns-in_err-send_side-clause-same
returns-in_err-send_side-clause-same g c =
    let same = c.in-Ok.ensures.same in
    record { a = same.a; b = same.b; requests = same.requests; arbiter = same.arbiter; printer = same.printer }

pub returns-in_err-send_side-clause-sinks : goal.returns-in_err-send_side-clause-sinks
returns-in_err-send_side-clause-sinks g c =
    two_said c.from_residual.result c.in_err-send_side.field-0.0 _ _ _ _ _ c.from_residual.ensures.1
    c.in_err-send_side.ensures.fault c.in_err-send_side.ensures.sink refl refl

pub returns-in_err-send_side-clause-kept : goal.returns-in_err-send_side-clause-kept
returns-in_err-send_side-clause-kept g c =
    not_memory c.from_residual.result c.in_err-send_side.field-0.0 _ c.from_residual.ensures.1
    c.in_err-send_side.ensures.fault

pub returns-in_err-send_large-clause-run : goal.returns-in_err-send_large-clause-run
unfolding turn_cut
returns-in_err-send_large-clause-run g c = λ t.
    let turned = c.in-Ok.ensures.turned t in
    let made = state g.D.Datagrams.port c.take_turn.new.self in
    record {
      said = side_text made;
      appended = c.in_ok-send_side.ensures.whole;
      turn =
          turn_cut (is_loop c.args.options.server c.args.options.burst) c.from_residual-in_err-send_large.result
          turned.fails made _ turned.whole
          (subst (λ (o : OutgoingState). AppendsPrefix (g.K.Sink.held c.args.sink.now) (g.K.Sink.held c.send_large.new.sink) o.text)
          c.in_ok-send_side.ensures.empty c.send_large.ensures.front) refl
          c.from_residual-in_err-send_large.ensures.0;
      front =
          subst (λ (s : ListenerState _). Begins (side_text made) (side_text s)) turned.whole
          (begins_whole (side_text made));
    }

pub returns-in_err-send_large-clause-same : goal.returns-in_err-send_large-clause-same
returns-in_err-send_large-clause-same g c =
    let same = c.in-Ok.ensures.same in
    record { a = same.a; b = same.b; requests = same.requests; arbiter = same.arbiter; printer = same.printer }

pub returns-in_err-send_large-clause-sinks : goal.returns-in_err-send_large-clause-sinks
returns-in_err-send_large-clause-sinks g c =
    two_write c.from_residual-in_err-send_large.result c.in_err-send_large.field-0.0 _ _ _ _ _
    c.from_residual-in_err-send_large.ensures.1 c.in_err-send_large.ensures.fault c.in_err-send_large.ensures.sink refl
    c.in_ok-send_side.ensures.sink

pub returns-clause-run : goal.returns-clause-run
unfolding turn_sent
returns-clause-run g c = λ t.
    let turned = c.in-Ok.ensures.turned t in
    let made = state g.D.Datagrams.port c.take_turn.new.self in
    let after = listener made.a made.b made.requests made.progress.arbitration c.send_large.new.self in
    let moves = c.in_ok-send_large.ensures.moved in
    let empty = c.in_ok-send_side.ensures.empty in
    let parts = sym (ap (λ (o : OutgoingState). o.text) empty) ∙ moves.parts in
    record {
      said = side_text made;
      appended = c.in_ok-send_side.ensures.whole;
      turn =
          turn_sent (is_loop c.args.options.server c.args.options.burst) _ turned.fails made _ turned.whole
          (record { front = moves.front; parts = parts; appended = moves.appended })
          (moved_same _ _ _ _ c.take_turn.new.self.printer.now.outgoing c.send_side.new.self c.send_large.new.self
          moves.front empty moves.parts c.in_ok-send_large.ensures.failures c.in_ok-send_large.ensures.side
          c.in_ok-send_large.ensures.format c.in_ok-send_large.ensures.stopped);
      front =
          subst (λ (s : ListenerState _). Begins (side_text made) (side_text s)) turned.whole
          (begins_whole (side_text made));
    }

pub returns-clause-said : goal.returns-clause-said
returns-clause-said g c =
    c.in_ok-send_large.ensures.side ∙ ap (λ (o : OutgoingState). o.side) c.in_ok-send_side.ensures.empty

pub returns-clause-sinks : goal.returns-clause-sinks
returns-clause-sinks g c = (c.in_ok-send_large.ensures.sink, c.in_ok-send_side.ensures.sink)

pub returns-clause-same : goal.returns-clause-same
returns-clause-same g c =
    let same = c.in-Ok.ensures.same in
    record { a = same.a; b = same.b; requests = same.requests; arbiter = same.arbiter; printer = same.printer }

-- a fault of the sink is not one of memory
pub returns-in_err-send_large-clause-kept : goal.returns-in_err-send_large-clause-kept
returns-in_err-send_large-clause-kept g c =
    not_memory c.from_residual-in_err-send_large.result c.in_err-send_large.field-0.0 _
    c.from_residual-in_err-send_large.ensures.1 c.in_err-send_large.ensures.fault

pub returns-in_default-clause-b : goal.returns-in_default-clause-b
returns-in_default-clause-b g c = c.take_turn.ensures.b

pub returns-in_err-send_side-clause-b : goal.returns-in_err-send_side-clause-b
returns-in_err-send_side-clause-b g c = c.take_turn.ensures.b

pub returns-in_err-send_large-clause-b : goal.returns-in_err-send_large-clause-b
returns-in_err-send_large-clause-b g c = c.take_turn.ensures.b

pub returns-clause-b : goal.returns-clause-b
returns-clause-b g c = c.take_turn.ensures.b

-- ---- messages as lines

pub returns-in_default-clause-format : goal.returns-in_default-clause-format
returns-in_default-clause-format g c = c.end_with.ensures.format ∙ c.take_turn.ensures.keeps.format

pub returns-in_default-clause-lines : goal.returns-in_default-clause-lines
returns-in_default-clause-lines g c = λ lines none. (refl, ends_sink c.end_with.ensures.ends)

pub returns-in_err-send_side-clause-format : goal.returns-in_err-send_side-clause-format
returns-in_err-send_side-clause-format g c =
    ap (λ (o : OutgoingState). o.format) c.in_err-send_side.ensures.same ∙ c.take_turn.ensures.keeps.format

pub returns-in_err-send_side-clause-lines : goal.returns-in_err-send_side-clause-lines
returns-in_err-send_side-clause-lines g c = λ lines none.
    absurd (not_ok (c.in_err-send_side.ensures.none (c.take_turn.ensures.keeps.side lines ∙ none)).0)

pub returns-in_err-send_large-clause-format : goal.returns-in_err-send_large-clause-format
returns-in_err-send_large-clause-format g c =
    c.send_large.ensures.format
    ∙ ap (λ (o : OutgoingState). o.format) c.in_ok-send_side.ensures.empty
    ∙ c.take_turn.ensures.keeps.format

pub returns-in_err-send_large-clause-lines : goal.returns-in_err-send_large-clause-lines
returns-in_err-send_large-clause-lines g c = λ lines none. (
  (c.in_ok-send_side.ensures.none (c.take_turn.ensures.keeps.side lines ∙ none)).1,
  counts_write c.from_residual-in_err-send_large.result c.in_err-send_large.field-0.0 _
      (g.K.Sink.failed c.args.sink.now) _ c.from_residual-in_err-send_large.ensures.1
      c.in_err-send_large.ensures.fault c.in_err-send_large.ensures.sink refl,
)

pub returns-clause-format : goal.returns-clause-format
returns-clause-format g c =
    c.in_ok-send_large.ensures.format
    ∙ ap (λ (o : OutgoingState). o.format) c.in_ok-send_side.ensures.empty
    ∙ c.take_turn.ensures.keeps.format

pub returns-clause-lines : goal.returns-clause-lines
returns-clause-lines g c = λ lines none. (
  (c.in_ok-send_side.ensures.none (c.take_turn.ensures.keeps.side lines ∙ none)).1,
  c.in_ok-send_large.ensures.sink,
)
