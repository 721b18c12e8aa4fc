use Rattle.std.proofs.Common.{◌∙◌, ℕ, [], Err, List, Result, ap, inl, refl, subst, take}
use Rattle.std.proofs.KnownBytes.{Appends-nil}
use Rattle.mold_devices.specs.Devices.{AppendsPrefix}
use Rattle.mold_devices.specs.Faults.{CountsSinkFault}
use Rattle.mold_devices.specs.declared.fault.CommandFault.{CommandFault}
use Rattle.mold_devices.proofs.WritingLemmas.{ends_front, ends_sink}
use Rattle.mold_turns.proofs.PrintingLemmas.{front_all, front_more, front_none, kept_begins}
use Rattle.mold_turns.proofs.FaultLemmas.{counts_same, counts_write, two_faults_after, two_said, two_same, two_write}
use Rattle.mold_turns.proofs.RunLemmas.{in_time_end, on_err, ran_beside_cut, ran_beside_front, ran_beside_whole}
use Rattle.mold_listen.specs.Listening.{Agrees, IsInNextTurn, listened_lines, listened_side, state, status}
use Rattle.mold_turns.specs.Outgoing.{OutgoingState}
use Rattle.mold_listen.proofs.TurnLemmas.{is_beside, is_loop, not_ok}
use Rattle.mold_listen.proofs.feed_listener.FeedListener.listen.Goals as goal

pub returns-in_err-take_turns-clause-run : goal.returns-in_err-take_turns-clause-run
returns-in_err-take_turns-clause-run g c = λ t.
    ran_beside_cut (is_loop c.args.options.server c.args.options.burst) (is_beside c.args.options.server c.args.options.burst)
    c.args.options.turns (state g.D.Datagrams.port c.args.self.now)
    (listened_lines c.args.options.reporting) (listened_side c.args.options.reporting) status
    _ c.take_turns.result c.from_residual.result (c.take_turns.ensures.run t) c.from_residual.ensures.0

pub returns-in_err-take_turns-clause-sinks : goal.returns-in_err-take_turns-clause-sinks
returns-in_err-take_turns-clause-sinks g c =
    two_same c.from_residual.result c.in_err-take_turns.field-0.0 _ _ _ _ _ _ c.from_residual.ensures.1 refl refl
    c.in_err-take_turns.ensures.sinks

pub returns-in_default-clause-run : goal.returns-in_default-clause-run
returns-in_default-clause-run g c = λ t.
    let before = c.take_turns.new.self.printer.now.outgoing.text in
    let result : Result ℕ CommandFault = Err c.end_with.result in
    ran_beside_front (is_loop c.args.options.server c.args.options.burst) (is_beside c.args.options.server c.args.options.burst)
    c.args.options.turns (state g.D.Datagrams.port c.args.self.now)
    (listened_lines c.args.options.reporting) (listened_side c.args.options.reporting) status
    _ (λ front s. refl) (λ front s. refl) (λ said s. refl) c.in_ok-take_turns.field-0
    (state g.D.Datagrams.port c.take_turns.new.self)
    (c.in_ok-take_turns.ensures.run t)
    result _ _ refl
    (front_more _ _ before _
    (subst (λ (text : List ℕ). AppendsPrefix (g.K.Sink.held c.take_turns.new.sink) (g.K.Sink.held c.end_with.new.sink) text)
    (ap (λ (n : ℕ). take n c.push_end.new.outgoing.text) c.unwritten-told.ensures
    ∙ kept_begins before _ c.push_end.ensures.prints)
    (ends_front c.end_with.ensures.ends)))
    refl (front_none (g.E.Sink.held c.take_turns.new.errors) _)
    refl

pub returns-in_default-clause-sinks : goal.returns-in_default-clause-sinks
returns-in_default-clause-sinks g c =
    two_faults_after _ _ _ _ _ c.end_with.result c.in_ok-take_turns.ensures.sinks.0 (ends_sink c.end_with.ensures.ends)
    c.in_ok-take_turns.ensures.sinks.1

pub returns-in_err-send_side-clause-run : goal.returns-in_err-send_side-clause-run
returns-in_err-send_side-clause-run g c = λ t.
    ran_beside_front (is_loop c.args.options.server c.args.options.burst) (is_beside c.args.options.server c.args.options.burst)
    c.args.options.turns (state g.D.Datagrams.port c.args.self.now)
    (listened_lines c.args.options.reporting) (listened_side c.args.options.reporting) status
    _ (λ front s. refl) (λ front s. refl) (λ said s. refl) c.in_ok-take_turns.field-0
    (state g.D.Datagrams.port c.take_turns.new.self)
    (c.in_ok-take_turns.ensures.run t)
    c.from_residual-in_err-send_side.result _ c.push_end.new.outgoing.side
    refl (front_none (g.K.Sink.held c.take_turns.new.sink) _)
    (ap (λ (out : OutgoingState). out.side) c.in-Ok.ensures.lines) c.send_side.ensures.front
    c.from_residual-in_err-send_side.ensures.0

pub returns-in_err-send_side-clause-sinks : goal.returns-in_err-send_side-clause-sinks
returns-in_err-send_side-clause-sinks g c =
    two_said c.from_residual-in_err-send_side.result c.in_err-send_side.field-0.0 _ _ _ (g.E.Sink.failed c.take_turns.new.errors) _
    c.from_residual-in_err-send_side.ensures.1 c.in_err-send_side.ensures.fault c.in_err-send_side.ensures.sink
    c.in_ok-take_turns.ensures.sinks.1 c.in_ok-take_turns.ensures.sinks.0

pub returns-in_err-send-clause-run : goal.returns-in_err-send-clause-run
returns-in_err-send-clause-run g c = λ t.
    ran_beside_front (is_loop c.args.options.server c.args.options.burst) (is_beside c.args.options.server c.args.options.burst)
    c.args.options.turns (state g.D.Datagrams.port c.args.self.now)
    (listened_lines c.args.options.reporting) (listened_side c.args.options.reporting) status
    _ (λ front s. refl) (λ front s. refl) (λ said s. refl) c.in_ok-take_turns.field-0
    (state g.D.Datagrams.port c.take_turns.new.self)
    (c.in_ok-take_turns.ensures.run t)
    c.from_residual-in_err-send.result c.send_side.new.self.text c.push_end.new.outgoing.side
    (ap (λ (out : OutgoingState). out.text) c.in_ok-send_side.ensures.empty
    ∙ ap (λ (out : OutgoingState). out.text) c.in-Ok.ensures.lines) c.send.ensures.front
    (ap (λ (out : OutgoingState). out.side) c.in-Ok.ensures.lines)
    (front_all _ _ _ c.in_ok-send_side.ensures.whole)
    c.from_residual-in_err-send.ensures.0

pub returns-in_err-send-clause-sinks : goal.returns-in_err-send-clause-sinks
returns-in_err-send-clause-sinks g c =
    two_write c.from_residual-in_err-send.result c.in_err-send.field-0.0 _ (g.K.Sink.failed c.take_turns.new.sink) _ _ _
    c.from_residual-in_err-send.ensures.1 c.in_err-send.ensures.fault c.in_err-send.ensures.sink
    c.in_ok-take_turns.ensures.sinks.0 (c.in_ok-send_side.ensures.sink ∙ c.in_ok-take_turns.ensures.sinks.1)

pub returns-clause-run : goal.returns-clause-run
returns-clause-run g c = λ t.
    ran_beside_whole (is_loop c.args.options.server c.args.options.burst) (is_beside c.args.options.server c.args.options.burst)
    c.args.options.turns (state g.D.Datagrams.port c.args.self.now)
    (listened_lines c.args.options.reporting) (listened_side c.args.options.reporting) status
    (Agrees (g.D.Datagrams.port c.take_turns.new.self.a.now) (g.D.Datagrams.port c.take_turns.new.self.b.now)
    (g.D.Datagrams.port c.take_turns.new.self.requests.now) c.take_turns.new.self.arbiter.now)
    (λ front s. refl) (λ front s. refl) (λ said s. refl) c.in_ok-take_turns.field-0
    (state g.D.Datagrams.port c.take_turns.new.self)
    (c.in_ok-take_turns.ensures.run t)
    c.in-Ok.status c.send_side.new.self.text c.push_end.new.outgoing.side
    (ap (λ (out : OutgoingState). out.text) c.in_ok-send_side.ensures.empty
    ∙ ap (λ (out : OutgoingState). out.text) c.in-Ok.ensures.lines) c.in_ok-send.ensures.whole
    (ap (λ (out : OutgoingState). out.side) c.in-Ok.ensures.lines) c.in_ok-send_side.ensures.whole
    c.in-Ok.ensures.status
    (record { a_left = refl; b_left = refl; requests_left = refl; arbiter_left = refl })

pub returns-clause-sinks : goal.returns-clause-sinks
returns-clause-sinks g c = (
  c.in_ok-send.ensures.sink ∙ c.in_ok-take_turns.ensures.sinks.0,
  c.in_ok-send_side.ensures.sink ∙ c.in_ok-take_turns.ensures.sinks.1,
)

-- ---- what a fault finds unwritten

pub returns-in_err-take_turns-clause-timely : goal.returns-in_err-take_turns-clause-timely
returns-in_err-take_turns-clause-timely g c = on_err c.from_residual.result c.in_err-take_turns.ensures.timely

pub returns-in_default-clause-timely : goal.returns-in_default-clause-timely
returns-in_default-clause-timely g c = λ t bounded.
    let cut = ends_front c.end_with.ensures.ends in
    in_time_end (is_loop c.args.options.server c.args.options.burst) (g.K.Sink.live c.args.sink.now)
    (IsInNextTurn (g.D.Datagrams.port c.take_turns.new.self.a.now) (g.D.Datagrams.port c.take_turns.new.self.b.now))
    cut.front (c.in_ok-take_turns.ensures.run t).rests
    (inl (refl, refl)) (c.in_ok-take_turns.ensures.bounded bounded) cut.appended

pub returns-in_err-send_side-clause-timely : goal.returns-in_err-send_side-clause-timely
returns-in_err-send_side-clause-timely g c =
    on_err c.from_residual-in_err-send_side.result
    (λ t bounded.
    in_time_end (is_loop c.args.options.server c.args.options.burst) (g.K.Sink.live c.args.sink.now)
    (IsInNextTurn (g.D.Datagrams.port c.take_turns.new.self.a.now) (g.D.Datagrams.port c.take_turns.new.self.b.now))
    [] (c.in_ok-take_turns.ensures.run t).rests
    (inl (refl, refl)) (c.in_ok-take_turns.ensures.bounded bounded)
    (Appends-nil (g.K.Sink.held c.take_turns.new.sink)))

pub returns-in_err-send-clause-timely : goal.returns-in_err-send-clause-timely
returns-in_err-send-clause-timely g c =
    on_err c.from_residual-in_err-send.result
    (λ t bounded.
    let cut = c.in_err-send.ensures.front in
    in_time_end (is_loop c.args.options.server c.args.options.burst) (g.K.Sink.live c.args.sink.now)
    (IsInNextTurn (g.D.Datagrams.port c.take_turns.new.self.a.now) (g.D.Datagrams.port c.take_turns.new.self.b.now))
    cut.front (c.in_ok-take_turns.ensures.run t).rests
    (inl (refl, refl)) (c.in_ok-take_turns.ensures.bounded bounded) cut.appended)

-- ---- messages as lines

pub returns-in_err-take_turns-clause-lines : goal.returns-in_err-take_turns-clause-lines
returns-in_err-take_turns-clause-lines g c = λ lines none.
    let turned = c.in_err-take_turns.ensures.lines lines none in (
      turned.0,
      counts_same c.from_residual.result c.in_err-take_turns.field-0.0 _ _ c.from_residual.ensures.1 turned.1,
    )

pub returns-in_default-clause-lines : goal.returns-in_default-clause-lines
returns-in_default-clause-lines g c = λ lines none. (
  (c.in_ok-take_turns.ensures.lines lines none).0,
  subst (λ (n : ℕ). CountsSinkFault n (g.K.Sink.failed c.end_with.new.sink) c.end_with.result)
      c.in_ok-take_turns.ensures.sinks.0 (ends_sink c.end_with.ensures.ends),
)

pub returns-in_err-send_side-clause-lines : goal.returns-in_err-send_side-clause-lines
returns-in_err-send_side-clause-lines g c = λ lines none.
    absurd (not_ok (c.in_err-send_side.ensures.none
    (c.push_end.ensures.keeps.side (c.in_ok-take_turns.ensures.format ∙ lines)
    ∙ c.in_ok-take_turns.ensures.said none)).0)

pub returns-in_err-send-clause-lines : goal.returns-in_err-send-clause-lines
returns-in_err-send-clause-lines g c = λ lines none. (
  (c.in_ok-send_side.ensures.none
      (c.push_end.ensures.keeps.side (c.in_ok-take_turns.ensures.format ∙ lines)
      ∙ c.in_ok-take_turns.ensures.said none)).1
      ∙ (c.in_ok-take_turns.ensures.lines lines none).0,
  counts_write c.from_residual-in_err-send.result c.in_err-send.field-0.0 _ (g.K.Sink.failed c.take_turns.new.sink) _
      c.from_residual-in_err-send.ensures.1 c.in_err-send.ensures.fault c.in_err-send.ensures.sink
      c.in_ok-take_turns.ensures.sinks.0,
)

pub returns-clause-lines : goal.returns-clause-lines
returns-clause-lines g c = λ lines none. (
  (c.in_ok-send_side.ensures.none
      (c.push_end.ensures.keeps.side (c.in_ok-take_turns.ensures.format ∙ lines)
      ∙ c.in_ok-take_turns.ensures.said none)).1
      ∙ (c.in_ok-take_turns.ensures.lines lines none).0,
  c.in_ok-send.ensures.sink ∙ c.in_ok-take_turns.ensures.sinks.0,
)
