use Rattle.std.proofs.Common.{◌≡◌, []}
use Rattle.std.specs.Io.KnownBytes.{prepend_known}
use Rattle.mold_devices.specs.Lines.{work_left}
use Rattle.mold_devices.proofs.TurnLemmas.{Moment, Told}
use Rattle.mold_devices.proofs.line_command.run_lines.Given as goal

-- The text of the turns so far is accounted for, and no device failed.
abbrev pub invariant-turns : goal.invariant-turns
invariant-turns g l =
    let start : Moment = record {
      prints = g.C.LineCommand.prints l.fn.command;
      left = g.S.Source.left l.fn.source;
      held = g.K.Sink.held l.fn.sink;
      text = [];
    }
    in
    let now : Moment = record {
      prints = g.C.LineCommand.prints l.command;
      left = prepend_known (g.C.Reader.InputReader.unread l.reader) (g.S.Source.left l.source);
      held = g.K.Sink.held l.sink;
      text = l.text.items;
    }
    in
    record {
      told : Told start now;
      source : g.S.Source.failed l.source ≡ g.S.Source.failed l.fn.source;
      sink : g.K.Sink.failed l.sink ≡ g.K.Sink.failed l.fn.sink;
    }

abbrev pub decreases-turns : goal.decreases-turns
decreases-turns g l = work_left (g.S.Source.bound l.source) (g.C.Reader.InputReader.unread l.reader)
