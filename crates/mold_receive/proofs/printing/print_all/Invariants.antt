use Rattle.std.proofs.Common.{◌≡◌, ◌++◌, ◌-◌, drop}
use Rattle.std.specs.Prelude.{None}
use Rattle.mold_devices.specs.Writing.{Moves}
use Rattle.mold_listen.specs.Text.{handed_text, printable, stop_after}
use Rattle.mold_receive.proofs.PrintingLemmas.{rest_text}
use Rattle.mold_receive.proofs.printing.print_all.Given as goal

-- of the former text and the text of all messages that are printed, a prefix was written; the text and that of the
-- remaining messages are the rest
abbrev pub invariant-loop-number : goal.invariant-loop-number
invariant-loop-number g l = record {
  moved : Moves (g.K.Sink.held l.fn.sink) (g.K.Sink.held l.sink)
      (l.fn.outgoing.text
      ++ handed_text l.fn.outgoing.format l.first (printable l.fn.outgoing.format None l.batch.messages))
      (l.outgoing.text ++ rest_text l.fn.outgoing.format l.number l.first l.batch.messages);
  stop : stop_after l.fn.outgoing.format None l.number (drop (l.number - l.first) l.batch.messages)
      ≡ stop_after l.fn.outgoing.format None l.first l.batch.messages;
  format : l.outgoing.format ≡ l.fn.outgoing.format;
  live : g.K.Sink.live l.sink ≡ g.K.Sink.live l.fn.sink;
}
