use Rattle.std.proofs.Common.{◌≡◌, take}
use Rattle.mold_check.proofs.ReportLemmas.{HasSent}
use Rattle.mold_check.proofs.report.send_missing.Given as goal

abbrev pub invariant-loop-range : goal.invariant-loop-range
invariant-loop-range g l = record {
  has :
      HasSent (g.K.Sink.held l.fn.sink) (g.K.Sink.held l.sink) l.fn.text.items (take l.range-index l.fn.missing)
      l.text.items;
  counted : g.K.Sink.failed l.sink ≡ g.K.Sink.failed l.fn.sink;
}
