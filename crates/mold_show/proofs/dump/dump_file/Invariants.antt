use Rattle.std.proofs.Common.{◌≡◌}
use Rattle.std.specs.Io.KnownBytes.{prepend_known}
use Rattle.mold_session.specs.Loading.{work_left}
use Rattle.mold_show.proofs.DumpLemmas.{Dumping}
use Rattle.mold_show.proofs.dump.dump_file.Given as goal

-- The messages so far were read, and their bytes are written or gathered.
abbrev pub invariant-messages : goal.invariant-messages
invariant-messages g l = record {
  dumping :
      Dumping l.fn.options (g.S.Source.left l.fn.source)
      (prepend_known l.reader.rest (g.S.Source.left l.source)) (g.K.Sink.held l.fn.sink) (g.K.Sink.held l.sink)
      l.reader l.text.items;
  source : g.S.Source.failed l.source ≡ g.S.Source.failed l.fn.source;
  sink : g.K.Sink.failed l.sink ≡ g.K.Sink.failed l.fn.sink;
  held : g.E.Sink.held l.errors ≡ g.E.Sink.held l.fn.errors;
  errors : g.E.Sink.failed l.errors ≡ g.E.Sink.failed l.fn.errors;
}

abbrev pub decreases-messages : goal.decreases-messages
decreases-messages g l = work_left (g.S.Source.bound l.source) l.reader.rest
