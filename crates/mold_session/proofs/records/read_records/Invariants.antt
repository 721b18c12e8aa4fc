use Rattle.std.proofs.Common.{◌≡◌}
use Rattle.std.specs.Io.KnownBytes.{prepend_known}
use Rattle.mold_session.specs.Loading.{work_left}
use Rattle.mold_session.proofs.LoadingLemmas.{ReadsRecords}
use Rattle.mold_session.proofs.records.read_records.Given as goal

-- The records of the listed messages were read.
abbrev pub invariant-messages : goal.invariant-messages
invariant-messages g l = record {
  reads : ReadsRecords l.fn.most (prepend_known l.fn.piece (g.S.Source.left l.fn.source))
      (prepend_known l.piece (g.S.Source.left l.source)) l.list.messages;
  counted : g.S.Source.failed l.source ≡ g.S.Source.failed l.fn.source;
}

abbrev pub decreases-messages : goal.decreases-messages
decreases-messages g l = work_left (g.S.Source.bound l.source) l.piece
