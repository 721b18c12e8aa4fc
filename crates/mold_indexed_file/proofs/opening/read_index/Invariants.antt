use Rattle.std.proofs.Common.{◌≡◌}
use Rattle.std.specs.Io.KnownBytes.{prepend_known}
use Rattle.mold_session.specs.Loading.{work_left}
use Rattle.mold_indexed_file.proofs.OpeningLemmas.{Reading}
use Rattle.mold_indexed_file.proofs.opening.read_index.Given as goal

-- The messages so far were read, and the index is theirs.
abbrev pub invariant-messages : goal.invariant-messages
invariant-messages g l = record {
  reading : Reading l.fn.max_message (g.S.Source.left l.fn.source)
      (prepend_known l.reader.rest (g.S.Source.left l.source)) l.reader l.index;
  counted : g.S.Source.failed l.source ≡ g.S.Source.failed l.fn.source;
}

abbrev pub decreases-messages : goal.decreases-messages
decreases-messages g l = work_left (g.S.Source.bound l.source) l.reader.rest
