use Rattle.std.proofs.Common.{◌≡◌, ◌≤◌}
use Rattle.std.specs.Io.KnownBytes.{prepend_known}
use Rattle.mold_session.specs.Loading.{work_left}
use Rattle.mold_session.proofs.LoadingLemmas.{Taking}
use Rattle.mold_session.proofs.loading.take_message.Given as goal

-- The bytes so far are in the last message of the list.
abbrev pub invariant-loop-missing : goal.invariant-loop-missing
invariant-loop-missing g l = record {
  taking : Taking (prepend_known l.fn.piece (g.S.Source.left l.fn.source))
      (prepend_known l.piece (g.S.Source.left l.source)) l.fn.list.messages l.list.messages l.missing l.len;
  work : work_left (g.S.Source.bound l.source) l.piece ≤ work_left (g.S.Source.bound l.fn.source) l.fn.piece;
  counted : g.S.Source.failed l.source ≡ g.S.Source.failed l.fn.source;
}

abbrev pub decreases-loop-missing : goal.decreases-loop-missing
decreases-loop-missing g l = l.missing
