use Rattle.std.proofs.Common.{◌≡◌}
use Rattle.mold_session.specs.Loading.{work_left}
use Rattle.mold_session.proofs.records.read_to_end.Given as goal

-- No read failed.
abbrev pub invariant-bytes : goal.invariant-bytes
invariant-bytes g l = g.S.Source.failed l.source ≡ g.S.Source.failed l.fn.source

abbrev pub decreases-bytes : goal.decreases-bytes
decreases-bytes g l = work_left (g.S.Source.bound l.source) l.piece
