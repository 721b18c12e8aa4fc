use Rattle.std.proofs.Common.{◌≡◌}
use Rattle.mold_check.specs.EachCheck.{some_whole}
use Rattle.mold_check.proofs.session_table.SessionTable.is_some_whole.Given as goal

-- Some session is whole if one of the remaining ones is.
abbrev pub invariant-loop-key : goal.invariant-loop-key
invariant-loop-key g l = some_whole g.J.Judge.judging l.key-iterator ≡ some_whole g.J.Judge.judging l.self
