use Rattle.std.proofs.Common.{◌-◌, length}
use Rattle.mold_pacing.specs.Most.{ends_request}
use Rattle.mold_pacing.specs.Table.{NonePass}
use Rattle.mold_pacing.proofs.response.ended_request.Given as goal

abbrev pub invariant-loop-index : goal.invariant-loop-index
invariant-loop-index l = NonePass (ends_request l.now l.came.first l.came.end) l.flights l.index

abbrev pub decreases-loop-index : goal.decreases-loop-index
decreases-loop-index l = length l.flights - l.index
