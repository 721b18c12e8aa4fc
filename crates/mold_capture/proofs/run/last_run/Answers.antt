use Rattle.std.proofs.Common.{ap}
use Rattle.std.specs.Prelude.{is_some}
use Rattle.std.proofs.lemmas.Map.Keys.{ge_from_not_lt}
use Rattle.mold_capture.proofs.RunLemmas.{le-gt}
use Rattle.mold_capture.proofs.run.last_run.Goals as goal

pub returns-in-Some-clause-last : goal.returns-in-Some-clause-last
returns-in-Some-clause-last c = λ f run has low.
    ge_from_not_lt c.in-Some.first.now f
    ((c.range.ensures.in_range tt).4 _ _ c.in-Some.ensures.steps f (tt, le-gt f c.args.number low) (ap is_some has))
