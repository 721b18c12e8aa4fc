use Rattle.std.proofs.Common.{sym, ◌∙◌}
use Rattle.mold_capture.proofs.RunLemmas.{covered_at, uncovered_at}
use Rattle.mold_capture.proofs.compare.message_at.Goals as goal

pub returns-in-Some-clause-message : goal.returns-in-Some-clause-message
returns-in-Some-clause-message c =
    c.get.ensures
    ∙ sym (covered_at c.args.runs.now c.args.kept.now c.requires.are c.args.number c.in-Some.first
    c.in-Some.run' c.in-Some.ensures.there c.in-Some.ensures.covers)

pub returns-in-None-clause-message : goal.returns-in-None-clause-message
returns-in-None-clause-message c =
    sym (uncovered_at c.args.runs.now c.args.kept.now c.requires.are c.args.number c.in-None.ensures.none)
