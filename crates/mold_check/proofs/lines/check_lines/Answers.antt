use Rattle.mold_check.proofs.LineLemmas.{lines_whole, lines_front}
use Rattle.mold_check.proofs.lines.check_lines.Goals as goal

pub returns-clause-whole : goal.returns-clause-whole
returns-clause-whole g c =
    lines_whole _ _ _ c.in_ok-check.check c.print.result c.in_ok-check.ensures.taken c.print.ensures.whole

pub returns-clause-front : goal.returns-clause-front
returns-clause-front g c =
    lines_front _ _ _ c.in_ok-check.check c.in_ok-check.ensures.taken c.print.ensures.front
