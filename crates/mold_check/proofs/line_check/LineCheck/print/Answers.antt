use Rattle.mold_check.proofs.LineLemmas.{early_text}
use Rattle.mold_check.proofs.MovedLemmas.{moved_front}
use Rattle.mold_check.proofs.ReportLemmas.{front_more, front_none}
use Rattle.std.proofs.Common.{sym}
use Rattle.mold_check.specs.Checking.{not_hex_text}
use Rattle.mold_check.proofs.line_check.LineCheck.print.Goals as goal

pub returns-in_err-print_early-in-Some-clause-front : goal.returns-in_err-print_early-in-Some-clause-front
returns-in_err-print_early-in-Some-clause-front g c =
    front_more _ _ _ (not_hex_text c.in-Some.number) _
    (sym (early_text g.J.Judge.judging c.args.self.now _ _ _ _ c.in-Some.number _ _ c.self.view_is c.in-Some.is
    c.new-text.ensures.items c.in_ok-push_count.ensures))
    c.print_early.ensures.front

pub returns-in-Some-clause-front : goal.returns-in-Some-clause-front
returns-in-Some-clause-front g c =
    moved_front _ _ _ _ _ (not_hex_text c.in-Some.number) _ c.in_ok-print_early-in-Some.ensures.moved
    c.print_not_hex.ensures.front
    (early_text g.J.Judge.judging c.args.self.now _ _ _ _ c.in-Some.number _ _ c.self.view_is c.in-Some.is
    c.new-text.ensures.items c.in_ok-push_count.ensures)

pub returns-in_err-push_count-clause-front : goal.returns-in_err-push_count-clause-front
returns-in_err-push_count-clause-front g c = front_none _ _
