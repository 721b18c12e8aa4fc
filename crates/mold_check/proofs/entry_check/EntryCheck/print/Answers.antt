use Rattle.std.proofs.Common.{◌≡◌, ◌++◌, ◌∙◌, ap, length}
use Rattle.mold_check.specs.EntryCheck.{entry_check_text}
use Rattle.mold_check.specs.Naming.{lent_names, listed}
use Rattle.mold_check.specs.Report.{counts_line}
use Rattle.mold_check.proofs.EntryLemmas.{told_entries}
use Rattle.mold_check.proofs.MovedLemmas.{front_as}
use Rattle.mold_check.proofs.ReportLemmas.{front_none}
use Rattle.mold_check.proofs.entry_check.EntryCheck.print.Goals as goal

pub returns-in_err-push_counts-clause-front : goal.returns-in_err-push_counts-clause-front
returns-in_err-push_counts-clause-front g c = front_none _ _

pub returns : goal.returns
returns g c =
    let judging = g.J.Judge.judging in
    let judge = c.self.inside.judge in
    let is : c.push_counts.new.text.items ++ judging.text (listed (lent_names c.as_slice.result.now)) judge
    ≡ entry_check_text judging c.args.self.now =
    ap (λ t. t ++ judging.text (listed (lent_names c.as_slice.result.now)) judge)
    (c.in_ok-push_counts.ensures
    ∙ ap (λ l. l ++ counts_line c.len.result c.self.inside.skipped) c.new-text.ensures.items
    ∙ ap (λ n. counts_line n c.self.inside.skipped) (c.len.ensures ∙ c.self.inside.order.ok.0))
    ∙ ap (λ o. counts_line (length c.self.inside.order.items) c.self.inside.skipped ++ judging.text (listed (lent_names o)) judge)
    c.as_slice.ensures.value
    ∙ ap (entry_check_text judging) c.self.view_is
    in
    record {
      whole = told_entries _ _ c.print.result _ _ _ _ is (ap (λ s. judging.status s.judge) c.self.view_is) c.print.ensures.whole;
      front = front_as _ _ _ _ is c.print.ensures.front;
      failures = c.print.ensures.failures;
    }
