use Rattle.std.proofs.Common.{◌≡◌, ◌++◌, ◌∙◌, ap, refl, subst}
use Rattle.std.specs.Prelude.{OnOk}
use Rattle.std.specs.Io.KnownBytes.{Appends}
use Rattle.mold_check.specs.EntryCheck.{entry_counts}
use Rattle.mold_check.specs.Report.{counts_line}
use Rattle.mold_check.proofs.MovedLemmas.{front_as}
use Rattle.mold_check.proofs.ReportLemmas.{counts_sent, front_none}
use Rattle.mold_check.proofs.entry_check.EntryCheck.print_counts.Goals as goal

pub returns-in_err-push_counts-clause-front : goal.returns-in_err-push_counts-clause-front
returns-in_err-push_counts-clause-front g c = front_none _ _

pub returns : goal.returns
returns g c =
    let is : c.push_counts.new.text.items ≡ entry_counts c.args.self.now =
    c.in_ok-push_counts.ensures
    ∙ ap (λ l. l ++ counts_line c.len.result c.self.inside.skipped) c.new-text.ensures.items
    ∙ ap (λ n. counts_line n c.self.inside.skipped) (c.len.ensures ∙ c.self.inside.order.ok.0)
    ∙ ap entry_counts c.self.view_is
    in
    record {
      whole =
          subst (λ t. OnOk c.send.result (Appends (g.K.Sink.held c.args.sink.now) (g.K.Sink.held c.send.new.sink) t)) is
          c.send.ensures.whole;
      front = front_as _ _ _ _ is c.send.ensures.front;
      failures = counts_sent _ _ _ c.send.result refl c.send.ensures.failures c.send.ensures.fault;
    }
