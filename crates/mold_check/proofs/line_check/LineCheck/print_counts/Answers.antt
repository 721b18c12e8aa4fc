use Rattle.std.proofs.Common.{◌≡◌, ◌++◌, ◌∙◌, ap, refl, subst}
use Rattle.std.specs.Prelude.{OnOk}
use Rattle.std.specs.Io.KnownBytes.{Appends}
use Rattle.mold_check.specs.CheckLines.{count_line}
use Rattle.mold_check.proofs.MovedLemmas.{front_as}
use Rattle.mold_check.proofs.ReportLemmas.{counts_sent, front_none}
use Rattle.mold_check.proofs.line_check.LineCheck.print_counts.Goals as goal

pub returns-in_err-push_count-clause-front : goal.returns-in_err-push_count-clause-front
returns-in_err-push_count-clause-front g c = front_none _ _

pub returns : goal.returns
returns g c =
    let is : c.push_count.new.text.items ≡ count_line c.args.self.now.datagrams =
    c.in_ok-push_count.ensures
    ∙ ap (λ l. l ++ count_line c.self.inside.datagrams) c.new-text.ensures.items
    ∙ ap (λ s. count_line s.datagrams) c.self.view_is
    in
    record {
      whole =
          subst (λ t. OnOk c.send.result (Appends (g.K.Sink.held c.args.sink.now) (g.K.Sink.held c.send.new.sink) t)) is
          c.send.ensures.whole;
      front = front_as _ _ _ _ is c.send.ensures.front;
      failures = counts_sent _ _ _ c.send.result refl c.send.ensures.failures c.send.ensures.fault;
    }
