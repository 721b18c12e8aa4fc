use Rattle.std.proofs.Common.{◌≡◌, List, ℕ, Bor, [], ◌∷◌, get_or, map, arith, sym, ap, ◌∙◌, refl, rules}
use Rattle.mold_capture.specs.Outcome.{outcome_in, refused}
use Rattle.mold_rule.specs.declared.refusal.Refusal.TheVariants.{Memory}
use Rattle.mold_text.specs.Text.{refusal_words, refused_line}
use Rattle.mold_check.specs.Entries.{bytes_of, name_of}
use Rattle.mold_check.specs.Report.{outcome_text}
use Rattle.mold_check.specs.declared.entry.Entry.{Entry}
use Rattle.mold_check.proofs.OrderLemmas.{lent, order_few}
use Rattle.mold_check.proofs.CheckedLemmas.{verdict_outcome, verdict_text, refused_outcome, checked_of, bytes_lent}
use Rattle.mold_check.proofs.CheckedLemmas.{length-lent, name_at, within_order, report_text, told_whole, told_front}
use Rattle.mold_check.proofs.ReportLemmas.{front_none}
use Rattle.mold_check.proofs.report.check_entries.Given.{Over}
use Rattle.mold_check.proofs.report.check_entries.Goals.{After-check}
use Rattle.mold_check.proofs.report.check_entries.Goals as goal

pub returns-in_err-order-clause-front : goal.returns-in_err-order-clause-front
returns-in_err-order-clause-front g c = λ differ checked. front_none _ _

pub returns-in_err-datagrams-clause-front : goal.returns-in_err-datagrams-clause-front
returns-in_err-datagrams-clause-front g c = λ differ checked. front_none _ _

pub returns-in_err-push_counts-in-Ok-clause-front : goal.returns-in_err-push_counts-in-Ok-clause-front
returns-in_err-push_counts-in-Ok-clause-front g c = λ differ checked. front_none _ _

pub returns-in_err-push_counts-in-Err-clause-front : goal.returns-in_err-push_counts-in-Err-clause-front
returns-in_err-push_counts-in-Err-clause-front g c = λ differ checked. front_none _ _

pub returns-in-Err-default-Memory-clause-front : goal.returns-in-Err-default-Memory-clause-front
returns-in-Err-default-Memory-clause-front g c = λ differ checked. front_none _ _

pub overflow_sub-skipped : goal.overflow_sub-skipped
overflow_sub-skipped g c =
    omega (
      arith,
      order_few c.args.entries.now (lent c.in_ok-order.order.items) c.in_ok-order.ensures,
      length-lent c.in_ok-order.order.items,
      c.len-files.ensures,
      c.in_ok-order.order.ok,
    )

-- The checked bytes are those of the entries, in their order.
bytes_checked : (g : Over) (c : After-check g) →
    map (λ b. b.now) c.as_slice-2.result.now ≡ map bytes_of (lent c.in_ok-order.order.items)
bytes_checked g c =
    ap (λ (l : List (Bor (List ℕ))). map (λ b. b.now) l) c.as_slice-2.ensures.value
    ∙ c.in_ok-datagrams.ensures
    ∙ ap (λ (l : List (Bor Entry)). map (λ e. bytes_of e.now) l) c.as_slice.ensures.value
    ∙ bytes_lent c.in_ok-order.order.items

pub returns-in-Ok-clause-whole : goal.returns-in-Ok-clause-whole
returns-in-Ok-clause-whole g c =
    let order = c.in_ok-order.order.items in
    let v = c.in-Ok.verdict in
    let list = bytes_checked g (goal.at.returns-in-Ok-clause-whole g c).After-check in
    let checked = checked_of c.args.entries.now (lent order) _ (outcome_in v) c.in_ok-order.ensures list
    (verdict_outcome _ v c.in-Ok.ensures.verdict)
    in
    told_whole _ _ c.args.entries.now checked c.print_verdict.result _ _
    (report_text c.args.entries.now order _ _ _ _ (outcome_text [] (outcome_in v)) (outcome_in v) c.new-text.ensures.items
    c.in_ok-push_counts-in-Ok.ensures (c.len-files.ensures ∙ c.in_ok-order.order.ok.0) (c.len-files.ensures ∙ c.in_ok-order.order.ok.0)
    (verdict_text (map name_of (lent order)) v))
    refl c.print_verdict.ensures.whole

pub returns-in-Ok-clause-front : goal.returns-in-Ok-clause-front
returns-in-Ok-clause-front g c =
    let order = c.in_ok-order.order.items in
    let v = c.in-Ok.verdict in
    let list = bytes_checked g (goal.at.returns-in-Ok-clause-front g c).After-check in
    let checked = checked_of c.args.entries.now (lent order) _ (outcome_in v) c.in_ok-order.ensures list
    (verdict_outcome _ v c.in-Ok.ensures.verdict)
    in
    told_front _ _ c.outcome_law.ensures.one c.args.entries.now checked _
    (report_text c.args.entries.now order _ _ _ _ (outcome_text [] (outcome_in v)) (outcome_in v) c.new-text.ensures.items
    c.in_ok-push_counts-in-Ok.ensures (c.len-files.ensures ∙ c.in_ok-order.order.ok.0) (c.len-files.ensures ∙ c.in_ok-order.order.ok.0)
    (verdict_text (map name_of (lent order)) v))
    c.print_verdict.ensures.front

pub returns : goal.returns
returns g c =
    let order = c.in_ok-order.order.items in
    let why = c.in-Err.reason in
    let list = bytes_checked g (goal.at.returns g c).After-check in
    let other : why ≡ Memory → ⊥ = λ is. search rules in
    let told = refused_outcome _ c.in-Err.index why other c.in-Err.ensures.refused in
    let checked = checked_of c.args.entries.now (lent order) _ (refused c.in-Err.index why) c.in_ok-order.ensures list told in
    let name : c.as_bytes-name.result.now ≡ get_or (map name_of (lent order)) c.in-Err.index [] =
    c.as_bytes-name.ensures.value
    ∙ c.as_str.ensures.value
    ∙ ap (λ (e : Bor Entry). name_of e.now) c.index.ensures
    ∙ sym (name_at order c.in-Err.index c.index.result.now (within_order order _ c.in-Err.index list told.0))
    in
    let text = report_text c.args.entries.now order _ _ _ _ (refused_line (c.as_bytes-name.result.now ∷ refusal_words why))
    (refused c.in-Err.index why) c.new-text.ensures.items c.in_ok-push_counts-in-Err.ensures
    (c.len-files.ensures ∙ c.in_ok-order.order.ok.0) (c.len-files.ensures ∙ c.in_ok-order.order.ok.0)
    (ap (λ n. refused_line (n ∷ refusal_words why)) name)
    in
    record {
      whole = told_whole _ _ c.args.entries.now checked c.print_refusal.result _ _ text refl c.print_refusal.ensures.whole;
      front = told_front _ _ c.outcome_law.ensures.one c.args.entries.now checked _ text c.print_refusal.ensures.front;
      failures = c.print_refusal.ensures.failures;
    }
