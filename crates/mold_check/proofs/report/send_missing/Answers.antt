use Rattle.std.proofs.Common.{◌+◌, ℕ, take, refl, subst, sym, ◌∙◌}
use Rattle.mold_devices.specs.Faults.{CountsSinkFault}
use Rattle.std.proofs.lemmas.Result.{on_ok_weaker}
use Rattle.std.proofs.lemmas.List.{take_more, take_all}
use Rattle.mold_check.proofs.ReportLemmas.{counts_err, counts_sent, kept_on, never_memory, sent_all, sent_front, sent_kept}
use Rattle.mold_check.proofs.ReportLemmas.{sent_more, sent_moved, sent_none, split_at}
use Rattle.mold_check.proofs.report.send_missing.Goals as goal

pub loop-range-init : goal.loop-range-init
loop-range-init g c = record { has = sent_none _ _; counted = refl }

pub returns-in_err-print_missing-clause-front : goal.returns-in_err-print_missing-clause-front
returns-in_err-print_missing-clause-front g c =
    let all = c.args.missing.now in
    let i = c.loop-range.range-index in
    sent_front _ _ _ _ (take (i + 1) all) all _ _
    (sent_more _ _ _ (take i all) (take (i + 1) all) _ _ _ c.loop-range.invariant.has
    (take_more all i (record { first = 0; last = 0 }) c.loop-range-test.true) refl)
    (split_at all (i + 1)) c.print_missing.ensures.front

pub returns-in_err-print_missing-clause-failures : goal.returns-in_err-print_missing-clause-failures
returns-in_err-print_missing-clause-failures g c =
    counts_err _ _ _ _ c.from_residual.ensures
    (subst (λ (n : ℕ). CountsSinkFault n (g.K.Sink.failed c.print_missing.new.sink) c.in_err-print_missing.field-0.0)
    c.loop-range.invariant.counted c.in_err-print_missing.ensures.failures)

pub loop-range-preserved : goal.loop-range-preserved
loop-range-preserved g c =
    let all = c.args.missing.now in
    let i = c.loop-range.range-index in
    record {
      has = sent_moved _ _ _ _ (take (i + 1) all) _ _
          (sent_more _ _ _ (take i all) (take (i + 1) all) _ _ _ c.loop-range.invariant.has
          (take_more all i (record { first = 0; last = 0 }) c.loop-range-test.true) refl)
          c.in_ok-print_missing.ensures.moved;
      counted = c.in_ok-print_missing.ensures.failures ∙ c.loop-range.invariant.counted;
    }

pub returns-clause-whole : goal.returns-clause-whole
returns-clause-whole g c =
    on_ok_weaker c.send.result
    (λ out.
    sent_all _ _ _ _ (take c.loop-range.range-index c.args.missing.now) c.args.missing.now _ c.loop-range.invariant.has
    (sym (take_all c.loop-range.range-index c.args.missing.now c.loop-range-test.false)) out)
    c.send.ensures.whole

pub returns-clause-front : goal.returns-clause-front
returns-clause-front g c =
    sent_front _ _ _ _ _ c.args.missing.now _ _ c.loop-range.invariant.has
    (split_at c.args.missing.now c.loop-range.range-index) c.send.ensures.front

pub returns-clause-failures : goal.returns-clause-failures
returns-clause-failures g c =
    counts_sent _ _ _ _ c.loop-range.invariant.counted c.send.ensures.failures c.send.ensures.fault

pub returns-in_err-print_missing-clause-kept : goal.returns-in_err-print_missing-clause-kept
returns-in_err-print_missing-clause-kept g c =
    kept_on c.from_residual.result _ _ c.from_residual.ensures
    (λ memory.
    sent_kept _ _ _ _ (take c.loop-range.range-index c.args.missing.now) _ c.loop-range.invariant.has
    (c.in_err-print_missing.ensures.kept memory))

pub returns-clause-kept : goal.returns-clause-kept
returns-clause-kept g c = never_memory c.send.result _ c.send.ensures.fault
