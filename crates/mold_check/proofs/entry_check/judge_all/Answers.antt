use Rattle.std.proofs.Common.{◌∙◌, ◌+◌, ap, arith, drop}
use Rattle.mold_check.specs.Entries.{bytes_of}
use Rattle.mold_check.proofs.EntryLemmas.{judged_all, judged_from, judged_more}
use Rattle.mold_check.proofs.entry_check.judge_all.Goals as goal

pub loop-entry-preserved : goal.loop-entry-preserved
loop-entry-preserved g c =
    let judging = g.J.Judge.judging in
    let order = c.args.order.now in
    let i = c.loop-entry.entry-index in
    let judged = c.in_ok-add.ensures
    ∙ ap (λ b. judging.added c.loop-entry.judge c.loop-entry.number b)
    (c.as_slice.ensures.value ∙ ap (λ e. bytes_of e.now) c.entry-item.is)
    in
    (λ k. judged_from judging (judged k) (c.saturating_add-number.ensures k) (drop (i + 1) order))
    ∙ judged_more judging c.loop-entry.judge c.loop-entry.number order i _ _ c.loop-entry-test.true
    c.loop-entry.invariant

pub returns : goal.returns
returns g c =
    judged_all g.J.Judge.judging c.loop-entry.judge c.loop-entry.number c.args.order.now c.loop-entry.entry-index _
    (omega (arith, c.loop-entry-test.false)) c.loop-entry.invariant
