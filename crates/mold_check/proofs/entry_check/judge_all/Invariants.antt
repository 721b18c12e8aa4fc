use Rattle.std.proofs.Common.{◌≡◌, drop}
use Rattle.mold_check.specs.EntryCheck.{all_indexed, lent_bytes}
use Rattle.mold_check.proofs.EntryLemmas.{judged_from}
use Rattle.mold_check.proofs.entry_check.judge_all.Given as goal

-- The remaining datagrams lead to the judge of all.
abbrev pub invariant-loop-entry : goal.invariant-loop-entry
invariant-loop-entry g l =
    judged_from g.J.Judge.judging l.judge l.number (drop l.entry-index l.order)
    ≡ all_indexed g.J.Judge.judging l.fn.judge (lent_bytes l.order)
