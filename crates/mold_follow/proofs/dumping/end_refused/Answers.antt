use Rattle.std.proofs.Common.{sym, ◌∙◌}
use Rattle.mold_follow.proofs.DumpingLemmas.{error_break, error_outcome, none_break}
use Rattle.mold_follow.proofs.dumping.end_refused.Goals as goal

pub returns-in-Some-clause-broken : goal.returns-in-Some-clause-broken
returns-in-Some-clause-broken g c = λ told start first going.
    none_break c.args.options told start _ first _ going c.in-Some.fault

pub returns-clause-left : goal.returns-clause-left
returns-clause-left g c = λ told start first closed going.
    error_outcome c.args.options told start _ first _ going c.args.error closed c.args.text.now.items _ _
    c.end_dump.result c.requires.empty (sym c.device_fault.ensures ∙ c.in_default.is) c.end_dump.ensures.whole
    c.end_dump.ensures.report

pub returns-clause-broken : goal.returns-clause-broken
returns-clause-broken g c = λ told start first going.
    error_break c.args.options told start _ first _ going c.args.error c.args.text.now.items _ _ _ c.end_dump.result
    c.requires.empty (sym c.device_fault.ensures ∙ c.in_default.is) c.end_dump.ensures.front c.end_dump.ensures.failures
