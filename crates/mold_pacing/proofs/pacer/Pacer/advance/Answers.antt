use Rattle.std.proofs.Common.{◌+◌, ◌∙◌, ap, arith}
use Rattle.mold_pacing.specs.declared.state.PacerState.{PacerState}
use Rattle.mold_pacing.proofs.ApartLemmas.{apart_later}
use Rattle.mold_pacing.proofs.EndLemmas.{all_later}
use Rattle.mold_pacing.proofs.LawLemmas.{advanced_now}
use Rattle.mold_pacing.proofs.RangeLemmas.{flies_later}
use Rattle.mold_pacing.proofs.pacer.Pacer.advance.Goals as goal

pub invariant_of-self-clause-ends : goal.invariant_of-self-clause-ends
invariant_of-self-clause-ends c =
    let old = c.args.self.now in
    let now = ap (λ (s : PacerState). s.now) c.advance.ensures
    ∙ advanced_now c.args.time c.args.known old.state in
    all_later (old.state.now + old.options.ceiling) (c.advance.new.self.now + old.options.ceiling) old.flights.items
    (omega (arith, now)) old.ends

pub invariant_of-self-clause-apart : goal.invariant_of-self-clause-apart
invariant_of-self-clause-apart c =
    let old = c.args.self.now in
    let now = ap (λ (s : PacerState). s.now) c.advance.ensures
    ∙ advanced_now c.args.time c.args.known old.state in
    apart_later old.state.now c.advance.new.self.now old.flights.items (omega (arith, now)) old.apart

pub invariant_of-self-clause-low : goal.invariant_of-self-clause-low
invariant_of-self-clause-low c =
    let old = c.args.self.now in
    let now = ap (λ (s : PacerState). s.now) c.advance.ensures
    ∙ advanced_now c.args.time c.args.known old.state in
    flies_later old.state.now c.advance.new.self.now old.bounds.low old.flights.items (omega (arith, now)) old.low
