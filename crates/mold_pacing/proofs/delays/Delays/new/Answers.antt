use Rattle.std.proofs.Common.{sym}
use Rattle.mold_pacing.specs.declared.delays.TheConstants.{DELAYS}
use Rattle.mold_pacing.proofs.DelayLemmas.{repeated_greatest, repeated_patience}
use Rattle.mold_pacing.proofs.delays.Delays.new.Goals as goal

pub invariant_of-result-clause-most : goal.invariant_of-result-clause-most
invariant_of-result-clause-most c =
    let recent = c.in_ok-vec-2.field-0.items in
    sym (repeated_greatest DELAYS recent (c.in_ok-vec-2.ensures.items_if_clones_equal (λ y h. h)))

pub invariant_of-result-clause-fits : goal.invariant_of-result-clause-fits
invariant_of-result-clause-fits c =
    let recent = c.in_ok-vec-2.field-0.items in
    sym (repeated_patience DELAYS recent (c.in_ok-vec-2.ensures.items_if_clones_equal (λ y h. h)))

pub returns-clause-arrivals : goal.returns-clause-arrivals
returns-clause-arrivals c = c.in_ok-vec.ensures.items_if_clones_equal (λ y h. h)

pub returns-clause-recent : goal.returns-clause-recent
returns-clause-recent c = c.in_ok-vec-2.ensures.items_if_clones_equal (λ y h. h)
