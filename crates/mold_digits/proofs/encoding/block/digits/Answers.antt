use Rattle.std.proofs.Common.{◌<◌, map, ap, subst, sym, ◌∙◌}
use Rattle.std.specs.Simd.Lanes.{Each1}
use Rattle.std.proofs.lemmas.Simd.{below_from_Fits}
use Rattle.mold_digits.proofs.LaneLemmas.{halves_small, rests_small}
use Rattle.mold_digits.proofs.EncodingLemmas.{half_written}
use Rattle.mold_digits.specs.Lanes.{digit_of}
use mir.Syntax.{w8}
use Rattle.mold_digits.proofs.encoding.block.digits.Goals as goal

pub lower_digits-high-requires : goal.lower_digits-high-requires
lower_digits-high-requires c =
    subst (Each1 (λ x. x < 16)) (sym c.high_halves.ensures)
    (halves_small c.args.lanes (below_from_Fits w8 _ c.fits-lanes.1))

pub lower_digits-low-requires : goal.lower_digits-low-requires
lower_digits-low-requires c = subst (Each1 (λ x. x < 16)) (sym c.masked.ensures) (rests_small c.args.lanes)

pub returns-clause-front : goal.returns-clause-front
returns-clause-front c =
    c.woven_front.ensures
    ∙ half_written c.args.lanes _ _ 0 (below_from_Fits w8 _ c.fits-lanes.1)
    (c.lower_digits-high.ensures ∙ ap (map digit_of) c.high_halves.ensures)
    (c.lower_digits-low.ensures ∙ ap (map digit_of) c.masked.ensures)

pub returns-clause-back : goal.returns-clause-back
returns-clause-back c =
    c.woven_back.ensures
    ∙ half_written c.args.lanes _ _ 8 (below_from_Fits w8 _ c.fits-lanes.1)
    (c.lower_digits-high.ensures ∙ ap (map digit_of) c.high_halves.ensures)
    (c.lower_digits-low.ensures ∙ ap (map digit_of) c.masked.ensures)
