use Rattle.std.proofs.Common.{refl, arith}
use Rattle.mold_receiver.proofs.OccupiedLemmas.{bits_new, levels_new}
use Rattle.mold_receiver.proofs.occupied.Levels.new.Goals as goal

pub returns-clause-levels : goal.returns-clause-levels
returns-clause-levels c =
    levels_new _ c.words_for.result c.words_for-2.result c.words_for-3.result
    (c.in_ok-bits.ensures.items_if_clones_equal (λ y h. h)) (c.in_ok-words.ensures.items_if_clones_equal (λ y h. h))
    (c.in_ok-groups.ensures.items_if_clones_equal (λ y h. h)) refl (omega (arith, c.in_ok-bits.ensures.len))
    (omega (arith, c.in_ok-words.ensures.len)) (omega (arith, c.in_ok-bits.ensures.len, c.in_ok-words.ensures.len))

pub returns-clause-clear : goal.returns-clause-clear
returns-clause-clear c =
    bits_new c.in_ok-bits.bits.items c.words_for.result (c.in_ok-bits.ensures.items_if_clones_equal (λ y h. h))
