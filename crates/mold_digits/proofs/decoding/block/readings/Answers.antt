use Rattle.mold_digits.proofs.ReadingLemmas.{letters_are, numerals_are, readings_are}
use Rattle.mold_digits.proofs.decoding.block.readings.Goals as goal

pub returns : goal.returns
returns c =
    readings_are _ _ _ _ (numerals_are _ _ _ _ c.plus.ensures c.at_least.ensures c.plus-numerals.ensures)
    (letters_are _ _ _ _ _ c.masked.ensures c.plus-2.ensures c.at_most.ensures c.plus-letters.ensures)
    c.smaller.ensures
