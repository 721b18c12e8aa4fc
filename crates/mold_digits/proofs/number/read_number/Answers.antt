use Rattle.std.proofs.Common.{sym, ◌∙◌}
use Rattle.mold_digits.proofs.NumberLemmas.{no_size, no_digit, digit_more, digits_done}
use Rattle.mold_digits.proofs.number.read_number.Goals as goal

pub returns-then-not-is_sized : goal.returns-then-not-is_sized
returns-then-not-is_sized c = no_size c.args.word.now (sym c.is_sized.ensures ∙ c.if-not-is_sized.true)

pub returns-then-not-is_ascii_digit : goal.returns-then-not-is_ascii_digit
returns-then-not-is_ascii_digit c =
    no_digit c.args.word.now c.digits.digit-index c.digits-test.true
    (sym c.is_ascii_digit.ensures.value ∙ c.if-not-is_ascii_digit.true)

pub digits-preserved : goal.digits-preserved
digits-preserved c =
    digit_more c.args.word.now c.digits.digit-index c.digits.number _ c.digits-test.true c.digits.invariant
    (rw c.if-not-is_ascii_digit.false at c.is_ascii_digit.ensures.cases)
    (sym c.is_ascii_digit.ensures.value ∙ c.if-not-is_ascii_digit.false) c.from.ensures

pub returns : goal.returns
returns c =
    c.ok.ensures.value
    ∙ digits_done c.args.word.now c.digits.digit-index c.digits.number c.try_from.result
    (sym c.is_sized.ensures ∙ c.if-not-is_sized.false) c.digits-test.false c.digits.invariant c.try_from.ensures
