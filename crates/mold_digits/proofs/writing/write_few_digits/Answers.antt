use Rattle.std.proofs.lemmas.Fmt.{decimal_digit}
use Rattle.mold_digits.proofs.DecimalLemmas.{four_digits, three_digits, two_digits}
use Rattle.mold_digits.proofs.writing.write_few_digits.Goals as goal

pub returns-then-number-lt10 : goal.returns-then-number-lt10
returns-then-number-lt10 c =
    rw (decimal_digit c.args.number c.if-number-lt10.true) (rw c.digit.ensures at c.write_text.ensures)

pub returns-then-number-lt100 : goal.returns-then-number-lt100
returns-then-number-lt100 c =
    rw (two_digits c.args.number c.if-number-lt10.false c.if-number-lt100.true)
    (rw (c.digit-then-number-lt100.ensures, c.digit-then-number-lt100-2.ensures) at c.write_text-then-number-lt100.ensures)

pub returns-then-number-lt1000 : goal.returns-then-number-lt1000
returns-then-number-lt1000 c =
    rw (three_digits c.args.number c.if-number-lt100.false c.if-number-lt1000.true)
    (rw (
      c.digit-then-number-lt1000.ensures,
      c.digit-then-number-lt1000-2.ensures,
      c.digit-then-number-lt1000-3.ensures,
    ) at c.write_text-then-number-lt1000.ensures)

pub returns : goal.returns
returns c =
    rw (four_digits c.args.number c.if-number-lt1000.false c.requires.most)
    (rw c.last_four_digits.ensures at c.write_text-2.ensures)
