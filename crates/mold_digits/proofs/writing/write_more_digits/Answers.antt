use Rattle.mold_digits.proofs.DecimalLemmas.{eight_digits, five_digits, seven_digits, six_digits}
use Rattle.mold_digits.proofs.writing.write_more_digits.Goals as goal

pub returns-then-front-lt10 : goal.returns-then-front-lt10
returns-then-front-lt10 c =
    rw (five_digits c.args.number c.requires.least c.requires.most c.if-front-lt10.true)
    (rw (c.digit.ensures, c.last_four_digits.ensures) at c.write_text.ensures)

pub returns-then-front-lt100 : goal.returns-then-front-lt100
returns-then-front-lt100 c =
    rw (six_digits c.args.number c.requires.most c.if-front-lt10.false c.if-front-lt100.true)
    (rw (c.digit-then-front-lt100.ensures, c.digit-then-front-lt100-2.ensures, c.last_four_digits.ensures) at
    c.write_text-then-front-lt100.ensures)

pub returns-then-front-lt1000 : goal.returns-then-front-lt1000
returns-then-front-lt1000 c =
    rw (seven_digits c.args.number c.requires.most c.if-front-lt100.false c.if-front-lt1000.true)
    (rw (
      c.digit-then-front-lt1000.ensures,
      c.digit-then-front-lt1000-2.ensures,
      c.digit-then-front-lt1000-3.ensures,
      c.last_four_digits.ensures,
    ) at c.write_text-then-front-lt1000.ensures)

pub returns : goal.returns
returns c =
    rw (eight_digits c.args.number c.requires.most c.if-front-lt1000.false)
    (rw (c.last_four_digits-2.ensures, c.last_four_digits.ensures) at c.write_text-2.ensures)
