use Rattle.std.proofs.Common.{arith}
use Rattle.std.proofs.lemmas.Fmt.{length-decimal-le}
use Rattle.mold_digits.proofs.writing.write_number.Goals as goal

pub returns-then-number-lt10000-clause-most : goal.returns-then-number-lt10000-clause-most
returns-then-number-lt10000-clause-most c =
    omega (
      arith,
      c.write_few_digits.ensures.stops,
      length-decimal-le 20 c.args.number (omega arith) (omega arith) (omega arith),
    )

pub returns-then-number-lt100000000-clause-most : goal.returns-then-number-lt100000000-clause-most
returns-then-number-lt100000000-clause-most c =
    omega (
      arith,
      c.write_more_digits.ensures.stops,
      length-decimal-le 20 c.args.number (omega arith) (omega arith) (omega arith),
    )

pub returns-else-number-lt100000000-clause-most : goal.returns-else-number-lt100000000-clause-most
returns-else-number-lt100000000-clause-most c =
    omega (
      arith,
      c.write_any_number.ensures.stops,
      length-decimal-le 20 c.args.number (omega arith) (omega arith) (omega arith),
    )
