use Rattle.std.proofs.Common.{arith}
use Rattle.std.proofs.lemmas.Fmt.{length-decimal-le_wide}
use Rattle.mold_digits.proofs.writing.write_very_long_number.Goals as goal

pub returns-clause-most : goal.returns-clause-most
returns-clause-most c =
    omega (arith, c.write_text.ensures.stops, length-decimal-le_wide 39 c.args.number (omega arith) (omega arith) (omega arith))
