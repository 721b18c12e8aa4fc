use Rattle.mold_digits.proofs.NumberLemmas.{IsNumberSoFar}
use Rattle.mold_digits.proofs.number.read_number.Given as goal

-- The number is that of the digits so far.
abbrev pub invariant-digits : goal.invariant-digits
invariant-digits l = IsNumberSoFar l.word l.digit-index l.number
