use Rattle.mold_digits.proofs.DecodingLemmas.{IsReadTo}
use Rattle.mold_digits.proofs.decoding.decode_few.Given as goal

abbrev pub invariant-bytes : goal.invariant-bytes
invariant-bytes l = IsReadTo l.digits l.out l.i l.seen
