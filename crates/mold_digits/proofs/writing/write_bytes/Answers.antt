use Rattle.std.proofs.Common.{◌+◌, ◌-◌, ◌*◌, length, arith, ap, List, ℕ}
use Rattle.std.proofs.lemmas.Slice.{drop-put_mid}
use Rattle.mold_digits.proofs.EncodingLemmas.{length_digits}
use Rattle.mold_digits.proofs.writing.write_bytes.Goals as goal

pub returns-clause-behind : goal.returns-clause-behind
returns-clause-behind c =
    let digits = 2 * length c.args.bytes.now in
    let end = c.args.at + digits in
    drop-put_mid c.args.at (end - c.args.at) c.args.out.now c.encode_into.new.out end (omega arith)
    (omega (arith, c.requires))
    (omega (arith, ap (λ (t : List ℕ). length t) c.encode_into.ensures, length_digits c.args.bytes.now))
