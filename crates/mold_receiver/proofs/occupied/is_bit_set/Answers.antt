use Rattle.std.proofs.Common.{◌/◌, ◌%◌, get_or, nat_eq, ap}
use Rattle.std.proofs.lemmas.Nat.Bits.{shr_and_one}
use Rattle.mold_receiver.specs.Occupied.{bit_of}
use Rattle.mold_receiver.proofs.occupied.is_bit_set.Goals as goal

pub returns : goal.returns
unfolding bit_of
returns c = ap (λ b. nat_eq b 1) (shr_and_one (get_or c.args.words.now (c.args.i / 64) 0) (c.args.i % 64))
