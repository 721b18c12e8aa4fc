use Rattle.std.proofs.Common.{ℕ, slice_index, refl, arith}
use Rattle.mold_digits.specs.Digits.{value_of}
use Rattle.mold_digits.specs.declared.table.TheConstants.{VALUES}
use Rattle.mold_digits.proofs.TableLemmas.{agree_at, agree_below}
use Rattle.mold_digits.proofs.table.digit_value.Goals as goal

pub returns : goal.returns
unfolding agree_below
returns c = agree_at (λ (k : ℕ). slice_index VALUES k) value_of 256 refl c.args.digit (omega arith)
