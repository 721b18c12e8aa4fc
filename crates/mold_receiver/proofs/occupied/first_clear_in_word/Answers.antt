use Rattle.std.proofs.Common.{◌+◌, ◌*◌, ◌%◌, ◌/◌, ◌^◌, ℕ, get_or, refl, subst, sym, arith, w64}
use Rattle.std.specs.Int.{bit_not}
use Rattle.std.proofs.lemmas.Nat.{trailing_le}
use Rattle.mold_receiver.specs.Occupied.{IsFirstBit}
use Rattle.mold_receiver.proofs.FirstFlagLemmas.{first_clear_of_word}
use Rattle.mold_receiver.proofs.occupied.first_clear_in_word.Goals as goal

pub overflow_add-from : goal.overflow_add-from
overflow_add-from c =
    let word = get_or c.args.words.now (c.args.from / 64) 0 in
    omega (arith, trailing_le 64 (bit_not w64 word / 2 ^ (c.args.from % 64)), c.requires.few)

pub returns : goal.returns
returns c =
    subst (λ (n : ℕ). IsFirstBit c.args.words.now c.args.from (64 * (c.args.from / 64 + 1)) 0 n) (sym c.min.ensures)
    (first_clear_of_word c.args.words.now c.args.from _ _ refl (c.type_inv.words (c.args.from / 64)).fits refl)
