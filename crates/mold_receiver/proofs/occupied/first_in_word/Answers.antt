use Rattle.std.proofs.Common.{get_or, refl, arith}
use Rattle.std.proofs.lemmas.Nat.{trailing_le}
use Rattle.mold_receiver.proofs.OccupiedLemmas.{first_of_word, word_within}
use Rattle.mold_receiver.proofs.occupied.first_in_word.Goals as goal

pub overflow_add-result : goal.overflow_add-result
overflow_add-result c =
    let word = get_or c.args.words.now c.args.k 0 in
    omega (arith, trailing_le 64 word, word_within c.args.words.now c.args.k c.requires.some)

pub returns : goal.returns
returns c = first_of_word c.args.words.now c.args.k _ refl c.requires.some (c.type_inv.words c.args.k).fits
