use Rattle.std.proofs.Common.{◌/◌, ◌%◌, ◌^◌, ◌<◌, get_or, refl, arith}
use Rattle.mold_receiver.proofs.OccupiedLemmas.{index_fits, next_of_word, none_in_word, past_in_word}
use Rattle.mold_receiver.proofs.occupied.next_in_word.Goals as goal

pub returns-then-k-len : goal.returns-then-k-len
returns-then-k-len c = past_in_word c.args.words.now c.args.from c.if-k-len.true

pub returns-then-rest-eq0 : goal.returns-then-rest-eq0
returns-then-rest-eq0 c =
    let word = get_or c.args.words.now (c.args.from / 64) 0 in
    none_in_word c.args.words.now c.args.from word (word / 2 ^ (c.args.from % 64)) refl refl c.if-rest-eq0.true

pub overflow_add-result : goal.overflow_add-result
overflow_add-result c =
    let word = get_or c.args.words.now (c.args.from / 64) 0 in
    let rest = word / 2 ^ (c.args.from % 64) in
    let some : 0 < rest = omega arith in
    omega (
      arith,
      index_fits c.args.words.now c.args.from word rest refl refl some
          (c.type_inv.words (c.args.from / 64)).fits c.ranges.from.fits,
    )

pub returns : goal.returns
returns c =
    let word = get_or c.args.words.now (c.args.from / 64) 0 in
    let rest = word / 2 ^ (c.args.from % 64) in
    let some : 0 < rest = omega arith in
    next_of_word c.args.words.now c.args.from word rest refl refl some (c.type_inv.words (c.args.from / 64)).fits
