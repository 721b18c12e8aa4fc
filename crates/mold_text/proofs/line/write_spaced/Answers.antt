use Rattle.std.proofs.Common.{List, arith, map, refl, subst}
use Rattle.std.proofs.lemmas.List.{length-set, take_all}
use Rattle.std.specs.List.{flat_map}
use Rattle.mold_digits.specs.Writing.{IsWritten}
use Rattle.mold_text.specs.Line.{after_space, word_text}
use Rattle.mold_text.specs.declared.word.Word.{Word}
use Rattle.mold_text.specs.declared.word.Word.TheVariants.{Number}
use Rattle.mold_text.proofs.LineLemmas.{spaced_more}
use Rattle.mold_text.proofs.RoomLemmas.{room_all, room_here, room_next}
use Rattle.mold_text.proofs.line.write_spaced.Goals as goal

pub bounds-out-end : goal.bounds-out-end
bounds-out-end c =
    omega (
      arith,
      c.requires,
      c.loop-word.invariant.told.size,
      room_here c.args.words.now _ _ _ (Number 0) c.loop-word-test.true c.loop-word.invariant.room,
    )

pub write_word-end-requires : goal.write_word-end-requires
write_word-end-requires c =
    room_here c.args.words.now _ _ _ _ c.loop-word-test.true
    (omega (
      arith,
      c.requires,
      c.loop-word.invariant.room,
      c.loop-word.invariant.told.size,
      length-set c.loop-word.out c.loop-word.end 32,
    ))

pub loop-word-preserved : goal.loop-word-preserved
loop-word-preserved c = record {
  told = spaced_more _ _ _ _ c.args.words.now _ _ _ _ _ c.loop-word-test.true c.loop-word.invariant.told
      (omega (
        arith,
        c.requires,
        c.loop-word.invariant.told.size,
        room_here c.args.words.now _ _ _ (Number 0) c.loop-word-test.true c.loop-word.invariant.room,
      ))
      refl c.write_word-end.ensures.written;
  room = room_next c.args.words.now _ _ _ _ _ c.loop-word-test.true c.loop-word.invariant.room c.write_word-end.ensures.most;
}

pub returns-clause-written : goal.returns-clause-written
returns-clause-written c =
    subst (λ (words : List Word). IsWritten c.args.out.now c.loop-word.out c.args.at c.loop-word.end
    (flat_map after_space (map word_text words)))
    (take_all c.loop-word.word-index c.args.words.now c.loop-word-test.false) c.loop-word.invariant.told

pub returns-clause-most : goal.returns-clause-most
returns-clause-most c =
    omega (arith, c.loop-word.invariant.room, room_all c.args.words.now c.loop-word.word-index c.loop-word-test.false)
