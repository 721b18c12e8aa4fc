use Rattle.std.proofs.Common.{arith}
use Rattle.mold_text.proofs.RoomLemmas.{room_all, room_counted}
use Rattle.mold_text.proofs.line.words_room.Goals as goal

pub loop-word-preserved : goal.loop-word-preserved
loop-word-preserved c = record {
  fits = omega (arith, c.saturating_add-room.type_inv);
  counted = room_counted c.args.words.now _ _ _ _ _ _ _ c.loop-word-test.true c.word_room.ensures c.saturating_add.ensures
      c.saturating_add-room.ensures c.loop-word.invariant.counted;
}

pub returns : goal.returns
returns c =
    omega (
      arith,
      c.loop-word.invariant.fits,
      c.loop-word.invariant.counted,
      room_all c.args.words.now c.loop-word.word-index c.loop-word-test.false,
    )
