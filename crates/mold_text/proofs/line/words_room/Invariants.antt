use Rattle.std.proofs.Common.{◌≡◌, ◌+◌, ◌≤◌, drop, min}
use Rattle.mold_text.specs.Room.{words_room}
use Rattle.mold_text.proofs.line.words_room.Given as goal

-- The room so far, with that of the remaining words.
abbrev pub invariant-loop-word : goal.invariant-loop-word
invariant-loop-word l = record {
  fits : l.room ≤ 18446744073709551615;
  counted :
      min (l.room + words_room (drop l.word-index l.words)) 18446744073709551615
      ≡ min (words_room l.words) 18446744073709551615;
}
