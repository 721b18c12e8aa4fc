use Rattle.std.proofs.Common.{◌+◌, ◌≤◌, drop, map, take}
use Rattle.std.specs.List.{flat_map}
use Rattle.mold_digits.specs.Writing.{IsWritten}
use Rattle.mold_text.specs.Line.{after_space, word_text}
use Rattle.mold_text.specs.Room.{words_room}
use Rattle.mold_text.proofs.line.write_spaced.Given as goal

-- The words before the current one are written, and there is room for the remaining words.
abbrev pub invariant-loop-word : goal.invariant-loop-word
invariant-loop-word l = record {
  told : IsWritten l.fn.out l.out l.at l.end (flat_map after_space (map word_text (take l.word-index l.words)));
  room : l.end + words_room (drop l.word-index l.words) ≤ l.at + words_room l.words;
}
