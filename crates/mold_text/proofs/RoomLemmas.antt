-- The room for words, one word at a time.
use Rattle.std.proofs.Common.{◌≡◌, ℕ, ◌+◌, ◌<◌, ◌≤◌, List, drop, get_or, length, min, ap, arith, drop_of_length-le}
use Rattle.std.proofs.lemmas.List.{at_drop_more}
use Rattle.mold_text.specs.Room.{word_room, words_room}
use Rattle.mold_text.specs.declared.word.Word.{Word}

-- The first of the remaining words takes its room.
room_more : (words : List Word) (i : ℕ) (d : Word) → i < length words →
    words_room (drop i words) ≡ (word_room (get_or words i d) + 1) + words_room (drop (i + 1) words)
room_more words i d within = at_drop_more words_room words i d within

-- If no word remains, none takes room.
pub room_all : (words : List Word) (i : ℕ) → length words ≤ i → words_room (drop i words) ≡ 0
room_all words i all = ap words_room (drop_of_length-le words all)

-- There is room for a space and the first of the remaining words.
pub room_here : (words : List Word) (i end most : ℕ) (d : Word) → i < length words →
    end + words_room (drop i words) ≤ most → (end + 1) + word_room (get_or words i d) ≤ most
room_here words i end most d within room = omega (arith, room, room_more words i d within)

-- After the first of the remaining words, there is room for the others.
pub room_next : (words : List Word) (i end stop most : ℕ) (d : Word) → i < length words →
    end + words_room (drop i words) ≤ most → stop ≤ (end + 1) + word_room (get_or words i d) →
    stop + words_room (drop (i + 1) words) ≤ most
room_next words i end stop most d within room written = omega (arith, room, written, room_more words i d within)

-- With the room of the first of the remaining words, the sum of all stays the same.
pub room_counted : (words : List Word) (i room one more next top : ℕ) (d : Word) → i < length words →
    one ≡ min (word_room (get_or words i d)) top → more ≡ min (one + 1) top → next ≡ min (room + more) top →
    min (room + words_room (drop i words)) top ≡ min (words_room words) top →
    min (next + words_room (drop (i + 1) words)) top ≡ min (words_room words) top
room_counted words i room one more next top d within is_one is_more is_next counted =
    omega (arith, is_one, is_more, is_next, counted, room_more words i d within)
