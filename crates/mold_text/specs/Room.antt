-- The greatest lengths of words and lines.
use Rattle.std.specs.Prelude.{ℕ, ◌+◌, ◌*◌, List, [], ◌∷◌, length, min}
use Rattle.mold_text.specs.declared.word.Word.{Word}
use Rattle.mold_text.specs.declared.word.Word.TheVariants.{Text, Number, LongNumber, Digits, Message}

-- The greatest length of a word in bytes.
abbrev pub word_room : Word → ℕ
word_room (Text text) = length text.now
word_room (Number number) = 20
word_room (LongNumber number) = 39
word_room (Digits bytes) = 2 * length bytes.now
word_room (Message message) = 2 * length message.now + 1

-- The greatest length in bytes of the words, each with a space or the end of the line.
abbrev pub words_room : List Word → ℕ
words_room [] = 0
words_room (word ∷ words) = (word_room word + 1) + words_room words

-- An upper bound of the length in bytes of a line of these words. Each number counts with its greatest number of
-- digits.
abbrev pub line_room : List Word → ℕ
line_room words = words_room words + 1

-- A number of bytes as the code computes it: it saturates at the greatest 64-bit number.
abbrev pub counted : ℕ → ℕ
counted room = min room 18446744073709551615
