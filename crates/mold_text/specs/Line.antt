-- Lines of words.
use Rattle.std.specs.Prelude.{ℕ, List, [], ◌∷◌, ◌++◌, codes, decimal}
use Rattle.std.specs.List.{flat_map}
use Rattle.hex.specs.Hex.{encode_lower}
use Rattle.mold_text.specs.declared.word.Word.{Word}
use Rattle.mold_text.specs.declared.word.Word.TheVariants.{Text, Number, LongNumber, Digits, Message}

-- A message as lower-case hexadecimal digits, or `-` if it is empty.
abbrev pub message_digits : List ℕ → List ℕ
message_digits [] = codes "-"
message_digits (byte ∷ bytes) = encode_lower (byte ∷ bytes)

-- The text that is printed for a word.
abbrev pub word_text : Word → List ℕ
word_text (Text text) = text.now
word_text (Number number) = decimal number
word_text (LongNumber number) = decimal number
word_text (Digits bytes) = encode_lower bytes.now
word_text (Message message) = message_digits message.now

-- A space followed by the word.
abbrev pub after_space : List ℕ → List ℕ
after_space word = codes " " ++ word

-- The words joined by single spaces.
unfoldable pub joined : List (List ℕ) → List ℕ
joined [] = []
joined (first ∷ others) = first ++ flat_map after_space others

-- A line: its words joined by single spaces, and the byte 0A.
abbrev pub line_of : List (List ℕ) → List ℕ
line_of words = joined words ++ codes "\n"
