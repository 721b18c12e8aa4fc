-- The digest of a message.
use Rattle.std.specs.Prelude.{ℕ, zero, suc, ◌-◌, ◌*◌, ◌/◌, ◌%◌, ◌^◌, List, [], ◌∷◌, ◌++◌, bit_xor, drop, length, max}
use Rattle.std.specs.List.{fold}
use Rattle.byteorder.specs.Endian.{little_number}
use Rattle.mold_audit.specs.declared.digest.TheConstants.{FACTOR}

-- The first words of the bytes, this many of them. A word has eight bytes, and its first byte counts least.
abbrev pub words_at : ℕ → List ℕ → List ℕ
words_at zero bytes = []
words_at (suc count) bytes = little_number 8 bytes ∷ words_at count (drop 8 bytes)

-- The last eight bytes of a message, as a word. If it has fewer, zeros follow them.
abbrev pub last_word : List ℕ → ℕ
last_word message = little_number 8 (drop (length message - 8) message)

-- The words of a message, from its first byte on. The last one ends with the message, so it may overlap the one before.
abbrev pub words : List ℕ → List ℕ
words message = words_at ((length message - 1) / 8) message ++ last_word message ∷ []

-- The digest after another word.
unfoldable pub stepped : ℕ → ℕ → ℕ
stepped digest word =
    let product : ℕ = bit_xor digest word * FACTOR % 2 ^ 64 in bit_xor product (product / 2 ^ 32)

-- The digest of a message: a step for each of its words, after its length. It is at least 1.
unfoldable pub digest : List ℕ → ℕ
digest message = max (fold stepped (length message) (words message)) 1
