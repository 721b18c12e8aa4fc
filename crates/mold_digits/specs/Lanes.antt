-- What is computed in each lane of a vector, and how lanes are rearranged.
use Rattle.std.specs.Prelude.{ℕ, ◌+◌, ◌*◌, ◌%◌, Bool, false, ◌||◌, if◌then◌else◌, List, [], ◌∷◌, bit_and, bit_or}
use Rattle.std.specs.Prelude.{nat_lt}

-- The smaller of two numbers.
abbrev pub smaller_of : ℕ → ℕ → ℕ
smaller_of a b = if nat_lt a b then a else b

-- The larger of two numbers.
abbrev pub larger_of : ℕ → ℕ → ℕ
larger_of a b = if nat_lt a b then b else a

-- The value of the numeral `c`, and 16 or more for any other byte.
abbrev pub numeral_reading : ℕ → ℕ
numeral_reading c = (larger_of ((c + 198) % 256) 6 + 10) % 256

-- The value of the letter `c`, from A to F in either case, and 16 or more for any other byte.
abbrev pub letter_reading : ℕ → ℕ
letter_reading c = (smaller_of ((bit_and c 223 + 191) % 256) 245 + 10) % 256

-- The value of the hexadecimal digit `c`, and 16 or more if `c` is not a digit.
unfoldable pub reading : ℕ → ℕ
reading c = smaller_of (numeral_reading c) (letter_reading c)

-- The byte whose digits have these two values.
abbrev pub pair_byte : ℕ → ℕ → ℕ
pair_byte high low = (high * 16 % 256 + low) % 256

-- The lower-case hexadecimal digit of a value below 16.
unfoldable pub digit_of : ℕ → ℕ
digit_of value = if nat_lt value 10 then (value + 48) % 256 else (value + 87) % 256

-- The elements at even indices.
abbrev pub evens : List ℕ → List ℕ
evens [] = []
evens (x ∷ []) = x ∷ []
evens (x ∷ y ∷ rest) = x ∷ evens rest

-- The elements at odd indices.
abbrev pub odds : List ℕ → List ℕ
odds [] = []
odds (x ∷ []) = []
odds (x ∷ y ∷ rest) = y ∷ odds rest

-- Whether any of the values is 16 or more.
abbrev pub any_large : List ℕ → List ℕ → Bool
any_large [] low = false
any_large (h ∷ high) [] = false
any_large (h ∷ high) (l ∷ low) = nat_lt 15 (bit_or h l) || any_large high low

-- The elements of two lists, alternately.
abbrev pub woven : List ℕ → List ℕ → List ℕ
woven [] low = []
woven (h ∷ high) [] = []
woven (h ∷ high) (l ∷ low) = h ∷ l ∷ woven high low
