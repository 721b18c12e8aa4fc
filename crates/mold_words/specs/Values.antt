-- Defines the values of options that are sessions and numbers, and of options that are given several times.
use Rattle.std.specs.Prelude.{ℕ, ◌-◌, List, ◌++◌, Bool, length, replicate, nat_le, nat_lt, ◌&&◌, if◌then◌else◌}
use Rattle.std.specs.Prelude.{[], ◌∷◌, Option, None, Some, option_map}
use Rattle.std.specs.List.{list_all}
use Rattle.std.specs.Option.{option_and_then}
use Rattle.clap.specs.Words.{Text}
use Rattle.mold_digits.specs.Numbers.{decimal_of}

-- The text has 1 to `most` bytes.
abbrev pub is_sized : ℕ → Text → Bool
is_sized most text = nat_lt 0 (length text) && nat_le (length text) most

-- The byte is a character of a session name: 20 to 7E (hexadecimal).
abbrev pub is_character : ℕ → Bool
is_character c = nat_le 32 c && nat_le c 126

-- The text is 1 to 10 characters of a session name.
abbrev pub is_session : Text → Bool
is_session text = is_sized 10 text && list_all is_character text

-- The session that a text names: its characters, padded with spaces to ten bytes.
unfoldable pub session_of : Text → Option (List ℕ)
session_of text = if is_session text then Some (text ++ replicate (10 - length text) 32) else None

-- The number is from `least` to `most`.
abbrev pub is_within : ℕ → ℕ → ℕ → Bool
is_within least most n = nat_le least n && nat_le n most

-- The number, if it is from `least` to `most`.
abbrev pub in_range : ℕ → ℕ → Option ℕ → Option ℕ
in_range least most None = None
in_range least most (Some n) = if is_within least most n then Some n else None

-- The number that the decimal digits of a text represent, if it is from `least` to `most`.
unfoldable pub number_of : ℕ → ℕ → Text → Option ℕ
number_of least most text = in_range least most (decimal_of text)

-- The values of these texts, if `value_of` gives each of them a value.
unfoldable pub values_of : {A : Type 0} → (Text → Option A) → List Text → Option (List A)
values_of value_of [] = Some []
values_of value_of (text ∷ rest) =
    option_and_then (λ value. option_map (λ others. value ∷ others) (values_of value_of rest)) (value_of text)
