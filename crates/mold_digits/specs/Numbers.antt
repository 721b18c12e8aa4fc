-- Decimal numbers that users enter.
use Rattle.std.specs.Prelude.{ℕ, List, length, Bool, ◌&&◌, nat_le, nat_lt, if◌then◌else◌, Option, None, Some}
use Rattle.std.specs.Char.{is_ascii_digit}
use Rattle.std.specs.List.{list_all}
use Rattle.std.specs.Str.Parse.{digits_value}

-- Whether `word` has 1 to 20 bytes.
abbrev pub is_sized : List ℕ → Bool
is_sized word = nat_lt 0 (length word) && nat_le (length word) 20

-- Whether `word` has 1 to 20 decimal digits. Leading zeros are allowed and count as digits.
abbrev pub is_decimal : List ℕ → Bool
is_decimal word = is_sized word && list_all is_ascii_digit word

-- The number that `word` encodes in decimal, if `word` has 1 to 20 digits and the number fits in 64 bits. The
-- limit of 20 digits is a choice of this project.
unfoldable pub decimal_of : List ℕ → Option ℕ
decimal_of word =
    if is_decimal word && nat_le (digits_value 10 word) 18446744073709551615 then Some (digits_value 10 word) else None
