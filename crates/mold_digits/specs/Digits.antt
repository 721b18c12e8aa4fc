-- The values of hexadecimal digits, and how many bytes were decoded or encoded.
use Rattle.std.specs.Prelude.{◌≡◌, ℕ, ◌*◌, List, take, unwrap_or, Ok}
use Rattle.hex.specs.Hex.{decode_pairs, encode_lower, hex_digit_value}

-- The value of the hexadecimal digit `c`, or 255 if `c` is not a digit.
abbrev pub value_of : ℕ → ℕ
value_of c = unwrap_or (hex_digit_value c) 255

-- The first `at` bytes of `out` are the decoding of the first `2 * at` digits.
abbrev pub IsDecodedTo : ℕ → List ℕ → List ℕ → Type 0
IsDecodedTo at digits out = decode_pairs 0 (take (2 * at) digits) ≡ Ok (take at out)

-- The first `2 * at` bytes of `out` are the digits of the first `at` bytes.
abbrev pub IsEncodedTo : ℕ → List ℕ → List ℕ → Type 0
IsEncodedTo at bytes out = take (2 * at) out ≡ encode_lower (take at bytes)
