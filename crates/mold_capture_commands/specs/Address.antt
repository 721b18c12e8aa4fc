-- Addresses as text.
use Rattle.std.specs.Prelude.{ℕ, ◌==◌, List, [], ◌∷◌, ◌++◌, drop, length, take, codes, decimal, if◌then◌else◌}
use Rattle.std.specs.List.{flat_map}
use Rattle.hex.specs.Hex.{encode_lower}

-- A byte that is not the first: a point and the byte in decimal.
abbrev pub after_point : ℕ → List ℕ
after_point byte = codes "." ++ decimal byte

-- An address of IPv4: its bytes in decimal, with points between them.
abbrev pub points_text : List ℕ → List ℕ
points_text [] = []
points_text (first ∷ others) = decimal first ++ flat_map after_point others

-- Groups of two bytes.
abbrev pub groups : List ℕ → List (List ℕ)
groups [] = []
groups (byte ∷ []) = (byte ∷ []) ∷ []
groups (first ∷ second ∷ others) = (first ∷ second ∷ []) ∷ groups others

-- A group that is not the first: a colon and two lower-case hexadecimal digits for each byte.
abbrev pub after_colon : List ℕ → List ℕ
after_colon group = codes ":" ++ encode_lower group

-- The groups of an address of IPv6 in hexadecimal, with colons between them.
abbrev pub joined_groups : List ℕ → List ℕ
joined_groups address = encode_lower (take 2 address) ++ flat_map after_colon (groups (drop 2 address))

-- An address of IPv6 in brackets.
abbrev pub groups_text : List ℕ → List ℕ
groups_text address = codes "[" ++ (joined_groups address ++ codes "]")

-- An address of four bytes as one of IPv4, any other as one of IPv6.
unfoldable pub address_text : List ℕ → List ℕ
address_text address = if length address == 4 then points_text address else groups_text address

-- A colon and the port in decimal.
abbrev pub port_text : ℕ → List ℕ
port_text port = codes ":" ++ decimal port

-- An address and its port.
unfoldable pub endpoint_text : List ℕ → ℕ → List ℕ
endpoint_text address port = address_text address ++ port_text port
