-- Whether bytes begin as a capture.
use Rattle.std.specs.Prelude.{ℕ, ◌||◌, Bool, List, [], ◌∷◌, nat_eq}
use Rattle.std.specs.List.{starts_with}

-- The bytes begin with a magic of classic pcap, in either byte order, or with the kind of a section header of pcapng.
unfoldable pub begins_as_capture : List ℕ → Bool
begins_as_capture bytes =
    starts_with nat_eq bytes (0xa1 ∷ 0xb2 ∷ 0xc3 ∷ 0xd4 ∷ [])
    || (starts_with nat_eq bytes (0xd4 ∷ 0xc3 ∷ 0xb2 ∷ 0xa1 ∷ [])
    || (starts_with nat_eq bytes (0xa1 ∷ 0xb2 ∷ 0x3c ∷ 0x4d ∷ [])
    || (starts_with nat_eq bytes (0x4d ∷ 0x3c ∷ 0xb2 ∷ 0xa1 ∷ [])
    || starts_with nat_eq bytes (0x0a ∷ 0x0d ∷ 0x0d ∷ 0x0a ∷ []))))
