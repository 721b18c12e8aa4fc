-- The fields of a header that more bytes follow.
use Rattle.std.proofs.Common.{◌≡◌, ℕ, List, ◌++◌, length, length-append, take, sym, ap, ◌∙◌, append_assoc, arith}
use Rattle.std.proofs.lemmas.List.{take_at}
use Rattle.mold_wire.specs.Block.{be16, be64}
use Rattle.mold_wire.specs.Header.{header_bytes}

-- A header and the bytes after it, field by field.
pub header_parts :
    (session : List ℕ) (sequence count : ℕ) (rest : List ℕ) →
    header_bytes session sequence count ++ rest ≡ session ++ (be64 sequence ++ (be16 count ++ rest))
header_parts session sequence count rest =
    append_assoc session (be64 sequence ++ be16 count) rest
    ∙ ap (λ (t : List ℕ). session ++ t) (append_assoc (be64 sequence) (be16 count) rest)

-- The bytes before the message count, and the bytes from it on.
pub header_counted :
    (session : List ℕ) (sequence count : ℕ) (rest : List ℕ) →
    header_bytes session sequence count ++ rest ≡ (session ++ be64 sequence) ++ (be16 count ++ rest)
header_counted session sequence count rest =
    header_parts session sequence count rest ∙ sym (append_assoc session (be64 sequence) (be16 count ++ rest))

pub length-counted :
    (session : List ℕ) (sequence : ℕ) → length session ≡ 10 → length (session ++ be64 sequence) ≡ 18
length-counted session sequence ten = omega (arith, length-append session (be64 sequence))

pub length-header_bytes :
    (session : List ℕ) (sequence count : ℕ) → length session ≡ 10 → length (header_bytes session sequence count) ≡ 20
length-header_bytes session sequence count ten = omega (arith, length-append session (be64 sequence ++ be16 count))

-- The first 20 bytes of a header and the bytes after it are the header.
pub take-header_bytes :
    (session : List ℕ) (sequence count : ℕ) (rest : List ℕ) → length session ≡ 10 →
    take 20 (header_bytes session sequence count ++ rest) ≡ header_bytes session sequence count
take-header_bytes session sequence count rest ten =
    take_at (header_bytes session sequence count) rest 20 (length-header_bytes session sequence count ten)
