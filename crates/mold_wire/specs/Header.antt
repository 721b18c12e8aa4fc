-- The header of downstream packets and requests.
use Rattle.std.specs.Prelude.{◌≡◌, ℕ, ◌<◌, ◌^◌, List, ◌++◌, length, take, drop}
use Rattle.mold_wire.specs.Block.{be16, be64}
use Rattle.mold_wire.specs.declared.header.Header.{Header}

-- The bytes of a header: session, sequence number and message count.
abbrev pub header_bytes : List ℕ → ℕ → ℕ → List ℕ
header_bytes session sequence count = session ++ (be64 sequence ++ be16 count)

-- The bytes are the encoding of `header` followed by `rest`.
pub record IsHeaderAndRest (header : Header) (bytes rest : List ℕ) : Type 0 where
  pub session : length header.session.0 ≡ 10
  pub sequence : header.sequence < 2 ^ 64
  pub count : header.count < 2 ^ 16
  pub parts : bytes ≡ header_bytes header.session.0 header.sequence header.count ++ rest

-- The bytes of a packet, with the message count in its header replaced by `count`.
abbrev pub recounted : ℕ → List ℕ → List ℕ
recounted count bytes = take 18 bytes ++ (be16 count ++ drop 2 (drop 18 bytes))
