-- The request packet, its encoding and the reading of a datagram as a request.
use Rattle.std.specs.Prelude.{◌≡◌, ℕ, ◌<◌, ◌^◌, List, length, take, drop, ◌==◌, if◌then◌else◌, Result, Ok, Err}
use Rattle.byteorder.specs.Endian.{big_number}
use Rattle.mold_wire.specs.Header.{header_bytes}
use Rattle.mold_wire.specs.declared.header.TheConstants.{HEADER_LENGTH}
use Rattle.mold_wire.specs.declared.request.Request.{Request}
use Rattle.mold_wire.specs.declared.error.RequestError.{RequestError}
use Rattle.mold_wire.specs.declared.error.RequestError.TheVariants.{RequestLength}

-- The request is valid, so it has an encoding. Its session has ten bytes, its sequence number is below 2 ^
-- 64, and its count is below 65,536.
pub record IsRequest (request : Request) : Type 0 where
  pub session : length request.session.0 ≡ 10
  pub sequence : request.sequence < 2 ^ 64
  pub count : request.count < 2 ^ 16

-- The encoding of a request: a header and nothing else. The message count of the header is the number of
-- requested messages.
abbrev pub request_spelling : Request → List ℕ
request_spelling request = header_bytes request.session.0 request.sequence request.count

-- The bytes are the encoding of the request.
pub record SpellsRequest (request : Request) (bytes : List ℕ) : Type 0 where
  pub is_request : IsRequest request
  pub spelled : bytes ≡ request_spelling request

-- The bytes have this fault: they do not have the length of a header, and `len` is their length.
abbrev pub RequestFaultAt : RequestError → List ℕ → Type 0
RequestFaultAt (RequestLength len) bytes = (length bytes ≡ HEADER_LENGTH → ⊥) × (len ≡ length bytes)

-- The request that the bytes encode, or their fault.
unfoldable pub request_reading : List ℕ → Result Request RequestError
request_reading bytes =
    if length bytes == HEADER_LENGTH
    then Ok (record {
      session = record { 0 = take 10 bytes };
      sequence = big_number 8 (drop 10 bytes);
      count = big_number 2 (drop 18 bytes);
    })
    else Err (RequestLength (length bytes))
