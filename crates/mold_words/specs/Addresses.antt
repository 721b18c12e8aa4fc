-- Defines the addresses of UDP ports that command-line arguments give.
use Rattle.std.specs.Prelude.{ℕ, ◌==◌, ◌||◌, List, [], ◌∷◌, Bool, not, length, nat_le, nat_lt, if◌then◌else◌}
use Rattle.std.specs.Prelude.{Option, None, Some}
use Rattle.std.specs.List.{after_first, before_first, position_or_len, slice_index}
use Rattle.std.specs.Option.{option_and_then}
use Rattle.clap.specs.Words.{Text}
use Rattle.mold_words.specs.Values.{number_of}
use Rattle.mold_words.specs.declared.address.Address.{Address}
use Rattle.mold_words.specs.declared.addresses.TheConstants.{MAX_PORT}

-- The model of an address: the four numbers of its host, and its port number.
abbrev pub HostPort : Type 0
HostPort = List ℕ × ℕ

-- The model of an address as the program holds it.
abbrev pub address_view : Address → HostPort
address_view address = (address.host, address.port)

-- The parts of `text` before and after the first `byte`, if it occurs.
abbrev pub cut_at : ℕ → Text → Option (Text × Text)
cut_at byte text =
    if nat_lt (position_or_len (λ b. b == byte) text) (length text)
    then Some (before_first (λ b. b == byte) text, after_first (λ b. b == byte) text)
    else None

-- The text has at most one character, or its first character is not 0.
abbrev pub is_plain : Text → Bool
is_plain text = nat_le (length text) 1 || not (slice_index text 0 == 48)

-- The number from 0 to `most` that decimal digits without leading zeros represent.
unfoldable pub plain_number : ℕ → Text → Option ℕ
plain_number most text = if is_plain text then number_of 0 most text else None

-- The four numbers from 0 to 255 of a text such as 127.0.0.1.
unfoldable pub host_of : Text → Option (List ℕ)
host_of text =
    option_and_then
    (λ front. option_and_then
    (λ middle. option_and_then
    (λ back. option_and_then
    (λ first. option_and_then
    (λ second. option_and_then
    (λ third. option_and_then
    (λ fourth. Some (first ∷ second ∷ third ∷ fourth ∷ []))
    (plain_number 255 back.1))
    (plain_number 255 back.0))
    (plain_number 255 middle.0))
    (plain_number 255 front.0))
    (cut_at 46 middle.1))
    (cut_at 46 front.1))
    (cut_at 46 text)

-- The host and the port number of a text such as 127.0.0.1:9000.
unfoldable pub address_of : Text → Option (List ℕ × ℕ)
address_of text =
    option_and_then
    (λ parts. option_and_then
    (λ host. option_and_then
    (λ port. Some (host, port))
    (plain_number MAX_PORT parts.1))
    (host_of parts.0))
    (cut_at 58 text)
