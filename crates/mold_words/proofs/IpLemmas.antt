-- Lemmas about the texts that write IPv6 addresses.
use Rattle.std.proofs.Common.{◌≡◌, ◌∙◌, ℕ, List, [], ◌∷◌, Option, Some, None}
use Rattle.std.proofs.Common.{ap, append-nil, arith, length, ne_eqb, refl, sym, subst}
use Rattle.std.proofs.NetLemmas.Ipv6.{EndsGroups-nil, read_ipv6_complete, read_ipv6_sound}
use Rattle.std.proofs.lemmas.Option.{none-some, same_Some}
use Rattle.std.specs.Net.Addr.{octets_of}
use Rattle.std.specs.Net.Grammar.{IsColonHex, IsIpv6Text}
use Rattle.std.specs.Net.Reader.{Read, read_ipv6, whole_value}
use Rattle.std.specs.Option.{option_map}
use Rattle.std.specs.declared.net.ipv6_addr.Ipv6Addr.{Ipv6Addr}
use Rattle.clap.specs.Words.{Text}
use Rattle.mold_words.specs.IpAddresses.{ipv6_of}

-- the text writes the address with these segments, whose bytes these are
abbrev pub IsWrittenAs : Text → List ℕ → Type 0
IsWrittenAs text bytes = (segments : List ℕ) × IsColonHex text segments × (bytes ≡ octets_of segments)

-- an address that is not the whole text gives nothing
unread : (segments : List ℕ) (c : ℕ) (rest : List ℕ)
    → None ≡ option_map octets_of (whole_value (Some (segments, c ∷ rest)))
unread segments c rest = rw (ne_eqb (length (c ∷ rest)) 0 (omega arith)) refl

read_fully : (text : Text) (bytes : List ℕ) (read : Read (List ℕ)) → read_ipv6 text ≡ read
    → option_map octets_of (whole_value read) ≡ Some bytes → IsWrittenAs text bytes
read_fully text bytes None is given = absurd (none-some bytes given)
read_fully text bytes (Some (segments, [])) is given =
    let (written, split, colon) = read_ipv6_sound text segments [] is in (
      segments,
      subst (λ t. IsColonHex t segments) (sym (split ∙ append-nil written)) colon,
      sym (same_Some _ _ given),
    )
read_fully text bytes (Some (segments, c ∷ rest)) is given = absurd (none-some bytes (unread segments c rest ∙ given))

-- bytes that a text gives are those of the address that it writes
pub given_written : (text : Text) (bytes : List ℕ) → ipv6_of text ≡ Some bytes → IsWrittenAs text bytes
unfolding ipv6_of
given_written text bytes given = read_fully text bytes (read_ipv6 text) refl given

-- a text that writes an address gives its bytes
pub written_given : (text segments : List ℕ) → IsColonHex text segments → ipv6_of text ≡ Some (octets_of segments)
unfolding ipv6_of
written_given text segments colon =
    ap (λ (read : Read (List ℕ)). option_map octets_of (whole_value read))
    (ap read_ipv6 (sym (append-nil text)) ∙ read_ipv6_complete text segments [] colon EndsGroups-nil)

no_text : (text : Text) (found : Option (List ℕ)) → ipv6_of text ≡ found
    → ((address : Ipv6Addr) → ¬ (IsIpv6Text text address)) → None ≡ ipv6_of text
no_text text None is none = sym is
no_text text (Some bytes) is none =
    let (segments, colon, same) = given_written text bytes is in
    absurd (none (record { segments = segments }) colon)

-- a text that writes no address gives none
pub unwritten_given : (text : Text) → ((address : Ipv6Addr) → ¬ (IsIpv6Text text address)) → None ≡ ipv6_of text
unwritten_given text none = no_text text (ipv6_of text) refl none
