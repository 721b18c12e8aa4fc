-- Frames that are written are read back.
use Rattle.std.proofs.Common.{◌≡◌, ℕ, ◌+◌, List, ◌++◌, length, refl, ◌∙◌, arith}
use Rattle.mold_frame.specs.Carried.{Datagram, Whole}
use Rattle.mold_frame.specs.Ipv4.{ipv4_of}
use Rattle.mold_frame.specs.Ipv6.{ipv6_of}
use Rattle.mold_frame.specs.Link.{carried, headed_of, protocol_of}
use Rattle.mold_frame.specs.Written.{AreIpv4Fields, AreIpv6Fields, AreTags, IsDatagram, Ipv4Fields, Ipv6Fields, Tag}
use Rattle.mold_frame.specs.Written.{ipv4_bytes, ipv6_bytes, tagged_bytes}
use Rattle.mold_frame.proofs.Ipv4Lemmas.{ipv4-written}
use Rattle.mold_frame.proofs.Ipv6Lemmas.{ipv6-written}
use Rattle.mold_frame.proofs.TagLemmas.{headed-written}

of_ethernet : (bytes : List ℕ) → carried 1 bytes ≡ headed_of 14 12 bytes
unfolding carried
of_ethernet bytes = refl

of_cooked : (bytes : List ℕ) → carried 113 bytes ≡ headed_of 16 14 bytes
unfolding carried
of_cooked bytes = refl

pub of_ipv4 : (bytes : List ℕ) → carried 228 bytes ≡ ipv4_of bytes
unfolding carried
of_ipv4 bytes = refl

pub of_ipv6 : (bytes : List ℕ) → carried 229 bytes ≡ ipv6_of bytes
unfolding carried
of_ipv6 bytes = refl

protocol_4 : (bytes : List ℕ) → protocol_of 0x0800 bytes ≡ ipv4_of bytes
unfolding protocol_of
protocol_4 bytes = refl

protocol_6 : (bytes : List ℕ) → protocol_of 0x86dd bytes ≡ ipv6_of bytes
unfolding protocol_of
protocol_6 bytes = refl

-- A link's header with tags, and an IPv4 packet with a datagram.
headed_ipv4 :
    (header at : ℕ) (d : Datagram) (checksum : ℕ) (fields : Ipv4Fields) (tags : List Tag) (start padding : List ℕ) →
    IsDatagram 4 d → AreIpv4Fields fields d → AreTags tags → length start ≡ at → header ≡ at + 2 →
    headed_of header at (start ++ tagged_bytes tags 0x0800 (ipv4_bytes checksum fields d padding)) ≡ Whole d
headed_ipv4 header at d checksum fields tags start padding is are tagged begins end =
    let packet : List ℕ = ipv4_bytes checksum fields d padding in
    headed-written header at start tags 0x0800 packet begins end tagged refl (omega arith)
    ∙ (protocol_4 packet ∙ ipv4-written d checksum fields padding is are)

-- The same of an IPv6 packet.
headed_ipv6 :
    (header at : ℕ) (d : Datagram) (checksum : ℕ) (fields : Ipv6Fields) (tags : List Tag) (start padding : List ℕ) →
    IsDatagram 16 d → AreIpv6Fields checksum fields d → AreTags tags → length start ≡ at → header ≡ at + 2 →
    headed_of header at (start ++ tagged_bytes tags 0x86dd (ipv6_bytes checksum fields d padding)) ≡ Whole d
headed_ipv6 header at d checksum fields tags start padding is are tagged begins end =
    let packet : List ℕ = ipv6_bytes checksum fields d padding in
    headed-written header at start tags 0x86dd packet begins end tagged refl (omega arith)
    ∙ (protocol_6 packet ∙ ipv6-written d checksum fields padding is are)

pub ethernet-ipv4 :
    (d : Datagram) (checksum : ℕ) (fields : Ipv4Fields) (tags : List Tag) (start padding : List ℕ) →
    IsDatagram 4 d → AreIpv4Fields fields d → AreTags tags → length start ≡ 12 →
    carried 1 (start ++ tagged_bytes tags 0x0800 (ipv4_bytes checksum fields d padding)) ≡ Whole d
ethernet-ipv4 d checksum fields tags start padding is are tagged begins =
    of_ethernet (start ++ tagged_bytes tags 0x0800 (ipv4_bytes checksum fields d padding))
    ∙ headed_ipv4 14 12 d checksum fields tags start padding is are tagged begins refl

pub ethernet-ipv6 :
    (d : Datagram) (checksum : ℕ) (fields : Ipv6Fields) (tags : List Tag) (start padding : List ℕ) →
    IsDatagram 16 d → AreIpv6Fields checksum fields d → AreTags tags → length start ≡ 12 →
    carried 1 (start ++ tagged_bytes tags 0x86dd (ipv6_bytes checksum fields d padding)) ≡ Whole d
ethernet-ipv6 d checksum fields tags start padding is are tagged begins =
    of_ethernet (start ++ tagged_bytes tags 0x86dd (ipv6_bytes checksum fields d padding))
    ∙ headed_ipv6 14 12 d checksum fields tags start padding is are tagged begins refl

pub cooked-ipv4 :
    (d : Datagram) (checksum : ℕ) (fields : Ipv4Fields) (tags : List Tag) (start padding : List ℕ) →
    IsDatagram 4 d → AreIpv4Fields fields d → AreTags tags → length start ≡ 14 →
    carried 113 (start ++ tagged_bytes tags 0x0800 (ipv4_bytes checksum fields d padding)) ≡ Whole d
cooked-ipv4 d checksum fields tags start padding is are tagged begins =
    of_cooked (start ++ tagged_bytes tags 0x0800 (ipv4_bytes checksum fields d padding))
    ∙ headed_ipv4 16 14 d checksum fields tags start padding is are tagged begins refl

pub cooked-ipv6 :
    (d : Datagram) (checksum : ℕ) (fields : Ipv6Fields) (tags : List Tag) (start padding : List ℕ) →
    IsDatagram 16 d → AreIpv6Fields checksum fields d → AreTags tags → length start ≡ 14 →
    carried 113 (start ++ tagged_bytes tags 0x86dd (ipv6_bytes checksum fields d padding)) ≡ Whole d
cooked-ipv6 d checksum fields tags start padding is are tagged begins =
    of_cooked (start ++ tagged_bytes tags 0x86dd (ipv6_bytes checksum fields d padding))
    ∙ headed_ipv6 16 14 d checksum fields tags start padding is are tagged begins refl
