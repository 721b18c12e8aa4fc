-- Tags that are written are passed over.
use Rattle.std.proofs.Common.{◌≡◌, ℕ, zero, suc, ◌+◌, ◌<◌, ◌≤◌, ◌^◌, List, [], ◌∷◌, ◌++◌, length, drop}
use Rattle.std.proofs.Common.{true, false, nat_lt}
use Rattle.std.proofs.Common.{inl, inr, Some, None, refl, sym, ap, ◌∙◌, arith, length-append}
use Rattle.std.proofs.lemmas.Bool.{le-ltb}
use Rattle.std.proofs.lemmas.List.{drop_at, drop-drop}
use Rattle.std.specs.List.{AllByRecursion, flat_map}
use Rattle.byteorder.specs.Endian.{big_number}
use Rattle.mold_frame.specs.Link.{Tagged, headed_of, is_tag, protocol_of, tagged_of, untagged}
use Rattle.mold_frame.specs.Steps.{after_steps}
use Rattle.mold_frame.specs.Written.{AreTags, IsTag, Tag, be16, tag_bytes, tagged_bytes}
use Rattle.mold_frame.proofs.StepLemmas.{first_step, stopped}
use Rattle.mold_frame.proofs.UdpLemmas.{number-be16}

abbrev untagged_as : ℕ → List ℕ → Tagged
untagged_as protocol bytes = record { protocol = protocol; bytes = bytes }

-- The protocol number at the start, and the bytes after it.
abbrev pub tagged_at : List ℕ → Tagged
tagged_at bytes = record { protocol = big_number 2 bytes; bytes = drop 2 bytes }

same_tagged :
    (protocol other : ℕ) (bytes : List ℕ) → protocol ≡ other →
    ◌≡◌ {A = Tagged} (record { protocol = protocol; bytes = bytes }) (record { protocol = other; bytes = bytes })
same_tagged protocol other bytes same = rw same refl

pub no_tag :
    (protocol : ℕ) (bytes : List ℕ) → is_tag protocol ≡ false →
    untagged (record { protocol = protocol; bytes = bytes }) ≡ None
unfolding untagged
no_tag protocol bytes none = rw none refl

one_tag_at :
    (protocol : ℕ) (bytes : List ℕ) → is_tag protocol ≡ true → 4 ≤ length bytes →
    untagged (record { protocol = protocol; bytes = bytes })
    ≡ Some (record { protocol = big_number 2 (drop 2 bytes); bytes = drop 4 bytes })
unfolding untagged
one_tag_at protocol bytes is whole =
    let long : nat_lt (length bytes) 4 ≡ false = le-ltb (length bytes) 4 whole in
    rw (is, long) refl

pub one_tag :
    (protocol control : ℕ) (bytes : List ℕ) → is_tag protocol ≡ true → 2 ≤ length bytes →
    untagged (record { protocol = protocol; bytes = be16 control ++ bytes }) ≡ Some (tagged_at bytes)
one_tag protocol control bytes is whole = one_tag_at protocol (be16 control ++ bytes) is (omega arith)

tag_is : (tag : Tag) → IsTag tag → is_tag tag.protocol ≡ true
tag_is tag (inl customer) = rw customer refl
tag_is tag (inr (inl service)) = rw service refl
tag_is tag (inr (inr old)) = rw old refl

tag_fits : (tag : Tag) → IsTag tag → tag.protocol < 2 ^ 16
tag_fits tag (inl customer) = omega arith
tag_fits tag (inr (inl service)) = omega arith
tag_fits tag (inr (inr old)) = omega arith

pub tagged_long :
    (tags : List Tag) (protocol : ℕ) (packet : List ℕ) → 2 ≤ length (tagged_bytes tags protocol packet)
tagged_long tags protocol packet =
    omega (arith, length-append (flat_map tag_bytes tags) (be16 protocol ++ packet))

pub tags_passed :
    (most : ℕ) (tags : List Tag) (protocol : ℕ) (packet : List ℕ) → is_tag protocol ≡ false → protocol < 2 ^ 16 →
    AllByRecursion IsTag tags → length tags ≤ most →
    after_steps untagged most (tagged_at (tagged_bytes tags protocol packet))
    ≡ untagged_as protocol packet
tags_passed most [] protocol packet none fits each few =
    ap (after_steps untagged most)
    (same_tagged (big_number 2 (be16 protocol ++ packet)) protocol packet (number-be16 protocol packet fits))
    ∙ stopped untagged most (record { protocol = protocol; bytes = packet }) (no_tag protocol packet none)
tags_passed zero (tag ∷ tags) protocol packet none fits each few = absurd (omega arith)
tags_passed (suc most) (tag ∷ tags) protocol packet none fits each few =
    let rest : List ℕ = tagged_bytes tags protocol packet in
    let bytes : List ℕ = be16 tag.control ++ rest in
    let number : big_number 2 (be16 tag.protocol ++ bytes) ≡ tag.protocol =
    number-be16 tag.protocol bytes (tag_fits tag each.0) in
    ap (after_steps untagged (suc most))
    (same_tagged (big_number 2 (be16 tag.protocol ++ bytes)) tag.protocol bytes number)
    ∙ (first_step untagged most (untagged_as tag.protocol bytes) (tagged_at rest)
    (one_tag tag.protocol tag.control rest (tag_is tag each.0) (tagged_long tags protocol packet))
    ∙ tags_passed most tags protocol packet none fits each.1 (omega arith))

headed-read :
    (header at : ℕ) (start bytes : List ℕ) → length start ≡ at → header ≡ at + 2 → 2 ≤ length bytes →
    headed_of header at (start ++ bytes) ≡ tagged_of (after_steps untagged 2 (tagged_at bytes))
unfolding headed_of
headed-read header at start bytes is end whole =
    let long : nat_lt (length (start ++ bytes)) header ≡ false =
    le-ltb (length (start ++ bytes)) header (omega (arith, length-append start bytes)) in
    let here : drop at (start ++ bytes) ≡ bytes = drop_at start bytes at is in
    let after : drop header (start ++ bytes) ≡ drop 2 bytes =
    ap (λ n. drop n (start ++ bytes)) end ∙ sym (drop-drop 2 at (start ++ bytes)) ∙ ap (drop 2) here in
    rw (long, here, after) refl

-- A link's header with tags, and a packet of this protocol.
pub headed-written :
    (header at : ℕ) (start : List ℕ) (tags : List Tag) (protocol : ℕ) (packet : List ℕ) → length start ≡ at →
    header ≡ at + 2 → AreTags tags → is_tag protocol ≡ false → protocol < 2 ^ 16 →
    headed_of header at (start ++ tagged_bytes tags protocol packet) ≡ protocol_of protocol packet
headed-written header at start tags protocol packet is end are none fits =
    headed-read header at start (tagged_bytes tags protocol packet) is end (tagged_long tags protocol packet)
    ∙ ap tagged_of (tags_passed 2 tags protocol packet none fits are.each are.few)
