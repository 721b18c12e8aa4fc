-- What datagrams state, one datagram after another.
use Rattle.std.proofs.Common.{◌≡◌, ℕ, zero, suc, max, eqb, List, [], ◌∷◌, ◌++◌, refl, sym, ap, subst}
use Rattle.std.proofs.Common.{◌∙◌, inl, inr, ◌⊎◌, arith}
use Rattle.std.specs.Prelude.{Option, None, Some, Result, Ok, Err}
use Rattle.std.specs.List.{All, Contains, flat_map}
use Rattle.std.specs.Map.{lookup}
use Rattle.std.specs.FinMap as finite
use Rattle.std.specs.Option.{option_or}
use Rattle.std.proofs.lemmas.Grind.{flat_map-append}
use Rattle.std.proofs.lemmas.List.{append-nil}
use Rattle.std.proofs.lemmas.List.Elements.{All-head, All-tail}
use Rattle.std.proofs.lemmas.Option.{none-some}
use Rattle.mold_wire.specs.Packet.{Spells, messages_of, top_of}
use Rattle.mold_wire.specs.Reading.{reading}
use Rattle.mold_wire.specs.Truth.{message_at, Carries}
use Rattle.mold_wire.specs.declared.packet.Packet.{Packet}
use Rattle.mold_wire.specs.declared.packet.Body.{Body}
use Rattle.mold_wire.specs.declared.packet.Body.TheVariants.{End}
use Rattle.mold_wire.specs.declared.error.DecodeError.{DecodeError}
use Rattle.mold_capture.specs.Consistent.{IsSaidBy, IsCarried, HasEnd}
use Rattle.mold_capture.specs.Seen.{read_before, packets_of, session_of, known_of, end_in, end_of, pairs_in, seen_in, seen_of, joined, pairs_with}
use Rattle.mold_capture.proofs.PairLemmas.{option_cases, option_or_cases, option_or_first, option_or_second}
use Rattle.mold_capture.proofs.PairLemmas.{lookup-numbered, lookup-append, get_made, get-with, same_pairs}
use Rattle.mold_capture.proofs.JoinLemmas.{end_is}

read_append : (r : Result Packet DecodeError) (us vs ws : List Packet) → us ≡ vs ++ ws →
    read_before r us ≡ read_before r vs ++ ws
read_append (Ok v) us vs ws same = ap (λ (t : List Packet). v ∷ t) same
read_append (Err e) us vs ws same = same

packets-append : (list more : List (List ℕ)) → packets_of (list ++ more) ≡ packets_of list ++ packets_of more
packets-append [] more = refl
packets-append (bytes ∷ list) more =
    read_append (reading bytes) (packets_of (list ++ more)) (packets_of list) (packets_of more) (packets-append list more)

packets-one : (bytes : List ℕ) (v : Packet) → reading bytes ≡ Ok v → packets_of (bytes ∷ []) ≡ v ∷ []
packets-one bytes v is = ap (λ (r : Result Packet DecodeError). read_before r []) is

session-push : (vs : List Packet) (v : Packet) → session_of (vs ++ v ∷ []) ≡ option_or (session_of vs) (Some v.session.0)
session-push [] v = refl
session-push (u ∷ vs) v = refl

known-push : (vs : List Packet) (v : Packet) → known_of (vs ++ v ∷ []) ≡ max (known_of vs) (top_of v)
known-push [] v = omega arith
known-push (u ∷ vs) v = omega (arith, known-push vs v)

or_none : (o : Option ℕ) → option_or o None ≡ o
or_none None = refl
or_none (Some x) = refl

or_joined : (a b c : Option ℕ) → option_or a (option_or b c) ≡ option_or (option_or a b) c
or_joined None b c = refl
or_joined (Some x) b c = refl

end-push : (vs : List Packet) (v : Packet) → end_of (vs ++ v ∷ []) ≡ option_or (end_of vs) (end_in v.body v.sequence)
end-push [] v = or_none (end_in v.body v.sequence)
end-push (u ∷ vs) v =
    ap (option_or (end_in u.body u.sequence)) (end-push vs v)
    ∙ or_joined (end_in u.body u.sequence) (end_of vs) (end_in v.body v.sequence)

get-packets : (vs : List Packet) (q : ℕ) →
    finite.get (seen_in vs).pairs q ≡ lookup (eqb q) (flat_map pairs_in vs)
get-packets vs q = get_made (flat_map pairs_in vs) q

pairs-push : (vs : List Packet) (v : Packet) →
    (seen_in (vs ++ v ∷ [])).pairs ≡ pairs_with (seen_in vs).pairs v.sequence (messages_of v.body)
pairs-push vs v = same_pairs _ _ (λ q.
    let ms = messages_of v.body in
    get-packets (vs ++ v ∷ []) q
    ∙ ap (lookup (eqb q)) (flat_map-append pairs_in vs (v ∷ []))
    ∙ lookup-append (eqb q) (flat_map pairs_in vs) (pairs_in v ++ [])
    ∙ ap (option_or (lookup (eqb q) (flat_map pairs_in vs)))
    (ap (lookup (eqb q)) (append-nil (pairs_in v)) ∙ lookup-numbered v.sequence ms q)
    ∙ ap (λ (o : Option (List ℕ)). option_or o (message_at v.sequence ms q)) (sym (get-packets vs q))
    ∙ sym (get-with (seen_in vs).pairs v.sequence ms q))

-- What is stated with one more datagram at the end.
pub seen-push : (list : List (List ℕ)) (bytes : List ℕ) (v : Packet) → reading bytes ≡ Ok v →
    seen_of (list ++ bytes ∷ []) ≡ joined (seen_of list) v
seen-push list bytes v is =
    let vs = packets_of list in
    let packets : packets_of (list ++ bytes ∷ []) ≡ vs ++ v ∷ [] =
    packets-append list (bytes ∷ []) ∙ ap (λ (t : List Packet). vs ++ t) (packets-one bytes v is)
    in
    ap seen_in packets
    ∙ (λ i. record {
      session = session-push vs v i;
      known = known-push vs v i;
      ended = end-push vs v i;
      pairs = pairs-push vs v i;
    })

-- The fact about the codec that the lemmas here need: an encoding is decoded as its packet.
abbrev pub ReadsBack : Type 0
ReadsBack = (packet : Packet) (bytes : List ℕ) → Spells packet bytes → reading bytes ≡ Ok packet

pub one_packet : ReadsBack → (one other : Packet) (bytes : List ℕ) → Spells one bytes → Spells other bytes → one ≡ other
one_packet reads one other bytes first second =
    read_one one other (sym (reads one bytes first) ∙ reads other bytes second)
  where
    read_one : (v w : Packet) → ◌≡◌ {A = Result Packet DecodeError} (Ok v) (Ok w) → v ≡ w
    read_one v w same = cc

here : {X : Type 0} (x : X) (xs : List X) → Contains (x ∷ xs) x
here x xs = (0, omega arith, refl)

behind : {X : Type 0} (y x : X) (xs : List X) → Contains xs x → Contains (y ∷ xs) x
behind y x xs (k, lt, is) = (suc k, omega arith, is)

member_cases : {X : Type 0} (y x : X) (xs : List X) → Contains (y ∷ xs) x → (y ≡ x) ⊎ Contains xs x
member_cases y x xs (zero, lt, is) = inl is
member_cases y x xs (suc k, lt, is) = inr (k, omega arith, is)

-- The packets of a list that begins with a packet.
packets-first : (bytes : List ℕ) (list : List (List ℕ)) (v : Packet) → reading bytes ≡ Ok v →
    packets_of (bytes ∷ list) ≡ v ∷ packets_of list
packets-first bytes list v is = ap (λ (r : Result Packet DecodeError). read_before r (packets_of list)) is

-- The carried message with a number, in a list that begins with a packet.
get-first : (bytes : List ℕ) (list : List (List ℕ)) (v : Packet) → reading bytes ≡ Ok v → (q : ℕ) →
    finite.get (seen_of (bytes ∷ list)).pairs q
    ≡ option_or (message_at v.sequence (messages_of v.body) q) (finite.get (seen_of list).pairs q)
get-first bytes list v is q =
    let vs = packets_of list in
    ap (λ (us : List Packet). finite.get (seen_in us).pairs q) (packets-first bytes list v is)
    ∙ get-packets (v ∷ vs) q
    ∙ lookup-append (eqb q) (pairs_in v) (flat_map pairs_in vs)
    ∙ ap (λ (o : Option (List ℕ)). option_or o (lookup (eqb q) (flat_map pairs_in vs)))
    (lookup-numbered v.sequence (messages_of v.body) q)
    ∙ ap (option_or (message_at v.sequence (messages_of v.body) q)) (sym (get-packets vs q))

end-first : (bytes : List ℕ) (list : List (List ℕ)) (v : Packet) → reading bytes ≡ Ok v →
    (seen_of (bytes ∷ list)).ended ≡ option_or (end_in v.body v.sequence) (seen_of list).ended
end-first bytes list v is = ap end_of (packets-first bytes list v is)

-- A carried message is in one of the datagrams.
pub get_carried : ReadsBack → (session : List ℕ) (P list : List (List ℕ)) → All (IsSaidBy session P) list →
    (q : ℕ) (m : List ℕ) → finite.get (seen_of list).pairs q ≡ Some m → IsCarried list q m
get_carried reads session P [] each q m is = absurd (none-some m (sym (get-packets [] q) ∙ is))
get_carried reads session P (bytes ∷ list) each q m is =
    let said = All-head (IsSaidBy session P) bytes list each in
    let v = said.packet in
    let at = get-first bytes list v (reads v bytes said.spelled) q in
    elim (option_or_cases (message_at v.sequence (messages_of v.body) q) (finite.get (seen_of list).pairs q) m (sym at ∙ is)) [
      | inl first ↦ record { bytes = bytes; packet = v; member = here bytes list; spelled = said.spelled; carried = first }
      | inr later ↦
          let found = get_carried reads session P list (All-tail (IsSaidBy session P) bytes list each) q m later.1 in
          record {
            bytes = found.bytes;
            packet = found.packet;
            member = behind bytes found.bytes list found.member;
            spelled = found.spelled;
            carried = found.carried;
          }
    ]

-- If a datagram has a message with a number, the number has a carried message.
pub carried_get : ReadsBack → (session : List ℕ) (P list : List (List ℕ)) → All (IsSaidBy session P) list →
    (q : ℕ) (m : List ℕ) (bytes : List ℕ) (packet : Packet) → Contains list bytes → Spells packet bytes → Carries packet q m
    → (x : List ℕ) × (finite.get (seen_of list).pairs q ≡ Some x)
carried_get reads session P [] each q m bytes packet member spelled carried = absurd (omega (arith, member.1))
carried_get reads session P (first ∷ list) each q m bytes packet member spelled carried =
    let said = All-head (IsSaidBy session P) first list each in
    let v = said.packet in
    let at = get-first first list v (reads v first said.spelled) q in
    elim (member_cases first bytes list member) [
      | inl same ↦
          let one : v ≡ packet = one_packet reads v packet bytes (subst (λ (b : List ℕ). Spells v b) same said.spelled) spelled in (
            m,
            at
                ∙ option_or_first (message_at v.sequence (messages_of v.body) q) (finite.get (seen_of list).pairs q) m
                (ap (λ (u : Packet). message_at u.sequence (messages_of u.body) q) one ∙ carried),
          )
      | inr later ↦
          let found = carried_get reads session P list (All-tail (IsSaidBy session P) first list each) q m bytes packet later spelled carried in
          elim (option_cases (message_at v.sequence (messages_of v.body) q)) [
            | inl none ↦
                (found.0, at ∙ option_or_second (message_at v.sequence (messages_of v.body) q) (finite.get (seen_of list).pairs q) none ∙ found.1)
            | inr other ↦
                (other.0, at ∙ option_or_first (message_at v.sequence (messages_of v.body) q) (finite.get (seen_of list).pairs q) other.0 other.1)
          ]
    ]

-- The end that is stated is that of an end packet among the datagrams.
pub end_told : ReadsBack → (session : List ℕ) (P list : List (List ℕ)) → All (IsSaidBy session P) list →
    (number : ℕ) → (seen_of list).ended ≡ Some number → HasEnd list number
end_told reads session P [] each number is = absurd (none-some number is)
end_told reads session P (bytes ∷ list) each number is =
    let said = All-head (IsSaidBy session P) bytes list each in
    let v = said.packet in
    let at = end-first bytes list v (reads v bytes said.spelled) in
    elim (option_or_cases (end_in v.body v.sequence) (seen_of list).ended number (sym at ∙ is)) [
      | inl first ↦
          let told = end_is v.body v.sequence number first in
          record { bytes = bytes; packet = v; member = here bytes list; spelled = said.spelled; ended = told.0; at = told.1 }
      | inr later ↦
          let found = end_told reads session P list (All-tail (IsSaidBy session P) bytes list each) number later.1 in
          record {
            bytes = found.bytes;
            packet = found.packet;
            member = behind bytes found.bytes list found.member;
            spelled = found.spelled;
            ended = found.ended;
            at = found.at;
          }
    ]

-- If an end packet is among the datagrams, an end is stated.
pub end_found : ReadsBack → (session : List ℕ) (P list : List (List ℕ)) → All (IsSaidBy session P) list →
    (bytes : List ℕ) (packet : Packet) → Contains list bytes → Spells packet bytes → packet.body ≡ End
    → (number : ℕ) × ((seen_of list).ended ≡ Some number)
end_found reads session P [] each bytes packet member spelled ended = absurd (omega (arith, member.1))
end_found reads session P (first ∷ list) each bytes packet member spelled ended =
    let said = All-head (IsSaidBy session P) first list each in
    let v = said.packet in
    let at = end-first first list v (reads v first said.spelled) in
    elim (member_cases first bytes list member) [
      | inl same ↦
          let one : v ≡ packet = one_packet reads v packet bytes (subst (λ (b : List ℕ). Spells v b) same said.spelled) spelled in
          let told : end_in v.body v.sequence ≡ Some v.sequence = ap (λ (b : Body). end_in b v.sequence) (ap (λ (u : Packet). u.body) one ∙ ended) in
          (v.sequence, at ∙ option_or_first (end_in v.body v.sequence) (seen_of list).ended v.sequence told)
      | inr later ↦
          let found = end_found reads session P list (All-tail (IsSaidBy session P) first list each) bytes packet later spelled ended in
          elim (option_cases (end_in v.body v.sequence)) [
            | inl none ↦ (found.0, at ∙ option_or_second (end_in v.body v.sequence) (seen_of list).ended none ∙ found.1)
            | inr other ↦ (other.0, at ∙ option_or_first (end_in v.body v.sequence) (seen_of list).ended other.0 other.1)
          ]
    ]
