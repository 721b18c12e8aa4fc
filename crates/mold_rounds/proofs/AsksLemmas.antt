-- The number of messages that packets carry, and the number of requests that bring missing messages.
use Rattle.std.proofs.Common.{◌≡◌, ℕ, zero, suc, ◌+◌, ◌-◌, ◌<◌, ◌≤◌, Bool, true, false, cond, eqb, List, [], ◌∷◌, ◌++◌}
use Rattle.std.proofs.Common.{length, length-drop, length-take, length-append, take, drop, refl}
use Rattle.std.proofs.Common.{sym, ap, ◌∙◌, inl, inr, arith, sum_by}
use Rattle.std.proofs.lemmas.Bool.{cond-true, cond-false, ne_eqb, cases_eq, eq-eqb}
use Rattle.std.proofs.lemmas.List.Sums.{sum_by-cons}
use Rattle.mold_rule.specs.Ranges.{Range, size}
use Rattle.mold_receiver.specs.Store.{Message}
use Rattle.mold_rounds.specs.Rounds.{asks, asks_within, brought, carried, messages_in, nameless}
use Rattle.mold_session.specs.Answer.{from_number}
use Rattle.mold_session.specs.Datagrams.{data_packet, first_part, packing, packing_within}
use Rattle.mold_wire.specs.Packet.{messages_of}
use Rattle.mold_wire.specs.Packing.{IsFront, front}
use Rattle.mold_wire.specs.declared.packet.Packet.{Packet}
use Rattle.mold_wire.specs.declared.session.Session.{Session}

-- The laws on prefixes that fit and on packings.
pub record PacksFronts : Type 0 where
  pub front_is : (limit : ℕ) (messages : List Message) (most : ℕ) → 20 ≤ limit →
      IsFront limit messages most (front limit messages most)
  pub part : (limit count : ℕ) (messages : List Message) → 20 ≤ limit →
      first_part limit (take count messages) ≡ front limit messages count
  pub first : (limit : ℕ) (session : Session) (sequence : ℕ) (messages found behind : List Message) →
      front limit messages (length messages) ≡ found → 0 < length found → messages ≡ found ++ behind →
      packing limit session sequence messages
      ≡ data_packet session sequence found ∷ packing limit session (sequence + length found) behind

-- Packets with the same numbers of messages carry the same number.
carried_either : (none : Bool) (n : ℕ) (p q : Packet) (ps qs : List Packet) →
    length (messages_of p.body) ≡ length (messages_of q.body) → carried (take n ps) ≡ carried (take n qs) →
    carried (take (suc n) (cond none [] (p ∷ ps))) ≡ carried (take (suc n) (cond none [] (q ∷ qs)))
carried_either true n p q ps qs same rest = refl
carried_either false n p q ps qs same rest =
    sum_by-cons (λ packet. length (messages_of packet.body)) p (take n ps)
    ∙ (λ i. same i + rest i)
    ∙ sym (sum_by-cons (λ packet. length (messages_of packet.body)) q (take n qs))

carried_within : (n limit most : ℕ) (s t : Session) (i j : ℕ) (messages : List Message) →
    carried (take n (packing_within limit most s i messages))
    ≡ carried (take n (packing_within limit most t j messages))
unfolding packing_within
carried_within zero limit most s t i j messages = refl
carried_within (suc n) limit zero s t i j messages = refl
carried_within (suc n) limit (suc most) s t i j messages =
    let part : List Message = first_part limit messages in
    carried_either (eqb (length part) 0) n (data_packet s i part) (data_packet t j part)
    (packing_within limit most s (i + length part) (drop (length part) messages))
    (packing_within limit most t (j + length part) (drop (length part) messages))
    refl (carried_within n limit most s t (i + length part) (j + length part) (drop (length part) messages))

pub carried_any : (limit burst sequence : ℕ) (session : Session) (messages : List Message) →
    carried (take burst (packing limit session sequence messages))
    ≡ carried (take burst (packing limit nameless 1 messages))
unfolding packing
carried_any limit burst sequence session messages =
    carried_within burst limit (length messages) session nameless sequence 1 messages

-- Packets carry at least the messages of the first one.
pub carried_first : (n : ℕ) (p : Packet) (ps : List Packet) → 1 ≤ n →
    length (messages_of p.body) ≤ carried (take n (p ∷ ps))
carried_first zero p ps some = absurd (omega arith)
carried_first (suc n) p ps some =
    omega (arith, sum_by-cons (λ (packet : Packet). length (messages_of packet.body)) p (take n ps))

pub brings : PacksFronts → (limit burst : ℕ) (messages : List Message) → 20 ≤ limit → 1 ≤ burst →
    0 < length (front limit messages 65534) → 0 < brought limit burst messages
brings packs limit burst messages room some found =
    let asked : List Message = take 65534 messages in
    let part : List Message = first_part limit asked in
    let longest = packs.front_is limit asked (length asked) room in
    let part_is : length part ≡ length (front limit messages 65534) =
    ap length (packs.part limit 65534 messages room)
    in
    let packs_first =
    packs.first limit nameless 1 asked part longest.behind refl (omega (arith, part_is, found)) longest.parts
    in
    omega (
      arith,
      found,
      part_is,
      ap (λ (t : List Packet). carried (take burst t)) packs_first,
      carried_first burst (data_packet nameless 1 part) (packing limit nameless (1 + length part) longest.behind) some,
    )

-- No messages need no requests.
none_asked : (limit burst most : ℕ) (messages : List Message) → length messages ≡ 0 →
    asks_within limit burst most messages ≡ 0
unfolding asks_within front
none_asked limit burst zero messages none = refl
none_asked limit burst (suc most) [] none = refl
none_asked limit burst (suc most) (m ∷ messages) none = absurd (omega (arith, none))

stops_asking : (limit burst most : ℕ) (messages : List Message) → length (front limit messages 65534) ≡ 0 →
    asks_within limit burst most messages ≡ 0
unfolding asks_within
stops_asking limit burst zero messages none = refl
stops_asking limit burst (suc most) messages none =
    cond-true (eqb (length (front limit messages 65534)) 0) _ _ (eq-eqb _ 0 none)

-- If as many requests are allowed as there are messages, the limit doesn't matter.
enough : (limit burst : ℕ) →
    ((messages : List Message) → 0 < length (front limit messages 65534) → 0 < brought limit burst messages) →
    (a b : ℕ) (messages : List Message) → length messages ≤ a → length messages ≤ b →
    asks_within limit burst a messages ≡ asks_within limit burst b messages
unfolding asks_within
enough limit burst some zero b messages within also = sym (none_asked limit burst b messages (omega (arith, within)))
enough limit burst some (suc a) zero messages within also =
    none_asked limit burst (suc a) messages (omega (arith, also))
enough limit burst some (suc a) (suc b) messages within also =
    let count : ℕ = length (front limit messages 65534) in
    let behind : List Message = drop (brought limit burst messages) messages in
    elim (cases_eq count 0) [
      | inl none ↦ stops_asking limit burst (suc a) messages none ∙ sym (stops_asking limit burst (suc b) messages none)
      | inr more ↦
          let brought_some : 0 < brought limit burst messages = some messages (omega (arith, more)) in
          let fewer = length-drop (brought limit burst messages) messages in
          ap (λ (n : ℕ). cond (eqb count 0) 0 (suc n))
          (enough limit burst some a b behind
          (omega (arith, fewer, brought_some, within)) (omega (arith, fewer, brought_some, also)))
    ]

pub asks_none : (limit burst : ℕ) (messages : List Message) → length (front limit messages 65534) ≡ 0 →
    asks limit burst messages ≡ 0
unfolding asks
asks_none limit burst messages none = stops_asking limit burst (length messages) messages none

pub asks_empty : (limit burst : ℕ) (messages : List Message) → length messages ≡ 0 → asks limit burst messages ≡ 0
unfolding asks
asks_empty limit burst messages none = none_asked limit burst (length messages) messages none

asks_once : (limit burst most : ℕ) (messages : List Message) → 0 < length (front limit messages 65534) →
    asks_within limit burst (suc most) messages
    ≡ suc (asks_within limit burst most (drop (brought limit burst messages) messages))
unfolding asks_within
asks_once limit burst most messages found =
    cond-false (eqb (length (front limit messages 65534)) 0) _ _
    (ne_eqb (length (front limit messages 65534)) 0 (λ none. absurd (omega (arith, none, found))))

pub asks_more : PacksFronts → (limit burst : ℕ) (messages : List Message) → 20 ≤ limit → 1 ≤ burst →
    0 < length (front limit messages 65534) →
    asks limit burst messages ≡ suc (asks limit burst (drop (brought limit burst messages) messages))
unfolding asks
asks_more packs limit burst messages room some found =
    let behind : List Message = drop (brought limit burst messages) messages in
    let longest = packs.front_is limit messages 65534 room in
    let long = ap length longest.parts ∙ length-append (front limit messages 65534) longest.behind in
    let all : length messages ≡ suc (length messages - 1) = omega (arith, long, found) in
    let brought_some = brings packs limit burst messages room some found in
    let fewer = length-drop (brought limit burst messages) messages in
    ap (λ (n : ℕ). asks_within limit burst n messages) all
    ∙ asks_once limit burst (length messages - 1) messages found
    ∙ ap suc
    (enough limit burst (λ ms. brings packs limit burst ms room some) (length messages - 1) (length behind) behind
    (omega (arith, fewer, brought_some)) (omega arith))

one_more : (none : Bool) (n m : ℕ) → n ≤ m → cond none 0 (suc n) ≤ suc m
one_more true n m few = omega arith
one_more false n m few = omega (arith, few)

few_within : (limit burst most : ℕ) (messages : List Message) → asks_within limit burst most messages ≤ most
unfolding asks_within
few_within limit burst zero messages = omega arith
few_within limit burst (suc most) messages =
    one_more (eqb (length (front limit messages 65534)) 0) _ most
    (few_within limit burst most (drop (brought limit burst messages) messages))

pub asks_few : (limit burst : ℕ) (messages : List Message) → asks limit burst messages ≤ length messages
unfolding asks
asks_few limit burst messages = few_within limit burst (length messages) messages

-- There are at most as many requests as numbers.
pub sum_few : (limit burst : ℕ) (published : List Message) (rs : List Range) →
    sum_by (λ gap. asks limit burst (messages_in published gap)) rs ≤ sum_by size rs
sum_few limit burst published [] = omega arith
sum_few limit burst published (r ∷ rs) =
    omega (
      arith,
      sum_by-cons (λ (gap : Range). asks limit burst (messages_in published gap)) r rs,
      sum_by-cons size r rs,
      sum_few limit burst published rs,
      asks_few limit burst (messages_in published r),
      length-take (suc r.last - r.first) (from_number published r.first),
    )
