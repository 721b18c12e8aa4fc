-- How messages are packed: the first packet, and the packing of the messages after it.
use Rattle.std.proofs.Common.{◌≡◌, ℕ, zero, suc, ◌+◌, ◌-◌, ◌<◌, ◌≤◌, cond, eqb, List, [], ◌∷◌, ◌++◌, length}
use Rattle.std.proofs.Common.{length-append, drop, refl, sym, ap, ◌∙◌, inl, inr, arith}
use Rattle.std.proofs.lemmas.Bool.{cond-true, cond-false, ne_eqb, cases_eq, eq-eqb}
use Rattle.std.proofs.lemmas.List.{drop_at, length-drop}
use Rattle.mold_wire.specs.declared.session.Session.{Session}
use Rattle.mold_wire.specs.declared.packet.Packet.{Packet}
use Rattle.mold_wire.specs.Packing.{front}
use Rattle.mold_session.specs.Datagrams.{data_packet, first_part, packing_within, packing}

-- The packing of the messages after a first packet that has a message.
pub packed_behind : (limit most : ℕ) (session : Session) (sequence : ℕ) (messages found behind : List (List ℕ)) →
    first_part limit messages ≡ found → 0 < length found → messages ≡ found ++ behind →
    packing_within limit (suc most) session sequence messages
    ≡ data_packet session sequence found ∷ packing_within limit most session (sequence + length found) behind
unfolding packing_within
packed_behind limit most session sequence messages found behind is some parts =
    let rest : drop (length found) messages ≡ behind =
    ap (drop (length found)) parts ∙ drop_at found behind (length found) refl
    in
    cond-false (eqb (length (first_part limit messages)) 0) _ _
    (ne_eqb (length (first_part limit messages)) 0 (λ none. absurd (omega (arith, ap length is))))
    ∙ ap (λ (t : List (List ℕ)). data_packet session sequence t
    ∷ packing_within limit most session (sequence + length t) (drop (length t) messages)) is
    ∙ ap (λ (t : List (List ℕ)). data_packet session sequence found
    ∷ packing_within limit most session (sequence + length found) t) rest

packed_none : (limit most : ℕ) (session : Session) (sequence : ℕ) (messages : List (List ℕ)) →
    length (first_part limit messages) ≡ 0 → packing_within limit most session sequence messages ≡ []
unfolding packing_within
packed_none limit zero session sequence messages none = refl
packed_none limit (suc most) session sequence messages none = cond-true _ _ _ (eq-eqb _ 0 none)

-- The bound on the number of packets has no effect if it is at least the number of messages.
none_of_none : (limit most : ℕ) (session : Session) (sequence : ℕ) (messages : List (List ℕ)) → length messages ≡ 0 →
    packing_within limit most session sequence messages ≡ []
unfolding front
none_of_none limit most session sequence [] none = packed_none limit most session sequence [] refl
none_of_none limit most session sequence (message ∷ messages) none = absurd (omega arith)

pub enough : (limit a b : ℕ) (session : Session) (sequence : ℕ) (messages : List (List ℕ)) → length messages ≤ a →
    length messages ≤ b →
    packing_within limit a session sequence messages ≡ packing_within limit b session sequence messages
unfolding packing_within
enough limit zero b session sequence messages within also =
    sym (none_of_none limit b session sequence messages (omega arith))
enough limit (suc a) zero session sequence messages within also =
    none_of_none limit (suc a) session sequence messages (omega arith)
enough limit (suc a) (suc b) session sequence messages within also =
    let count = length (first_part limit messages) in
    let behind = drop count messages in
    elim (cases_eq count 0) [
      | inl none ↦
          packed_none limit (suc a) session sequence messages none
          ∙ sym (packed_none limit (suc b) session sequence messages none)
      | inr some ↦
          ap (λ (t : List Packet). cond (eqb count 0) [] (data_packet session sequence (first_part limit messages) ∷ t))
          (enough limit a b session (sequence + count) behind
          (omega (arith, length-drop count messages, some))
          (omega (arith, length-drop count messages, some)))
    ]

pub packing_none : (limit : ℕ) (session : Session) (sequence : ℕ) → packing limit session sequence [] ≡ []
unfolding packing front
packing_none limit session sequence = packed_none limit 0 session sequence [] refl

pub packing_first : (limit : ℕ) (session : Session) (sequence : ℕ) (messages found behind : List (List ℕ)) →
    front limit messages (length messages) ≡ found → 0 < length found → messages ≡ found ++ behind →
    packing limit session sequence messages
    ≡ data_packet session sequence found ∷ packing limit session (sequence + length found) behind
unfolding packing
packing_first limit session sequence messages found behind is some parts =
    let long : length messages ≡ length found + length behind = ap length parts ∙ length-append found behind in
    ap (λ (most : ℕ). packing_within limit most session sequence messages) (long ∙ omega arith)
    ∙ packed_behind limit (length found + length behind - 1) session sequence messages found behind is some parts
    ∙ ap (λ (t : List Packet). data_packet session sequence found ∷ t)
    (enough limit (length found + length behind - 1) (length behind) session (sequence + length found) behind
    (omega arith) (omega arith))
