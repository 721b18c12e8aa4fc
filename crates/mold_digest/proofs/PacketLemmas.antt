-- What digested datagrams state together.
use Rattle.std.proofs.Common.{◌≡◌, ℕ, suc, ◌+◌, max, Bool, true, false, cond, List, [], ◌∷◌, ◌++◌, length, map}
use Rattle.std.proofs.Common.{refl, sym, ap, ◌∙◌}
use Rattle.std.specs.Prelude.{Option, Some, Result, Ok, Err}
use Rattle.std.specs.Cmp.{nat_cmp_total}
use Rattle.std.specs.List.{All, flat_map}
use Rattle.std.specs.FinMap as finite
use Rattle.std.specs.FinMap.{find}
use Rattle.std.specs.Option.{option_map, option_or}
use Rattle.std.specs.Ordering.{nat_cmp}
use Rattle.std.proofs.lemmas.List.{length-map, map-append}
use Rattle.std.proofs.lemmas.List.Elements.{All-head, All-tail}
use Rattle.mold_wire.specs.Block.{IsBytes}
use Rattle.mold_wire.specs.Packet.{Spells, messages_of, top_of}
use Rattle.mold_wire.specs.Reading.{reading}
use Rattle.mold_wire.specs.declared.error.DecodeError.{DecodeError}
use Rattle.mold_wire.specs.declared.packet.Packet.{Packet}
use Rattle.mold_wire.specs.declared.packet.Body.{Body}
use Rattle.mold_wire.specs.declared.packet.Body.TheVariants.{Data, Heartbeat, End}
use Rattle.mold_capture.specs.Seen.{numbered, read_before, packets_of, session_of, known_of, end_in, end_of, pairs_in, seen_in, seen_of}
use Rattle.mold_digest.specs.Key.{digest}
use Rattle.mold_digest.specs.Digested.{digested, digested_body, digested_list, digested_packet}
use Rattle.mold_digest.proofs.DigestedLemmas.{ReadsBack, digested_err, digested_spelled}
use Rattle.mold_digest.proofs.SaidLemmas.{messages_digested}

-- The other fact about the codec that the lemmas here need: a decoded packet has the bytes as its encoding.
abbrev pub IsSpelled : Type 0
IsSpelled = (packet : Packet) (bytes : List ℕ) → IsBytes bytes → reading bytes ≡ Ok packet → Spells packet bytes

-- The reading of a digested datagram, from the reading of the datagram.
abbrev pub read_digested : List ℕ → Result Packet DecodeError → Result Packet DecodeError
read_digested key (Ok packet) = Ok (digested_packet key packet)
read_digested key (Err error) = Err error

reading_from : ReadsBack → IsSpelled → (key bytes : List ℕ) → IsBytes bytes → (r : Result Packet DecodeError) →
    reading bytes ≡ r → reading (digested key bytes) ≡ read_digested key r
reading_from reads spelled key bytes fits (Ok packet) is =
    reads (digested_packet key packet) (digested key bytes)
    (digested_spelled reads key bytes packet (spelled packet bytes fits is))
reading_from reads spelled key bytes fits (Err error) is = ap reading (digested_err key bytes error is) ∙ is

pub reading_digested : ReadsBack → IsSpelled → (key bytes : List ℕ) → IsBytes bytes →
    reading (digested key bytes) ≡ read_digested key (reading bytes)
reading_digested reads spelled key bytes fits = reading_from reads spelled key bytes fits (reading bytes) refl

before_digested : (key : List ℕ) (r : Result Packet DecodeError) (vs ws : List Packet) →
    ws ≡ map (digested_packet key) vs → read_before (read_digested key r) ws ≡ map (digested_packet key) (read_before r vs)
before_digested key (Ok v) vs ws is = ap (λ (t : List Packet). digested_packet key v ∷ t) is
before_digested key (Err error) vs ws is = is

-- The packets of digested datagrams.
pub packets_digested : ReadsBack → IsSpelled → (key : List ℕ) (list : List (List ℕ)) → All IsBytes list →
    packets_of (digested_list key list) ≡ map (digested_packet key) (packets_of list)
packets_digested reads spelled key [] fits = refl
packets_digested reads spelled key (bytes ∷ list) fits =
    ap (λ (r : Result Packet DecodeError). read_before r (packets_of (digested_list key list)))
    (reading_digested reads spelled key bytes (All-head IsBytes bytes list fits))
    ∙ before_digested key (reading bytes) (packets_of list) (packets_of (digested_list key list))
    (packets_digested reads spelled key list (All-tail IsBytes bytes list fits))

session_digested : (key : List ℕ) (vs : List Packet) → session_of (map (digested_packet key) vs) ≡ session_of vs
session_digested key [] = refl
session_digested key (v ∷ vs) = refl

pub top_digested : (key : List ℕ) (v : Packet) → top_of (digested_packet key v) ≡ top_of v
top_digested key v =
    ap (λ (ms : List (List ℕ)). v.sequence + length ms) (messages_digested key v.body)
    ∙ ap (λ (n : ℕ). v.sequence + n) (length-map (messages_of v.body) (digest key))

known_digested : (key : List ℕ) (vs : List Packet) → known_of (map (digested_packet key) vs) ≡ known_of vs
known_digested key [] = refl
known_digested key (v ∷ vs) =
    ap (λ (n : ℕ). max n (known_of (map (digested_packet key) vs))) (top_digested key v)
    ∙ ap (max (top_of v)) (known_digested key vs)

end_in_digested : (key : List ℕ) (body : Body) (n : ℕ) → end_in (digested_body key body) n ≡ end_in body n
end_in_digested key (Data ms) n = refl
end_in_digested key Heartbeat n = refl
end_in_digested key End n = refl

ended_digested : (key : List ℕ) (vs : List Packet) → end_of (map (digested_packet key) vs) ≡ end_of vs
ended_digested key [] = refl
ended_digested key (v ∷ vs) =
    ap (λ (o : Option ℕ). option_or o (end_of (map (digested_packet key) vs)))
    (end_in_digested key v.body v.sequence)
    ∙ ap (option_or (end_in v.body v.sequence)) (ended_digested key vs)

-- The pairs with a function of each message.
abbrev mapped : (List ℕ → List ℕ) → List (ℕ × List ℕ) → List (ℕ × List ℕ)
mapped f es = map (λ e. (e.0, f e.1)) es

numbered_mapped : (f : List ℕ → List ℕ) (n : ℕ) (ms : List (List ℕ)) →
    numbered n (map f ms) ≡ mapped f (numbered n ms)
numbered_mapped f n [] = refl
numbered_mapped f n (m ∷ ms) = ap (λ (t : List (ℕ × List ℕ)). (n, f m) ∷ t) (numbered_mapped f (suc n) ms)

pairs_digested : (key : List ℕ) (vs : List Packet) →
    flat_map pairs_in (map (digested_packet key) vs) ≡ mapped (digest key) (flat_map pairs_in vs)
pairs_digested key [] = refl
pairs_digested key (v ∷ vs) =
    let rest = flat_map pairs_in (map (digested_packet key) vs) in
    ap (λ (ms : List (List ℕ)). numbered v.sequence ms ++ rest) (messages_digested key v.body)
    ∙ ap (λ (t : List (ℕ × List ℕ)). t ++ rest) (numbered_mapped (digest key) v.sequence (messages_of v.body))
    ∙ ap (λ (t : List (ℕ × List ℕ)). mapped (digest key) (pairs_in v) ++ t) (pairs_digested key vs)
    ∙ sym (map-append (λ (e : ℕ × List ℕ). (e.0, digest key e.1)) (pairs_in v) (flat_map pairs_in vs))

cond_mapped : (f : List ℕ → List ℕ) (b : Bool) (x : List ℕ) (o other : Option (List ℕ)) → other ≡ option_map f o →
    cond b (Some (f x)) other ≡ option_map f (cond b (Some x) o)
cond_mapped f true x o other is = refl
cond_mapped f false x o other is = is

find_mapped : (f : List ℕ → List ℕ) (q : ℕ) (es : List (ℕ × List ℕ)) →
    find nat_cmp q (mapped f es) ≡ option_map f (find nat_cmp q es)
find_mapped f q [] = refl
find_mapped f q (e ∷ es) =
    cond_mapped f _ e.1 (find nat_cmp q es) (find nat_cmp q (mapped f es)) (find_mapped f q es)

get_mapped : (key : List ℕ) (vs : List Packet) (q : ℕ) →
    finite.get (seen_in (map (digested_packet key) vs)).pairs q ≡ option_map (digest key) (finite.get (seen_in vs).pairs q)
get_mapped key vs q =
    finite.get-from_entries nat_cmp_total (flat_map pairs_in (map (digested_packet key) vs)) q
    ∙ ap (find nat_cmp q) (pairs_digested key vs)
    ∙ find_mapped (digest key) q (flat_map pairs_in vs)
    ∙ ap (option_map (digest key)) (sym (finite.get-from_entries nat_cmp_total (flat_map pairs_in vs) q))

-- Digested datagrams state the same session, numbers and end, and the digests of the messages.
pub record SeenAlike (key : List ℕ) (list : List (List ℕ)) : Type 0 where
  pub session : (seen_of (digested_list key list)).session ≡ (seen_of list).session
  pub known : (seen_of (digested_list key list)).known ≡ (seen_of list).known
  pub ended : (seen_of (digested_list key list)).ended ≡ (seen_of list).ended
  pub pairs : (q : ℕ) → finite.get (seen_of (digested_list key list)).pairs q
      ≡ option_map (digest key) (finite.get (seen_of list).pairs q)

pub seen_digested : ReadsBack → IsSpelled → (key : List ℕ) (list : List (List ℕ)) → All IsBytes list → SeenAlike key list
seen_digested reads spelled key list fits =
    let vs = packets_of list in
    let same = packets_digested reads spelled key list fits in
    record {
      session = ap session_of same ∙ session_digested key vs;
      known = ap known_of same ∙ known_digested key vs;
      ended = ap end_of same ∙ ended_digested key vs;
      pairs = λ q. ap (λ (us : List Packet). finite.get (seen_in us).pairs q) same ∙ get_mapped key vs q;
    }
