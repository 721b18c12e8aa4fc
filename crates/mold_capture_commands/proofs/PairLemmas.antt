-- Pairs, and the tallies of their datagrams.
use Rattle.std.proofs.Common.{◌≡◌, ℕ, suc, ◌+◌, ◌≤◌, Bool, true, false, ◌&&◌, List, [], ◌∷◌, ◌++◌, length, refl, sym, ap, ◌∙◌, subst, arith, true≢false}
use Rattle.std.specs.Prelude.{Option, None, Some, Ok, Err, ◌<◌, ◌^◌, ◌-◌, min, max, Result, if◌then◌else◌, ◌==◌}
use Rattle.std.specs.Str.{bytes_eq}
use Rattle.std.specs.List.{filter, flat_map}
use Rattle.std.specs.Cmp.{IsEquivalence}
use Rattle.std.proofs.lemmas.Bool.Decides.{Decides-eqb}
use Rattle.std.proofs.lemmas.Slice.Eq.{bytes_eq-Decides}
use Rattle.mold_devices.specs.Devices.{one_more}
use Rattle.mold_wire.specs.declared.error.DecodeError.{DecodeError}
use Rattle.mold_wire.specs.Packet.{messages_of}
use Rattle.mold_wire.specs.declared.packet.Packet.{Packet}
use Rattle.mold_wire.specs.declared.packet.Body.{Body}
use Rattle.mold_wire.specs.declared.packet.Body.TheVariants.{Data, Heartbeat, End}
use Rattle.mold_wire.specs.declared.session.Session.{Session}
use Rattle.mold_capture_commands.specs.Counts.{more_if}
use Rattle.mold_capture_commands.specs.Pairs.{carried_numbers, combined, end_in, end_numbers, greatest, is_heartbeat}
use Rattle.mold_capture_commands.specs.Pairs.{is_heartbeat_body, joint, last, later, least, numbers_from}
use Rattle.mold_capture_commands.specs.Pairs.{same_address, same_pair, same_session, tally_of}
use Rattle.mold_capture_commands.specs.SessionState.{no_tally, tally_more}
use Rattle.mold_capture_commands.specs.declared.pair.Pair.{Pair}
use Rattle.mold_capture_commands.specs.declared.pair_tally.PairTally.{PairTally}
use Rattle.mold_frame.specs.declared.ip_address.IpAddress.{IpAddress}
use Rattle.mold_frame.specs.declared.ip_address.IpAddress.TheVariants.{V4, V6}

-- ---- equality of pairs

both : (a b : Bool) → (a && b) ≡ true → (a ≡ true) × (b ≡ true)
both true b h = (refl, h)
both false b h = absurd (true≢false (sym h))

both_true : (a b : Bool) → a ≡ true → b ≡ true → (a && b) ≡ true
both_true a b one other = ap (λ (c : Bool). c && b) one ∙ other

bytes_equal : (one other : List ℕ) → bytes_eq one other ≡ true → one ≡ other
bytes_equal one other = (bytes_eq-Decides one other).0

bytes_same : (bytes : List ℕ) → bytes_eq bytes bytes ≡ true
bytes_same bytes = (bytes_eq-Decides bytes bytes).1 refl

address_equal : (one other : IpAddress) → same_address one other ≡ true → one ≡ other
address_equal (V4 one) (V4 other) h = ap V4 (bytes_equal one other h)
address_equal (V6 one) (V6 other) h = ap V6 (bytes_equal one other h)
address_equal (V4 one) (V6 other) h = absurd (true≢false (sym h))
address_equal (V6 one) (V4 other) h = absurd (true≢false (sym h))

address_same : (address : IpAddress) → same_address address address ≡ true
address_same (V4 bytes) = bytes_same bytes
address_same (V6 bytes) = bytes_same bytes

session_equal : (one other : Option Session) → same_session one other ≡ true → one ≡ other
session_equal None None h = refl
session_equal (Some one) (Some other) h =
    ap (λ (bytes : List ℕ). Some (record { 0 = bytes })) (bytes_equal one.0 other.0 h)
session_equal None (Some other) h = absurd (true≢false (sym h))
session_equal (Some one) None h = absurd (true≢false (sym h))

session_same : (session : Option Session) → same_session session session ≡ true
session_same None = refl
session_same (Some session) = bytes_same session.0

pub pair_equal : (one other : Pair) → same_pair one other ≡ true → one ≡ other
unfolding same_pair
pair_equal one other h =
    let first = both (same_address one.target other.target) _ h in
    let second = both (one.port == other.port) _ first.1 in
    let target = address_equal one.target other.target first.0 in
    let port = (Decides-eqb one.port other.port).0 second.0 in
    let session = session_equal one.session other.session second.1 in
    (λ i. record { target = target i; port = port i; session = session i })

pub pair_same : (pair : Pair) → same_pair pair pair ≡ true
unfolding same_pair
pair_same pair =
    both_true _ _ (address_same pair.target)
    (both_true _ _ ((Decides-eqb pair.port pair.port).1 refl) (session_same pair.session))

pub pair_apart : (one other : Pair) → same_pair one other ≡ false → same_pair other one ≡ false
pair_apart one other apart = by (same_pair other one) refl
  where
    by : (b : Bool) → same_pair other one ≡ b → same_pair other one ≡ false
    by false is = is
    by true is =
        absurd (true≢false
        (sym (subst (λ (p : Pair). same_pair one p ≡ true) (sym (pair_equal other one is)) (pair_same one)) ∙ apart))

pub pair_law : IsEquivalence same_pair
pair_law = record {
  refl = pair_same;
  symm = symm;
  congr = λ one other third is. ap (λ (p : Pair). same_pair p third) (pair_equal one other is);
}
  where
    by : (one other : Pair) (b c : Bool) → same_pair one other ≡ b → same_pair other one ≡ c →
        same_pair one other ≡ same_pair other one
    by one other true true is back = is ∙ sym back
    by one other false false is back = is ∙ sym back
    by one other false true is back = is ∙ sym (pair_apart one other is)
    by one other true false is back = pair_apart other one back ∙ sym back

    symm : (one other : Pair) → same_pair one other ≡ same_pair other one
    symm one other = by one other (same_pair one other) (same_pair other one) refl refl

-- ---- the tally of a list

joint_none : (op : ℕ → ℕ → ℕ) (one : Option ℕ) → joint op one None ≡ one
joint_none op None = refl
joint_none op (Some one) = refl

abbrev IsAssociative : (ℕ → ℕ → ℕ) → Type 0
IsAssociative op = (a b c : ℕ) → op (op a b) c ≡ op a (op b c)

joint_assoc : (op : ℕ → ℕ → ℕ) → IsAssociative op → (one other third : Option ℕ) →
    joint op (joint op one other) third ≡ joint op one (joint op other third)
joint_assoc op law None other third = refl
joint_assoc op law (Some a) None third = refl
joint_assoc op law (Some a) (Some b) None = refl
joint_assoc op law (Some a) (Some b) (Some c) = ap Some (law a b c)

combined_append : (op : ℕ → ℕ → ℕ) → IsAssociative op → (list more : List ℕ) →
    combined op (list ++ more) ≡ joint op (combined op list) (combined op more)
unfolding combined
combined_append op law [] more = refl
combined_append op law (number ∷ list) more =
    ap (joint op (Some number)) (combined_append op law list more)
    ∙ sym (joint_assoc op law (Some number) (combined op list) (combined op more))

-- The numbers of a list of packets, joined one packet after the other.
abbrev folded_joint : (ℕ → ℕ → ℕ) → (Result Packet DecodeError → List ℕ) → Option ℕ → List (Result Packet DecodeError) → Option ℕ
folded_joint op numbers known [] = known
folded_joint op numbers known (read ∷ list) = folded_joint op numbers (joint op known (combined op (numbers read))) list

joint_is : (op : ℕ → ℕ → ℕ) (numbers : Result Packet DecodeError → List ℕ) → IsAssociative op → (known : Option ℕ)
    (list : List (Result Packet DecodeError)) →
    folded_joint op numbers known list ≡ joint op known (combined op (flat_map numbers list))
unfolding combined
joint_is op numbers law known [] = sym (joint_none op known)
joint_is op numbers law known (read ∷ list) =
    joint_is op numbers law (joint op known (combined op (numbers read))) list
    ∙ joint_assoc op law known (combined op (numbers read)) (combined op (flat_map numbers list))
    ∙ ap (joint op known) (sym (combined_append op law (numbers read) (flat_map numbers list)))

-- The number of the packets of a kind, counted one by one.
abbrev folded_count : (Result Packet DecodeError → Bool) → ℕ → List (Result Packet DecodeError) → ℕ
folded_count test count [] = count
folded_count test count (read ∷ list) = folded_count test (more_if (test read) count) list

next_count : (count others most : ℕ) → min (min (count + 1) most + others) most ≡ min (count + suc others) most
next_count count others most = omega arith

more_small : (b : Bool) (count : ℕ) → count ≤ 2 ^ 64 - 1 → more_if b count ≤ 2 ^ 64 - 1
more_small true count small = omega arith
more_small false count small = small

first_counted : (b : Bool) (count : ℕ) (read : Result Packet DecodeError) (list : List (Result Packet DecodeError)) →
    min (more_if b count + length list) (2 ^ 64 - 1)
    ≡ min (count + length (if b then read ∷ list else list)) (2 ^ 64 - 1)
first_counted true count read list = next_count count (length list) (2 ^ 64 - 1)
first_counted false count read list = refl

count_is : (test : Result Packet DecodeError → Bool) (count : ℕ) (list : List (Result Packet DecodeError)) →
    count ≤ 2 ^ 64 - 1 → folded_count test count list ≡ min (count + length (filter test list)) (2 ^ 64 - 1)
count_is test count [] small = omega (arith, small)
count_is test count (read ∷ list) small =
    count_is test (more_if (test read) count) list (more_small (test read) count small)
    ∙ first_counted (test read) count read (filter test list)

count_from_none : (test : Result Packet DecodeError → Bool) (list : List (Result Packet DecodeError)) →
    folded_count test 0 list ≡ min (length (filter test list)) (2 ^ 64 - 1)
count_from_none test list =
    count_is test 0 list (omega arith)
    ∙ ap (λ (n : ℕ). min n (2 ^ 64 - 1))
    (let e : 0 + length (filter test list) ≡ length (filter test list) = omega arith in e)

abbrev any_read : Result Packet DecodeError → Bool
any_read read = true

filter_any : (list : List (Result Packet DecodeError)) → filter any_read list ≡ list
filter_any [] = refl
filter_any (read ∷ list) = ap (λ (l : List (Result Packet DecodeError)). read ∷ l) (filter_any list)

-- The tally with the datagrams of a list.
abbrev pub tallied : PairTally → List (Result Packet DecodeError) → PairTally
tallied tally [] = tally
tallied tally (read ∷ list) = tallied (tally_more tally read) list

tally_folded : (tally : PairTally) (list : List (Result Packet DecodeError)) → tallied tally list ≡ record {
  datagrams = folded_count any_read tally.datagrams list;
  first = folded_joint min carried_numbers tally.first list;
  last = folded_joint max carried_numbers tally.last list;
  heartbeats = folded_count is_heartbeat tally.heartbeats list;
  end = folded_joint later end_numbers tally.end list;
}
tally_folded tally [] = refl
tally_folded tally (read ∷ list) = tally_folded (tally_more tally read) list

min_law : IsAssociative min
min_law a b c = omega arith

max_law : IsAssociative max
max_law a b c = omega arith

later_law : IsAssociative later
later_law a b c = refl

pub tally_is : (list : List (Result Packet DecodeError)) → tallied no_tally list ≡ tally_of list
tally_is list =
    let count = count_from_none any_read list
    ∙ ap (λ (l : List (Result Packet DecodeError)). min (length l) (2 ^ 64 - 1)) (filter_any list) in
    let first = joint_is min carried_numbers min_law None list in
    let greatest = joint_is max carried_numbers max_law None list in
    let beats = count_from_none is_heartbeat list in
    let end = joint_is later end_numbers later_law None list in
    tally_folded no_tally list
    ∙ (λ i. record { datagrams = count i; first = first i; last = greatest i; heartbeats = beats i; end = end i })

-- ---- the numbers of a data packet

pub least_number : (number : ℕ) (message : List ℕ) (messages : List (List ℕ)) →
    combined min (numbers_from number (message ∷ messages)) ≡ Some number
unfolding combined numbers_from
least_number number message [] = refl
least_number number message (next ∷ messages) =
    ap (joint min (Some number)) (least_number (number + 1) next messages)
    ∙ ap Some (let e : min number (number + 1) ≡ number = omega arith in e)

pub greatest_number : (number : ℕ) (message : List ℕ) (messages : List (List ℕ)) →
    combined max (numbers_from number (message ∷ messages)) ≡ Some (number + length messages)
unfolding combined numbers_from
greatest_number number message [] = ap Some (let e : number ≡ number + 0 = omega arith in e)
greatest_number number message (next ∷ messages) =
    ap (joint max (Some number)) (greatest_number (number + 1) next messages)
    ∙ ap Some (let e : max number (number + 1 + length messages) ≡ number + suc (length messages) = omega arith in e)

pub first_is : (number : ℕ) (messages : List (List ℕ)) → 0 < length messages →
    combined min (numbers_from number messages) ≡ Some number
first_is number [] some = absurd (omega (arith, some))
first_is number (message ∷ messages) some = least_number number message messages

pub last_is : (number last : ℕ) (messages : List (List ℕ)) → 0 < length messages → last + 1 ≡ number + length messages →
    combined max (numbers_from number messages) ≡ Some last
last_is number last [] some is = absurd (omega (arith, some))
last_is number last (message ∷ messages) some is =
    greatest_number number message messages
    ∙ ap Some (let e : number + length messages ≡ last = omega (arith, is) in e)

-- ---- one more packet

-- The tally with a packet of this sequence number and body.
abbrev packet_more : PairTally → ℕ → Body → PairTally
packet_more tally sequence body = record {
  datagrams = one_more tally.datagrams;
  first = joint min tally.first (least (numbers_from sequence (messages_of body)));
  last = joint max tally.last (greatest (numbers_from sequence (messages_of body)));
  heartbeats = more_if (is_heartbeat_body body) tally.heartbeats;
  end = joint later tally.end (last (end_in sequence body));
}

abbrev pub data_tally : PairTally → ℕ → List (List ℕ) → PairTally
data_tally tally sequence messages = record {
  datagrams = one_more tally.datagrams;
  first = joint min tally.first (least (numbers_from sequence messages));
  last = joint max tally.last (greatest (numbers_from sequence messages));
  heartbeats = tally.heartbeats;
  end = tally.end;
}

pub data_more : (tally : PairTally) (packet : Packet) (messages : List (List ℕ)) → packet.body ≡ Data messages →
    data_tally tally packet.sequence messages ≡ tally_more tally (Ok packet)
unfolding combined
data_more tally packet messages is =
    let end = sym (joint_none later tally.end) in
    (λ i. record {
      datagrams = one_more tally.datagrams;
      first = joint min tally.first (least (numbers_from packet.sequence messages));
      last = joint max tally.last (greatest (numbers_from packet.sequence messages));
      heartbeats = tally.heartbeats;
      end = end i;
    })
    ∙ ap (packet_more tally packet.sequence) (sym is)

pub heartbeat_more : (tally : PairTally) (packet : Packet) → packet.body ≡ Heartbeat →
    record {
      datagrams = one_more tally.datagrams;
      first = tally.first;
      last = tally.last;
      heartbeats = one_more tally.heartbeats;
      end = tally.end;
    } ≡ tally_more tally (Ok packet)
unfolding combined numbers_from
heartbeat_more tally packet is =
    let one = sym (joint_none min tally.first) in
    let other = sym (joint_none max tally.last) in
    let end = sym (joint_none later tally.end) in
    (λ i. record {
      datagrams = one_more tally.datagrams;
      first = one i;
      last = other i;
      heartbeats = one_more tally.heartbeats;
      end = end i;
    })
    ∙ ap (packet_more tally packet.sequence) (sym is)

end_after : (known : Option ℕ) (sequence : ℕ) → Some sequence ≡ joint later known (Some sequence)
end_after None sequence = refl
end_after (Some end) sequence = refl

pub end_more : (tally : PairTally) (packet : Packet) → packet.body ≡ End →
    record {
      datagrams = one_more tally.datagrams;
      first = tally.first;
      last = tally.last;
      heartbeats = tally.heartbeats;
      end = Some packet.sequence;
    } ≡ tally_more tally (Ok packet)
unfolding combined numbers_from
end_more tally packet is =
    let one = sym (joint_none min tally.first) in
    let other = sym (joint_none max tally.last) in
    let end = end_after tally.end packet.sequence in
    (λ i. record {
      datagrams = one_more tally.datagrams;
      first = one i;
      last = other i;
      heartbeats = tally.heartbeats;
      end = end i;
    })
    ∙ ap (packet_more tally packet.sequence) (sym is)

pub fault_more : (tally : PairTally) (fault : DecodeError) →
    record tally { datagrams = one_more tally.datagrams } ≡ tally_more tally (Err fault)
unfolding combined
fault_more tally fault =
    let one = sym (joint_none min tally.first) in
    let other = sym (joint_none max tally.last) in
    let end = sym (joint_none later tally.end) in
    (λ i. record {
      datagrams = one_more tally.datagrams;
      first = one i;
      last = other i;
      heartbeats = tally.heartbeats;
      end = end i;
    })
