-- The messages of a group, and its bytes.
use Rattle.std.proofs.Common.{◌≡◌, ℕ, suc, ◌+◌, ◌-◌, ◌≤◌, ◌<◌, ◌^◌, Bool, true, false, List, [], ◌∷◌, ◌++◌}
use Rattle.std.proofs.Common.{length, take, drop, set, refl, sym, ap, subst, ◌∙◌, append_assoc, arith, length-append}
use Rattle.std.proofs.lemmas.List.{append-nil, take_at, drop_at, set_split}
use Rattle.std.specs.List.{AllByRecursion}
use Rattle.byteorder.specs.Endian.{big_number}
use Rattle.mold_wire.specs.Block.{be16}
use Rattle.mold_wire.specs.declared.block.TheConstants.{MAX_MESSAGE}
use Rattle.mold_session.specs.Journal.{IsWithin}
use Rattle.mold_durable.specs.Group.{GroupState, IsGroup, messages_in, group_end, IsTextOf, last_gate_of}
use Rattle.mold_session.specs.Records.{records, record_of}
use Rattle.mold_durable.proofs.RecordLemmas.{big_number-be16, records-append, each-append}

-- The records of some messages read as these messages, whatever bytes follow.
pub messages_in-records :
    (messages : List (List ℕ)) (rest : List ℕ) → AllByRecursion (IsWithin MAX_MESSAGE) messages →
    messages_in (length messages) (records messages ++ rest) ≡ messages
unfolding messages_in
messages_in-records [] rest each = refl
messages_in-records (message ∷ messages) rest each =
    let behind = records messages ++ rest in
    let split : (record_of message ++ records messages) ++ rest ≡ 1 ∷ 0 ∷ (be16 (length message) ++ (message ++ behind)) =
    append_assoc (record_of message) (records messages) rest
    in
    let len : big_number 2 (be16 (length message) ++ (message ++ behind)) ≡ length message =
    big_number-be16 (length message) (message ++ behind) (omega (arith, each.0))
    in
    ap (messages_in (suc (length messages))) split
    ∙ rw (len, take_at message behind (length message) refl, drop_at message behind (length message) refl)
    (ap (λ (t : List (List ℕ)). message ∷ t) (messages_in-records messages rest each.1))

-- A group that has been made of these messages.
pub record IsMade (count : ℕ) (closes : Bool) (bytes : List ℕ) (messages : List (List ℕ)) : Type 0 where
  pub group : IsGroup count closes bytes
  pub same : messages_in count bytes ≡ messages

pub made :
    (messages : List (List ℕ)) (count : ℕ) (closes : Bool) (bytes : List ℕ) → count ≡ length messages →
    AllByRecursion (IsWithin MAX_MESSAGE) messages → bytes ≡ records messages ++ group_end closes →
    IsMade count closes bytes messages
made messages count closes bytes counted each parts =
    let same : messages_in count bytes ≡ messages =
    ap (λ (n : ℕ). messages_in n bytes) counted
    ∙ ap (messages_in (length messages)) parts
    ∙ messages_in-records messages (group_end closes) each
    in
    record {
      group = record {
        counted = counted ∙ ap (λ (t : List (List ℕ)). length t) (sym same);
        each = subst (λ (t : List (List ℕ)). AllByRecursion (IsWithin MAX_MESSAGE) t) (sym same) each;
        parts = parts ∙ ap (λ (t : List (List ℕ)). records t ++ group_end closes) (sym same);
      };
      same = same;
    }

-- The state of a group with these bytes.
abbrev pub GroupAs : ℕ → Bool → List ℕ → List (List ℕ) → Type 0
GroupAs count closes bytes messages =
    let found : GroupState = record { messages = messages_in count bytes; closes = closes } in
    let wanted : GroupState = record { messages = messages; closes = closes } in
    found ≡ wanted

-- The group without messages.
pub made_none : (bytes : List ℕ) → bytes ≡ 0 ∷ 1 ∷ 0 ∷ [] → IsMade 0 false bytes []
made_none bytes is = made [] 0 false bytes refl tt is

end_long : (closes : Bool) → length (group_end closes) ≡ 3
end_long true = refl
end_long false = refl

-- The bytes of a group are those of its records and three more.
pub group_long :
    (count : ℕ) (closes : Bool) (bytes : List ℕ) → IsGroup count closes bytes →
    length bytes ≡ length (records (messages_in count bytes)) + 3
group_long count closes bytes group =
    let all = ap (λ (t : List ℕ). length t) group.parts in
    omega (arith, all, length-append (records (messages_in count bytes)) (group_end closes), end_long closes)

records_of :
    (count : ℕ) (closes : Bool) (bytes : List ℕ) → IsGroup count closes bytes →
    take (length bytes - 3) bytes ≡ records (messages_in count bytes)
records_of count closes bytes group =
    let long = group_long count closes bytes group in
    let at : length bytes - 3 ≡ length (records (messages_in count bytes)) = omega (arith, long) in
    ap (take (length bytes - 3)) group.parts
    ∙ take_at (records (messages_in count bytes)) (group_end closes) (length bytes - 3) (sym at)

-- The group with one more message.
pub made_push :
    (count : ℕ) (bytes new message : List ℕ) → IsGroup count false bytes → length message < 2 ^ 16 →
    new ≡ take (length bytes - 3) bytes ++ (record_of message ++ 0 ∷ 1 ∷ 0 ∷ []) →
    IsMade (count + 1) false new (messages_in count bytes ++ message ∷ [])
made_push count bytes new message group short put =
    let messages = messages_in count bytes in
    let one : records (message ∷ []) ≡ record_of message = append-nil (record_of message) in
    let parts : new ≡ records (messages ++ message ∷ []) ++ 0 ∷ 1 ∷ 0 ∷ [] =
    put
    ∙ ap (λ (t : List ℕ). t ++ (record_of message ++ 0 ∷ 1 ∷ 0 ∷ [])) (records_of count false bytes group)
    ∙ sym (append_assoc (records messages) (record_of message) (0 ∷ 1 ∷ 0 ∷ []))
    ∙ ap (λ (t : List ℕ). (records messages ++ t) ++ 0 ∷ 1 ∷ 0 ∷ []) (sym one)
    ∙ ap (λ (t : List ℕ). t ++ 0 ∷ 1 ∷ 0 ∷ []) (sym (records-append messages (message ∷ [])))
    in
    made (messages ++ message ∷ []) (count + 1) false new
    (omega (arith, group.counted, length-append messages (message ∷ [])))
    (each-append MAX_MESSAGE messages (message ∷ []) group.each (omega (arith, short), tt))
    parts

-- The first byte of the bytes after the records, once it is written.
pub made_closes :
    (count : ℕ) (was closes : Bool) (bytes new : List ℕ) → IsGroup count was bytes →
    new ≡ take (length bytes - 3) bytes ++ group_end closes →
    IsMade count closes new (messages_in count bytes)
made_closes count was closes bytes new group put =
    made (messages_in count bytes) count closes new group.counted group.each
    (put ∙ ap (λ (t : List ℕ). t ++ group_end closes) (records_of count was bytes group))

-- The records without the first gate, and the gate after them.
text_some :
    (first : List ℕ) (messages : List (List ℕ)) (rest : List ℕ) →
    records (first ∷ messages) ++ rest ≡ 1 ∷ drop 1 (records (first ∷ messages) ++ rest)
text_some first messages rest = refl

text_closes :
    (messages : List (List ℕ)) → records messages ++ group_end true ≡ 1 ∷ drop 1 (records messages ++ group_end true)
text_closes [] = refl
text_closes (first ∷ messages) = refl

-- The text of a group that closes the session is all but the first byte.
pub text_of_closing :
    (count : ℕ) (bytes : List ℕ) → IsGroup count true bytes →
    IsTextOf (record { messages = messages_in count bytes; closes = true }) (drop 1 bytes)
text_of_closing count bytes group =
    ap (λ (t : List ℕ). 1 ∷ drop 1 t) group.parts ∙ sym (text_closes (messages_in count bytes)) ∙ refl

-- And that of another group is all but the first byte and the last two.
text_open : (messages : List (List ℕ)) → 0 < length messages →
    1 ∷ take (length (records messages ++ group_end false) - 3) (drop 1 (records messages ++ group_end false))
    ≡ records messages ++ 0 ∷ []
text_open [] none = absurd (omega (arith, none))
text_open (first ∷ messages) some =
    let tail = drop 1 (records (first ∷ messages)) in
    let split : tail ++ group_end false ≡ (tail ++ 0 ∷ []) ++ 1 ∷ 0 ∷ [] = sym (append_assoc tail (0 ∷ []) (1 ∷ 0 ∷ [])) in
    let size : length (records (first ∷ messages) ++ group_end false) - 3 ≡ length (tail ++ 0 ∷ []) =
    omega (arith, length-append tail (0 ∷ []), length-append tail (group_end false))
    in
    ap (λ (t : List ℕ). 1 ∷ t) (
    ap (λ (n : ℕ). take n (tail ++ group_end false)) size
    ∙ ap (take (length (tail ++ 0 ∷ []))) split
    ∙ take_at (tail ++ 0 ∷ []) (1 ∷ 0 ∷ []) (length (tail ++ 0 ∷ [])) refl
    )

pub text_of_open :
    (count : ℕ) (bytes : List ℕ) → IsGroup count false bytes → 0 < length (messages_in count bytes) →
    IsTextOf (record { messages = messages_in count bytes; closes = false }) (take (length bytes - 3) (drop 1 bytes))
text_of_open count bytes group some =
    ap (λ (t : List ℕ). 1 ∷ take (length t - 3) (drop 1 t)) group.parts
    ∙ text_open (messages_in count bytes) some

end_parts : (closes : Bool) → group_end closes ≡ last_gate_of closes ∷ 1 ∷ 0 ∷ []
end_parts true = refl
end_parts false = refl

tail_of :
    (count : ℕ) (closes : Bool) (bytes : List ℕ) → IsGroup count closes bytes →
    drop (suc (length bytes - 3)) bytes ≡ 1 ∷ 0 ∷ []
tail_of count closes bytes group =
    let all = records (messages_in count bytes) in
    let split : bytes ≡ (all ++ last_gate_of closes ∷ []) ++ 1 ∷ 0 ∷ [] =
    group.parts
    ∙ ap (λ (t : List ℕ). all ++ t) (end_parts closes)
    ∙ sym (append_assoc all (last_gate_of closes ∷ []) (1 ∷ 0 ∷ []))
    in
    let at : length (all ++ last_gate_of closes ∷ []) ≡ suc (length bytes - 3) =
    omega (arith, group_long count closes bytes group, length-append all (last_gate_of closes ∷ []))
    in
    ap (drop (suc (length bytes - 3))) split
    ∙ drop_at (all ++ last_gate_of closes ∷ []) (1 ∷ 0 ∷ []) (suc (length bytes - 3)) at

-- The bytes of a group with another gate after its records.
pub made_set :
    (count : ℕ) (was closes : Bool) (bytes : List ℕ) (at value : ℕ) → IsGroup count was bytes →
    at ≡ length bytes - 3 → value ≡ last_gate_of closes →
    IsMade count closes (set bytes at value) (messages_in count bytes)
made_set count was closes bytes at value group is_at is_value =
    let long = group_long count was bytes group in
    made_closes count was closes bytes (set bytes at value) group (
    ap (λ (n : ℕ). set bytes n value) is_at
    ∙ set_split bytes (length bytes - 3) value (omega (arith, long))
    ∙ ap (λ (t : List ℕ). take (length bytes - 3) bytes ++ value ∷ t) (tail_of count was bytes group)
    ∙ ap (λ (n : ℕ). take (length bytes - 3) bytes ++ n ∷ 1 ∷ 0 ∷ []) is_value
    ∙ ap (λ (t : List ℕ). take (length bytes - 3) bytes ++ t) (sym (end_parts closes))
    )

-- The first three bytes, once they are written.
pub first_three :
    (bytes : List ℕ) → 3 ≤ length bytes → take 3 (set (set (set bytes 0 0) 1 1) 2 0) ≡ 0 ∷ 1 ∷ 0 ∷ []
first_three [] long = absurd (omega (arith, long))
first_three (a ∷ []) long = absurd (omega (arith, long))
first_three (a ∷ b ∷ []) long = absurd (omega (arith, long))
first_three (a ∷ b ∷ c ∷ bytes) long = refl

-- A group as its state.
pub state_of :
    (count : ℕ) (closes : Bool) (bytes : List ℕ) (messages : List (List ℕ)) → IsMade count closes bytes messages →
    GroupAs count closes bytes messages
state_of count closes bytes messages is =
    ap (λ (t : List (List ℕ)). record { messages = t; closes = closes }) is.same
