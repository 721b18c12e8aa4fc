-- The layouts of a journal's file, and what is at the offset of a message.
use Rattle.std.proofs.Common.{◌≡◌, ℕ, zero, suc, ◌+◌, ◌-◌, Bool, List, [], ◌∷◌, ◌++◌, length, length-append, take, drop}
use Rattle.std.proofs.Common.{Some, slice_get, refl, sym, ap, ◌∙◌, append_assoc, append-nil, arith}
use Rattle.std.proofs.lemmas.Grind.{flat_map-append}
use Rattle.std.proofs.lemmas.List.{drop_at, drop_more, take-append-drop, take-map}
use Rattle.std.proofs.lemmas.List.Sums.{sum_by-cons}
use Rattle.std.proofs.lemmas.Option.{get_or_from_slice_get, none-some, slice_get_within}
use Rattle.std.specs.List.{sum_by}
use Rattle.mold_wire.specs.Block.{be16, be64}
use Rattle.mold_session.specs.Answer.{from_number}
use Rattle.mold_session.specs.File.{closed_byte, head_1, head_2, magic_1, magic_2}
use Rattle.mold_session.specs.Journal.{message_numbered}
use Rattle.mold_session.specs.Loading.{SpellsFile, head_spelling, message_spelling, messages_spelling}
use Rattle.mold_session.specs.Records.{magic_3}
use Rattle.mold_session.specs.declared.file_version.FileVersion.{FileVersion}
use Rattle.mold_session.specs.declared.file_version.FileVersion.TheVariants.{One, Two, Three}
use Rattle.mold_session.specs.declared.loading.FileHead.{FileHead}
use Rattle.mold_session.proofs.HeadLemmas.{length-magic_1, length-magic_2, length-magic_3}
use Rattle.mold_index.specs.Index.{offset_of}
use Rattle.mold_index.specs.Layouts.{BeginsWith, layout_of, lengths_of}

-- ---- lengths

length-message : (version : FileVersion) (message : List ℕ) →
    length (message_spelling version message) ≡ (layout_of version).overhead + length message
length-message One message = length-append (be16 (length message)) message
length-message (Two count) message = length-append (be16 (length message)) message
length-message Three message = omega (arith, length-append (be16 (length message)) message)

length-messages : (version : FileVersion) (messages : List (List ℕ)) →
    length (messages_spelling version messages)
    ≡ sum_by (λ len. (layout_of version).overhead + len) (lengths_of messages)
length-messages version [] = refl
length-messages version (message ∷ messages) =
    length-append (message_spelling version message) (messages_spelling version messages)
    ∙ omega (
      arith,
      length-message version message,
      length-messages version messages,
      sum_by-cons (λ (len : ℕ). (layout_of version).overhead + len) (length message) (lengths_of messages),
    )

length-head : (session : List ℕ) (closed : Bool) (version : FileVersion) → length session ≡ 10 →
    length (head_spelling session closed version) ≡ (layout_of version).start
length-head session closed One ten = omega (arith, length-append magic_1 session, length-magic_1)
length-head session closed (Two count) ten =
    omega (
      arith,
      length-append magic_2 (session ++ (closed_byte closed ∷ be64 count)),
      length-append session (closed_byte closed ∷ be64 count),
      length-magic_2,
    )
length-head session closed Three ten = omega (arith, length-append magic_3 session, length-magic_3)

-- ---- what is at an offset

-- The messages are those before a number, and those from it on.
split_messages : (version : FileVersion) (messages : List (List ℕ)) (k : ℕ) →
    messages_spelling version messages
    ≡ messages_spelling version (take k messages) ++ messages_spelling version (drop k messages)
split_messages version messages k =
    sym (ap (messages_spelling version) (take-append-drop k messages))
    ∙ flat_map-append (message_spelling version) (take k messages) (drop k messages)

pub length-before : (session : List ℕ) (closed : Bool) (version : FileVersion) (messages : List (List ℕ)) (number : ℕ) →
    length session ≡ 10 →
    length (head_spelling session closed version ++ messages_spelling version (take (number - 1) messages))
    ≡ offset_of (layout_of version) (lengths_of messages) number
length-before session closed version messages number ten =
    omega (
      arith,
      length-append (head_spelling session closed version) (messages_spelling version (take (number - 1) messages)),
      length-head session closed version ten,
      length-messages version (take (number - 1) messages),
      ap (λ (t : List ℕ). sum_by (λ len. (layout_of version).overhead + len) t)
          (take-map (λ (m : List ℕ). length m) (number - 1) messages),
    )

pub messages_there : (session : List ℕ) (closed : Bool) (version : FileVersion) (messages : List (List ℕ))
    (rest : List ℕ) (number : ℕ) → length session ≡ 10 →
    drop (offset_of (layout_of version) (lengths_of messages) number)
    (head_spelling session closed version ++ (messages_spelling version messages ++ rest))
    ≡ messages_spelling version (from_number messages number) ++ rest
messages_there session closed version messages rest number ten =
    let head = head_spelling session closed version in
    let before = messages_spelling version (take (number - 1) messages) in
    let after = messages_spelling version (drop (number - 1) messages) in
    let offset = offset_of (layout_of version) (lengths_of messages) number in
    let parts : head ++ (messages_spelling version messages ++ rest) ≡ (head ++ before) ++ (after ++ rest) =
    ap (λ (t : List ℕ). head ++ (t ++ rest)) (split_messages version messages (number - 1))
    ∙ ap (λ (t : List ℕ). head ++ t) (append_assoc before after rest)
    ∙ sym (append_assoc head before (after ++ rest)) in
    ap (drop offset) parts
    ∙ drop_at (head ++ before) (after ++ rest) offset
    (length-before session closed version messages number ten)

-- The messages from a number on begin with the message that has it.
first_from : (messages : List (List ℕ)) (k : ℕ) (message : List ℕ) → slice_get messages k ≡ Some message →
    drop k messages ≡ message ∷ drop (k + 1) messages
first_from messages k message there =
    drop_more messages k message (slice_get_within messages k message there)
    ∙ ap (λ (m : List ℕ). m ∷ drop (k + 1) messages) (get_or_from_slice_get messages k message message there)

pub message_there : (session : List ℕ) (closed : Bool) (version : FileVersion) (messages : List (List ℕ))
    (rest : List ℕ) (number : ℕ) (message : List ℕ) → length session ≡ 10 →
    message_numbered messages number ≡ Some message →
    drop (offset_of (layout_of version) (lengths_of messages) number)
    (head_spelling session closed version ++ (messages_spelling version messages ++ rest))
    ≡ message_spelling version message ++ (messages_spelling version (from_number messages (number + 1)) ++ rest)
message_there session closed version messages rest zero message ten there = absurd (none-some message there)
message_there session closed version messages rest (suc k) message ten there =
    let at : suc k - 1 ≡ k = omega arith in
    let next : k + 1 ≡ suc k + 1 - 1 = omega arith in
    messages_there session closed version messages rest (suc k) ten
    ∙ ap (λ (n : ℕ). messages_spelling version (drop n messages) ++ rest) at
    ∙ ap (λ (t : List (List ℕ)). messages_spelling version t ++ rest) (first_from messages k message there)
    ∙ append_assoc (message_spelling version message) (messages_spelling version (drop (k + 1) messages)) rest
    ∙ ap (λ (n : ℕ). message_spelling version message ++ (messages_spelling version (drop n messages) ++ rest)) next

-- ---- in a file

at_version : (session : List ℕ) (closed : Bool) (version : FileVersion) (messages : List (List ℕ))
    (rest bytes : List ℕ) (number : ℕ) (message : List ℕ) → length session ≡ 10 →
    message_numbered messages number ≡ Some message →
    bytes ≡ head_spelling session closed version ++ (messages_spelling version messages ++ rest) →
    BeginsWith (message_spelling version message) (drop (offset_of (layout_of version) (lengths_of messages) number) bytes)
at_version session closed version messages rest bytes number message ten there parts = record {
  rest = messages_spelling version (from_number messages (number + 1)) ++ rest;
  parts =
      ap (drop (offset_of (layout_of version) (lengths_of messages) number)) parts
      ∙ message_there session closed version messages rest number message ten there;
}

-- Nothing follows the blocks of a file.
without_rest : (head blocks bytes : List ℕ) → bytes ≡ head ++ blocks → bytes ≡ head ++ (blocks ++ [])
without_rest head blocks bytes parts = parts ∙ ap (λ (t : List ℕ). head ++ t) (sym (append-nil blocks))

in_file : (head : FileHead) (version : FileVersion) (messages : List (List ℕ)) (bytes : List ℕ) (number : ℕ)
    (message : List ℕ) → SpellsFile head messages version bytes → message_numbered messages number ≡ Some message →
    BeginsWith (message_spelling version message) (drop (offset_of (layout_of version) (lengths_of messages) number) bytes)
in_file head One messages bytes number message spells there =
    at_version head.session.0 head.closed One messages [] bytes number message spells.1.named there
    (without_rest (head_1 head.session.0) (messages_spelling One messages) bytes spells.1.spelled)
in_file head (Two count) messages bytes number message spells there =
    at_version head.session.0 head.closed (Two (length messages)) messages [] bytes number message spells.named there
    (without_rest (head_2 head.session.0 head.closed (length messages)) (messages_spelling One messages) bytes
    spells.spelled)
in_file head Three messages bytes number message spells there =
    at_version head.session.0 head.closed Three messages spells.rest bytes number message spells.named there spells.spelled

pub message_in_file : (head : FileHead) (messages : List (List ℕ)) (bytes : List ℕ) (number : ℕ) (message : List ℕ) →
    SpellsFile head messages head.version bytes → message_numbered messages number ≡ Some message →
    BeginsWith (message_spelling head.version message)
    (drop (offset_of (layout_of head.version) (lengths_of messages) number) bytes)
message_in_file head messages bytes number message spells there =
    in_file head head.version messages bytes number message spells there
