-- A message in the piece of a file that is read for it.
use Rattle.std.proofs.Common.{◌≡◌, ℕ, zero, suc, ◌+◌, ◌-◌, ◌<◌, ◌≤◌, Bool, List, [], ◌∷◌, ◌++◌, length, length-append, take}
use Rattle.std.proofs.Common.{drop, get_or, slice_get, Some, flat_map, refl, sym, ap, subst, ◌∙◌, append_assoc, append-nil}
use Rattle.std.proofs.Common.{take-add, get_or-drop, arith}
use Rattle.std.proofs.lemmas.Grind.{flat_map-append}
use Rattle.std.proofs.lemmas.List.{length-drop, length-map, length-take-le, take-append-drop, take_more}
use Rattle.std.proofs.lemmas.Option.{get_or_from_slice_get, none-some, same_Some, slice_get-get_or, slice_get_within}
use Rattle.std.specs.List.{AllByRecursion}
use Rattle.mold_wire.specs.Block.{IsMessage}
use Rattle.mold_session.specs.Answer.{from_number}
use Rattle.mold_session.specs.Journal.{message_numbered}
use Rattle.mold_session.specs.Loading.{head_spelling, message_spelling, messages_spelling}
use Rattle.mold_session.specs.declared.file_version.FileVersion.{FileVersion}
use Rattle.mold_index.specs.Index.{offset_of}
use Rattle.mold_index.specs.Layouts.{layout_of, lengths_of}
use Rattle.mold_index.specs.Piece.{IsPiece}
use Rattle.mold_index.specs.Scan.{HasMessage}
use Rattle.mold_index.specs.declared.piece.Piece.{Piece}
use Rattle.mold_index.proofs.LayoutLemmas.{length-before, messages_there}

-- The first bytes of a list that is cut after its prefix.
take_past : (n : ℕ) (xs ys : List ℕ) → length xs ≤ n → take n (xs ++ ys) ≡ xs ++ take (n - length xs) ys
take_past n [] ys long =
    let same : n ≡ n - 0 = omega arith in
    ap (λ (k : ℕ). take k ys) same
take_past zero (x ∷ xs) ys long = absurd (omega (arith, long))
take_past (suc n) (x ∷ xs) ys long =
    let same : suc n - suc (length xs) ≡ n - length xs = omega arith in
    ap (λ (t : List ℕ). x ∷ t) (take_past n xs ys (omega (arith, long)))
    ∙ ap (λ (k : ℕ). x ∷ (xs ++ take k ys)) (sym same)

each_take : (k : ℕ) (messages : List (List ℕ)) → AllByRecursion IsMessage messages →
    AllByRecursion IsMessage (take k messages)
each_take zero messages each = tt
each_take (suc k) [] each = tt
each_take (suc k) (message ∷ messages) each = (each.0, each_take k messages each.1)

each_from : (k : ℕ) (messages : List (List ℕ)) → AllByRecursion IsMessage messages →
    AllByRecursion IsMessage (drop k messages)
each_from zero messages each = each
each_from (suc k) [] each = tt
each_from (suc k) (message ∷ messages) each = each_from k messages each.1

each_at : (k : ℕ) (messages : List (List ℕ)) (message : List ℕ) → AllByRecursion IsMessage messages →
    slice_get messages k ≡ Some message → IsMessage message
each_at k [] message each there = absurd (none-some message there)
each_at zero (first ∷ messages) message each there = subst IsMessage (same_Some first message there) each.0
each_at (suc k) (first ∷ messages) message each there = each_at k messages message each.1 there

-- The first `k` messages, and then the one at index `k`.
first_messages : (spelling : List ℕ → List ℕ) (messages : List (List ℕ)) (k : ℕ) (message : List ℕ) →
    slice_get messages k ≡ Some message →
    flat_map spelling (take (k + 1) messages) ≡ flat_map spelling (take k messages) ++ spelling message
first_messages spelling messages k message there =
    ap (flat_map spelling)
    (take_more messages k message (slice_get_within messages k message there)
    ∙ ap (λ (m : List ℕ). take k messages ++ m ∷ []) (get_or_from_slice_get messages k message message there))
    ∙ flat_map-append spelling (take k messages) (message ∷ [])
    ∙ ap (λ (t : List ℕ). flat_map spelling (take k messages) ++ t) (append-nil (spelling message))

-- A message is found in bytes that begin with the messages up to it.
found_in : (spelling : List ℕ → List ℕ) (messages : List (List ℕ)) (k len : ℕ) (message rest : List ℕ) →
    AllByRecursion IsMessage messages → slice_get messages k ≡ Some message →
    length (flat_map spelling (take (k + 1) messages)) ≤ len →
    HasMessage spelling k (take len (flat_map spelling messages ++ rest)) message
found_in spelling messages k len message rest each there long =
    let first = flat_map spelling (take (k + 1) messages) in
    let others = flat_map spelling (drop (k + 1) messages) ++ rest in
    let more = take (len - length first) others in
    let parts : flat_map spelling messages ++ rest ≡ first ++ others =
    ap (λ (t : List ℕ). t ++ rest)
    (sym (ap (flat_map spelling) (take-append-drop (k + 1) messages))
    ∙ flat_map-append spelling (take (k + 1) messages) (drop (k + 1) messages))
    ∙ append_assoc first (flat_map spelling (drop (k + 1) messages)) rest in
    let within = slice_get_within messages k message there in
    record {
      rest = more;
      finds = record {
        next = spelling message ++ more;
        skipped = record {
          messages = take k messages;
          counted = length-take-le k messages (omega (arith, within));
          each = each_take k messages each;
          parts =
              ap (take len) parts
              ∙ take_past len first others long
              ∙ ap (λ (t : List ℕ). t ++ more) (first_messages spelling messages k message there)
              ∙ append_assoc (flat_map spelling (take k messages)) (spelling message) more;
        };
        found = record { fits = each_at k messages message each there; parts = refl };
      };
    }

-- The bytes from one message to the end of another.
length_between : (session : List ℕ) (closed : Bool) (version : FileVersion) (messages : List (List ℕ)) (number k : ℕ) →
    length session ≡ 10 → 1 ≤ number →
    offset_of (layout_of version) (lengths_of messages) number
    + length (messages_spelling version (take (k + 1) (drop (number - 1) messages)))
    ≡ offset_of (layout_of version) (lengths_of messages) (number + k + 1)
length_between session closed version messages number k ten first =
    let head = head_spelling session closed version in
    let before = messages_spelling version (take (number - 1) messages) in
    let those = messages_spelling version (take (k + 1) (drop (number - 1) messages)) in
    let at : number + k + 1 - 1 ≡ (number - 1) + (k + 1) = omega (arith, first) in
    let all : messages_spelling version (take (number + k + 1 - 1) messages) ≡ before ++ those =
    ap (λ (n : ℕ). messages_spelling version (take n messages)) at
    ∙ ap (messages_spelling version) (take-add (number - 1) (k + 1) messages)
    ∙ flat_map-append (message_spelling version) (take (number - 1) messages)
    (take (k + 1) (drop (number - 1) messages)) in
    omega (
      arith,
      length-before session closed version messages number ten,
      length-before session closed version messages (number + k + 1) ten,
      length-append head before,
      length-append head (messages_spelling version (take (number + k + 1 - 1) messages)),
      ap (λ (t : List ℕ). length t) all,
      length-append before those,
    )

-- A message of the list is one of those from a number on.
numbered_from : (messages : List (List ℕ)) (first number : ℕ) (message : List ℕ) → 1 ≤ first → first ≤ number →
    message_numbered messages number ≡ Some message →
    slice_get (from_number messages first) (number - first) ≡ Some message
numbered_from messages first zero message some order there = absurd (omega (arith, some, order))
numbered_from messages first (suc j) message some order there =
    let within = slice_get_within messages j message there in
    let at : (first - 1) + (suc j - first) ≡ j = omega (arith, some, order) in
    let inside : suc j - first < length (drop (first - 1) messages) =
    omega (arith, within, length-drop (first - 1) messages, some, order) in
    slice_get-get_or (drop (first - 1) messages) (suc j - first) message inside
    ∙ ap (λ (m : List ℕ). Some m)
    (get_or-drop (first - 1) messages (suc j - first) message
    ∙ ap (λ (n : ℕ). get_or messages n message) at
    ∙ get_or_from_slice_get messages j message message there)

numbered_within : (messages : List (List ℕ)) (number : ℕ) (message : List ℕ) →
    message_numbered messages number ≡ Some message → number ≤ length (lengths_of messages)
numbered_within messages zero message there = absurd (none-some message there)
numbered_within messages (suc j) message there =
    omega (
      arith,
      slice_get_within messages j message there,
      length-map messages (λ (m : List ℕ). length m),
    )

pub found_in_piece : (session : List ℕ) (closed : Bool) (version : FileVersion) (messages : List (List ℕ))
    (rest : List ℕ) (from to most number : ℕ) (piece : Piece) (message : List ℕ) → length session ≡ 10 →
    AllByRecursion IsMessage messages → IsPiece (layout_of version) (lengths_of messages) from to most piece →
    from ≤ number → number < to → message_numbered messages number ≡ Some message →
    offset_of (layout_of version) (lengths_of messages) (number + 1)
    ≤ offset_of (layout_of version) (lengths_of messages) from + most →
    HasMessage (message_spelling version) (number - piece.entry.number)
    (take piece.len (drop piece.entry.offset
    (head_spelling session closed version ++ (messages_spelling version messages ++ rest)))) message
found_in_piece session closed version messages rest from to most number piece message ten each is low high there close =
    let first = piece.entry.number in
    let k = number - first in
    let right = is.begins.right in
    let order : first ≤ number = omega (arith, is.begins.near.before, low) in
    let within : number ≤ length (lengths_of messages) = numbered_within messages number message there in
    let ends = is.whole number low high within close in
    let between = length_between session closed version messages first k ten right.first in
    let at : first + k + 1 ≡ number + 1 = omega (arith, order) in
    let long : length (messages_spelling version (take (k + 1) (drop (first - 1) messages))) ≤ piece.len =
    omega (
      arith,
      ends,
      between,
      right.begins,
      ap (λ (n : ℕ). offset_of (layout_of version) (lengths_of messages) n) at,
    ) in
    let bytes : messages_spelling version (from_number messages first) ++ rest
    ≡ drop piece.entry.offset
    (head_spelling session closed version ++ (messages_spelling version messages ++ rest)) =
    sym (ap (λ (n : ℕ). drop n
    (head_spelling session closed version ++ (messages_spelling version messages ++ rest))) right.begins
    ∙ messages_there session closed version messages rest first ten) in
    subst (λ (t : List ℕ). HasMessage (message_spelling version) k (take piece.len t) message) bytes
    (found_in (message_spelling version) (from_number messages first) k piece.len message rest
    (each_from (first - 1) messages each) (numbered_from messages first number message right.first order there) long)
