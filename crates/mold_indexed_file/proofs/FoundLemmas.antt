-- The messages that are found in a piece of a file are those of the journal.
use Rattle.std.proofs.Common.{◌≡◌, inl, inr, ℕ, zero, suc, ◌+◌, ◌-◌, ◌*◌, ◌^◌, ◌<◌, ◌≤◌, List, [], ◌∷◌, ◌++◌, length}
use Rattle.std.proofs.Common.{take, drop}
use Rattle.std.proofs.Common.{get_or, Some, map, flat_map, refl, sym, ap, subst, ◌∙◌, append_assoc, append-nil}
use Rattle.std.proofs.Common.{length-append, take-add, arith}
use Rattle.std.proofs.lemmas.Grind.{flat_map-append}
use Rattle.std.proofs.lemmas.List.{drop_all, drop_more, get_or-drop, length-drop, length-take-le, map-append, take_more}
use Rattle.std.proofs.lemmas.List.{take-append-drop, take-map, take_all}
use Rattle.std.proofs.lemmas.List.Sums.{sum_by-append, sum_by-cons, sum_by-take-le, sum_by_push}
use Rattle.std.proofs.lemmas.Option.{slice_get-get_or}
use Rattle.std.specs.List.{AllByRecursion, sum_by}
use Rattle.mold_wire.specs.Block.{IsMessage}
use Rattle.mold_wire.specs.Packer.{PackerState}
use Rattle.mold_wire.specs.Packing.{packet_length, Fits}
use Rattle.mold_session.proofs.FrontLemmas.{each_take}
use Rattle.mold_wire.specs.declared.session.Session.{Session}
use Rattle.mold_session.specs.Journal.{IsWithin, JournalState, message_numbered}
use Rattle.mold_session.specs.Loading.{head_spelling, message_spelling, messages_spelling}
use Rattle.mold_session.specs.declared.file_version.FileVersion.{FileVersion}
use Rattle.mold_session.specs.declared.file_version.FileVersion.TheVariants.{One, Two, Three}
use Rattle.mold_index.proofs.FoundLemmas.{no_end, one_found}
use Rattle.mold_index.proofs.ReadLemmas.{found_in_piece}
use Rattle.mold_index.specs.Index.{offset_of}
use Rattle.mold_index.specs.Layouts.{layout_of, lengths_of}
use Rattle.mold_index.specs.Piece.{IsPiece}
use Rattle.mold_index.specs.Scan.{AreMessagesAndRest, FindsMessage, HasMessage, IsMessageAndRest}
use Rattle.mold_index.specs.declared.piece.Piece.{Piece}
use Rattle.mold_indexed_file.specs.Buffer.{most_bytes}
use Rattle.mold_indexed_file.specs.Packed.{FindsMessages, Lacks}
use Rattle.mold_indexed_file.specs.Shown.{start_of}

-- ---- sizes

-- The bytes of messages in a file of version 1 or 2.
sum_two : (messages : List (List ℕ)) →
    sum_by (λ len. 2 + len) (lengths_of messages) ≡ sum_by (λ message. 2 + length message) messages
sum_two [] = refl
sum_two (message ∷ messages) =
    omega (
      arith,
      sum_two messages,
      sum_by-cons (λ (len : ℕ). 2 + len) (length message) (lengths_of messages),
      sum_by-cons (λ (m : List ℕ). 2 + length m) message messages,
    )

-- The bytes of messages in a file of version 3.
sum_four : (messages : List (List ℕ)) →
    sum_by (λ len. 4 + len) (lengths_of messages) ≤ 2 * sum_by (λ message. 2 + length message) messages
sum_four [] = omega arith
sum_four (message ∷ messages) =
    omega (
      arith,
      sum_four messages,
      sum_by-cons (λ (len : ℕ). 4 + len) (length message) (lengths_of messages),
      sum_by-cons (λ (m : List ℕ). 2 + length m) message messages,
    )

-- The bytes of messages that fit a datagram, and of one more message.
bytes_most : (version : FileVersion) (limit most : ℕ) (messages : List (List ℕ)) (message : List ℕ) →
    Fits limit messages → length message ≤ most →
    sum_by (λ len. (layout_of version).overhead + len) (lengths_of (messages ++ message ∷ []))
    ≤ most_bytes version limit most
unfolding packet_length
bytes_most One limit most messages message fits within =
    omega (
      arith,
      fits,
      within,
      ap (λ (t : List ℕ). sum_by (λ len. 2 + len) t)
          (map-append (λ (m : List ℕ). length m) messages (message ∷ [])),
      sum_by_push (λ len. 2 + len) (lengths_of messages) (length message),
      sum_two messages,
    )
bytes_most (Two count) limit most messages message fits within =
    omega (
      arith,
      fits,
      within,
      ap (λ (t : List ℕ). sum_by (λ len. 2 + len) t)
          (map-append (λ (m : List ℕ). length m) messages (message ∷ [])),
      sum_by_push (λ len. 2 + len) (lengths_of messages) (length message),
      sum_two messages,
    )
bytes_most Three limit most messages message fits within =
    omega (
      arith,
      fits,
      within,
      ap (λ (t : List ℕ). sum_by (λ len. 4 + len) t)
          (map-append (λ (m : List ℕ). length m) messages (message ∷ [])),
      sum_by_push (λ len. 4 + len) (lengths_of messages) (length message),
      sum_four messages,
    )

-- The first messages of a packet fit it too.
fits_take : (limit k : ℕ) (messages : List (List ℕ)) → Fits limit messages → Fits limit (take k messages)
unfolding packet_length
fits_take limit k messages fits =
    omega (arith, fits, sum_by-take-le (λ (m : List ℕ). 2 + length m) messages k)

-- ---- numbers and offsets

-- The message with a number is the one at an index of those from a lower number on.
numbered : (messages : List (List ℕ)) (from k : ℕ) (d : List ℕ) → 1 ≤ from → from + k ≤ length messages →
    message_numbered messages (from + k) ≡ Some (get_or (drop (from - 1) messages) k d)
numbered messages from k d some within =
    let at : from + k ≡ suc (from - 1 + k) = omega (arith, some) in
    ap (message_numbered messages) at
    ∙ slice_get-get_or messages (from - 1 + k) d (omega (arith, some, within))
    ∙ ap (λ (m : List ℕ). Some m) (sym (get_or-drop (from - 1) messages k d))

-- From one message to the end of another, as many bytes as the messages take.
offset_after : (version : FileVersion) (messages : List (List ℕ)) (from k : ℕ) → 1 ≤ from →
    offset_of (layout_of version) (lengths_of messages) (from + k + 1)
    ≡ offset_of (layout_of version) (lengths_of messages) from
    + sum_by (λ len. (layout_of version).overhead + len) (lengths_of (take (k + 1) (drop (from - 1) messages)))
offset_after version messages from k some =
    let size : List ℕ → ℕ = λ lengths. sum_by (λ len. (layout_of version).overhead + len) lengths in
    let long : List ℕ → ℕ = λ m. length m in
    let at : from + k + 1 - 1 ≡ (from - 1) + (k + 1) = omega (arith, some) in
    let before = take (from - 1) messages in
    let those = take (k + 1) (drop (from - 1) messages) in
    let all : take (from + k + 1 - 1) (lengths_of messages) ≡ lengths_of before ++ lengths_of those =
    take-map long (from + k + 1 - 1) messages
    ∙ ap (λ (n : ℕ). map long (take n messages)) at
    ∙ ap (map long) (take-add (from - 1) (k + 1) messages)
    ∙ map-append long before those in
    omega (
      arith,
      ap size all,
      sum_by-append (λ len. (layout_of version).overhead + len) (lengths_of before) (lengths_of those),
      ap size (take-map long (from - 1) messages),
    )

-- ---- what is found

each-append_all : (xs ys : List (List ℕ)) → AllByRecursion IsMessage xs → AllByRecursion IsMessage ys →
    AllByRecursion IsMessage (xs ++ ys)
each-append_all [] ys each also = also
each-append_all (x ∷ xs) ys each also = (each.0, each-append_all xs ys each.1 also)

-- After the first messages that are found, the others follow.
all_before : (spelling : List ℕ → List ℕ) (skip k : ℕ) (bytes : List ℕ) (found : List (List ℕ)) (rest : List ℕ) →
    FindsMessages spelling skip bytes found rest → k ≤ length found →
    AreMessagesAndRest spelling (skip + k) bytes (flat_map spelling (drop k found) ++ rest)
all_before spelling skip k bytes found rest finds within =
    let first = finds.skipped.messages in
    record {
      messages = first ++ take k found;
      counted = omega (
        arith,
        length-append first (take k found),
        length-take-le k found within,
        finds.skipped.counted,
      );
      each = each-append_all first (take k found) finds.skipped.each (each_take IsMessage k found finds.each);
      parts =
          finds.skipped.parts
          ∙ ap (λ (t : List ℕ). flat_map spelling first ++ t)
          (finds.parts
          ∙ ap (λ (t : List (List ℕ)). flat_map spelling t ++ rest) (sym (take-append-drop k found))
          ∙ ap (λ (t : List ℕ). t ++ rest) (flat_map-append spelling (take k found) (drop k found))
          ∙ append_assoc (flat_map spelling (take k found)) (flat_map spelling (drop k found)) rest)
          ∙ sym (append_assoc (flat_map spelling first) (flat_map spelling (take k found))
          (flat_map spelling (drop k found) ++ rest))
          ∙ ap (λ (t : List ℕ). t ++ (flat_map spelling (drop k found) ++ rest))
          (sym (flat_map-append spelling first (take k found)));
    }

-- The bytes after all messages that are found.
after_all : (spelling : List ℕ → List ℕ) (skip : ℕ) (bytes : List ℕ) (found : List (List ℕ)) (rest : List ℕ) →
    FindsMessages spelling skip bytes found rest → AreMessagesAndRest spelling (skip + length found) bytes rest
after_all spelling skip bytes found rest finds =
    subst (λ (t : List (List ℕ)). AreMessagesAndRest spelling (skip + length found) bytes (flat_map spelling t ++ rest))
    (drop_all (length found) found (omega arith))
    (all_before spelling skip (length found) bytes found rest finds (omega arith))

each_at : (k : ℕ) (messages : List (List ℕ)) (d : List ℕ) → AllByRecursion IsMessage messages → k < length messages →
    IsMessage (get_or messages k d)
each_at k [] d each within = absurd (omega (arith, within))
each_at zero (message ∷ messages) d each within = each.0
each_at (suc k) (message ∷ messages) d each within = each_at k messages d each.1 (omega (arith, within))

within_at : (most k : ℕ) (messages : List (List ℕ)) (d : List ℕ) → AllByRecursion (IsWithin most) messages →
    k < length messages → length (get_or messages k d) ≤ most
within_at most k [] d each within = absurd (omega (arith, within))
within_at most zero (message ∷ messages) d each within = each.0
within_at most (suc k) (message ∷ messages) d each within = within_at most k messages d each.1 (omega (arith, within))

each_from : (most k : ℕ) (messages : List (List ℕ)) → AllByRecursion (IsWithin most) messages →
    AllByRecursion (IsWithin most) (drop k messages)
each_from most zero messages each = each
each_from most (suc k) [] each = tt
each_from most (suc k) (message ∷ messages) each = each_from most k messages each.1

-- A message that is found.
found_at : (spelling : List ℕ → List ℕ) (skip k : ℕ) (bytes : List ℕ) (found : List (List ℕ)) (rest d : List ℕ) →
    FindsMessages spelling skip bytes found rest → k < length found →
    FindsMessage spelling (skip + k) bytes (get_or found k d) (flat_map spelling (drop (k + 1) found) ++ rest)
found_at spelling skip k bytes found rest d finds within = record {
  next = flat_map spelling (drop k found) ++ rest;
  skipped = all_before spelling skip k bytes found rest finds (omega (arith, within));
  found = record {
    fits = each_at k found d finds.each within;
    parts =
        ap (λ (t : List (List ℕ)). flat_map spelling t ++ rest) (drop_more found k d within)
        ∙ append_assoc (spelling (get_or found k d)) (flat_map spelling (drop (k + 1) found)) rest;
  };
}

-- The message after those that are found.
found_after : (spelling : List ℕ → List ℕ) (skip : ℕ) (bytes : List ℕ) (found : List (List ℕ))
    (rest message more : List ℕ) → FindsMessages spelling skip bytes found rest →
    IsMessageAndRest spelling rest message more → FindsMessage spelling (skip + length found) bytes message more
found_after spelling skip bytes found rest message more finds next = record {
  next = rest;
  skipped = after_all spelling skip bytes found rest finds;
  found = next;
}

-- ---- the journal's messages

-- The bytes are the piece of a file that was read for the next datagram of a plan.
pub record IsPieceOf (version : FileVersion) (journal : JournalState) (limit from to : ℕ) (piece : Piece)
    (bytes : List ℕ) : Type 0 where
  pub named : length journal.session.0 ≡ 10
  pub each : AllByRecursion (IsWithin journal.max_message) journal.messages
  pub short : journal.max_message < 2 ^ 16
  pub first : 1 ≤ from
  pub last : to ≤ length journal.messages + 1
  pub limited : 20 ≤ limit
  pub is : IsPiece (layout_of version) (lengths_of journal.messages) from to
      (most_bytes version limit journal.max_message) piece
  pub parts : bytes ≡ take piece.len (drop piece.entry.offset (start_of version journal))

are_messages : (most : ℕ) (messages : List (List ℕ)) → most < 2 ^ 16 → AllByRecursion (IsWithin most) messages →
    AllByRecursion IsMessage messages
are_messages most [] short each = tt
are_messages most (message ∷ messages) short each =
    (omega (arith, short, each.0), are_messages most messages short each.1)

-- The piece has each message of the plan before which all others fit the datagram.
has_next : (version : FileVersion) (journal : JournalState) (limit from to : ℕ) (piece : Piece) (bytes : List ℕ) (k : ℕ)
    (d : List ℕ) → IsPieceOf version journal limit from to piece bytes → from + k < to →
    Fits limit (take k (drop (from - 1) journal.messages)) →
    HasMessage (message_spelling version) (from - piece.entry.number + k) bytes
    (get_or (drop (from - 1) journal.messages) k d)
has_next version journal limit from to piece bytes k d is before fits =
    let messages = journal.messages in
    let those = drop (from - 1) messages in
    let spelling = message_spelling version in
    let inside : k < length those = omega (arith, length-drop (from - 1) messages, is.first, is.last, before) in
    let there = numbered messages from k d is.first (omega (arith, before, is.last)) in
    let within : length (get_or those k d) ≤ journal.max_message =
    within_at journal.max_message k those d (each_from journal.max_message (from - 1) messages is.each) inside in
    let most : sum_by (λ len. (layout_of version).overhead + len) (lengths_of (take (k + 1) those))
    ≤ most_bytes version limit journal.max_message =
    subst (λ (t : List (List ℕ)). sum_by (λ len. (layout_of version).overhead + len) (lengths_of t)
    ≤ most_bytes version limit journal.max_message) (sym (take_more those k d inside))
    (bytes_most version limit journal.max_message (take k those) (get_or those k d) fits within) in
    let has = found_in_piece journal.session.0 journal.closed version messages [] from to
    (most_bytes version limit journal.max_message) (from + k) piece (get_or those k d) is.named
    (are_messages journal.max_message messages is.short is.each) is.is (omega arith) before there
    (omega (arith, offset_after version messages from k is.first, most)) in
    let same : start_of version journal
    ≡ head_spelling journal.session.0 journal.closed version ++ (messages_spelling version messages ++ []) =
    ap (λ (t : List ℕ). head_spelling journal.session.0 journal.closed version ++ t)
    (sym (append-nil (messages_spelling version messages))) in
    let at : from + k - piece.entry.number ≡ from - piece.entry.number + k =
    omega (arith, is.is.begins.near.before) in
    subst (λ (n : ℕ). HasMessage spelling n bytes (get_or those k d)) at
    (subst (λ (t : List ℕ). HasMessage spelling (from + k - piece.entry.number) t (get_or those k d))
    (ap (λ (t : List ℕ). take piece.len (drop piece.entry.offset t)) (sym same) ∙ sym is.parts) has)

-- The first messages that are found are those of the plan.
pub same_take : (version : FileVersion) (journal : JournalState) (limit from to : ℕ) (piece : Piece) (bytes : List ℕ)
    (found : List (List ℕ)) (rest : List ℕ) (k : ℕ) → IsPieceOf version journal limit from to piece bytes →
    FindsMessages (message_spelling version) (from - piece.entry.number) bytes found rest → Fits limit found →
    from + length found ≤ to → k ≤ length found →
    take k found ≡ take k (drop (from - 1) journal.messages)
same_take version journal limit from to piece bytes found rest zero is finds fits few within = refl
same_take version journal limit from to piece bytes found rest (suc k) is finds fits few within =
    let those = drop (from - 1) journal.messages in
    let before = same_take version journal limit from to piece bytes found rest k is finds fits few
    (omega (arith, within)) in
    let has = has_next version journal limit from to piece bytes k [] is (omega (arith, few, within))
    (subst (λ (t : List (List ℕ)). Fits limit t) before (fits_take limit k found fits)) in
    let one = found_at (message_spelling version) (from - piece.entry.number) k bytes found rest [] finds
    (omega (arith, within)) in
    let same : get_or found k [] ≡ get_or those k [] =
    (one_found version (from - piece.entry.number + k) bytes (get_or found k []) (get_or those k [])
    (flat_map (message_spelling version) (drop (k + 1) found) ++ rest) has.rest one has.finds).0 in
    let more : k + 1 ≡ suc k = omega arith in
    let inside : k < length those =
    omega (arith, length-drop (from - 1) journal.messages, is.first, is.last, few, within) in
    subst (λ (n : ℕ). take n found ≡ take n those) more
    (take_more found k [] (omega (arith, within))
    ∙ ap (λ (t : List (List ℕ)). t ++ get_or found k [] ∷ []) before
    ∙ ap (λ (m : List ℕ). take k those ++ m ∷ []) same
    ∙ sym (take_more those k [] inside))

-- All messages that are found are those of the plan.
pub same_found : (version : FileVersion) (journal : JournalState) (limit from to : ℕ) (piece : Piece) (bytes : List ℕ)
    (found : List (List ℕ)) (rest : List ℕ) → IsPieceOf version journal limit from to piece bytes →
    FindsMessages (message_spelling version) (from - piece.entry.number) bytes found rest → Fits limit found →
    from + length found ≤ to → found ≡ take (length found) (drop (from - 1) journal.messages)
same_found version journal limit from to piece bytes found rest is finds fits few =
    sym (take_all (length found) found (omega arith))
    ∙ same_take version journal limit from to piece bytes found rest (length found) is finds fits few (omega arith)

-- The message after those that are found is the plan's next one.
pub same_next : (version : FileVersion) (journal : JournalState) (limit from to : ℕ) (piece : Piece) (bytes : List ℕ)
    (found : List (List ℕ)) (rest message more d : List ℕ) → IsPieceOf version journal limit from to piece bytes →
    FindsMessages (message_spelling version) (from - piece.entry.number) bytes found rest → Fits limit found →
    from + length found < to → IsMessageAndRest (message_spelling version) rest message more →
    message ≡ get_or (drop (from - 1) journal.messages) (length found) d
same_next version journal limit from to piece bytes found rest message more d is finds fits fewer next =
    let spelling = message_spelling version in
    let skip = from - piece.entry.number in
    let same = same_found version journal limit from to piece bytes found rest is finds fits (omega (arith, fewer)) in
    let has = has_next version journal limit from to piece bytes (length found) d is fewer
    (subst (λ (t : List (List ℕ)). Fits limit t) same fits) in
    (one_found version (skip + length found) bytes message (get_or (drop (from - 1) journal.messages) (length found) d)
    more has.rest (found_after spelling skip bytes found rest message more finds next) has.finds).0

-- ---- errors

-- The piece has each message that the datagram needs.
pub lacks_none : (version : FileVersion) (journal : JournalState) (limit from to : ℕ) (piece : Piece) (bytes : List ℕ)
    (session : Session) (packer : PackerState) (index : ℕ) → packet_length [] ≡ 20 → from < to →
    packer.limit ≡ limit → IsPieceOf version journal limit from to piece bytes →
    Lacks (message_spelling version) (from - piece.entry.number) (to - from) bytes session from packer index → ⊥
lacks_none version journal limit from to piece bytes session packer index none some same is (inl (before, ends)) =
    let has = has_next version journal limit from to piece bytes 0 [] is (omega (arith, some))
    (omega (arith, none, is.limited)) in
    let past = no_end version (from - piece.entry.number + 0) index bytes
    (get_or (drop (from - 1) journal.messages) 0 []) has.rest has.finds ends in
    omega (arith, past, before)
lacks_none version journal limit from to piece bytes session packer index none some same is (inr lacks) =
    let skip = from - piece.entry.number in
    let fits : Fits limit lacks.found =
    subst (λ (n : ℕ). Fits n lacks.found) same lacks.packed.fits in
    let fewer : from + length lacks.found < to = omega (arith, lacks.few) in
    let found = same_found version journal limit from to piece bytes lacks.found lacks.rest is lacks.packed.finds fits
    (omega (arith, fewer)) in
    let has = has_next version journal limit from to piece bytes (length lacks.found) [] is fewer
    (subst (λ (t : List (List ℕ)). Fits limit t) found fits) in
    let past = no_end version (skip + length lacks.found) (skip + length lacks.found) bytes
    (get_or (drop (from - 1) journal.messages) (length lacks.found) []) has.rest has.finds
    (record {
      rest = lacks.rest;
      whole = after_all (message_spelling version) skip bytes lacks.found lacks.rest lacks.packed.finds;
      none = lacks.none;
    }) in
    omega (arith, past)
