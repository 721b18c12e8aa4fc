-- What is written of datagrams that are whole.
use Rattle.std.proofs.Common.{◌≡◌, ℕ, zero, suc, ◌+◌, ◌-◌, ◌<◌, ◌≤◌, List, [], ◌∷◌, ◌++◌, length, Option, refl, sym}
use Rattle.std.proofs.Common.{ap, subst, ◌∙◌}
use Rattle.std.proofs.Common.{true, inl, inr, arith}
use Rattle.std.specs.Prelude.{None, Some, slice_get}
use Rattle.std.specs.Io.KnownBytes.{Appends}
use Rattle.std.specs.List.{All, AllByRecursion, Contains, flat_map}
use Rattle.std.specs.FinMap as finite
use Rattle.std.proofs.lemmas.List.Elements.{All-head, All-contains, recursion_from_All}
use Rattle.std.proofs.lemmas.Option.{none-some, same_Some, get_or_from_slice_get}
use Rattle.mold_wire.specs.Block.{IsMessage, blocks}
use Rattle.mold_wire.specs.Packet.{IsBody, messages_of as body_messages}
use Rattle.mold_wire.specs.declared.session.Session.{Session}
use Rattle.mold_wire.specs.declared.packet.Body.{Body}
use Rattle.mold_wire.specs.declared.packet.Body.TheVariants.{Data, Heartbeat, End}
use Rattle.mold_devices.specs.Devices.{AppendsPrefix}
use Rattle.mold_session.specs.File.{AppendsFile, AppendsFilePrefix, SpellsJournal2, head_2}
use Rattle.mold_session.specs.Journal.{AreMessages, IsWithin}
use Rattle.mold_capture.specs.Consistent.{Consistent, Explains, IsCarried, IsSaidBy, Whole}
use Rattle.mold_capture.specs.Seen.{numbered, packets_of, read_before, seen_of, session_of}
use Rattle.mold_capture.proofs.ListLemmas.{ReadsBack}
use Rattle.mold_capture.proofs.PairLemmas.{message_bounds, message_within, option_cases, published_in}
use Rattle.mold_capture.proofs.SumLemmas.{carried_at, end_at, one_whole, received_whole, sums_up, whole_received}
use Rattle.mold_extract.specs.Carried.{IsBeforeEnd, IsInFull, carried_between, carried_in, messages_of}
use Rattle.mold_extract.specs.Journal.{AppendsJournalPrefix, IsWholeSession, Saves, first_messages, journal_file}
use Rattle.mold_extract.specs.Text.{blocks_in, entry_block, entry_line, lines_in}
use Rattle.mold_extract.specs.declared.extracted.Extracted.{Extracted}
use Rattle.mold_extract.specs.declared.extracted.Extracted.TheVariants.{All as IsAll, Holes}
use Rattle.mold_extract.specs.declared.number_range.NumberRange.{NumberRange}
use Rattle.mold_extract.proofs.BetweenLemmas.{between_last, between_list, between_numbered}
use Rattle.mold_extract.proofs.RunLemmas.{entry_blocks}

-- Each session that explains whole datagrams has these messages.
pub one_list : ReadsBack → (list P Q : List (List ℕ)) (session : List ℕ) → Whole list P → Explains session Q list →
    Q ≡ P
one_list reads list P Q session whole explained =
    let first = end_at reads whole.session P list whole.explained whole.ended.0 whole.ended.1 in
    let second = end_at reads session Q list explained whole.ended.0 whole.ended.1 in
    one_whole reads list Q P (record {
      session = session;
      explained = explained;
      ended = whole.ended;
      carried = λ k low high. whole.carried k low (omega (arith, first, second, high));
    }) whole

pub session_told : ReadsBack → (session : List ℕ) (P list : List (List ℕ)) → All (IsSaidBy session P) list →
    0 < length list → (seen_of list).session ≡ Some session
session_told reads session P [] each some = absurd (omega (arith, some))
session_told reads session P (bytes ∷ list) each some =
    let said = All-head (IsSaidBy session P) bytes list each in
    ap (λ r. session_of (read_before r (packets_of list))) (reads said.packet bytes said.spelled)
    ∙ ap (λ (name : List ℕ). Some name) said.named

is_some : {X : Type 0} (list : List X) (x : X) → Contains list x → 0 < length list
is_some list x member = omega (arith, member.1)

named : ReadsBack → (list P Q : List (List ℕ)) (session : List ℕ) → Whole list P → Explains session Q list →
    (seen_of list).session ≡ Some session
named reads list P Q session whole explained =
    let has = whole.ended.1 in
    session_told reads session Q list explained.each (is_some list has.bytes has.member)

pub one_name : ReadsBack → (list P Q : List (List ℕ)) (session other : List ℕ) → Whole list P →
    Explains session P list → Explains other Q list → other ≡ session
one_name reads list P Q session other whole explained also =
    same_Some other session (sym (named reads list P Q other whole also) ∙ named reads list P P session whole explained)

-- The carried messages are those of the session.
carried_are : ReadsBack → (list P : List (List ℕ)) → Whole list P → (i : ℕ) → i < length P →
    finite.get (seen_of list).pairs (1 + i) ≡ slice_get P i
carried_are reads list P whole i high =
    let received = whole_received reads list P whole in
    let found = received.carried (suc i) (omega arith) (omega (arith, high)) in
    let allows = (sums_up reads list (whole.session, P, whole.explained)).allows whole.session P whole.explained in
    let number : 1 + i ≡ suc i = omega arith in
    ap (finite.get (seen_of list).pairs) number
    ∙ found.1
    ∙ sym (allows.carried (suc i) found.0 found.1)
    ∙ published_in P i

messages_are : ReadsBack → (list P : List (List ℕ)) → Whole list P → first_messages (seen_of list) (length P) ≡ P
messages_are reads list P whole =
    let last : length P + 1 ≡ 1 + length P = omega arith in
    ap (λ (k : ℕ). messages_of (carried_between (seen_of list).pairs 1 k)) last
    ∙ between_list (seen_of list).pairs 1 P (carried_are reads list P whole)

-- A message of a valid body has at most 65,535 bytes.
each_short : (messages : List (List ℕ)) → AllByRecursion IsMessage messages → (i : ℕ) (m : List ℕ) →
    slice_get messages i ≡ Some m → length m ≤ 65535
each_short [] each i m is = absurd (none-some m is)
each_short (message ∷ messages) each zero m is =
    let same : message ≡ m = same_Some message m is in
    let long : length message ≡ length m = ap (λ (t : List ℕ). length t) same in
    let short : length message < 65536 = each.0 in
    omega (arith, long, short)
each_short (message ∷ messages) each (suc i) m is = each_short messages each.1 i m is

body_short : (body : Body) → IsBody body → (i : ℕ) (m : List ℕ) → slice_get (body_messages body) i ≡ Some m →
    length m ≤ 65535
body_short (Data messages) is_body i m is = each_short messages is_body.2 i m is
body_short Heartbeat is_body i m is = absurd (none-some m is)
body_short End is_body i m is = absurd (none-some m is)

carried_short : (list : List (List ℕ)) (q : ℕ) (m : List ℕ) → IsCarried list q m → length m ≤ 65535
carried_short list q m is =
    let packet = is.packet in
    let bounds = message_bounds packet.sequence (body_messages packet.body) q m is.carried in
    body_short packet.body is.spelled.is_packet.body (q - packet.sequence) m
    (sym (message_within packet.sequence (body_messages packet.body) q bounds.0) ∙ is.carried)

are_messages : ReadsBack → (list P : List (List ℕ)) → Whole list P → AreMessages 65535 P
are_messages reads list P whole = record {
  few = whole.explained.few;
  each = recursion_from_All (IsWithin 65535) P (λ i d high.
      let found = whole.carried (suc i) (omega arith) (omega (arith, high)) in
      let is = carried_at reads whole.session P list whole.explained (suc i) found.0 found.1 in
      let same = get_or_from_slice_get P i found.0 d (sym (published_in P i) ∙ is) in
      subst (IsWithin 65535) (sym same) (carried_short list (suc i) found.0 found.1));
}

ten_bytes : (session : List ℕ) (list P : List (List ℕ)) → Whole list P → Explains session P list → length session ≡ 10
ten_bytes session list P whole explained =
    let has = whole.ended.1 in
    let said = All-contains (IsSaidBy session P) list has.bytes explained.each has.member in
    ap (λ (name : List ℕ). length name) (sym said.named) ∙ said.spelled.is_packet.session

-- The file is the closed journal of the session.
spelled : ReadsBack → (list P : List (List ℕ)) (session : Session) → Whole list P → Explains session.0 P list →
    SpellsJournal2 session P true (journal_file session.0 (seen_of list) (length P))
spelled reads list P session whole explained = record {
  named = ten_bytes session.0 list P whole explained;
  listed = are_messages reads list P whole;
  spelled = ap (λ (t : List (List ℕ)). head_2 session.0 true (length P) ++ blocks t) (messages_are reads list P whole);
}

is_whole : ReadsBack → (list P : List (List ℕ)) (session : List ℕ) → Whole list P → Explains session P list →
    IsWholeSession (seen_of list) session (length P)
is_whole reads list P session whole explained = record {
  named = named reads list P P session whole explained;
  whole = whole_received reads list P whole;
}

-- The name and the number of messages that the datagrams state are those of the session.
same_name : ReadsBack → (list P : List (List ℕ)) (session other : List ℕ) (count : ℕ) → Whole list P →
    Explains session P list → IsWholeSession (seen_of list) other count → other ≡ session
same_name reads list P session other count whole explained told =
    same_Some other session (sym told.named ∙ named reads list P P session whole explained)

same_count : ReadsBack → (list P : List (List ℕ)) (other : List ℕ) (count : ℕ) → Whole list P →
    IsWholeSession (seen_of list) other count → count ≡ length P
same_count reads list P other count whole told =
    let same : count + 1 ≡ length P + 1 =
    same_Some (count + 1) (length P + 1) (sym told.whole.ended ∙ (whole_received reads list P whole).ended)
    in
    omega (arith, same)

same_file : ReadsBack → (list P : List (List ℕ)) (session other : List ℕ) (count : ℕ) → Whole list P →
    Explains session P list → IsWholeSession (seen_of list) other count →
    journal_file other (seen_of list) count ≡ journal_file session (seen_of list) (length P)
same_file reads list P session other count whole explained told =
    (λ i. journal_file (same_name reads list P session other count whole explained told i) (seen_of list)
    (same_count reads list P other count whole told i))

pub saved_whole : ReadsBack → (list P : List (List ℕ)) (session : Session) (old new : Option (List ℕ))
    (saved : Extracted) → Whole list P → Explains session.0 P list → Saves old new (seen_of list) saved →
    (saved ≡ IsAll (length P)) × AppendsFile old new session P true
saved_whole reads list P session old new (IsAll count) whole explained saves = (
  ap IsAll (same_count reads list P saves.session count whole saves.is_whole),
  record {
    file = journal_file session.0 (seen_of list) (length P);
    spelled = spelled reads list P session whole explained;
    appended = subst (Appends old new)
        (same_file reads list P session.0 saves.session count whole explained saves.is_whole) saves.appended;
  },
)
saved_whole reads list P session old new Holes whole explained saves =
    absurd (saves.0 session.0 (length P) (is_whole reads list P session.0 whole explained))

pub prefix_whole : ReadsBack → (list P : List (List ℕ)) (session : Session) (old new : Option (List ℕ)) →
    Whole list P → Explains session.0 P list → AppendsJournalPrefix old new (seen_of list) →
    AppendsFilePrefix old new session P true
prefix_whole reads list P session old new whole explained begun = record {
  file = journal_file session.0 (seen_of list) (length P);
  spelled = spelled reads list P session whole explained;
  appended = subst (AppendsPrefix old new)
      (same_file reads list P session.0 begun.session begun.count whole explained begun.is_whole) begun.appended;
}

pub saved_holes : ReadsBack → (list : List (List ℕ)) (old new : Option (List ℕ)) (saved : Extracted) →
    Consistent list → ((P : List (List ℕ)) → Whole list P → ⊥) → Saves old new (seen_of list) saved →
    (saved ≡ Holes) × Appends old new []
saved_holes reads list old new (IsAll count) consistent not saves =
    let found = received_whole reads list consistent count saves.is_whole.whole in
    absurd (not found.0 found.1.0)
saved_holes reads list old new Holes consistent not saves = (refl, saves.1)

-- ---- all numbers

before : (ended : Option ℕ) (end k : ℕ) → ended ≡ Some end → IsBeforeEnd ended k → k < end
before ended end k is low = subst (λ (o : Option ℕ). IsBeforeEnd o k) is low

pub whole_full : ReadsBack → (list P : List (List ℕ)) (range : NumberRange) → Whole list P →
    IsInFull (seen_of list) range
whole_full reads list P range whole = λ k low high below.
    let received = whole_received reads list P whole in
    received.carried k (omega (arith, low)) (before (seen_of list).ended (length P + 1) k received.ended below)

abbrev every : NumberRange
every = record { from = 1; count = 18446744073709551615 }

none_past : ReadsBack → (list P : List (List ℕ)) → Whole list P → (k : ℕ) → 1 + length P ≤ k →
    finite.get (seen_of list).pairs k ≡ None
none_past reads list P whole k past =
    let received = whole_received reads list P whole in
    let sound = (sums_up reads list (whole.session, P, whole.explained)).sound in
    let known : length P + 1 ≡ (seen_of list).known = sound.ended (length P + 1) received.ended in
    elim (option_cases (finite.get (seen_of list).pairs k)) [
      | inl none ↦ none
      | inr found ↦ absurd (omega (arith, known, past, (sound.carried k found.0 found.1).1))
    ]

every_numbered : ReadsBack → (list P : List (List ℕ)) → Whole list P →
    carried_in (seen_of list).pairs every ≡ numbered 1 P
every_numbered reads list P whole =
    let pairs = (seen_of list).pairs in
    let few : 1 + length P ≤ 18446744073709551615 = omega (arith, whole.explained.few) in
    sym (between_last pairs 1 (1 + length P) 18446744073709551615 few (none_past reads list P whole))
    ∙ between_numbered pairs 1 P (carried_are reads list P whole)

pub whole_lines : ReadsBack → (list P : List (List ℕ)) → Whole list P →
    lines_in (seen_of list).pairs every ≡ flat_map entry_line (numbered 1 P)
whole_lines reads list P whole = ap (flat_map entry_line) (every_numbered reads list P whole)

unnumbered : (n : ℕ) (messages : List (List ℕ)) → messages_of (numbered n messages) ≡ messages
unnumbered n [] = refl
unnumbered n (m ∷ messages) = ap (λ (t : List (List ℕ)). m ∷ t) (unnumbered (suc n) messages)

pub whole_blocks : ReadsBack → (list P : List (List ℕ)) → Whole list P →
    blocks_in (seen_of list).pairs every ≡ blocks P
whole_blocks reads list P whole =
    ap (flat_map entry_block) (every_numbered reads list P whole)
    ∙ entry_blocks (numbered 1 P)
    ∙ ap blocks (unnumbered 1 P)
