-- The messages of a journal's file that are read one after the other.
use Rattle.std.proofs.Common.{arith, ◌≡◌, ◌∙◌, ℕ, zero, suc, ◌+◌, ◌<◌, ◌≤◌, Bool, List, [], ◌∷◌, ◌++◌, length}
use Rattle.std.proofs.Common.{Option, None, Some, ap, inl, inr, refl, subst}
use Rattle.std.specs.Io.KnownBytes.{prepend_known}
use Rattle.std.specs.List.{slice_get}
use Rattle.mold_session.specs.Contents.{FileContents, Gives}
use Rattle.mold_session.specs.Journal.{message_numbered}
use Rattle.mold_session.specs.Loading.{Refuses}
use Rattle.mold_session.specs.Reader.{EndsWith, HasRead, ReadsNext, RestFault}
use Rattle.mold_session.specs.Records.{SpellsJournal3}
use Rattle.mold_session.specs.declared.error.FileError.{FileError}
use Rattle.mold_session.specs.declared.error.FileError.TheVariants.{TooLong, Memory, BadMagic, Short, BlockCut, Read}
use Rattle.mold_session.specs.declared.error.FileError.TheVariants.{Write, Full, CountDiffers, BadFlag, Damaged}
use Rattle.mold_session.specs.declared.file_version.FileVersion.TheVariants.{Three}
use Rattle.mold_session.specs.declared.loading.FileHead.{FileHead}
use Rattle.mold_session.proofs.ReaderLemmas.{read_file, read_front, read_more, read_refused}
use Rattle.mold_session.proofs.RecordLawLemmas.{no_fault_of_3, one_file}
use Rattle.mold_wire.specs.declared.block.TheConstants.{MAX_MESSAGE}
use Rattle.mold_wire.specs.declared.session.Session.{Session}
use Rattle.mold_feeder.specs.Comparison.{number_after}
use Rattle.mold_feeder.specs.JournalMessages.{HasMessageRead, HasMessages, IsOfDevice}
use Rattle.mold_feeder.specs.declared.compared.Compared.{Compared}
use Rattle.mold_feeder.specs.declared.compared.Compared.TheVariants.{Differs, End, Refused, Same}
use Rattle.mold_feeder.specs.declared.journal_messages.JournalMessages.{JournalMessages}

message_after : (front more : List (List ℕ)) (message : List ℕ) →
    slice_get ((front ++ message ∷ []) ++ more) (length front) ≡ Some message
message_after [] more message = refl
message_after (first ∷ front) more message = message_after front more message

numbered_after : (messages front more : List (List ℕ)) (message : List ℕ) (number : ℕ) → length front + 1 ≡ number →
    messages ≡ (front ++ message ∷ []) ++ more → message_numbered messages number ≡ Some message
numbered_after messages front more message zero counted parts = absurd (omega (arith, counted))
numbered_after messages front more message (suc index) counted parts =
    let at : index ≡ length front = omega (arith, counted) in
    ap (λ (ms : List (List ℕ)). slice_get ms index) parts
    ∙ ap (slice_get ((front ++ message ∷ []) ++ more)) at
    ∙ message_after front more message

-- An error that is no fault of the file is one of a device.
by_error : {bytes : List ℕ} {messages : List (List ℕ)} (error : FileError) →
    ((why : FileError) → Gives bytes messages (Some why) → ⊥) →
    Refuses (λ known why. Gives known messages (Some why)) (Some bytes) error → IsOfDevice error
by_error Read none refused = tt
by_error Memory none refused = tt
by_error Write none refused = refused
by_error BadMagic none refused = none BadMagic refused
by_error Full none refused = none Full refused
by_error (Short n) none refused = none (Short n) refused
by_error (BadFlag n) none refused = none (BadFlag n) refused
by_error (TooLong n) none refused = none (TooLong n) refused
by_error (BlockCut n) none refused = none (BlockCut n) refused
by_error (Damaged n) none refused = none (Damaged n) refused
by_error (CountDiffers n m) none refused = none (CountDiffers n m) refused

module _ {J : Type 0} (left : J → Option (List ℕ)) where
  -- The bytes of the file that were not used yet.
  abbrev pub unused : JournalMessages J → Option (List ℕ)
  unused journal = prepend_known journal.reader.rest (left journal.source)

  -- The file was opened.
  pub opened : (journal : JournalMessages J) (session : Session) (messages : List (List ℕ)) (closed : Bool)
      (bytes : List ℕ) (known : Option (List ℕ)) → known ≡ Some bytes → SpellsJournal3 session messages closed bytes →
      HasRead known (unused journal) journal.reader [] → HasMessages left journal messages 1
  opened journal session messages closed bytes known is spelled read = record {
    session = session;
    closed = closed;
    file = bytes;
    spelled = spelled;
    front = [];
    read = subst (λ (k : Option (List ℕ)). HasRead k (unused journal) journal.reader []) is read;
    some = omega arith;
    next = inl (ap (λ (n : ℕ). n + 1) read.counted);
  }

  -- The next message was read.
  pub next_read : (journal next : JournalMessages J) (messages : List (List ℕ)) (number : ℕ) →
      HasMessages left journal messages number → journal.reader.count + 1 ≡ number →
      ReadsNext (unused journal) (unused next) journal.reader next.reader → HasMessageRead left next messages number
  next_read journal next messages number has at reads =
      let message = next.reader.message in
      let read = read_more (Some has.file) (unused journal) (unused next) journal.reader next.reader has.front has.read
      reads in
      let contents : FileContents has.file = record {
        messages = messages;
        fault = None;
        gives = (record { session = has.session; closed = has.closed; version = Three }, has.spelled);
      } in
      let front = read_front (Some has.file) (unused next) next.reader (has.front ++ message ∷ []) read contents in
      let counted : next.reader.count ≡ number = omega (arith, reads.counted, at) in
      let there = numbered_after messages has.front front.extra message number
      (omega (arith, has.read.counted, at)) front.longer in
      record {
        has = record {
          session = has.session;
          closed = has.closed;
          file = has.file;
          spelled = has.spelled;
          front = has.front ++ message ∷ [];
          read = read;
          some = has.some;
          next = inr (counted, there);
        };
        counted = counted;
        there = there;
      }

  -- The message was read before.
  pub was_read : (journal : JournalMessages J) (messages : List (List ℕ)) (number : ℕ) →
      HasMessages left journal messages number → number ≤ journal.reader.count →
      HasMessageRead left journal messages number
  was_read journal messages number has below = elim has.next [
    | inl at ↦ absurd (omega (arith, at, below))
    | inr at ↦ record { has = has; counted = at.0; there = at.1 }
  ]

  -- The message is read next.
  pub is_next : (journal : JournalMessages J) (messages : List (List ℕ)) (number : ℕ) →
      HasMessages left journal messages number → journal.reader.count < number → journal.reader.count + 1 ≡ number
  is_next journal messages number has above = elim has.next [
    | inl at ↦ at
    | inr at ↦ absurd (omega (arith, at.0, above))
  ]

  -- The file ends.
  pub file_ended : (journal : JournalMessages J) (head : FileHead) (messages : List (List ℕ)) (number : ℕ) →
      HasMessages left journal messages number → journal.reader.count + 1 ≡ number →
      EndsWith (unused journal) journal.reader head → length messages < number
  file_ended journal head messages number has at ends =
      let spelled = read_file (Some has.file) (unused journal) journal.reader has.front head has.read ends in
      let same = one_file (record { session = has.session; closed = has.closed; version = Three }) head messages
      has.front has.file has.spelled spelled in
      omega (arith, at, has.read.counted, ap (λ (ms : List (List ℕ)). length ms) same.1)

  -- The file has no fault.
  no_fault : (journal : JournalMessages J) (messages : List (List ℕ)) (number : ℕ) →
      (has : HasMessages left journal messages number) → (error : FileError) →
      Gives has.file has.front (Some error) → ⊥
  no_fault journal messages number has error gives =
      no_fault_of_3 MAX_MESSAGE has.session messages has.closed has.file error (omega arith) has.spelled
      has.spelled.listed.each gives.0

  pub device_refused : (journal : JournalMessages J) (messages : List (List ℕ)) (number : ℕ) (error : FileError) →
      HasMessages left journal messages number →
      Refuses (RestFault MAX_MESSAGE journal.reader.head.version journal.reader.count) (unused journal) error →
      IsOfDevice error
  device_refused journal messages number error has refused =
      by_error error (no_fault journal messages number has)
      (read_refused (Some has.file) (unused journal) journal.reader has.front error has.read refused)

  -- ---- the comparison

  -- The next message is compared next, if the entry was the same.
  pub compared_one : (journal : JournalMessages J) (messages : List (List ℕ)) (number : ℕ) (compared : Compared) →
      HasMessageRead left journal messages number →
      HasMessages left journal messages (number_after compared number)
  compared_one journal messages number Same read = record {
    session = read.has.session;
    closed = read.has.closed;
    file = read.has.file;
    spelled = read.has.spelled;
    front = read.has.front;
    read = read.has.read;
    some = omega arith;
    next = inl (ap (λ (n : ℕ). n + 1) read.counted);
  }
  compared_one journal messages number Differs read = read.has
  compared_one journal messages number (Refused why) read = read.has
  compared_one journal messages number End read = read.has
