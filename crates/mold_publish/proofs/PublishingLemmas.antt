-- What entries are published as, one by one, and the room that their messages leave.
use Rattle.std.proofs.Common.{arith, ◌≡◌, ◌∙◌, ◌↔◌, ℕ, ◌+◌, ◌*◌, ◌≤◌, Bool, cond, true, false, nat_lt, List, [], ◌∷◌}
use Rattle.std.proofs.Common.{◌++◌, length, length-append, map, Option, None, Some, Result, Ok, Err, ap, refl, sym}
use Rattle.std.proofs.Common.{true≢false}
use Rattle.std.proofs.Common.{subst, IsTrue, ⊎_elim, ◌==◌}
use Rattle.std.proofs.lemmas.Bool.{cases_lt}
use Rattle.std.proofs.lemmas.List.{drop-append-le}
use Rattle.std.proofs.lemmas.Bool.Decides.{nat_tests}
use Rattle.hex.specs.Hex.{decode_of}
use Rattle.hex.specs.declared.error.FromHexError.{FromHexError}
use Rattle.mold_wire.specs.Packing.{packet_length, Fits}
use Rattle.mold_input.specs.Entries.{Entry, GivesNext, digits_entry, line_entry, with_kind}
use Rattle.mold_input.specs.declared.input_fault.InputFault.{InputFault}
use Rattle.mold_input.specs.declared.input_fault.InputFault.TheVariants as fault
use Rattle.mold_input.specs.declared.limits.TheConstants.{MAX_LINE}
use Rattle.mold_input.specs.declared.input_kind.InputKind.{InputKind}
use Rattle.mold_input.specs.declared.input_kind.InputKind.TheVariants.{Lines}
use Rattle.mold_input.specs.declared.next.Next.TheVariants as next
use Rattle.mold_session.specs.Journal.{JournalState, append_refusal, appended}
use Rattle.mold_session.specs.Publisher.{PublisherState, IsPublisher, unsent_of, published}
use Rattle.mold_session.specs.declared.error.AppendError.{AppendError}
use Rattle.mold_session.specs.declared.error.AppendError.TheVariants.{Closed, TooLong}
use Rattle.mold_session.specs.declared.error.AppendError.TheVariants as append
use Rattle.mold_publish.specs.Publishing.{PublishedInput, published_from, entries_published, entry_outcome}
use Rattle.mold_publish.specs.Publishing.{lines_published, line_outcome, fault_refusal}
use Rattle.mold_publish.specs.Publishing.{unless_refused, InputPublished, Fills}
use Rattle.mold_publish.specs.Publishing.{TakesEntry, HasRoom, IsJustFull}
use Rattle.mold_publish.specs.declared.message_refusal.MessageRefusal.{MessageRefusal}
use Rattle.mold_publish.specs.declared.filling.Filled.{Filled}
use Rattle.mold_publish.specs.declared.filling.Filled.TheVariants.{Full, End, Refused}

-- ---- what entries are published as

module _ (kind : InputKind) where
  first_published : (journal : JournalState) (entry : Entry) (entries : List Entry) (message : List ℕ) →
      entry_outcome kind journal entry ≡ Ok message →
      entries_published kind journal (entry ∷ entries) ≡ entries_published kind (appended journal message) entries
  unfolding entries_published
  first_published journal entry entries message is =
      ap (λ (r : Result (List ℕ) MessageRefusal).
      published_from journal r (λ next. entries_published kind next entries)) is

  first_refused : (journal : JournalState) (entry : Entry) (entries : List Entry) (refusal : MessageRefusal) →
      entry_outcome kind journal entry ≡ Err refusal →
      entries_published kind journal (entry ∷ entries) ≡ record { journal = journal; refused = Some refusal }
  unfolding entries_published
  first_refused journal entry entries refusal is =
      ap (λ (r : Result (List ℕ) MessageRefusal).
      published_from journal r (λ next. entries_published kind next entries)) is

  none_published : (journal : JournalState) →
      entries_published kind journal [] ≡ record { journal = journal; refused = None }
  unfolding entries_published
  none_published journal = refl

  -- The entries before the rest were published.
  abbrev pub Published : JournalState → JournalState → Option (List Entry) → Option (List Entry) → Filled → Type 0
  Published old new known left filled = InputPublished old new (with_kind kind known) (with_kind kind left) filled

  -- before the first entry
  pub published_nothing : (journal : JournalState) (known : Option (List Entry)) → Published journal journal known known Full
  published_nothing journal None = tt
  published_nothing journal (Some entries) = refl

  -- one more message
  pub published_more : (old before after : JournalState) (known left behind : Option (List Entry)) (read message : List ℕ) →
      Published old before known left Full → GivesNext left behind next.Message read →
      entry_outcome kind before (Ok read) ≡ Ok message → after ≡ appended before message →
      Published old after known behind Full
  published_more old before after None left behind read message so_far gives is taken = tt
  published_more old before after (Some all) None behind read message so_far gives is taken = absurd so_far
  published_more old before after (Some all) (Some xs) None read message so_far gives is taken = absurd gives
  published_more old before after (Some all) (Some xs) (Some ys) read message so_far gives is taken =
      so_far
      ∙ ap (entries_published kind before) gives
      ∙ first_published before (Ok read) ys message is
      ∙ ap (λ (j : JournalState). entries_published kind j ys) (sym taken)

  -- no entry remains
  pub published_end : (old now : JournalState) (known left behind : Option (List Entry)) (read : List ℕ) →
      Published old now known left Full → GivesNext left behind next.End read → Published old now known behind End
  published_end old now None left behind read so_far gives = tt
  published_end old now (Some all) None behind read so_far gives = absurd so_far
  published_end old now (Some all) (Some xs) None read so_far gives = absurd gives
  published_end old now (Some all) (Some xs) (Some ys) read so_far gives =
      so_far ∙ ap (λ (es : List Entry). entries_published kind now es) gives ∙ none_published now

  -- an entry is not a message
  pub published_fault : (old now : JournalState) (known left behind : Option (List Entry)) (read : List ℕ)
      (why : InputFault) → Published old now known left Full → GivesNext left behind (next.Fault why) read →
      Published old now known behind (Refused (record { kind = kind; why = fault_refusal why now.closed }))
  published_fault old now None left behind read why so_far gives = tt
  published_fault old now (Some all) None behind read why so_far gives = absurd so_far
  published_fault old now (Some all) (Some xs) None read why so_far gives = absurd gives
  published_fault old now (Some all) (Some xs) (Some ys) read why so_far gives =
      so_far ∙ ap (entries_published kind now) gives ∙ first_refused now (Err why) ys _ refl

  -- a message is refused
  pub published_refused : (old now : JournalState) (known left behind : Option (List Entry)) (read : List ℕ)
      (refusal : MessageRefusal) → Published old now known left Full → GivesNext left behind next.Message read →
      entry_outcome kind now (Ok read) ≡ Err refusal →
      Published old now known behind (Refused refusal)
  published_refused old now None left behind read refusal so_far gives is = tt
  published_refused old now (Some all) None behind read refusal so_far gives is = absurd so_far
  published_refused old now (Some all) (Some xs) None read refusal so_far gives is = absurd gives
  published_refused old now (Some all) (Some xs) (Some ys) read refusal so_far gives is =
      so_far ∙ ap (entries_published kind now) gives ∙ first_refused now (Ok read) ys refusal is

-- ---- lines

long_same : (journal : JournalState) (message : List ℕ) (long : Bool) →
    entry_outcome Lines journal (cond long (Err (fault.TooLong (length message))) (Ok message))
    ≡ cond long (Err (record { kind = Lines; why = fault_refusal (fault.TooLong (length message)) journal.closed }))
    (unless_refused Lines message (append_refusal journal message))
long_same journal message true = refl
long_same journal message false = refl

-- A line has the outcome of its entry.
line_same : (journal : JournalState) (digits : Result (List ℕ) FromHexError) →
    entry_outcome Lines journal (digits_entry digits) ≡ line_outcome journal digits
line_same journal (Ok message) = long_same journal message (nat_lt MAX_LINE (2 * length message))
line_same journal (Err why) = refl

published_same : (journal : JournalState) (outcome : Result (List ℕ) MessageRefusal)
    (one other : JournalState → PublishedInput) → ((next : JournalState) → one next ≡ other next) →
    published_from journal outcome one ≡ published_from journal outcome other
published_same journal (Ok message) one other same = same (appended journal message)
published_same journal (Err why) one other same = refl

pub lines_same : (journal : JournalState) (lines : List (List ℕ)) →
    entries_published Lines journal (map line_entry lines) ≡ lines_published journal lines
unfolding entries_published lines_published
lines_same journal [] = refl
lines_same journal (line ∷ lines) =
    ap (λ (r : Result (List ℕ) MessageRefusal). published_from journal r
    (λ next. entries_published Lines next (map line_entry lines))) (line_same journal (decode_of line))
    ∙ published_same journal (line_outcome journal (decode_of line))
    (λ next. entries_published Lines next (map line_entry lines)) (λ next. lines_published next lines)
    (λ next. lines_same next lines)

-- ---- the length of a published message

not_long : (closed long full : Bool) (len : ℕ) →
    cond closed (Some Closed) (cond long (Some (TooLong len)) (cond full (Some append.Full) None)) ≡ None → long ≡ false
not_long closed false full len none = refl
not_long true true full len none = absurd (cc)
not_long false true full len none = absurd (cc)

unrefused : (kind : InputKind) (message taken : List ℕ) (refusal : Option AppendError) →
    unless_refused kind message refusal ≡ Ok taken →
    (refusal ≡ None) × (message ≡ taken)
unrefused kind message taken None is = (refl, cc)
unrefused kind message taken (Some why) is = absurd (cc)

within : (most len : ℕ) → nat_lt most len ≡ false → len ≤ most
within most len short = grind (arith, nat_tests)

outcome_within : (kind : InputKind) (journal : JournalState) (entry : Entry) (taken : List ℕ) →
    entry_outcome kind journal entry ≡ Ok taken → length taken ≤ journal.max_message
outcome_within kind journal (Err why) taken is = absurd (cc)
outcome_within kind journal (Ok message) taken is =
    let each = unrefused kind message taken (append_refusal journal message) is in
    let short = within journal.max_message (length message)
    (not_long journal.closed (nat_lt journal.max_message (length message))
    (length journal.messages == 18446744073709551614) (length message) each.0) in
    omega (arith, short, ap (λ (m : List ℕ). length m) each.1)

-- ---- the remaining room

-- a message that is at least 22 bytes shorter than the limit fits a datagram alone
abbrev pub Alone : Type 0
Alone = (limit : ℕ) (message : List ℕ) → length message + 22 ≤ limit → Fits limit (message ∷ [])

unsent_more : (before after : PublisherState) (message : List ℕ) → HasRoom before → after ≡ published before message →
    unsent_of after ≡ unsent_of before ++ message ∷ []
unsent_more before after message room taken =
    ap (λ (p : PublisherState). unsent_of p) taken
    ∙ drop-append-le before.sent before.journal.messages (message ∷ []) room.sent

just_full : (kind : InputKind) (before after : PublisherState) (entry : Entry) → Alone → HasRoom before →
    TakesEntry before after (entry_outcome kind before.journal entry) → IsPublisher after →
    ¬ Fits after.limit (unsent_of after) → IsJustFull after
just_full kind before after entry alone room line is full =
    let parts = unsent_more before after line.message room line.taken in
    let limit : before.limit ≡ after.limit = ap (λ (p : PublisherState). p.limit) (sym line.taken) in
    let most : before.journal.max_message ≡ after.journal.max_message =
    ap (λ (p : PublisherState). p.journal.max_message) (sym line.taken) in
    record {
      found = unsent_of before;
      last = line.message;
      parts = parts;
      fits = subst (λ (n : ℕ). Fits n (unsent_of before)) limit room.fits;
      more = λ fits. full (subst (λ (ms : List (List ℕ)). Fits after.limit ms) (sym parts) fits);
      alone = alone after.limit line.message
          (omega (arith, outcome_within kind before.journal entry line.message line.is, most, is.longest));
    }

room_left : (before after : PublisherState) (outcome : Result (List ℕ) MessageRefusal) (full : Bool) → HasRoom before →
    TakesEntry before after outcome → (IsTrue full ↔ (¬ Fits after.limit (unsent_of after))) → full ≡ false →
    HasRoom after
room_left before after outcome full room line tells not = record {
  sent = omega (
    arith,
    room.sent,
    ap (λ (p : PublisherState). p.sent) line.taken,
    ap (λ (p : PublisherState). length p.journal.messages) line.taken,
    length-append before.journal.messages (line.message ∷ []),
  );
  fits = ⊎_elim
      (λ above. absurd (true≢false (sym (subst IsTrue not (tells.1 (λ fits. omega (arith, above, fits)))))))
      (λ within. within)
      (cases_lt after.limit (packet_length (unsent_of after)));
}

-- ---- what was done so far

-- messages were published, and there is room for more
pub record FilledSoFar (kind : InputKind) (start now : PublisherState) (known left : Option (List Entry)) : Type 0 where
  pub limit : now.limit ≡ start.limit
  pub sent : now.sent ≡ start.sent
  pub room : HasRoom now
  pub input : Published kind start.journal now.journal known left Full

pub filled_nothing : (kind : InputKind) (start : PublisherState) (known : Option (List Entry)) → HasRoom start →
    FilledSoFar kind start start known known
filled_nothing kind start known room =
    record { limit = refl; sent = refl; room = room; input = published_nothing kind start.journal known }

pub filled_end : (kind : InputKind) (start now : PublisherState) (known left behind : Option (List Entry))
    (read : List ℕ) → FilledSoFar kind start now known left → GivesNext left behind next.End read →
    Fills start now (with_kind kind known) (with_kind kind behind) End
filled_end kind start now known left behind read so_far gives = record {
  limit = so_far.limit;
  sent = so_far.sent;
  room = so_far.room;
  input = published_end kind start.journal now.journal known left behind read so_far.input gives;
}

pub filled_fault : (kind : InputKind) (start now : PublisherState) (known left behind : Option (List Entry))
    (read : List ℕ) (why : InputFault) → FilledSoFar kind start now known left →
    GivesNext left behind (next.Fault why) read →
    Fills start now (with_kind kind known) (with_kind kind behind)
    (Refused (record { kind = kind; why = fault_refusal why now.journal.closed }))
filled_fault kind start now known left behind read why so_far gives = record {
  limit = so_far.limit;
  sent = so_far.sent;
  room = so_far.room;
  input = published_fault kind start.journal now.journal known left behind read why so_far.input gives;
}

pub filled_refused : (kind : InputKind) (start before after : PublisherState) (known left behind : Option (List Entry))
    (read seen : List ℕ) (refusal : MessageRefusal) → FilledSoFar kind start before known left →
    GivesNext left behind next.Message read → seen ≡ read →
    (entry_outcome kind before.journal (Ok seen) ≡ Err refusal) × (after ≡ before) →
    Fills start after (with_kind kind known) (with_kind kind behind) (Refused refusal)
filled_refused kind start before after known left behind read seen refusal so_far gives same refused =
    subst (λ (p : PublisherState). Fills start p (with_kind kind known) (with_kind kind behind) (Refused refusal))
    (sym refused.1) (record {
      limit = so_far.limit;
      sent = so_far.sent;
      room = so_far.room;
      input = published_refused kind start.journal before.journal known left behind read refusal so_far.input gives
          (rw same at refused.0);
    })

module _ (kind : InputKind) (start before after : PublisherState) (known left behind : Option (List Entry))
    (read seen : List ℕ) (so_far : FilledSoFar kind start before known left)
    (gives : GivesNext left behind next.Message read) (same : seen ≡ read)
    (taken : TakesEntry before after (entry_outcome kind before.journal (Ok seen))) where
  taken_limit : after.limit ≡ start.limit
  taken_limit = ap (λ (p : PublisherState). p.limit) taken.taken ∙ so_far.limit

  taken_sent : after.sent ≡ start.sent
  taken_sent = ap (λ (p : PublisherState). p.sent) taken.taken ∙ so_far.sent

  taken_input : Published kind start.journal after.journal known behind Full
  taken_input =
      published_more kind start.journal before.journal after.journal known left behind read taken.message so_far.input
      gives (rw same at taken.is) (ap (λ (p : PublisherState). p.journal) taken.taken)

  pub filled_full : Alone → IsPublisher after → (¬ Fits after.limit (unsent_of after)) →
      Fills start after (with_kind kind known) (with_kind kind behind) Full
  filled_full alone is full = record {
    limit = taken_limit;
    sent = taken_sent;
    room = just_full kind before after (Ok seen) alone so_far.room taken is full;
    input = taken_input;
  }

  pub filled_more : (full : Bool) → (IsTrue full ↔ (¬ Fits after.limit (unsent_of after))) → full ≡ false →
      FilledSoFar kind start after known behind
  filled_more full tells not = record {
    limit = taken_limit;
    sent = taken_sent;
    room = room_left before after (entry_outcome kind before.journal (Ok seen)) full so_far.room taken tells not;
    input = taken_input;
  }
