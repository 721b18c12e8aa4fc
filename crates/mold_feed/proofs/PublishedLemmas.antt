-- Everything that publishing an input sends is true of the journal that is left.
use Rattle.std.proofs.Common.{◌≡◌, ℕ, zero, suc, ◌+◌, ◌-◌, ◌≤◌, true, false, List, [], ◌∷◌, ◌++◌, length, take, map, replicate}
use Rattle.std.proofs.Common.{Option, None, Some, Result, Ok, Err, refl, sym, ap, subst, ◌∙◌, append_assoc, append-nil}
use Rattle.std.proofs.Common.{arith, length-append}
use Rattle.std.specs.Prelude.{slice_get}
use Rattle.std.specs.List.{AllByRecursion}
use Rattle.std.proofs.lemmas.List.{length-map, length-take-le, map-append, take_all}
use Rattle.std.proofs.lemmas.Option.{none-some, slice_get_within}
use Rattle.mold_devices.specs.declared.fault.CommandFault.{CommandFault}
use Rattle.mold_ports.specs.Ports.{Port}
use Rattle.mold_wire.specs.Packer.{IsLimit}
use Rattle.mold_wire.specs.Packet.{spelling_of}
use Rattle.mold_wire.specs.declared.packet.Packet.{Packet}
use Rattle.mold_wire.specs.declared.session.Session.{Session}
use Rattle.mold_session.specs.Answer.{IsPlan, PlanState, planned}
use Rattle.mold_session.specs.Datagrams.{packing}
use Rattle.mold_session.specs.Journal.{IsJournal, IsWithin, JournalState, append_refusal, appended}
use Rattle.mold_session.specs.Publisher.{MayPublish, PublisherState}
use Rattle.mold_session.specs.Truthful.{MayAnswer, IsTrueDatagram}
use Rattle.mold_session.specs.declared.error.AppendError.{AppendError}
use Rattle.mold_publish.specs.Publishing.{PublishedInput, entries_published, entry_outcome, input_published, published_from}
use Rattle.mold_publish.specs.Publishing.{fault_refusal, unless_refused}
use Rattle.mold_publish.specs.Sending.{all_but_last, end_packet, packets_after, packets_before}
use Rattle.mold_publish.specs.declared.message_refusal.MessageRefusal.{MessageRefusal}
use Rattle.mold_publish.specs.declared.refusal_reason.RefusalReason.TheVariants.{NotTaken}
use Rattle.mold_input.specs.Entries.{Entry, InputEntries}
use Rattle.mold_input.specs.declared.input_kind.InputKind.{InputKind}
use Rattle.mold_input.specs.declared.input_kind.InputKind.TheVariants.{Lines, Blocks}
use Rattle.mold_publish.proofs.DatagramLemmas.{grown}
use Rattle.mold_turns.specs.Outgoing.{nothing_out}
use Rattle.mold_send.specs.PublishLoop.{PublicationState, PublishRun, Sends, all_datagrams, beat_packet, both}
use Rattle.mold_send.specs.PublishLoop.{close_datagrams, closed_unless, left_journal, offer, publication_of}
use Rattle.mold_feed.specs.Sent.{AllSent, HasMessages, HasMessagesBefore, IsOpening}
use Rattle.mold_feed.proofs.SentLemmas.{each_append, sent_front, sent_offered}

-- the laws of the session that are used here
pub record PublishedLaws : Type 0 where
  pub may : (publisher : PublisherState) (message : List ℕ) →
      append_refusal publisher.journal message ≡ None → MayPublish publisher message
  pub told : (journal : JournalState) (limit : ℕ) (plan : PlanState) (index : ℕ) (packet : Packet) →
      MayAnswer journal limit → IsPlan plan → plan.to ≤ length journal.messages + 1 →
      plan.session ≡ journal.session → slice_get (planned journal.messages limit plan) index ≡ Some packet →
      IsTrueDatagram journal (spelling_of packet)

-- ---- the entries

-- the entries of these messages
abbrev as_entries : List (List ℕ) → List Entry
as_entries messages = map Ok messages

-- entries were published up to this one, which is refused
record StopsAt (kind : InputKind) (entries : List Entry) (count : ℕ) (why : MessageRefusal) (journal : JournalState) :
    Type 0 where
  pub entry : Entry
  pub found : slice_get entries count ≡ Some entry
  pub refused : entry_outcome kind journal entry ≡ Err why

-- entries were published up to this one: all of them, or those before one that is refused
abbrev EndsAt : InputKind → List Entry → ℕ → JournalState → Option MessageRefusal → Type 0
EndsAt kind entries count journal None = count ≡ length entries
EndsAt kind entries count journal (Some why) = StopsAt kind entries count why journal

-- the same with one more entry before them
ends_behind : (kind : InputKind) (entry : Entry) (entries : List Entry) (count : ℕ) (journal : JournalState)
    (refused : Option MessageRefusal) → EndsAt kind entries count journal refused →
    EndsAt kind (entry ∷ entries) (suc count) journal refused
ends_behind kind entry entries count journal None ends = ap suc ends
ends_behind kind entry entries count journal (Some why) ends =
    record { entry = ends.entry; found = ends.found; refused = ends.refused }

-- entries were published: the journal is still a journal with the same longest message; the messages of the first
-- entries follow those that it had
record HasTaken (kind : InputKind) (journal : JournalState) (entries : List Entry) (after : PublishedInput) :
    Type 0 where
  pub is : IsJournal after.journal
  pub longest : after.journal.max_message ≡ journal.max_message
  pub count : ℕ
  pub read : as_entries journal.messages ++ take count entries ≡ as_entries after.journal.messages
  pub ends : EndsAt kind entries count after.journal after.refused
  pub closed : after.journal.closed ≡ journal.closed

module _ (laws : PublishedLaws) where
  -- one more message that is not refused leaves a journal
  journal_stays : (journal : JournalState) (message : List ℕ) → IsJournal journal →
      append_refusal journal message ≡ None → IsJournal (appended journal message)
  journal_stays journal message is none =
      let publisher : PublisherState = record { journal = journal; limit = 0; sent = 0 } in
      let may : MayPublish publisher message = laws.may publisher message none in
      record {
        few = omega (arith, length-append journal.messages (message ∷ []), is.few, may.number);
        each =
            each_append (IsWithin journal.max_message) journal.messages (message ∷ []) is.each (may.short, tt);
      }

  -- an entry that is refused
  entry_refused : (kind : InputKind) (journal : JournalState) (entry : Entry) (entries : List Entry)
      (why : MessageRefusal) → IsJournal journal → entry_outcome kind journal entry ≡ Err why →
      HasTaken kind journal (entry ∷ entries) (record { journal = journal; refused = Some why })
  entry_refused kind journal entry entries why is refused = record {
    is = is;
    longest = refl;
    count = 0;
    read = append-nil (as_entries journal.messages);
    ends = record { entry = entry; found = refl; refused = refused };
    closed = refl;
  }

  -- one more message, which is appended or refused
  message_taken : (kind : InputKind) (journal : JournalState) (entries : List Entry) (message : List ℕ)
      (refusal : Option AppendError) (behind : JournalState → PublishedInput) → IsJournal journal →
      append_refusal journal message ≡ refusal →
      ((next : JournalState) → IsJournal next → HasTaken kind next entries (behind next)) →
      HasTaken kind journal (Ok message ∷ entries) (published_from journal (unless_refused kind message refusal) behind)
  message_taken kind journal entries message None behind is none each =
      let next : JournalState = appended journal message in
      let rest = each next (journal_stays journal message is none) in
      let front : List Entry = take rest.count entries in
      record {
        is = rest.is;
        longest = rest.longest;
        count = suc rest.count;
        read =
            sym (append_assoc (as_entries journal.messages) (Ok message ∷ []) front)
            ∙ ap (λ (read : List Entry). read ++ front) (sym (map-append Ok journal.messages (message ∷ [])))
            ∙ rest.read;
        ends = ends_behind kind (Ok message) entries rest.count (behind next).journal (behind next).refused rest.ends;
        closed = rest.closed;
      }
  message_taken kind journal entries message (Some why) behind is refused each =
      entry_refused kind journal (Ok message) entries (record { kind = kind; why = NotTaken why }) is
      (ap (unless_refused kind message) refused)

  -- one more entry, which is a message or not
  entry_taken : (kind : InputKind) (journal : JournalState) (entry : Entry) (entries : List Entry)
      (behind : JournalState → PublishedInput) → IsJournal journal →
      ((next : JournalState) → IsJournal next → HasTaken kind next entries (behind next)) →
      HasTaken kind journal (entry ∷ entries) (published_from journal (entry_outcome kind journal entry) behind)
  entry_taken kind journal (Ok message) entries behind is each =
      message_taken kind journal entries message (append_refusal journal message) behind is refl each
  entry_taken kind journal (Err why) entries behind is each =
      entry_refused kind journal (Err why) entries (record { kind = kind; why = fault_refusal why journal.closed }) is
      refl

  -- all entries
  entries_taken : (kind : InputKind) (entries : List Entry) (journal : JournalState) → IsJournal journal →
      HasTaken kind journal entries (entries_published kind journal entries)
  unfolding entries_published
  entries_taken kind [] journal is = record {
    is = is;
    longest = refl;
    count = 0;
    read = append-nil (as_entries journal.messages);
    ends = refl;
    closed = refl;
  }
  entries_taken kind (entry ∷ entries) journal is =
      entry_taken kind journal entry entries (λ next. entries_published kind next entries) is
      (entries_taken kind entries)

-- a new session has a journal
opening_is : (journal : JournalState) (limit : ℕ) → IsOpening journal limit → IsJournal journal
opening_is journal limit is =
    let none : length journal.messages ≡ 0 = ap (λ (messages : List (List ℕ)). length messages) is.empty in
    record {
      few = omega (arith, none);
      each = subst (λ (messages : List (List ℕ)). AllByRecursion (IsWithin journal.max_message) messages)
          (sym is.empty) tt;
    }

-- if the journal had no messages, the first entries are the messages that it has now
opening_read : (journal : JournalState) (entries : List Entry) (after : PublishedInput) (count : ℕ) →
    journal.messages ≡ [] →
    as_entries journal.messages ++ take count entries ≡ as_entries after.journal.messages →
    take count entries ≡ as_entries after.journal.messages
opening_read journal entries after count empty read =
    ap (λ (messages : List (List ℕ)). as_entries messages ++ take count entries) (sym empty) ∙ read

-- if no entry is refused, these are all entries
all_read : (kind : InputKind) (entries : List Entry) (count : ℕ) (journal : JournalState)
    (refused : Option MessageRefusal) → take count entries ≡ as_entries journal.messages →
    EndsAt kind entries count journal refused → refused ≡ None → HasMessages entries (closed_unless refused journal)
all_read kind entries count journal None read ends whole = record {
  closed = refl;
  read = sym (take_all count entries (omega (arith, ends))) ∙ read;
}
all_read kind entries count journal (Some why) read ends whole = absurd (none-some why (sym whole))

pub entries_read : (laws : PublishedLaws) (limit : ℕ) (journal : JournalState) (input : InputEntries) →
    IsOpening journal limit → (input_published journal input).refused ≡ None →
    HasMessages input.entries (left_journal (input_published journal input))
entries_read laws limit journal input is whole =
    let after = input_published journal input in
    let taken = entries_taken laws input.kind input.entries journal (opening_is journal limit is) in
    all_read input.kind input.entries taken.count after.journal after.refused
    (opening_read journal input.entries after taken.count is.empty taken.read) taken.ends whole

-- if an entry is refused, these are the entries before it
some_read : (input : InputEntries) (count : ℕ) (journal : JournalState) (why : MessageRefusal) →
    take count input.entries ≡ as_entries journal.messages → StopsAt input.kind input.entries count why journal →
    journal.closed ≡ false → HasMessagesBefore input why journal
some_read input count journal why read stops unclosed =
    let within = slice_get_within input.entries count stops.entry stops.found in
    let as_many : length (take count input.entries) ≡ length journal.messages =
    ap (λ (entries : List Entry). length entries) read ∙ length-map journal.messages Ok in
    let long : length (take count input.entries) ≡ count = length-take-le count input.entries (omega (arith, within)) in
    let many : count ≡ length journal.messages = omega (arith, as_many, long) in
    record {
      entry = stops.entry;
      found = ap (slice_get input.entries) (sym many) ∙ stops.found;
      refused = stops.refused;
      read = ap (λ (n : ℕ). take n input.entries) (sym many) ∙ read;
      unclosed = unclosed;
    }

pub entries_read_before : (laws : PublishedLaws) (limit : ℕ) (journal : JournalState) (input : InputEntries)
    (why : MessageRefusal) → IsOpening journal limit → (input_published journal input).refused ≡ Some why →
    HasMessagesBefore input why (input_published journal input).journal
entries_read_before laws limit journal input why is stopped =
    let after = input_published journal input in
    let taken = entries_taken laws input.kind input.entries journal (opening_is journal limit is) in
    some_read input taken.count after.journal why
    (opening_read journal input.entries after taken.count is.empty taken.read)
    (subst (λ (refused : Option MessageRefusal). EndsAt input.kind input.entries taken.count after.journal refused)
    stopped taken.ends)
    (taken.closed ∙ is.unclosed)

-- ---- a server may answer from it

-- a server may answer from a journal whether it is closed or not
left_may : (refused : Option MessageRefusal) (journal : JournalState) (limit : ℕ) → MayAnswer journal limit →
    MayAnswer (closed_unless refused journal) limit
left_may None journal limit may = record {
  journaled = may.journaled;
  named = may.named;
  limited = may.limited;
  room = may.room;
}
left_may (Some why) journal limit may = may

taken_may : (laws : PublishedLaws) (limit other : ℕ) (journal : JournalState) (input : InputEntries) →
    IsOpening journal limit → IsLimit other → journal.max_message + 22 ≤ other →
    MayAnswer (input_published journal input).journal other
taken_may laws limit other journal input is limited room =
    let taken = entries_taken laws input.kind input.entries journal (opening_is journal limit is) in
    record {
      journaled = taken.is;
      named = subst (λ (session : Session). length session.0 ≡ 10) (sym (grown input journal).session) is.named;
      limited = limited;
      room = omega (arith, taken.longest, room);
    }

pub published_may : (laws : PublishedLaws) (limit other : ℕ) (journal : JournalState) (input : InputEntries) →
    IsOpening journal limit → IsLimit other → journal.max_message + 22 ≤ other →
    MayAnswer (left_journal (input_published journal input)) other
published_may laws limit other journal input is limited room =
    let after = input_published journal input in
    left_may after.refused after.journal other (taken_may laws limit other journal input is limited room)

-- ---- its datagrams are true

-- what holds of the datagram of the packet at each index holds of all datagrams
each_told : (Good : List ℕ → Type 0) (packets : List Packet) →
    ((index : ℕ) (packet : Packet) → slice_get packets index ≡ Some packet → Good (spelling_of packet)) →
    AllByRecursion Good (map spelling_of packets)
each_told Good [] told = tt
each_told Good (packet ∷ packets) told =
    (told zero packet refl, each_told Good packets (λ index. told (suc index)))

-- the data packets of all messages are those that a plan sends
whole_plan : ℕ → JournalState → PlanState
whole_plan limit journal = record {
  session = journal.session;
  from = 1;
  to = length journal.messages + 1;
  left = length (packets_after limit 0 journal);
}

all_planned : (limit : ℕ) (journal : JournalState) →
    planned journal.messages limit (whole_plan limit journal) ≡ packets_after limit 0 journal
unfolding whole_plan
all_planned limit journal =
    let packets = packets_after limit 0 journal in
    ap (λ (messages : List (List ℕ)). take (length packets) (packing limit journal.session 1 messages))
    (take_all (length journal.messages + 1 - 1) journal.messages (omega arith))
    ∙ take_all (length packets) packets (omega arith)

data_true : (laws : PublishedLaws) (limit : ℕ) (journal : JournalState) → MayAnswer journal limit →
    AllByRecursion (IsTrueDatagram journal) (map spelling_of (packets_after limit 0 journal))
unfolding whole_plan
data_true laws limit journal may =
    each_told (IsTrueDatagram journal) (packets_after limit 0 journal)
    (λ index packet found.
    laws.told journal limit (whole_plan limit journal) index packet may (omega arith, omega arith) (omega arith) refl
    (ap (λ (packets : List Packet). slice_get packets index) (all_planned limit journal) ∙ found))

-- the same without the last one
without_last : (Good : List ℕ → Type 0) (packets : List Packet) → AllByRecursion Good (map spelling_of packets) →
    AllByRecursion Good (map spelling_of (all_but_last packets))
unfolding all_but_last
without_last Good [] each = tt
without_last Good (packet ∷ []) each = tt
without_last Good (packet ∷ (next ∷ packets)) each = (each.0, without_last Good (next ∷ packets) each.1)

-- the same for what is sent of them before a refusal
without_rest : (Good : List ℕ → Type 0) (kind : InputKind) (packets : List Packet) →
    AllByRecursion Good (map spelling_of packets) →
    AllByRecursion Good (map spelling_of (packets_before kind packets))
without_rest Good Lines packets each = without_last Good packets each
without_rest Good Blocks packets each = each

each_replicated : {X : Type 0} (Good : X → Type 0) (count : ℕ) (x : X) → Good x →
    AllByRecursion Good (replicate count x)
each_replicated Good zero x one = tt
each_replicated Good (suc count) x one = (one, each_replicated Good count x one)

-- heartbeats and end packets
beat_true : (limit : ℕ) (journal : JournalState) → MayAnswer journal limit →
    IsTrueDatagram journal (spelling_of (beat_packet journal))
beat_true limit journal may = record {
  packet = beat_packet journal;
  spelled = record {
    is_packet = record { session = may.named; sequence = omega (arith, may.journaled.few); body = tt };
    spelled = refl;
  };
  session = refl;
  so = record { few = may.journaled.few; said = (omega arith, omega arith) };
}

end_true : (limit : ℕ) (journal : JournalState) → MayAnswer journal limit → journal.closed ≡ true →
    IsTrueDatagram journal (spelling_of (end_packet journal))
end_true limit journal may closed = record {
  packet = end_packet journal;
  spelled = record {
    is_packet = record { session = may.named; sequence = omega (arith, may.journaled.few); body = tt };
    spelled = refl;
  };
  session = refl;
  so = record { few = may.journaled.few; said = (closed, refl) };
}

-- all datagrams, whether a line is refused or not
all_true : (laws : PublishedLaws) (limit beats ends : ℕ) (refused : Option MessageRefusal) (journal : JournalState) →
    MayAnswer journal limit → AllByRecursion (IsTrueDatagram (closed_unless refused journal))
    (all_datagrams limit beats ends (record { journal = journal; refused = refused }))
all_true laws limit beats ends None journal may =
    let left : JournalState = record journal { closed = true } in
    let shut : MayAnswer left limit = left_may None journal limit may in
    each_append (IsTrueDatagram left) (map spelling_of (packets_after limit 0 left)) (close_datagrams beats ends left)
    (data_true laws limit left shut)
    (each_append (IsTrueDatagram left) (replicate beats (spelling_of (beat_packet left)))
    (replicate ends (spelling_of (end_packet left)))
    (each_replicated (IsTrueDatagram left) beats (spelling_of (beat_packet left)) (beat_true limit left shut))
    (each_replicated (IsTrueDatagram left) ends (spelling_of (end_packet left)) (end_true limit left shut refl)))
all_true laws limit beats ends (Some refusal) journal may =
    each_append (IsTrueDatagram journal)
    (map spelling_of (packets_before refusal.kind (packets_after limit 0 journal))) []
    (without_rest (IsTrueDatagram journal) refusal.kind (packets_after limit 0 journal)
    (data_true laws limit journal may)) tt

-- all datagrams that are offered
pub offered_true : (laws : PublishedLaws) (beats ends limit : ℕ) (journal : JournalState) (input : InputEntries) →
    IsOpening journal limit → AllByRecursion (IsTrueDatagram (left_journal (input_published journal input)))
    (all_datagrams limit beats ends (input_published journal input))
offered_true laws beats ends limit journal input is =
    let published = input_published journal input in
    all_true laws limit beats ends published.refused published.journal
    (taken_may laws limit limit journal input is is.limited is.longest)

-- ---- what was sent of them

each_both : {P : Type 0} (Good : List ℕ → Type 0) (a b : P) (datagrams : List (List ℕ)) →
    AllByRecursion Good datagrams → AllSent Good (both a b datagrams)
each_both Good a b [] each = tt
each_both Good a b (datagram ∷ datagrams) each = (each.0, (each.0, each_both Good a b datagrams each.1))

-- each offered datagram was sent or failed
sends_true : {P : Type 0} (Good : List ℕ → Type 0) (letters : List (P × List ℕ)) (old new : PublicationState P) →
    Sends letters old new → AllSent Good old.port.sent → AllSent Good letters → AllSent Good new.port.sent
sends_true {P} Good [] old new same had each =
    subst (λ (publication : PublicationState P). AllSent Good publication.port.sent) (sym same) had
sends_true Good (letter ∷ letters) old new sends had each =
    sends_true Good letters (offer sends.0 letter.0 letter.1 old) new sends.1
    (sent_offered Good sends.0 letter.0 letter.1 old.port had each.0) each.1

pub published_true : {P : Type 0} (laws : PublishedLaws) (a b : P) (beats ends limit : ℕ) (journal : JournalState)
    (input : InputEntries) (result : Result ℕ CommandFault) (before after : Port P)
    (text_old text_new file_old file_new : Option (List ℕ)) → IsOpening journal limit →
    PublishRun a b beats ends limit (input_published journal input) result before after text_old text_new file_old
    file_new →
    AllSent (IsTrueDatagram (left_journal (input_published journal input))) before.sent →
    AllSent (IsTrueDatagram (left_journal (input_published journal input))) after.sent
published_true laws a b beats ends limit journal input result before after text_old text_new file_old file_new is run had =
    let published = input_published journal input in
    let Good : List ℕ → Type 0 = IsTrueDatagram (left_journal published) in
    let datagrams = all_datagrams limit beats ends published in
    sent_front Good after.sent run.end.port.sent run.sent_front
    (sends_true Good (both a b datagrams) (publication_of before nothing_out) run.end run.sends had
    (each_both Good a b datagrams (offered_true laws beats ends limit journal input is)))
