-- A whole run of a publisher on two lines.
use Rattle.std.proofs.Common.{arith, ◌≡◌, ◌∙◌, ℕ, ◌+◌, ◌-◌, ◌≤◌, Bool, true, false, List, [], ◌∷◌, ◌++◌, length}
use Rattle.std.proofs.Common.{Option, None, Some, Result, Ok, Err, ap, refl, sym, subst, append-nil}
use Rattle.std.specs.Prelude.{IfSome, IfOk, IsErr, OnOk}
use Rattle.std.proofs.lemmas.List.{drop_all}
use Rattle.std.specs.Io.KnownBytes.{Appends}
use Rattle.std.proofs.KnownBytes.{Appends-nil}
use Rattle.mold_devices.specs.Devices.{AppendsPrefix}
use Rattle.mold_devices.specs.declared.fault.CommandFault.{CommandFault}
use Rattle.mold_session.specs.File.{AppendsFile}
use Rattle.mold_input.specs.Entries.{Entry, InputEntries}
use Rattle.mold_input.specs.declared.input_kind.InputKind.{InputKind}
use Rattle.mold_ports.specs.Ports.{Port}
use Rattle.mold_wire.specs.Packing.{Fits}
use Rattle.mold_session.specs.Journal.{JournalState, appended}
use Rattle.mold_session.specs.Publisher.{PublisherState}
use Rattle.mold_turns.specs.Runs.{Begins}
use Rattle.mold_turns.proofs.RunLemmas.{begins_more, begins_trans, begins_whole, none_answered, none_ok, on_ok}
use Rattle.mold_send.proofs.SendingLemmas.{AllSent, ended, sends_more}
use Rattle.mold_publish.specs.Publishing.{packed_status}
use Rattle.mold_send.specs.PublishLoop.{PublicationState, PublishRun, Saves, Sends, SendsMessages, all_datagrams, after_data, both, close_datagrams}
use Rattle.mold_turns.specs.Outgoing.{OutgoingState, nothing_out, with_more}
use Rattle.mold_send.specs.PublishLoop.{data_after, failed_after, published_line, offer, publication_of, published_text}
use Rattle.mold_send.specs.PublishLoop.{closed_unless, left_journal, saved_bytes}
use Rattle.mold_publish.specs.Publishing.{PublishedInput, published_from, entry_outcome, refused_text, HasRoom}
use Rattle.mold_publish.specs.Publishing.{entries_published, input_published}
use Rattle.mold_publish.specs.declared.message_refusal.MessageRefusal.{MessageRefusal}

closed_from : (journal : JournalState) (outcome : Result (List ℕ) MessageRefusal) (behind : JournalState → PublishedInput) →
    ((next : JournalState) → (behind next).journal.closed ≡ next.closed) →
    (published_from journal outcome behind).journal.closed ≡ journal.closed
closed_from journal (Ok message) behind each = each (appended journal message)
closed_from journal (Err why) behind each = refl

-- publishing does not close the session
open_after : (kind : InputKind) (entries : List Entry) (journal : JournalState) →
    (entries_published kind journal entries).journal.closed ≡ journal.closed
unfolding entries_published
open_after kind [] journal = refl
open_after kind (entry ∷ entries) journal =
    closed_from journal (entry_outcome kind journal entry) (λ next. entries_published kind next entries)
    (open_after kind entries)

still_open : (input : InputEntries) (journal : JournalState) →
    (input_published journal input).journal.closed ≡ journal.closed
still_open input journal = open_after input.kind input.entries journal

-- if the input is known and published, a run is what has to be proved
pub run_from : {P : Type 0} (a b : P) (beats ends : ℕ) (start : PublisherState) (known : Option InputEntries)
    (journal : JournalState) (refused : Option MessageRefusal) (front : List (List ℕ)) (result : Result ℕ CommandFault)
    (before after : Port P) (text_old text_new file_old file_new : Option (List ℕ)) → start.sent ≡ 0 →
    start.journal.closed ≡ false → IfSome known (AllSent start journal refused front) →
    (data_after start.limit 0 (record { journal = journal; refused = refused }) ≡ front → journal.closed ≡ false →
    PublishRun a b beats ends start.limit (record { journal = journal; refused = refused }) result before after text_old
    text_new file_old file_new) →
    IfSome known (λ input. PublishRun a b beats ends start.limit (input_published start.journal input) result
    before after text_old text_new file_old file_new)
run_from a b beats ends start None journal refused front result before after text_old text_new file_old file_new none unclosed all run = tt
run_from {P} a b beats ends start (Some input) journal refused front result before after text_old text_new file_old file_new none unclosed all run =
    subst
    (λ (p : PublishedInput).
    PublishRun a b beats ends start.limit p result before after text_old text_new file_old file_new)
    (sym all.1)
    (run
    (ap (λ (p : PublishedInput). data_after start.limit 0 p) (sym all.1)
    ∙ ap (λ (n : ℕ). data_after start.limit n (input_published start.journal input)) (sym none)
    ∙ all.0)
    (ap (λ (p : PublishedInput). p.journal.closed) (sym all.1) ∙ still_open input start.journal ∙ unclosed))

pub no_front : (known : Option (List ℕ)) (text : List ℕ) → AppendsPrefix known known text
no_front known text = record { front = []; rest = text; parts = refl; appended = Appends-nil known }

-- after a fault
pub run_cut : {P : Type 0} (a b : P) (beats ends limit : ℕ) (published : PublishedInput) (result : Result ℕ CommandFault)
    (before : Port P) (mid : PublicationState P) (text_old text_new file_old file_new : Option (List ℕ))
    (front : List (List ℕ)) → IsErr result → Sends (both a b front) (publication_of before nothing_out) mid →
    Begins front (all_datagrams limit beats ends published) →
    ((failed : ℕ) → AppendsPrefix text_old text_new (published_text limit published failed)) →
    AppendsPrefix file_old file_new (saved_bytes published.journal published.refused) →
    PublishRun a b beats ends limit published result before mid.port text_old text_new file_old file_new
run_cut {P} a b beats ends limit published result before mid text_old text_new file_old file_new front failed sends begins text file =
    let rest = ended a b begins.rest mid in
    record {
      end = rest.end;
      sends =
          subst (λ (ds : List (List ℕ)). Sends (both a b ds) (publication_of before nothing_out) rest.end) (sym begins.parts)
          (sends_more a b front begins.rest (publication_of before nothing_out) mid rest.end sends rest.sends);
      port = none_ok result _ failed;
      text = none_answered result _ failed;
      file = none_ok result _ failed;
      sent_front = rest.sent;
      text_front = text rest.end.outgoing.failures;
      file_front = file;
    }

-- a fault while lines were read
pub run_unread : {P E : Type 0} (a b : P) (beats ends : ℕ) (start now : PublisherState) (known : Option InputEntries)
    (report : Result (Option MessageRefusal) E) (result : Result ℕ CommandFault) (before : Port P) (none failed : OutgoingState)
    (count : ℕ) (after : Port P) (text file : Option (List ℕ)) → none ≡ nothing_out → start.sent ≡ 0 → IsErr result →
    SendsMessages a b start now known report (publication_of before none) (publication_of after failed) count →
    IfSome known (λ input. PublishRun a b beats ends start.limit (input_published start.journal input) result
    before after text text file file)
run_unread a b beats ends start now None report result before none failed count after text file zeroed unsent bad sent = tt
run_unread {P} {E} a b beats ends start now (Some input) report result before none failed count after text file zeroed unsent bad sent =
    let published = input_published start.journal input in
    let begins =
    subst (λ (n : ℕ). Begins sent.front (data_after start.limit n published)) unsent sent.begins in
    run_cut a b beats ends start.limit published result before (publication_of after failed) text text file file sent.front bad
    (subst (λ (o : OutgoingState). Sends (both a b sent.front) (publication_of before o) (publication_of after failed)) zeroed sent.sends)
    (begins_trans begins
    (begins_more (data_after start.limit 0 published) (after_data beats ends published.journal published.refused)))
    (λ lost. no_front text (published_text start.limit published lost))
    (no_front file (saved_bytes published.journal published.refused))

-- all datagrams were offered
pub run_whole : {P : Type 0} (a b : P) (beats ends limit : ℕ) (published : PublishedInput)
    (result : Result ℕ CommandFault) (before : Port P) (end : PublicationState P)
    (text_old text_new file_old file_new : Option (List ℕ)) →
    Sends (both a b (all_datagrams limit beats ends published)) (publication_of before nothing_out) end →
    IfOk result (λ status. Appends text_old text_new (published_text limit published end.outgoing.failures)
    × (status ≡ packed_status published.refused)) →
    OnOk result (Saves published.journal published.refused file_old file_new) →
    AppendsPrefix text_old text_new (published_text limit published end.outgoing.failures) →
    AppendsPrefix file_old file_new (saved_bytes published.journal published.refused) →
    PublishRun a b beats ends limit published result before end.port text_old text_new file_old file_new
run_whole a b beats ends limit published result before end text_old text_new file_old file_new sends text file text_front file_front =
    record {
      end = end;
      sends = sends;
      port = on_ok result refl;
      text = text;
      file = file;
      sent_front = begins_whole end.port.sent;
      text_front = text_front;
      file_front = file_front;
    }

-- the data and then the datagrams after them
pub all_sends : {P : Type 0} (a b : P) (beats ends limit : ℕ) (journal : JournalState) (front : List (List ℕ))
    (before : Port P) (none : OutgoingState) (mid end : PublicationState P) → none ≡ nothing_out →
    data_after limit 0 (record { journal = journal; refused = None }) ≡ front →
    Sends (both a b front) (publication_of before none) mid →
    Sends (both a b (close_datagrams beats ends journal)) mid end →
    Sends (both a b (all_datagrams limit beats ends (record { journal = journal; refused = None })))
    (publication_of before nothing_out) end
all_sends {P} a b beats ends limit journal front before none mid end zeroed whole_data sends closes =
    subst (λ (o : OutgoingState). Sends (both a b (all_datagrams limit beats ends (record { journal = journal; refused = None })))
    (publication_of before o) end) zeroed
    (subst (λ (ds : List (List ℕ)). Sends (both a b (ds ++ close_datagrams beats ends journal)) (publication_of before none) end)
    (sym whole_data)
    (sends_more a b front (close_datagrams beats ends journal) (publication_of before none) mid end sends closes))

pub refused_sends : {P : Type 0} (a b : P) (beats ends limit : ℕ) (journal : JournalState) (why : MessageRefusal)
    (front : List (List ℕ)) (before : Port P) (none : OutgoingState) (end : PublicationState P) → none ≡ nothing_out →
    data_after limit 0 (record { journal = journal; refused = Some why }) ≡ front →
    Sends (both a b front) (publication_of before none) end →
    Sends (both a b (all_datagrams limit beats ends (record { journal = journal; refused = Some why })))
    (publication_of before nothing_out) end
refused_sends {P} a b beats ends limit journal why front before none end zeroed whole_data sends =
    subst (λ (o : OutgoingState). Sends (both a b (all_datagrams limit beats ends (record { journal = journal; refused = Some why })))
    (publication_of before o) end) zeroed
    (subst (λ (ds : List (List ℕ)). Sends (both a b ds) (publication_of before none) end)
    (sym (append-nil _ ∙ whole_data))
    sends)

-- sending changes no text
text_kept : {P : Type 0} (a b : P) (datagrams : List (List ℕ)) (old new : PublicationState P) →
    Sends (both a b datagrams) old new → new.outgoing.text ≡ old.outgoing.text
text_kept a b [] old new sends = ap (λ (s : PublicationState _). s.outgoing.text) sends
text_kept a b (datagram ∷ datagrams) old new sends =
    let one = offer sends.0 a datagram old in
    let other = offer sends.1.0 b datagram one in
    text_kept a b datagrams other new sends.1.1
    ∙ kept sends.1.0 one.outgoing
    ∙ kept sends.0 old.outgoing
  where
    kept : (fails : Bool) (outgoing : OutgoingState) → (failed_after fails outgoing).text ≡ outgoing.text
    kept true outgoing = refl
    kept false outgoing = refl

-- there is no text before the last line
no_text : {P : Type 0} (a b : P) (front : List (List ℕ)) (before after : Port P) (none failed : OutgoingState) →
    none ≡ nothing_out → Sends (both a b front) (publication_of before none) (publication_of after failed) →
    failed.text ≡ []
no_text a b front before after none failed zeroed sends =
    text_kept a b front (publication_of before none) (publication_of after failed) sends
    ∙ ap (λ (o : OutgoingState). o.text) zeroed

-- a line is refused, and the refusal is printed
pub run_refused : {P E : Type 0} (a b : P) (beats ends : ℕ) (start now : PublisherState) (known : Option InputEntries)
    (why : MessageRefusal) (result : Result ℕ CommandFault) (before : Port P) (none failed out : OutgoingState)
    (count : ℕ) (after : Port P) (text_old text_new file : Option (List ℕ)) (number : ℕ) →
    none ≡ nothing_out → start.sent ≡ 0 → start.journal.closed ≡ false →
    SendsMessages {E = E} a b start now known (Ok (Some why)) (publication_of before none) (publication_of after failed) count →
    number ≡ length now.journal.messages + 1 → out ≡ with_more (refused_text number why) failed →
    AppendsPrefix text_old text_new out.text →
    IfOk result (λ status. Appends text_old text_new out.text × (status ≡ 2)) →
    IfSome known (λ input. PublishRun a b beats ends start.limit (input_published start.journal input) result
    before after text_old text_new file file)
run_refused {P} {E} a b beats ends start now known why result before none failed out count after text_old text_new file
    number zeroed unsent unclosed sent numbered is text report =
    let same : out.text ≡ refused_text (length now.journal.messages + 1) why =
    ap (λ (o : OutgoingState). o.text) is
    ∙ ap (λ (t : List ℕ). t ++ refused_text number why)
    (no_text a b sent.front before after none failed zeroed sent.sends)
    ∙ ap (λ (n : ℕ). refused_text n why) numbered in
    run_from a b beats ends start known now.journal (Some why) sent.front result before after text_old text_new file
    file unsent unclosed sent.whole
    (λ whole_data shut.
    run_whole a b beats ends start.limit (record { journal = now.journal; refused = Some why }) result before
    (publication_of after failed) text_old text_new file file
    (refused_sends a b beats ends start.limit now.journal why sent.front before none (publication_of after failed) zeroed
    whole_data sent.sends)
    (subst (λ (t : List ℕ). IfOk result (λ status. Appends text_old text_new t × (status ≡ 2))) same report)
    (on_ok result refl)
    (subst (λ (t : List ℕ). AppendsPrefix text_old text_new t) same text)
    (no_front file []))

-- The session was closed, and its journal is saved. What is printed is known because there was no text before it.
run_closed : {P E : Type 0} (a b : P) (beats ends : ℕ) (start now : PublisherState) (known : Option InputEntries)
    (result : Result ℕ CommandFault) (before : Port P) (none failed lost : OutgoingState) (count : ℕ)
    (mid after : Port P) (text_old text_new file_old file_new : Option (List ℕ)) (saved : JournalState) →
    none ≡ nothing_out → start.sent ≡ 0 → start.journal.closed ≡ false →
    SendsMessages {E = E} a b start now known (Ok None) (publication_of before none) (publication_of mid failed) count →
    (now.journal.closed ≡ false →
    Sends (both a b (close_datagrams beats ends now.journal)) (publication_of mid failed) (publication_of after lost)) →
    (lost.text ≡ [] → IfOk result (λ status.
    Appends text_old text_new (published_line (length now.journal.messages) count lost.failures) × (status ≡ 0))) →
    (lost.text ≡ [] →
    AppendsPrefix text_old text_new (published_line (length now.journal.messages) count lost.failures)) →
    saved ≡ closed_unless None now.journal →
    OnOk result (AppendsFile file_old file_new saved.session saved.messages saved.closed) →
    (saved.closed ≡ true → AppendsPrefix file_old file_new (saved_bytes saved None)) →
    IfSome known (λ input. PublishRun a b beats ends start.limit (input_published start.journal input) result
    before after text_old text_new file_old file_new)
run_closed {P} {E} a b beats ends start now known result before none failed lost count mid after text_old text_new
    file_old file_new saved zeroed unsent unclosed sent closes report text is file front =
    run_from a b beats ends start known now.journal None sent.front result before after text_old text_new file_old
    file_new unsent unclosed sent.whole
    (λ whole_data shut.
    let same : count ≡ length (data_after start.limit 0 (record { journal = now.journal; refused = None })) =
    sent.counted ∙ ap (λ (ds : List (List ℕ)). length ds) (sym whole_data) in
    let empty : lost.text ≡ [] =
    text_kept a b (close_datagrams beats ends now.journal) (publication_of mid failed) (publication_of after lost)
    (closes shut)
    ∙ no_text a b sent.front before mid none failed zeroed sent.sends in
    run_whole a b beats ends start.limit (record { journal = now.journal; refused = None }) result before
    (publication_of after lost) text_old text_new file_old file_new
    (all_sends a b beats ends start.limit now.journal sent.front before none (publication_of mid failed)
    (publication_of after lost) zeroed whole_data sent.sends (closes shut))
    (subst (λ (n : ℕ). IfOk result (λ status.
    Appends text_old text_new (published_line (length now.journal.messages) n lost.failures) × (status ≡ 0))) same
    (report empty))
    (subst (λ (j : JournalState). OnOk result (AppendsFile file_old file_new j.session j.messages j.closed)) is file)
    (subst (λ (n : ℕ). AppendsPrefix text_old text_new (published_line (length now.journal.messages) n lost.failures)) same
    (text empty))
    (subst (λ (j : JournalState). AppendsPrefix file_old file_new (saved_bytes j None)) is
    (front (ap (λ (j : JournalState). j.closed) is))))

-- a fault before anything was printed
pub run_unsaved : {P E : Type 0} (a b : P) (beats ends : ℕ) (start now : PublisherState) (known : Option InputEntries)
    (result : Result ℕ CommandFault) (before : Port P) (none failed lost : OutgoingState) (count : ℕ)
    (mid after : Port P) (text file_old file_new : Option (List ℕ)) (saved : JournalState) →
    none ≡ nothing_out → start.sent ≡ 0 → start.journal.closed ≡ false →
    SendsMessages {E = E} a b start now known (Ok None) (publication_of before none) (publication_of mid failed) count →
    (now.journal.closed ≡ false →
    Sends (both a b (close_datagrams beats ends now.journal)) (publication_of mid failed) (publication_of after lost)) →
    saved ≡ closed_unless None now.journal → IsErr result →
    (saved.closed ≡ true → AppendsPrefix file_old file_new (saved_bytes saved None)) →
    IfSome known (λ input. PublishRun a b beats ends start.limit (input_published start.journal input) result
    before after text text file_old file_new)
run_unsaved {P} {E} a b beats ends start now known result before none failed lost count mid after text file_old file_new
    saved zeroed unsent unclosed sent closes is bad front =
    run_closed a b beats ends start now known result before none failed lost count mid after text text file_old
    file_new saved zeroed unsent unclosed sent closes
    (λ empty. none_answered result _ bad)
    (λ empty. no_front text (published_line (length now.journal.messages) count lost.failures))
    is
    (none_ok result _ bad)
    front

-- the last line was still to be printed
pub run_printed : {P E : Type 0} (a b : P) (beats ends : ℕ) (start now : PublisherState) (known : Option InputEntries)
    (result : Result ℕ CommandFault) (before : Port P) (none failed lost out : OutgoingState) (count many : ℕ)
    (mid after : Port P) (text_old text_new file_old file_new : Option (List ℕ)) (saved : JournalState) →
    none ≡ nothing_out → start.sent ≡ 0 → start.journal.closed ≡ false →
    SendsMessages {E = E} a b start now known (Ok None) (publication_of before none) (publication_of mid failed) count →
    (now.journal.closed ≡ false →
    Sends (both a b (close_datagrams beats ends now.journal)) (publication_of mid failed) (publication_of after lost)) →
    saved ≡ closed_unless None now.journal → many ≡ length now.journal.messages →
    out ≡ with_more (published_line many count lost.failures) lost →
    IfOk result (λ status. Appends text_old text_new out.text × (status ≡ 0)) →
    AppendsPrefix text_old text_new out.text →
    OnOk result (AppendsFile file_old file_new saved.session saved.messages saved.closed) →
    (saved.closed ≡ true → AppendsPrefix file_old file_new (saved_bytes saved None)) →
    IfSome known (λ input. PublishRun a b beats ends start.limit (input_published start.journal input) result
    before after text_old text_new file_old file_new)
run_printed {P} {E} a b beats ends start now known result before none failed lost out count many mid after text_old
    text_new file_old file_new saved zeroed unsent unclosed sent closes is all printed report text file front =
    let line : lost.text ≡ [] → out.text ≡ published_line (length now.journal.messages) count lost.failures =
    λ empty. ap (λ (o : OutgoingState). o.text) printed
    ∙ ap (λ (t : List ℕ). t ++ published_line many count lost.failures) empty
    ∙ ap (λ (n : ℕ). published_line n count lost.failures) all in
    run_closed a b beats ends start now known result before none failed lost count mid after text_old text_new file_old
    file_new saved zeroed unsent unclosed sent closes
    (λ empty. subst (λ (t : List ℕ). IfOk result (λ status. Appends text_old text_new t × (status ≡ 0))) (line empty)
    report)
    (λ empty. subst (λ (t : List ℕ). AppendsPrefix text_old text_new t) (line empty) text)
    is
    file
    front

-- the journal that is left
pub left_behind : {P E : Type 0} (a b : P) (start now : PublisherState) (known : Option InputEntries)
    (refused : Option MessageRefusal) (old new : PublicationState P) (count : ℕ) (journal : JournalState) →
    SendsMessages {E = E} a b start now known (Ok refused) old new count → journal ≡ closed_unless refused now.journal →
    IfSome known (λ input. journal ≡ left_journal (input_published start.journal input))
left_behind a b start now None refused old new count journal sent is = tt
left_behind a b start now (Some input) refused old new count journal sent is =
    is ∙ sym (ap (λ (p : PublishedInput). left_journal p) sent.whole.1)

-- an empty publisher
pub none_sent : (p : PublisherState) → p.sent ≤ length p.journal.messages → p.journal.messages ≡ [] → p.sent ≡ 0
none_sent p few empty = omega (arith, few, ap (λ (ms : List (List ℕ)). length ms) empty)

pub empty_room : (p : PublisherState) → p.sent ≤ length p.journal.messages → p.journal.messages ≡ [] →
    Fits p.limit [] → HasRoom p
empty_room p few empty fits = record {
  sent = few;
  fits =
      subst (λ (ms : List (List ℕ)). Fits p.limit ms)
      (sym (drop_all p.sent p.journal.messages
      (omega (arith, ap (λ (ms : List (List ℕ)). length ms) empty))))
      fits;
}

-- the number of a journal's messages is one less than the number of its next message
pub many_messages : (next : ℕ) (one other : JournalState) → next ≡ length one.messages + 1 → one ≡ other →
    next - 1 ≡ length other.messages
many_messages next one other is same =
    omega (arith, is, ap (λ (j : JournalState). length j.messages) same)

-- what was published, if the port is at the end as it was left
pub published_so : {D P : Type 0} (known : D → Port P) (a b : P) (beats ends : ℕ) (start : PublisherState)
    (input : Option InputEntries) (result : Result ℕ CommandFault) (before : Port P) (port end : D)
    (text_old text_new file_old file_new : Option (List ℕ)) → end ≡ port →
    IfSome input (λ bytes. PublishRun a b beats ends start.limit (input_published start.journal bytes) result
    before (known port) text_old text_new file_old file_new) →
    IfSome input (λ bytes. PublishRun a b beats ends start.limit (input_published start.journal bytes) result
    before (known end) text_old text_new file_old file_new)
published_so {D} known a b beats ends start input result before port end text_old text_new file_old file_new same run =
    subst
    (λ (d : D).
    IfSome input (λ bytes. PublishRun a b beats ends start.limit (input_published start.journal bytes) result
    before (known d) text_old text_new file_old file_new))
    (sym same)
    run

-- the journal of the publisher at the end
pub left_so : {T E : Type 0} (start : PublisherState) (input : Option InputEntries) (result : Result T E) (Tells : Type 0)
    (journal left : JournalState) → left ≡ journal →
    IfOk result (λ _. Tells → IfSome input (λ bytes. journal ≡ left_journal (input_published start.journal bytes))) →
    IfOk result (λ _. Tells → IfSome input (λ bytes. left ≡ left_journal (input_published start.journal bytes)))
left_so start input result Tells journal left same is =
    subst
    (λ (j : JournalState). IfOk result (λ _. Tells → IfSome input (λ bytes.
    j ≡ left_journal (input_published start.journal bytes))))
    (sym same)
    is
