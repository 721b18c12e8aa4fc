-- What a listener has printed at its end: the published messages in its format, and then its last lines.
use Rattle.std.proofs.Common.{◌≡◌, ℕ, ◌+◌, ◌≤◌, Bool, true, List, [], ◌++◌, length, Option, None, Result, ap, subst, ◌∙◌}
use Rattle.std.specs.Prelude.{IfOk}
use Rattle.std.specs.Io.KnownBytes.{Appends}
use Rattle.std.proofs.lemmas.Result.{IfOk-weaker}
use Rattle.mold_devices.specs.Devices.{AppendsPrefix}
use Rattle.mold_feed.specs.Received.{HasFinished, HasListened, PrintsMessages, PrintsMessagesAmong}
use Rattle.mold_feed.specs.Received.{closing_text, printable_lines, printed_lines_text, published_text, stop_between}
use Rattle.mold_feed.proofs.StopLemmas.{printable_said}
use Rattle.mold_input.specs.declared.message_format.MessageFormat.{MessageFormat}
use Rattle.mold_listen.specs.Listening.{Progress, ListenerState, is_finished, last_note, listened_lines, status}
use Rattle.mold_listen.specs.Text.{end_status, end_text}
use Rattle.mold_session.specs.Answer.{between}
use Rattle.mold_session.specs.Journal.{JournalState}

-- the last lines of a listener on standard output
abbrev ending_text : MessageFormat → Bool → Option ℕ → Progress → List ℕ
ending_text format reporting stopped e =
    closing_text format reporting e.arbitration.reports stopped (is_finished e) e.arbitration.view.next
    e.arbitration.view.known e.outgoing.failures

-- a listener that started at the message `first` has ended: its text and its last lines are written
pub record HasCome {P E : Type 0} (format : MessageFormat) (reporting : Bool) (journal : JournalState) (first : ℕ)
    (end : ListenerState P) (result : Result ℕ E) (old new : Option (List ℕ)) : Type 0 where
  pub kept : end.progress.outgoing.format ≡ format
  pub stop : end.progress.outgoing.stopped ≡ stop_between format journal first end.progress.arbitration.view.next
  pub whole : IfOk result (λ answer.
      Appends old new (end.progress.outgoing.text ++ listened_lines reporting end) × (answer ≡ status end))
  pub front : AppendsPrefix old new (end.progress.outgoing.text ++ listened_lines reporting end)
  pub from : first ≤ end.progress.arbitration.view.next
  pub to : end.progress.arbitration.view.next ≤ length journal.messages + 1
  pub ahead : end.progress.arbitration.view.next ≤ end.progress.arbitration.view.known
  pub received : end.progress.arbitration.view.known ≤ length journal.messages + 1
  pub finished : is_finished end.progress ≡ true → HasFinished journal end.progress

-- an honest listener has ended in this way
pub has_come : {P E : Type 0} {format : MessageFormat} {reporting : Bool} {first : ℕ} {end : ListenerState P}
    {result : Result ℕ E} {old new : Option (List ℕ)} (journal : JournalState) (Came : List ℕ → Type 0) →
    HasListened format journal Came first None [] end.progress →
    (is_finished end.progress ≡ true → HasFinished journal end.progress) →
    IfOk result (λ answer.
    Appends old new (end.progress.outgoing.text ++ listened_lines reporting end) × (answer ≡ status end)) →
    AppendsPrefix old new (end.progress.outgoing.text ++ listened_lines reporting end) →
    HasCome format reporting journal first end result old new
has_come journal Came listened finished whole front = record {
  kept = listened.kept;
  stop = listened.stop;
  whole = whole;
  front = front;
  from = listened.from;
  to = listened.to;
  ahead = listened.honest.well_formed.ahead;
  received = listened.honest.known;
  finished = finished;
}

-- the text and the last lines are written, and the result is the status; after a fault a prefix of them is written
written_of : {P E : Type 0} {format : MessageFormat} {reporting : Bool} {journal : JournalState} {first : ℕ}
    {end : ListenerState P} {result : Result ℕ E} {old new : Option (List ℕ)} →
    HasCome format reporting journal first end result old new →
    (text : List ℕ) → end.progress.outgoing.text ≡ text →
    IfOk result (λ answer.
    (answer ≡ end_status (stop_between format journal first end.progress.arbitration.view.next) (is_finished end.progress))
    × Appends old new (text
    ++ ending_text format reporting (stop_between format journal first end.progress.arbitration.view.next) end.progress))
    × AppendsPrefix old new (text
    ++ ending_text format reporting (stop_between format journal first end.progress.arbitration.view.next) end.progress)
written_of {P} {E} {format} {reporting} {journal} {first} {end} {result} {old} {new} come text is =
    let e : Progress = end.progress in
    let stop : Option ℕ = stop_between format journal first e.arbitration.view.next in
    let same : e.outgoing.text ++ listened_lines reporting end ≡ text ++ ending_text format reporting stop e =
    ap (λ (t : List ℕ). t ++ listened_lines reporting end) is
    ∙ ap (λ (f : MessageFormat). text
    ++ end_text f e.outgoing.stopped (is_finished e) (last_note reporting e)) come.kept
    ∙ ap (λ (s : Option ℕ). text ++ ending_text format reporting s e) come.stop
    in (
      IfOk-weaker result _ _
          (λ answer written. (
            written.1 ∙ ap (λ (s : Option ℕ). end_status s (is_finished e)) come.stop,
            subst (λ (t : List ℕ). Appends old new t) same written.0,
          ))
          come.whole,
      subst (λ (t : List ℕ). AppendsPrefix old new t) same come.front,
    )

-- a listener whose text is that of the messages printed the messages
pub prints_messages : {P E : Type 0} {format : MessageFormat} {reporting : Bool} {journal : JournalState} {first : ℕ}
    {end : ListenerState P} {result : Result ℕ E} {old new : Option (List ℕ)} →
    HasCome format reporting journal first end result old new →
    end.progress.outgoing.text ≡ published_text format journal first end.progress.arbitration.view.next →
    PrintsMessages format reporting journal first result old new
prints_messages {P} {E} {format} {reporting} {journal} {first} {end} {result} {old} {new} come is =
    let next : ℕ = end.progress.arbitration.view.next in
    let written = written_of come (published_text format journal first next) is in
    record {
      next = next;
      finished = is_finished end.progress;
      known = end.progress.arbitration.view.known;
      failures = end.progress.outgoing.failures;
      reports = end.progress.arbitration.reports;
      from = come.from;
      to = come.to;
      ahead = come.ahead;
      received = come.received;
      closed = λ over. (come.finished over).closed;
      all = λ over. (come.finished over).all;
      text = written.0;
      front = written.1;
    }

-- a listener that also received foreign bytes printed the messages, and among lines maybe refusals
pub prints_among : {P E : Type 0} {format : MessageFormat} {reporting : Bool} {first : ℕ} {end : ListenerState P}
    {result : Result ℕ E} {old new : Option (List ℕ)} (journal : JournalState) (Came : List ℕ → Type 0) →
    HasListened format journal Came first None [] end.progress →
    HasCome format reporting journal first end result old new →
    PrintsMessagesAmong format reporting Came journal first result old new
prints_among {P} {E} {format} {reporting} {first} {end} {result} {old} {new} journal Came listened come =
    let next : ℕ = end.progress.arbitration.view.next in
    let written =
    written_of come (printed_lines_text format (printable_lines format None listened.printed_lines)) listened.text in
    record {
      next = next;
      finished = is_finished end.progress;
      known = end.progress.arbitration.view.known;
      failures = end.progress.outgoing.failures;
      reports = end.progress.arbitration.reports;
      printed_lines = listened.printed_lines;
      refused = listened.refused;
      messages =
          printable_said format listened.printed_lines first (between journal.messages first next) listened.handed;
      from = come.from;
      to = come.to;
      ahead = come.ahead;
      received = come.received;
      closed = λ over. (come.finished over).closed;
      all = λ over. (come.finished over).all;
      text = written.0;
      front = written.1;
    }
