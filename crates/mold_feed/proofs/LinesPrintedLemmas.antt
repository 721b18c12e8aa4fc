-- What a listener prints of an input of lines, by what it prints of the messages of these lines.
use Rattle.std.proofs.Common.{◌≡◌, ℕ, ◌+◌, ◌≤◌, Bool, false, List, ◌++◌, length, take, Option, None, Result, arith, ap}
use Rattle.std.proofs.Common.{subst, sym, ◌∙◌}
use Rattle.std.specs.Io.KnownBytes.{Appends}
use Rattle.std.proofs.lemmas.Bool.{false_from_ne_true, false≢true}
use Rattle.std.proofs.lemmas.List.{take-map}
use Rattle.std.proofs.lemmas.Result.{IfOk-weaker}
use Rattle.mold_devices.specs.Devices.{AppendsPrefix}
use Rattle.mold_feed.specs.Received.{PrintsAmong, PrintsLines, PrintsMessages, PrintsMessagesAmong}
use Rattle.mold_feed.specs.Received.{PrintsMessagesRefused, PrintsOpen, PrintsRefused}
use Rattle.mold_feed.specs.Received.{closing_lines, closing_status, closing_text, lines_text}
use Rattle.mold_feed.specs.Sent.{HasMessages, HasMessagesBefore, lines_input}
use Rattle.mold_feed.proofs.LinesTextLemmas.{AreSpelled, entries_spelled, spelled_length, text_between}
use Rattle.mold_feed.proofs.PrintedLineLemmas.{between_front}
use Rattle.mold_input.specs.Entries.{line_entry}
use Rattle.mold_input.specs.declared.message_format.MessageFormat.TheVariants.{Lines}
use Rattle.mold_listen.specs.Text.{handed_text}
use Rattle.mold_publish.specs.Publishing.{refused_text}
use Rattle.mold_publish.specs.declared.message_refusal.MessageRefusal.{MessageRefusal}
use Rattle.mold_receiver.specs.Store.{Message}
use Rattle.mold_session.specs.Answer.{between}
use Rattle.mold_session.specs.Journal.{JournalState}

-- ---- the messages of lines

-- a closed journal has the messages of all lines
pub all_lines : (lines : List (List ℕ)) (journal : JournalState) → HasMessages (lines_input lines).entries journal →
    AreSpelled lines journal.messages
all_lines lines journal has = entries_spelled lines journal.messages has.read

-- a journal that refuses a line has the messages of the lines before it
pub lines_before : (lines : List (List ℕ)) (why : MessageRefusal) (journal : JournalState) →
    HasMessagesBefore (lines_input lines) why journal →
    AreSpelled (take (length journal.messages) lines) journal.messages
lines_before lines why journal has =
    entries_spelled (take (length journal.messages) lines) journal.messages
    (sym (take-map line_entry (length journal.messages) lines) ∙ has.read)

-- a listener may start at a line exactly when it may start at that message
pub lines_within : (lines : List (List ℕ)) (journal : JournalState) (first : ℕ) → AreSpelled lines journal.messages →
    first ≤ length lines + 1 → first ≤ length journal.messages + 1
lines_within lines journal first spelled most =
    let many = spelled_length lines journal.messages spelled in
    omega (arith, many, most)

-- ---- what is printed

module _ {E : Type 0} {reporting : Bool} {first : ℕ} {result : Result ℕ E} {old new : Option (List ℕ)}
    (lines : List (List ℕ)) (journal : JournalState) where
  -- the messages of all lines are printed as the lines
  pub prints_lines : AreSpelled lines journal.messages →
      PrintsMessages Lines reporting journal first result old new → PrintsLines reporting lines first result old new
  prints_lines spelled prints =
      let many : length lines ≡ length journal.messages = spelled_length lines journal.messages spelled in
      let same : handed_text Lines first (between journal.messages first prints.next)
      ++ closing_text Lines reporting prints.reports None prints.finished prints.next prints.known prints.failures
      ≡ lines_text first (between lines first prints.next)
      ++ closing_lines reporting prints.reports prints.finished prints.next prints.known prints.failures =
      ap (λ (text : List ℕ). text
      ++ closing_lines reporting prints.reports prints.finished prints.next prints.known prints.failures)
      (text_between lines journal.messages first prints.next spelled) in
      record {
        next = prints.next;
        finished = prints.finished;
        known = prints.known;
        failures = prints.failures;
        reports = prints.reports;
        from = prints.from;
        to = omega (arith, many, prints.to);
        ahead = prints.ahead;
        received = omega (arith, many, prints.received);
        all = λ over. let is = prints.all over in omega (arith, many, is);
        text =
            IfOk-weaker result _ _
            (λ answer written. (written.0, subst (λ (t : List ℕ). Appends old new t) same written.1)) prints.text;
        front = subst (λ (t : List ℕ). AppendsPrefix old new t) same prints.front;
      }

  -- the same if foreign bytes are refused
  pub prints_lines_among : (Came : List ℕ → Type 0) → AreSpelled lines journal.messages →
      PrintsMessagesAmong Lines reporting Came journal first result old new →
      PrintsAmong reporting journal.session Came lines first result old new
  prints_lines_among Came spelled prints =
      let many : length lines ≡ length journal.messages = spelled_length lines journal.messages spelled in
      record {
        next = prints.next;
        finished = prints.finished;
        known = prints.known;
        failures = prints.failures;
        reports = prints.reports;
        printed_lines = prints.printed_lines;
        refused = prints.refused;
        messages = prints.messages ∙ text_between lines journal.messages first prints.next spelled;
        from = prints.from;
        to = omega (arith, many, prints.to);
        ahead = prints.ahead;
        received = omega (arith, many, prints.received);
        all = λ over. let is = prints.all over in omega (arith, many, is);
        text = prints.text;
        front = prints.front;
      }

  -- the messages before a refused line are printed as lines, and the listener does not finish
  pub prints_open : (refused_at : ℕ) → refused_at ≡ length journal.messages + 1 → 1 ≤ first →
      AreSpelled (take (length journal.messages) lines) journal.messages → journal.closed ≡ false →
      PrintsMessages Lines reporting journal first result old new →
      PrintsOpen reporting lines refused_at first result old new
  prints_open refused_at many least spelled unclosed prints =
      let count : ℕ = length journal.messages in
      let unfinished : prints.finished ≡ false =
      false_from_ne_true prints.finished (λ over. false≢true (sym unclosed ∙ prints.closed over)) in
      let same : handed_text Lines first (between journal.messages first prints.next)
      ++ closing_text Lines reporting prints.reports None prints.finished prints.next prints.known prints.failures
      ≡ lines_text first (between lines first prints.next)
      ++ closing_lines reporting prints.reports false prints.next prints.known prints.failures =
      ap (λ (text : List ℕ). text
      ++ closing_lines reporting prints.reports prints.finished prints.next prints.known prints.failures)
      (text_between (take count lines) journal.messages first prints.next spelled
      ∙ ap (lines_text first) (between_front lines count first prints.next least prints.from prints.to))
      ∙ ap (λ (finished : Bool). lines_text first (between lines first prints.next)
      ++ closing_lines reporting prints.reports finished prints.next prints.known prints.failures) unfinished in
      record {
        next = prints.next;
        known = prints.known;
        failures = prints.failures;
        reports = prints.reports;
        from = prints.from;
        to = omega (arith, many, prints.to);
        ahead = prints.ahead;
        received = omega (arith, many, prints.received);
        text =
            IfOk-weaker result _ _
            (λ answer written. (
              written.0 ∙ ap closing_status unfinished,
              subst (λ (t : List ℕ). Appends old new t) same written.1,
            ))
            prints.text;
        front = subst (λ (t : List ℕ). AppendsPrefix old new t) same prints.front;
      }

-- the messages before a refused line are printed as lines, and then the refusal
pub prints_refused : {E : Type 0} {first : ℕ} {result : Result ℕ E} {old new : Option (List ℕ)}
    (lines : List (List ℕ)) (messages : List Message) (why : MessageRefusal) (refused_at : ℕ) →
    refused_at ≡ length messages + 1 → 1 ≤ first → AreSpelled (take (length messages) lines) messages →
    PrintsMessagesRefused Lines messages why first result old new →
    PrintsRefused lines refused_at why first result old new
prints_refused {E} {first} {result} {old} {new} lines messages why refused_at many least spelled prints =
    let count : ℕ = length messages in
    let same : handed_text Lines first (between messages first prints.next) ++ refused_text (count + 1) why
    ≡ lines_text first (between lines first prints.next) ++ refused_text refused_at why =
    ap (λ (text : List ℕ). text ++ refused_text (count + 1) why)
    (text_between (take count lines) messages first prints.next spelled
    ∙ ap (lines_text first) (between_front lines count first prints.next least prints.from prints.to))
    ∙ ap (λ (n : ℕ). lines_text first (between lines first prints.next) ++ refused_text n why) (sym many) in
    record {
      next = prints.next;
      from = prints.from;
      to = omega (arith, many, prints.to);
      text =
          IfOk-weaker result _ _
          (λ answer written. (written.0, subst (λ (t : List ℕ). Appends old new t) same written.1)) prints.text;
      front = subst (λ (t : List ℕ). AppendsPrefix old new t) same prints.front;
    }
