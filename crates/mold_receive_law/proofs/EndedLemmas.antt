-- What a receiver has written at its end.
use Rattle.std.proofs.Common.{◌≡◌, ℕ, ◌+◌, ◌-◌, ◌<◌, ◌≤◌, ◌^◌, ◌==◌, ◌&&◌, Bool, true, false, List, [], ◌∷◌, ◌++◌, length}
use Rattle.std.proofs.Common.{None, Ok, Option, ap, append-nil, arith, if◌then◌else◌, refl, subst, sym, ◌∙◌}
use Rattle.std.specs.Io.Iter.{u64_saturate}
use Rattle.std.specs.Io.KnownBytes.{Appends}
use Rattle.std.specs.List.{AllByRecursion}
use Rattle.std.proofs.lemmas.List.{take_all}
use Rattle.mold_devices.specs.declared.fault.CommandFault.{CommandFault}
use Rattle.mold_feed.proofs.BlocksPrintedLemmas.{blocks_text}
use Rattle.mold_feed.proofs.LinesTextLemmas.{AreSpelled, spelled_length, text_between}
use Rattle.mold_feed.proofs.OpeningLemmas.{OpeningLaws, left_by, left_session}
use Rattle.mold_feed.proofs.ReceivedTurnLemmas.{ends_so}
use Rattle.mold_feed.proofs.SentLemmas.{each_append, each_begun, each_front, each_rest}
use Rattle.mold_feed.specs.Received.{IsFed, IsHarmless, PrintsBlocks, WritesToMark, lines_text}
use Rattle.mold_feed.specs.Sent.{IsOpening}
use Rattle.mold_input.specs.BlocksToEmpty.{IsNotEmpty}
use Rattle.mold_input.specs.Entries.{InputEntries}
use Rattle.mold_input.specs.declared.message_format.MessageFormat.{MessageFormat}
use Rattle.mold_input.specs.declared.message_format.MessageFormat.TheVariants.{Blocks, BlocksToEmpty, Lines}
use Rattle.mold_listen.specs.Text.{end_text, handed_text}
use Rattle.mold_pacing.specs.declared.gap.Gap.{Gap}
use Rattle.mold_port_set.specs.PortSet.{Given, PortSetState}
use Rattle.mold_receive.specs.Receiving.{Call, Follow, HasBroken, HasEnded, HasRun, HasStopped, ReceiverState, all_taken}
use Rattle.mold_receive.specs.Receiving.{all_text, is_finished, last_line, last_status, started}
use Rattle.mold_receiver.specs.Store.{Message}
use Rattle.mold_receiver.specs.Fresh.{IsNew}
use Rattle.mold_receiver.specs.View.{IsRoom, View, fresh_within}
use Rattle.mold_receiver.specs.Honest.{IsHonest}
use Rattle.mold_wire.specs.declared.session.Session.{Session}
use Rattle.mold_repair.specs.Laws.{count_numbers}
use Rattle.mold_repair.specs.Stats.{no_counts}
use Rattle.mold_repair.specs.declared.repairer.Repairer.{Repairer}
use Rattle.mold_repair.specs.declared.stats.RepairCounts.{RepairCounts}
use Rattle.mold_session.specs.Answer.{between}
use Rattle.mold_session.specs.Journal.{JournalState}
use Rattle.mold_turns.specs.Runs.{Begins}
use Rattle.mold_wire.specs.Block.{block, blocks}
use Rattle.mold_receive_law.proofs.PrintedLemmas.{ArePrinted, IsGood, RepairLaws, calls_printed, gaps_of, outcomes_of}
use Rattle.mold_receive_law.proofs.PrintedLemmas.{repaired, steps_of}
use Rattle.mold_receive_law.specs.Printed.{AreFed, AreRanges, HasPrinted, HasPrintedAll, HasPrintedLines}
use Rattle.mold_receive_law.proofs.StoppedLemmas.{AreCut, calls_cut}
use Rattle.mold_receive_law.specs.Printed.{HasPrintedPart, HasPrintedToEmpty, Prints, closing_line, closing_status, finished_line}
use Rattle.mold_receive_law.specs.Printed.{printed_text}

-- ---- the status

abbrev status_at : Bool → ℕ → ℕ
status_at finished lost = if finished && lost == 0 then 0 else 1

status_none : (finished : Bool) → status_at finished 0 ≡ closing_status finished []
status_none true = refl
status_none false = refl

status_some : (finished : Bool) (lost : ℕ) → 0 < lost → status_at finished lost ≡ 1
status_some finished lost some = grind (arith, some)

count_some : (first next : ℕ) (gap : Gap) (gaps : List Gap) → AreRanges first (gap ∷ gaps) next →
    0 < u64_saturate (count_numbers (gap ∷ gaps))
count_some first next gap gaps order = grind (arith, order.1)

-- the status of a receiver that gave up these ranges
status_is : (finished : Bool) (lost first next : ℕ) (gaps : List Gap) → AreRanges first gaps next →
    lost ≡ u64_saturate (count_numbers gaps) → status_at finished lost ≡ closing_status finished gaps
status_is finished lost first next [] order count =
    ap (λ (n : ℕ). status_at finished n) (let e : lost ≡ 0 = count in e) ∙ status_none finished
status_is finished lost first next (gap ∷ gaps) order count =
    ap (λ (n : ℕ). status_at finished n) count
    ∙ status_some finished (u64_saturate (count_numbers (gap ∷ gaps))) (count_some first next gap gaps order)

-- with status 0 the receiver has finished and gave up nothing
finished_if : (finished : Bool) (gaps : List Gap) → 0 ≡ closing_status finished gaps →
    (finished ≡ true) × (gaps ≡ [])
finished_if true [] zero = (refl, refl)
finished_if false [] zero = let no : ⊥ = cc in absurd no
finished_if finished (gap ∷ gaps) zero = let no : ⊥ = cc in absurd no

-- ---- the messages that were published into a new session

pub record ReceiveLaws (P : Type 0) : Type 0 where
  pub repair : RepairLaws
  pub opening : OpeningLaws
  pub within : (room : Option ℕ) (session : Session) (next window : ℕ) (published : List Message) (closed : Bool) →
      IsRoom room → 1 ≤ next → next ≤ length published + 1 → length published < 18446744073709551615 →
      IsHonest (fresh_within room session next window) published closed
  pub fed : (limit : ℕ) (journal : JournalState) (input : InputEntries) (bytes : List ℕ) → IsOpening journal limit →
      IsFed P journal limit input bytes → IsHarmless (left_by journal input) bytes

all_good : {P : Type 0} → ReceiveLaws P → (limit : ℕ) (journal : JournalState) (input : InputEntries) →
    IsOpening journal limit → (datagrams : List Given) → AreFed P journal limit input datagrams →
    AllByRecursion (IsGood (left_by journal input)) datagrams
all_good laws limit journal input opening [] fed = tt
all_good laws limit journal input opening (given ∷ datagrams) fed = (
  laws.fed limit journal input given.bytes opening fed.0,
  all_good laws limit journal input opening datagrams fed.1,
)

-- the text of a receiver, and its status
record PrintsWith (format : MessageFormat) (journal : JournalState) (first : ℕ) (text : List ℕ) (r : Repairer) :
    Type 0 where
  prints : Prints format journal first text
  status : last_status r ≡ closing_status prints.finished prints.gaps

-- ---- with status 0

pub prints_all : (format : MessageFormat) (journal : JournalState) (first : ℕ) (old new : Option (List ℕ)) →
    HasPrinted format journal first 0 old new → HasPrintedAll format journal first old new
unfolding printed_text
prints_all format journal first old new printed =
    let prints : Prints format journal first printed.text = printed.prints in
    let messages : List Message = journal.messages in
    let over : (prints.finished ≡ true) × (prints.gaps ≡ []) =
    finished_if prints.finished prints.gaps printed.status_is in
    let zero : u64_saturate 0 ≡ 0 = grind (arith) in
    record {
      failures = prints.failures;
      closed = prints.closed over.0;
      written =
          subst (λ (t : List ℕ). Appends old new t)
          (prints.parts
          ∙ ap (λ (gaps : List Gap). printed_text format messages first gaps prints.next
          ++ end_text format None (closing_status prints.finished gaps == 0) (closing_line prints.finished prints.next
          prints.known (u64_saturate (count_numbers gaps)) prints.failures)) over.1
          ∙ ap (λ (lost : ℕ). printed_text format messages first [] prints.next
          ++ end_text format None (closing_status prints.finished [] == 0)
          (closing_line prints.finished prints.next prints.known lost prints.failures)) zero
          ∙ ap (λ (finished : Bool). printed_text format messages first [] prints.next
          ++ end_text format None (closing_status finished [] == 0)
          (closing_line finished prints.next prints.known 0 prints.failures)) over.0
          ∙ ap (λ (next : ℕ). handed_text format first (between messages first next)
          ++ end_text format None true (finished_line next 0 prints.failures)) (prints.all over.0))
          printed.written;
    }

-- among blocks, the blocks of all messages are written
pub all_blocks : (journal : JournalState) (old new : Option (List ℕ)) → HasPrintedAll Blocks journal 1 old new →
    PrintsBlocks {E = CommandFault} journal 1 (Ok 0) old new
all_blocks journal old new printed =
    let end : ℕ = length journal.messages + 1 in
    let messages : List Message = between journal.messages 1 end in
    let written : Appends old new (blocks messages) =
    subst (λ (t : List ℕ). Appends old new t) (append-nil (handed_text Blocks 1 messages) ∙ blocks_text 1 messages)
    printed.written in
    record {
      next = end;
      from = omega arith;
      to = omega arith;
      text = (written, λ _. (printed.closed, refl));
      front = record {
        front = blocks messages;
        rest = [];
        parts = sym (append-nil (blocks messages));
        appended = written;
      };
    }

-- the text of messages up to a mark is their blocks
marked_text : (number : ℕ) (messages : List Message) → handed_text BlocksToEmpty number messages ≡ blocks messages
unfolding handed_text
marked_text number [] = refl
marked_text number (message ∷ messages) =
    ap (λ (text : List ℕ). block message ++ text) (marked_text (number + 1) messages)

-- among blocks with a mark of the end, the blocks of all messages and the mark are written
pub all_marked : (input : List ℕ) (journal : JournalState) (old new : Option (List ℕ)) →
    AllByRecursion IsNotEmpty journal.messages →
    (rest : List ℕ) × (input ≡ blocks journal.messages ++ block [] ++ rest) →
    HasPrintedAll BlocksToEmpty journal 1 old new → WritesToMark input old new
all_marked input journal old new filled read printed =
    let end : ℕ = length journal.messages + 1 in
    record {
      messages = journal.messages;
      filled = filled;
      rest = read.0;
      parts = read.1;
      written = subst (λ (t : List ℕ). Appends old new t)
          (ap (λ (t : List ℕ). t ++ block [])
          (marked_text 1 (between journal.messages 1 end)
          ∙ ap blocks (take_all (end - 1) journal.messages (omega arith))))
          printed.written;
    }

-- among lines, the lines that the messages were read from are written
pub all_lines_written : (lines : List (List ℕ)) (journal : JournalState) (first : ℕ) (old new : Option (List ℕ)) →
    AreSpelled lines journal.messages → HasPrintedAll Lines journal first old new → HasPrintedLines lines first old new
all_lines_written lines journal first old new spelled printed =
    let count : length journal.messages ≡ length lines = sym (spelled_length lines journal.messages spelled) in
    record {
      failures = printed.failures;
      written =
          subst (λ (t : List ℕ). Appends old new t)
          (ap (λ (t : List ℕ). t ++ finished_line (length journal.messages + 1) 0 printed.failures)
          (text_between lines journal.messages first (length journal.messages + 1) spelled)
          ∙ ap (λ (n : ℕ). lines_text first (between lines first (n + 1)) ++ finished_line (n + 1) 0 printed.failures)
          count)
          printed.written;
    }

-- ---- a receiver that starts in the session

module _ {P : Type 0} (laws : ReceiveLaws P) (limit : ℕ) (journal : JournalState) (input : InputEntries)
    (opening : IsOpening journal limit) (first window : ℕ) (least : 1 ≤ first)
    (most : first ≤ length (left_by journal input).messages + 1) (old : Repairer)
    (anew : IsNew old.arbiter.view journal.session first window) (uncounted : old.counts ≡ no_counts)
    (format : MessageFormat) where
  abbrev left : JournalState
  left = left_by journal input

  honest_start : IsHonest old.arbiter.view left.messages left.closed
  honest_start =
      let may = laws.opening.answers limit limit journal input opening opening.limited opening.longest in
      subst (λ (v : View). IsHonest v left.messages left.closed) (sym anew.is)
      (laws.within anew.room journal.session first window left.messages left.closed anew.valid least most
      may.journaled.few)

  count_is : (new : Repairer) (calls : List Call) → Follow old calls new →
      new.counts.lost ≡ u64_saturate (count_numbers (gaps_of calls))
  count_is new calls follow =
      let none : old.counts.lost ≡ 0 = ap (λ (c : RepairCounts). c.lost) uncounted in
      laws.repair.count old new (steps_of calls) (outcomes_of calls) (repaired old new calls follow)
      (subst (λ (n : ℕ). n < 2 ^ 64) (sym none) (omega arith))
      ∙ ap u64_saturate (omega (arith, none))

  -- what calls that took only such datagrams print, and the last line
  calls_print : (lines failures : ℕ) (new : Repairer) (calls : List Call) (text : List ℕ) → Follow old calls new →
      AreFed P journal limit input (all_taken lines calls) → text ≡ all_text format calls →
      PrintsWith format left first
      (text ++ end_text format None (last_status new == 0) (last_line new failures)) new
  calls_print lines failures new calls text follow fed is =
      let are : ArePrinted format left calls old new =
      calls_printed laws.repair format left lines old new calls follow
      honest_start
      (ap (λ (v : View). v.session) anew.is ∙ sym (left_session journal input))
      (all_good laws limit journal input opening (all_taken lines calls) fed) in
      let at : old.arbiter.view.next ≡ first =
      ap (λ (v : View). v.next) anew.is in
      let count : new.counts.lost ≡ u64_saturate (count_numbers (gaps_of calls)) = count_is new calls follow in
      let next : ℕ = new.arbiter.view.next in
      let order : AreRanges first (gaps_of calls) next =
      subst (λ (n : ℕ). AreRanges n (gaps_of calls) next) at are.order in
      let ends : is_finished new ≡ true → (left.closed ≡ true) × (next ≡ length left.messages + 1) =
      λ over. are.honest.ends next (ends_so new.arbiter.view.ended next over) in
      let status : last_status new ≡ closing_status (is_finished new) (gaps_of calls) =
      status_is (is_finished new) new.counts.lost first next (gaps_of calls) order count in
      let last : List ℕ = end_text format None (last_status new == 0) (last_line new failures) in
      let printed : List ℕ = printed_text format left.messages first (gaps_of calls) next in
      record {
        prints = record {
          next = next;
          gaps = gaps_of calls;
          finished = is_finished new;
          known = new.arbiter.view.known;
          failures = failures;
          order = order;
          ahead = are.honest.well_formed.ahead;
          received = are.honest.known;
          closed = λ over. (ends over).0;
          all = λ over. (ends over).1;
          parts =
              ap (λ (t : List ℕ). t ++ last) (is ∙ are.text)
              ∙ ap (λ (n : ℕ). printed_text format left.messages n (gaps_of calls) next ++ last) at
              ∙ ap (λ (n : ℕ). printed ++ end_text format None (n == 0) (last_line new failures)) status
              ∙ ap (λ (lost : ℕ). printed
              ++ end_text format None (closing_status (is_finished new) (gaps_of calls) == 0)
              (closing_line (is_finished new) next new.arbiter.view.known lost failures)) count;
        };
        status = status;
      }

  -- a receiver whose ports gave only such datagrams took only such ones
  ran_fed : (lines : ℕ) (servers : List P) (printing : MessageFormat) (given : List Given) (before : PortSetState P)
      (end : ReceiverState P) (has : HasRun lines servers printing true given (started old before) end) →
      AreFed P journal limit input (given ++ end.ports.given) →
      AreFed P journal limit input (all_taken lines has.calls)
  ran_fed lines servers printing given before end has fed =
      let Good : Given → Type 0 = λ (datagram : Given). IsFed P journal limit input datagram.bytes in
      let since : AreFed P journal limit input has.since =
      each_rest Good before.given has.since (subst (λ (datagrams : List Given). AreFed P journal limit input datagrams)
      (has.given refl) (each_rest Good given end.ports.given fed)) in
      subst (λ (datagrams : List Given). AreFed P journal limit input datagrams) (sym (has.taken refl))
      (each_append Good given has.since (each_front Good given end.ports.given fed) since)

  -- the same of what a receiver did, if it took only such datagrams
  ran_prints : (lines : ℕ) (servers : List P) (given : List Given) (before : PortSetState P) (end : ReceiverState P) →
      HasRun lines servers format true given (started old before) end →
      AreFed P journal limit input (given ++ end.ports.given) →
      PrintsWith format left first
      (end.text ++ end_text format None (last_status end.repairer == 0) (last_line end.repairer end.ports.failures))
      end.repairer
  ran_prints lines servers given before end has fed =
      calls_print lines end.ports.failures end.repairer has.calls end.text has.follow
      (ran_fed lines servers format given before end has fed)
      has.printed

  pub ended_prints : (lines : ℕ) (servers : List P) (given : List Given) (new : Repairer)
      (before after : PortSetState P) (held_old held_new : Option (List ℕ)) (status : ℕ) →
      AreFed P journal limit input (given ++ after.given) →
      HasEnded lines servers format true given (started old before) new after held_old held_new status →
      HasPrinted format left first status held_old held_new
  ended_prints lines servers given new before after held_old held_new status fed ended =
      let prints : PrintsWith format left first
      (ended.text ++ end_text format None (last_status new == 0) (last_line new after.failures)) new =
      ran_prints lines servers given before (record { repairer = new; ports = after; text = ended.text }) ended.ran
      fed in
      record {
        text = ended.text ++ end_text format None (last_status new == 0) (last_line new after.failures);
        prints = prints.prints;
        written = subst (λ (n : ℕ). Appends held_old held_new
            (ended.text ++ end_text format None (n == 0) (last_line new after.failures))) ended.status_is ended.appended;
        status_is = ended.status_is ∙ prints.status;
      }

  took_fed : (given took since : List Given) → Begins took given → AreFed P journal limit input (given ++ since) →
      AreFed P journal limit input (took ++ since)
  took_fed given took since part fed =
      let Good : Given → Type 0 = λ (datagram : Given). IsFed P journal limit input datagram.bytes in
      each_append Good took since (each_begun Good took given part (each_front Good given since fed))
      (each_rest Good given since fed)

  pub broken_prints : (lines : ℕ) (servers : List P) (given : List Given) (before : PortSetState P)
      (held_old held_new : Option (List ℕ)) →
      (is : HasBroken lines servers format true given (started old before) held_old held_new) →
      AreFed P journal limit input (given ++ is.end.ports.given) →
      HasPrintedPart format left first held_old held_new
  broken_prints lines servers given before held_old held_new is fed = record {
    text = is.end.text
        ++ end_text format None (last_status is.end.repairer == 0) (last_line is.end.repairer is.end.ports.failures);
    prints = (ran_prints lines servers is.took before is.end is.ran (took_fed given is.took is.end.ports.given is.part
        fed)).prints;
    front = is.front;
  }

  -- what a receiver has written that stopped before an empty message
  pub stopped_prints : (lines : ℕ) (servers : List P) (given : List Given) (new : Repairer)
      (before after : PortSetState P) (held_old held_new : Option (List ℕ)) (number : ℕ) →
      AreFed P journal limit input (given ++ after.given) →
      HasStopped lines servers BlocksToEmpty true given (started old before) new after held_old held_new number →
      HasPrintedToEmpty left first number held_old held_new
  stopped_prints lines servers given new before after held_old held_new number fed stopped =
      let has = stopped.ran in
      let cut : AreCut left has.calls old.arbiter.view.next number =
      calls_cut laws.repair left lines number old new has.calls has.follow honest_start
      (ap (λ (v : View). v.session) anew.is ∙ sym (left_session journal input))
      (all_good laws limit journal input opening (all_taken lines has.calls)
      (ran_fed lines servers BlocksToEmpty given before
      (record { repairer = new; ports = after; text = stopped.text }) has fed))
      stopped.empty in
      let at : old.arbiter.view.next ≡ first = ap (λ (v : View). v.next) anew.is in
      record {
        gaps = cut.gaps;
        order = subst (λ (n : ℕ). AreRanges n cut.gaps number) at cut.order;
        empty = cut.empty;
        written = subst (λ (t : List ℕ). Appends held_old held_new t)
            (cut.text ∙ ap (λ (n : ℕ). printed_text BlocksToEmpty left.messages n cut.gaps number) at)
            stopped.appended;
      }
