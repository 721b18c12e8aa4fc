-- What a receiver prints of the calls of its repairer.
use Rattle.std.proofs.Common.{◌≡◌, ℕ, suc, ◌+◌, ◌<◌, ◌≤◌, ◌^◌, Bool, List, [], ◌∷◌, ◌++◌, length}
use Rattle.std.proofs.Common.{refl, sym, ap, subst, ◌∙◌, arith, append_assoc, inl, inr, IfSome, Option, None, Some}
use Rattle.std.specs.Io.Iter.{u64_saturate}
use Rattle.std.specs.List.{AllByRecursion}
use Rattle.mold_feed.proofs.PrintedLineLemmas.{between_none, counted_joined, handed_between}
use Rattle.mold_feed.proofs.SentLemmas.{each_front, each_rest}
use Rattle.mold_feed.specs.Received.{IsHarmless}
use Rattle.mold_input.specs.declared.message_format.MessageFormat.{MessageFormat}
use Rattle.mold_input.specs.declared.message_format.MessageFormat.TheVariants.{Blocks, BlocksToEmpty, Lines}
use Rattle.mold_listen.specs.Text.{empty_number, handed_text, message_text, messages_to_empty, printable, stop_after}
use Rattle.mold_pacing.specs.declared.gap.Gap.{Gap}
use Rattle.mold_port_set.specs.PortSet.{Given}
use Rattle.mold_receive.specs.Receiving.{Call, Follow, all_taken, all_text, call_stop, call_text, call_to_stop}
use Rattle.mold_receive.specs.Receiving.{lost_text, taken_by}
use Rattle.mold_receiver.specs.Batch.{Handed, followed_by}
use Rattle.mold_receiver.specs.Honest.{IsHonest}
use Rattle.mold_receiver.specs.Store.{Message}
use Rattle.mold_receiver.specs.View.{View}
use Rattle.mold_repair.proofs.LawLemmas.{HasMoved, TakenLaw, has_moved}
use Rattle.mold_repair.specs.Laws.{all_lost, count_numbers, with_gap}
use Rattle.mold_repair.specs.Run.{IsRepaired, IsStepOf, after_lost, nothing}
use Rattle.mold_repair.specs.Safe.{AreHarmless, ArePieces, IsPiece}
use Rattle.mold_repair.specs.Safe.{IsHarmless as IsStepHarmless}
use Rattle.mold_repair.specs.declared.outcome.Outcome.{Outcome}
use Rattle.mold_repair.specs.declared.repairer.Repairer.{Repairer}
use Rattle.mold_repair.specs.declared.step.RepairStep.{RepairStep}
use Rattle.mold_repair.specs.declared.step.RepairStep.TheVariants.{Lost, Pass, Poll, Take}
use Rattle.mold_session.specs.Answer.{between}
use Rattle.mold_session.specs.Journal.{JournalState}
use Rattle.mold_receive_law.specs.Printed.{AreRanges, printed_text}

-- ---- the text of messages

handed_append : (format : MessageFormat) (number : ℕ) (xs ys : List Message) →
    handed_text format number (xs ++ ys)
    ≡ handed_text format number xs ++ handed_text format (number + length xs) ys
unfolding handed_text
handed_append format number [] ys = ap (λ (n : ℕ). handed_text format n ys) (omega arith)
handed_append format number (x ∷ xs) ys =
    let one : List ℕ = message_text format number x in
    let rest : List ℕ = handed_text format (number + 1) xs in
    ap (λ (t : List ℕ). one ++ t) (handed_append format (number + 1) xs ys)
    ∙ ap (λ (n : ℕ). one ++ (rest ++ handed_text format n ys))
    (let e : number + 1 + length xs ≡ number + suc (length xs) = omega arith in e)
    ∙ sym (append_assoc one rest (handed_text format (number + suc (length xs)) ys))

-- the text of the messages between two numbers is that up to a third number, and that from there on
text_joined : (format : MessageFormat) (published : List Message) (from mid to : ℕ) → 1 ≤ from → from ≤ mid →
    mid ≤ to → mid ≤ length published + 1 →
    handed_text format from (between published from to)
    ≡ handed_text format from (between published from mid) ++ handed_text format mid (between published mid to)
text_joined format published from mid to first low high within =
    counted_joined (handed_text format) (handed_append format) published from mid to first low high within

-- ---- ranges

ranges_before : (first mid next : ℕ) (gaps : List Gap) → first ≤ mid → AreRanges mid gaps next →
    AreRanges first gaps next
ranges_before first mid next [] low order = omega (arith, low, order)
ranges_before first mid next (gap ∷ gaps) low order = (omega (arith, low, order.0), order.1, order.2)

ranges_end : (first next : ℕ) (gaps : List Gap) → AreRanges first gaps next → first ≤ next
ranges_end first next [] order = order
ranges_end first next (gap ∷ gaps) order =
    let rest = ranges_end gap.end next gaps order.2 in omega (arith, order.0, order.1, rest)

-- messages before the others
text_before : (format : MessageFormat) (published : List Message) (first mid next : ℕ) (gaps : List Gap) →
    1 ≤ first → first ≤ mid → next ≤ length published + 1 → AreRanges mid gaps next →
    handed_text format first (between published first mid) ++ printed_text format published mid gaps next
    ≡ printed_text format published first gaps next
unfolding printed_text
text_before format published first mid next [] least low most order =
    sym (text_joined format published first mid next least low order (omega (arith, order, most)))
text_before format published first mid next (gap ∷ gaps) least low most order =
    let rest : List ℕ = lost_text format (Some gap) ++ printed_text format published gap.end gaps next in
    let ends = ranges_end gap.end next gaps order.2 in
    sym (append_assoc (handed_text format first (between published first mid))
    (handed_text format mid (between published mid gap.first)) rest)
    ∙ ap (λ (t : List ℕ). t ++ rest)
    (sym (text_joined format published first mid gap.first least low order.0
    (omega (arith, order.0, order.1, ends, most))))

-- a range that was given up, and messages after it, before the others
text_lost : (format : MessageFormat) (published : List Message) (gap : Gap) (mid next : ℕ) (gaps : List Gap) →
    1 ≤ gap.end → gap.end ≤ mid → next ≤ length published + 1 → AreRanges mid gaps next →
    (lost_text format (Some gap) ++ handed_text format gap.end (between published gap.end mid))
    ++ printed_text format published mid gaps next
    ≡ printed_text format published gap.first (gap ∷ gaps) next
unfolding printed_text handed_text
text_lost format published gap mid next gaps least low most order =
    let line : List ℕ = lost_text format (Some gap) in
    append_assoc line (handed_text format gap.end (between published gap.end mid))
    (printed_text format published mid gaps next)
    ∙ ap (λ (t : List ℕ). line ++ t) (text_before format published gap.end mid next gaps least low most order)
    ∙ sym (ap (λ (l : List Message). handed_text format gap.first l
    ++ (line ++ printed_text format published gap.end gaps next)) (between_none published gap.first))

-- what a step gave up begins at `next`
abbrev pub BeginsAt : ℕ → Option Gap → Type 0
BeginsAt next lost = IfSome lost (λ gap. (gap.first ≡ next) × (gap.first < gap.end))

pub step_text : (format : MessageFormat) (published : List Message) (lost : Option Gap) (first mid next : ℕ)
    (gaps : List Gap) → BeginsAt first lost → 1 ≤ first → after_lost first lost ≤ mid →
    next ≤ length published + 1 → AreRanges mid gaps next →
    (lost_text format lost
    ++ handed_text format (after_lost first lost) (between published (after_lost first lost) mid))
    ++ printed_text format published mid gaps next
    ≡ printed_text format published first (with_gap lost gaps) next
step_text format published None first mid next gaps begins least low most order =
    text_before format published first mid next gaps least low most order
step_text format published (Some gap) first mid next gaps begins least low most order =
    text_lost format published gap mid next gaps (omega (arith, begins.0, begins.1, least)) low most order
    ∙ ap (λ (n : ℕ). printed_text format published n (gap ∷ gaps) next) begins.0

pub step_order : (lost : Option Gap) (first mid next : ℕ) (gaps : List Gap) → BeginsAt first lost →
    after_lost first lost ≤ mid → AreRanges mid gaps next → AreRanges first (with_gap lost gaps) next
step_order None first mid next gaps begins low order = ranges_before first mid next gaps low order
step_order (Some gap) first mid next gaps begins low order =
    (omega (arith, begins.0), begins.1, ranges_before gap.end mid next gaps low order)

pub step_least : (lost : Option Gap) (first : ℕ) → BeginsAt first lost → 1 ≤ first → 1 ≤ after_lost first lost
step_least None first begins least = least
step_least (Some gap) first begins least = omega (arith, begins.0, begins.1, least)

-- the messages of a batch and their text
batch_text : (format : MessageFormat) (first : ℕ) (messages : List Message) →
    handed_text format (followed_by nothing first messages).first (followed_by nothing first messages).messages
    ≡ handed_text format first messages
unfolding handed_text
batch_text format first [] = refl
batch_text format first (message ∷ messages) = refl

batch_printed : (format : MessageFormat) (first : ℕ) (messages : List Message) →
    handed_text format (followed_by nothing first messages).first
    (printable format None (followed_by nothing first messages).messages)
    ≡ handed_text format first (printable format None messages)
unfolding handed_text messages_to_empty
batch_printed Lines first [] = refl
batch_printed Blocks first [] = refl
batch_printed BlocksToEmpty first [] = refl
batch_printed format first (message ∷ messages) = refl

batch_stop : (format : MessageFormat) (first : ℕ) (messages : List Message) →
    stop_after format None (followed_by nothing first messages).first (followed_by nothing first messages).messages
    ≡ stop_after format None first messages
unfolding empty_number
batch_stop Lines first [] = refl
batch_stop Blocks first [] = refl
batch_stop BlocksToEmpty first [] = refl
batch_stop format first (message ∷ messages) = refl

batch_messages : (first : ℕ) (messages : List Message) → (followed_by nothing first messages).messages ≡ messages
batch_messages first [] = refl
batch_messages first (message ∷ messages) = refl

-- ---- calls as a run

pub steps_of : List Call → List RepairStep
steps_of [] = []
steps_of (call ∷ calls) = call.step ∷ steps_of calls

pub outcomes_of : List Call → List Outcome
outcomes_of [] = []
outcomes_of (call ∷ calls) = call.outcome ∷ outcomes_of calls

abbrev pub gaps_of : List Call → List Gap
gaps_of calls = all_lost (outcomes_of calls)

pub repaired : (old new : Repairer) (calls : List Call) → Follow old calls new →
    IsRepaired old new (steps_of calls) (outcomes_of calls)
unfolding Follow steps_of outcomes_of
repaired old new [] follow = follow
repaired old new (call ∷ calls) follow = (
  call.after,
  subst (λ (r : Repairer). IsStepOf r call.after call.step call.outcome) follow.0 call.is,
  repaired call.after new calls follow.1,
)

-- ---- what the calls print

-- the laws of a repairer that are used
pub record RepairLaws : Type 0 where
  pub taken : TakenLaw
  pub pieces : (old new : Repairer) (steps : List RepairStep) (outcomes : List Outcome)
      (ran : IsRepaired old new steps outcomes) (published : List Message) (closed : Bool) →
      IsHonest old.arbiter.view published closed →
      AreHarmless old.arbiter.view.session published closed steps → ArePieces published old new steps outcomes ran
  pub honest : (old new : Repairer) (steps : List RepairStep) (outcomes : List Outcome)
      (ran : IsRepaired old new steps outcomes) (published : List Message) (closed : Bool) →
      IsHonest old.arbiter.view published closed →
      AreHarmless old.arbiter.view.session published closed steps → IsHonest new.arbiter.view published closed
  pub count : (old new : Repairer) (steps : List RepairStep) (outcomes : List Outcome) →
      IsRepaired old new steps outcomes → old.counts.lost < 2 ^ 64 →
      new.counts.lost ≡ u64_saturate (old.counts.lost + count_numbers (all_lost outcomes))

-- the datagram is true of the journal, or does not encode a packet of its session
abbrev pub IsGood : JournalState → Given → Type 0
IsGood journal given = IsHarmless journal given.bytes

harmless_bytes : (journal : JournalState) (bytes : List ℕ) → IsHarmless journal bytes →
    IsStepHarmless journal.session journal.messages journal.closed bytes
harmless_bytes journal bytes (inl is) =
    inl (record { packet = is.packet; spelled = is.spelled; session = is.session; so = is.so })
harmless_bytes journal bytes (inr foreign) = inr foreign

harmless_step : (journal : JournalState) (lines : ℕ) (step : RepairStep) →
    AllByRecursion (IsGood journal) (taken_by lines step) →
    AreHarmless journal.session journal.messages journal.closed (step ∷ [])
harmless_step journal lines (Take time origin datagram) good = (harmless_bytes journal datagram.now good.0, tt)
harmless_step journal lines (Poll time) good = tt
harmless_step journal lines (Lost time) good = tt
harmless_step journal lines (Pass time) good = tt

-- the calls printed messages of the journal, without those that they gave up
pub record ArePrinted (format : MessageFormat) (journal : JournalState) (calls : List Call) (old new : Repairer) :
    Type 0 where
  pub text : all_text format calls
      ≡ printed_text format journal.messages old.arbiter.view.next (gaps_of calls) new.arbiter.view.next
  pub order : AreRanges old.arbiter.view.next (gaps_of calls) new.arbiter.view.next
  pub honest : IsHonest new.arbiter.view journal.messages journal.closed

pub last_number : (journal : JournalState) (r : Repairer) → IsHonest r.arbiter.view journal.messages journal.closed →
    r.arbiter.view.next ≤ length journal.messages + 1
last_number journal r honest = omega (arith, honest.well_formed.ahead, honest.known)

-- what one call delivered
pub record IsDelivered (format : MessageFormat) (journal : JournalState) (call : Call) : Type 0 where
  pub text : call_text format call
      ≡ lost_text format call.outcome.lost
      ++ handed_text format (after_lost call.before.arbiter.view.next call.outcome.lost)
      (between journal.messages (after_lost call.before.arbiter.view.next call.outcome.lost)
      call.after.arbiter.view.next)
  pub cut : call_to_stop format call
      ≡ lost_text format call.outcome.lost
      ++ handed_text format (after_lost call.before.arbiter.view.next call.outcome.lost)
      (printable format None (between journal.messages
      (after_lost call.before.arbiter.view.next call.outcome.lost) call.after.arbiter.view.next))
  pub stop : call_stop format call
      ≡ stop_after format None (after_lost call.before.arbiter.view.next call.outcome.lost)
      (between journal.messages (after_lost call.before.arbiter.view.next call.outcome.lost)
      call.after.arbiter.view.next)
  pub begins : BeginsAt call.before.arbiter.view.next call.outcome.lost
  pub low : after_lost call.before.arbiter.view.next call.outcome.lost ≤ call.after.arbiter.view.next
  pub honest : IsHonest call.after.arbiter.view journal.messages journal.closed
  pub session : call.after.arbiter.view.session ≡ call.before.arbiter.view.session

module _ (laws : RepairLaws) (format : MessageFormat) (journal : JournalState) where
  pub delivered : (lines : ℕ) (call : Call) → IsHonest call.before.arbiter.view journal.messages journal.closed →
      call.before.arbiter.view.session ≡ journal.session →
      AllByRecursion (IsGood journal) (taken_by lines call.step) → IsDelivered format journal call
  delivered lines call honest own good =
      let published : List Message = journal.messages in
      let moved : HasMoved call.before call.after call.outcome call.is.handed =
      has_moved laws.taken call.before call.after call.step call.outcome call.is.handed call.is.stepped in
      let ran : IsRepaired call.before call.after (call.step ∷ []) (call.outcome ∷ []) = (call.after, call.is, refl) in
      let harmless : AreHarmless call.before.arbiter.view.session published journal.closed (call.step ∷ []) =
      subst (λ s. AreHarmless s published journal.closed (call.step ∷ [])) (sym own)
      (harmless_step journal lines call.step good) in
      let first : ℕ = after_lost call.before.arbiter.view.next call.outcome.lost in
      let after : IsHonest call.after.arbiter.view published journal.closed =
      laws.honest call.before call.after (call.step ∷ []) (call.outcome ∷ []) ran published journal.closed honest
      harmless in
      let piece : IsPiece published call.outcome.delivered.first call.outcome.delivered.end call.is.handed.messages =
      (laws.pieces call.before call.after (call.step ∷ []) (call.outcome ∷ []) ran published journal.closed honest
      harmless).0 in
      let here : call.is.handed.messages ≡ moved.messages =
      ap (λ (h : Handed). h.messages) moved.batch ∙ batch_messages first moved.messages in
      let there : IsPiece published first call.outcome.delivered.end moved.messages =
      subst (λ (l : List Message). IsPiece published first call.outcome.delivered.end l) here
      (subst (λ (n : ℕ). IsPiece published n call.outcome.delivered.end call.is.handed.messages)
      (ap (λ (g : Gap). g.first) moved.delivered) piece) in
      let low : first ≤ call.after.arbiter.view.next = omega (arith, moved.counted) in
      let messages : moved.messages ≡ between published first call.after.arbiter.view.next =
      handed_between published moved.messages first call.after.arbiter.view.next
      (step_least call.outcome.lost call.before.arbiter.view.next moved.lost honest.well_formed.first)
      (omega (arith, low, last_number journal call.after after)) (sym moved.counted) there.each in
      record {
        text =
            ap (λ (t : List ℕ). lost_text format call.outcome.lost ++ t)
            (ap (λ (h : Handed). handed_text format h.first h.messages) moved.batch
            ∙ batch_text format first moved.messages
            ∙ ap (handed_text format first) messages);
        cut =
            ap (λ (t : List ℕ). lost_text format call.outcome.lost ++ t)
            (ap (λ (h : Handed). handed_text format h.first (printable format None h.messages)) moved.batch
            ∙ batch_printed format first moved.messages
            ∙ ap (λ (l : List Message). handed_text format first (printable format None l)) messages);
        stop =
            ap (λ (h : Handed). stop_after format None h.first h.messages) moved.batch
            ∙ batch_stop format first moved.messages
            ∙ ap (λ (l : List Message). stop_after format None first l) messages;
        begins = moved.lost;
        low = low;
        honest = after;
        session = moved.session;
      }

  pub calls_printed : (lines : ℕ) (old new : Repairer) (calls : List Call) → Follow old calls new →
      IsHonest old.arbiter.view journal.messages journal.closed → old.arbiter.view.session ≡ journal.session →
      AllByRecursion (IsGood journal) (all_taken lines calls) → ArePrinted format journal calls old new
  unfolding Follow all_taken all_text printed_text handed_text outcomes_of
  calls_printed lines old new [] follow honest own good =
      let same : new.arbiter.view ≡ old.arbiter.view = ap (λ (r : Repairer). r.arbiter.view) follow in
      let next : new.arbiter.view.next ≡ old.arbiter.view.next = ap (λ (v : View). v.next) same in
      record {
        text = sym (ap (λ (n : ℕ). handed_text format old.arbiter.view.next
            (between journal.messages old.arbiter.view.next n)) next
            ∙ ap (handed_text format old.arbiter.view.next) (between_none journal.messages old.arbiter.view.next));
        order = omega (arith, next);
        honest = subst (λ (v : View). IsHonest v journal.messages journal.closed) (sym same) honest;
      }
  calls_printed lines old new (call ∷ calls) follow honest own good =
      let same : call.before.arbiter.view ≡ old.arbiter.view = ap (λ (r : Repairer). r.arbiter.view) follow.0 in
      let before : IsHonest call.before.arbiter.view journal.messages journal.closed =
      subst (λ (v : View). IsHonest v journal.messages journal.closed) (sym same) honest in
      let one : IsDelivered format journal call =
      delivered lines call before (ap (λ (v : View). v.session) same ∙ own)
      (each_front (IsGood journal) (taken_by lines call.step) (all_taken lines calls) good) in
      let rest : ArePrinted format journal calls call.after new =
      calls_printed lines call.after new calls follow.1 one.honest
      (one.session ∙ ap (λ (v : View). v.session) same ∙ own)
      (each_rest (IsGood journal) (taken_by lines call.step) (all_taken lines calls) good) in
      let end : ℕ = new.arbiter.view.next in
      let next : call.before.arbiter.view.next ≡ old.arbiter.view.next = ap (λ (v : View). v.next) same in
      record {
        text =
            ap (λ (t : List ℕ). t ++ all_text format calls) one.text
            ∙ ap (λ (t : List ℕ). (lost_text format call.outcome.lost
            ++ handed_text format (after_lost call.before.arbiter.view.next call.outcome.lost)
            (between journal.messages (after_lost call.before.arbiter.view.next call.outcome.lost)
            call.after.arbiter.view.next)) ++ t) rest.text
            ∙ step_text format journal.messages call.outcome.lost call.before.arbiter.view.next
            call.after.arbiter.view.next end (gaps_of calls) one.begins before.well_formed.first one.low
            (last_number journal new rest.honest) rest.order
            ∙ ap (λ (n : ℕ). printed_text format journal.messages n
            (with_gap call.outcome.lost (gaps_of calls)) end) next;
        order =
            subst (λ (n : ℕ). AreRanges n (with_gap call.outcome.lost (gaps_of calls)) end) next
            (step_order call.outcome.lost call.before.arbiter.view.next call.after.arbiter.view.next end (gaps_of calls)
            one.begins one.low rest.order);
        honest = rest.honest;
      }
