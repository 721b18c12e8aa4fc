-- What a receiver has written that stopped before an empty message.
use Rattle.std.proofs.Common.{◌≡◌, ℕ, suc, zero, ◌+◌, ◌-◌, ◌<◌, ◌≤◌, List, [], ◌∷◌, ◌++◌, length, drop, take, Option, None, Some}
use Rattle.std.proofs.Common.{ap, append-nil, arith, refl, subst, sym, ◌∙◌}
use Rattle.std.specs.List.{AllByRecursion}
use Rattle.std.specs.Prelude.{slice_get}
use Rattle.std.proofs.lemmas.List.{take-take}
use Rattle.mold_feed.proofs.PrintedLineLemmas.{between_none, length-between}
use Rattle.mold_feed.proofs.SentLemmas.{each_front, each_rest}
use Rattle.mold_input.specs.declared.message_format.MessageFormat.TheVariants.{BlocksToEmpty}
use Rattle.mold_listen.specs.Text.{empty_number, handed_text, messages_to_empty}
use Rattle.mold_pacing.specs.declared.gap.Gap.{Gap}
use Rattle.mold_receive.proofs.PrintingLemmas.{all_printable}
use Rattle.mold_receive.specs.Receiving.{Call, Follow, all_taken, call_stop, call_to_stop, earlier, lost_text, stop_in}
use Rattle.mold_receive.specs.Receiving.{taken_by, text_to_stop, unless_stopped}
use Rattle.mold_receiver.specs.Honest.{IsHonest}
use Rattle.mold_receiver.specs.Store.{Message}
use Rattle.mold_receiver.specs.View.{View}
use Rattle.mold_repair.specs.Laws.{with_gap}
use Rattle.mold_repair.specs.Run.{after_lost}
use Rattle.mold_repair.specs.declared.repairer.Repairer.{Repairer}
use Rattle.mold_session.specs.Answer.{between}
use Rattle.mold_session.specs.Journal.{JournalState}
use Rattle.mold_receive_law.proofs.PrintedLemmas.{IsDelivered, IsGood, RepairLaws, delivered, last_number, step_least, step_order}
use Rattle.mold_receive_law.proofs.PrintedLemmas.{step_text}
use Rattle.mold_receive_law.specs.Printed.{AreRanges, printed_text}

-- ---- the first empty message of a list

record CutAt (first number : ℕ) (messages : List Message) : Type 0 where
  low : first ≤ number
  high : number < first + length messages
  front : messages_to_empty messages ≡ take (number - first) messages
  empty : slice_get messages (number - first) ≡ Some []

cut_at : (first number : ℕ) (messages : List Message) → empty_number first messages ≡ Some number →
    CutAt first number messages
unfolding empty_number messages_to_empty
cut_at first number [] is = let no : ⊥ = cc in absurd no
cut_at first number ([] ∷ messages) is =
    let same : first ≡ number = cc in
    let none : 0 ≡ number - first = omega (arith, same) in
    record {
      low = omega (arith, same);
      high = omega (arith, same);
      front = ap (λ (k : ℕ). take k ([] ∷ messages)) none;
      empty = ap (λ (k : ℕ). slice_get ([] ∷ messages) k) (sym none);
    }
cut_at first number ((byte ∷ bytes) ∷ messages) is =
    let rest = cut_at (first + 1) number messages is in
    let one : Message = byte ∷ bytes in
    let next : suc (number - (first + 1)) ≡ number - first = omega (arith, rest.low) in
    record {
      low = omega (arith, rest.low);
      high = omega (arith, rest.high);
      front = ap (λ (l : List Message). one ∷ l) rest.front ∙ ap (λ (k : ℕ). take k (one ∷ messages)) next;
      empty = ap (λ (k : ℕ). slice_get (one ∷ messages) k) (sym next) ∙ rest.empty;
    }

-- ---- a part of a list

slice_take : (count : ℕ) (messages : List Message) (index : ℕ) (message : Message) →
    slice_get (take count messages) index ≡ Some message → slice_get messages index ≡ Some message
slice_take zero messages index message is = let no : ⊥ = cc in absurd no
slice_take (suc count) [] index message is = is
slice_take (suc count) (one ∷ messages) zero message is = is
slice_take (suc count) (one ∷ messages) (suc index) message is = slice_take count messages index message is

slice_drop : (count : ℕ) (messages : List Message) (index : ℕ) →
    slice_get (drop count messages) index ≡ slice_get messages (count + index)
slice_drop zero messages index = ap (slice_get messages) (let e : index ≡ 0 + index = omega arith in e)
slice_drop (suc count) [] index = refl
slice_drop (suc count) (one ∷ messages) index =
    slice_drop count messages index
    ∙ ap (slice_get (one ∷ messages)) (let e : suc (count + index) ≡ suc count + index = omega arith in e)

-- of the messages between two numbers, an empty one with this number is the first empty one
record CutBetween (published : List Message) (from number : ℕ) (messages : List Message) : Type 0 where
  low : from ≤ number
  most : number ≤ length published
  front : messages_to_empty messages ≡ between published from number
  empty : slice_get published (number - 1) ≡ Some []

cut_between : (published : List Message) (from to number : ℕ) → 1 ≤ from → to ≤ length published + 1 →
    empty_number from (between published from to) ≡ Some number →
    CutBetween published from number (between published from to)
cut_between published from to number least most is =
    let cut = cut_at from number (between published from to) is in
    let count = length-between published from to least most in
    let rest : List Message = drop (from - 1) published in
    record {
      low = cut.low;
      most = omega (arith, cut.high, count, cut.low, most);
      front = cut.front
          ∙ take-take (number - from) (to - from) rest (omega (arith, cut.high, count, cut.low));
      empty = ap (slice_get published)
          (let e : number - 1 ≡ from - 1 + (number - from) = omega (arith, least, cut.low) in e)
          ∙ sym (slice_drop (from - 1) published (number - from))
          ∙ slice_take (to - from) rest (number - from) [] cut.empty;
    }

-- ---- the calls

pub record AreCut (journal : JournalState) (calls : List Call) (next number : ℕ) : Type 0 where
  pub gaps : List Gap
  pub order : AreRanges next gaps number
  pub most : number ≤ length journal.messages
  pub empty : slice_get journal.messages (number - 1) ≡ Some []
  pub text : text_to_stop BlocksToEmpty calls ≡ printed_text BlocksToEmpty journal.messages next gaps number

cut_call : (journal : JournalState) (call : Call) (calls : List Call) (number : ℕ) (stop : Option ℕ) →
    IsDelivered BlocksToEmpty journal call → 1 ≤ call.before.arbiter.view.next →
    call.after.arbiter.view.next ≤ length journal.messages + 1 → call_stop BlocksToEmpty call ≡ stop →
    earlier stop (stop_in BlocksToEmpty calls) ≡ Some number →
    (stop_in BlocksToEmpty calls ≡ Some number → AreCut journal calls call.after.arbiter.view.next number) →
    AreCut journal (call ∷ calls) call.before.arbiter.view.next number
unfolding text_to_stop printed_text handed_text
cut_call journal call calls number None one least high is found rest =
    let more = rest found in
    let lost = call.outcome.lost in
    let before = call.before.arbiter.view.next in
    let after = call.after.arbiter.view.next in
    let later : List ℕ = text_to_stop BlocksToEmpty calls in
    record {
      gaps = with_gap lost more.gaps;
      order = step_order lost before after number more.gaps one.begins one.low more.order;
      most = more.most;
      empty = more.empty;
      text = ap (λ (s : Option ℕ). call_to_stop BlocksToEmpty call ++ unless_stopped s later) is
          ∙ ap (λ (l : List Message). (lost_text BlocksToEmpty lost
          ++ handed_text BlocksToEmpty call.is.handed.first l) ++ later)
          (all_printable BlocksToEmpty call.is.handed.first call.is.handed.messages is)
          ∙ ap (λ (t : List ℕ). t ++ later) one.text
          ∙ ap (λ (t : List ℕ). (lost_text BlocksToEmpty lost
          ++ handed_text BlocksToEmpty (after_lost before lost)
          (between journal.messages (after_lost before lost) after)) ++ t) more.text
          ∙ step_text BlocksToEmpty journal.messages lost before after number more.gaps one.begins least one.low
          (omega (arith, more.most)) more.order;
    }
cut_call journal call calls number (Some empty) one least high is found rest =
    let lost = call.outcome.lost in
    let before = call.before.arbiter.view.next in
    let after = call.after.arbiter.view.next in
    let first : ℕ = after_lost before lost in
    let cut = cut_between journal.messages first after number (step_least lost before one.begins least) high
    (sym one.stop ∙ is ∙ found) in
    let printed : List ℕ =
    lost_text BlocksToEmpty lost ++ handed_text BlocksToEmpty first (between journal.messages first number) in
    record {
      gaps = with_gap lost [];
      order = step_order lost before number number [] one.begins cut.low (omega arith);
      most = cut.most;
      empty = cut.empty;
      text = ap (λ (s : Option ℕ). call_to_stop BlocksToEmpty call
          ++ unless_stopped s (text_to_stop BlocksToEmpty calls)) is
          ∙ append-nil (call_to_stop BlocksToEmpty call)
          ∙ one.cut
          ∙ ap (λ (l : List Message). lost_text BlocksToEmpty lost ++ handed_text BlocksToEmpty first l) cut.front
          ∙ sym (append-nil printed)
          ∙ ap (λ (l : List Message). printed ++ handed_text BlocksToEmpty number l)
          (sym (between_none journal.messages number))
          ∙ step_text BlocksToEmpty journal.messages lost before number number [] one.begins least cut.low
          (omega (arith, cut.most)) (omega arith);
    }

module _ (laws : RepairLaws) (journal : JournalState) where
  pub calls_cut : (lines number : ℕ) (old new : Repairer) (calls : List Call) → Follow old calls new →
      IsHonest old.arbiter.view journal.messages journal.closed → old.arbiter.view.session ≡ journal.session →
      AllByRecursion (IsGood journal) (all_taken lines calls) → stop_in BlocksToEmpty calls ≡ Some number →
      AreCut journal calls old.arbiter.view.next number
  unfolding Follow all_taken stop_in
  calls_cut lines number old new [] follow honest own good found = let no : ⊥ = cc in absurd no
  calls_cut lines number old new (call ∷ calls) follow honest own good found =
      let same : call.before.arbiter.view ≡ old.arbiter.view = ap (λ (r : Repairer). r.arbiter.view) follow.0 in
      let before : IsHonest call.before.arbiter.view journal.messages journal.closed =
      subst (λ (v : View). IsHonest v journal.messages journal.closed) (sym same) honest in
      let one : IsDelivered BlocksToEmpty journal call =
      delivered laws BlocksToEmpty journal lines call before (ap (λ (v : View). v.session) same ∙ own)
      (each_front (IsGood journal) (taken_by lines call.step) (all_taken lines calls) good) in
      subst (λ (n : ℕ). AreCut journal (call ∷ calls) n number) (ap (λ (v : View). v.next) same)
      (cut_call journal call calls number (call_stop BlocksToEmpty call) one before.well_formed.first
      (last_number journal call.after one.honest) refl found
      (λ later.
      calls_cut lines number call.after new calls follow.1 one.honest
      (one.session ∙ ap (λ (v : View). v.session) same ∙ own)
      (each_rest (IsGood journal) (taken_by lines call.step) (all_taken lines calls) good) later))
