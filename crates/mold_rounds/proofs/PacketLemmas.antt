-- What one packet of a plan does to the receiver that awaits it.
use Rattle.std.proofs.Common.{◌≡◌, ℕ, ◌+◌, ◌-◌, ◌<◌, ◌≤◌, List, [], ◌∷◌, length, sym, ap, subst}
use Rattle.std.proofs.Common.{◌∙◌, inr, arith, leb, Bool}
use Rattle.std.proofs.lemmas.Bool.{cond-true, le-leb, true≢false}
use Rattle.std.specs.Prelude.{Option, None, Some, Result, Ok, Err, is_ok, slice_get, unwrap_or}
use Rattle.std.specs.Option.{option_or}
use Rattle.std.specs.Result.{result_unwrap_or}
use Rattle.mold_receiver.specs.Batch.{Handed, followed_by}
use Rattle.mold_receiver.specs.Gap.{IsTakenInGap, Took}
use Rattle.mold_receiver.specs.Receive.{HasTaken, Reception, data_packet, handed_on, receive}
use Rattle.mold_receiver.specs.Store.{Message}
use Rattle.mold_receiver.specs.View.{View, IsWellFormed}
use Rattle.mold_receiver.specs.Wanted.{IsGap, missing}
use Rattle.mold_rule.specs.declared.refusal.Refusal.{Refusal}
use Rattle.mold_receiver.specs.declared.taken.Taken.{Taken}
use Rattle.mold_rounds.proofs.RoundsLemmas.{leaves_gap}
use Rattle.mold_rounds.specs.CatchUp.{filled, message_of}
use Rattle.mold_rounds.specs.Taking.{Awaits, TakesOne}
use Rattle.mold_session.specs.Answer.{PlanState, IsSpent, SendsNext, moved, next_packet, next_part, planned}
use Rattle.mold_session.specs.Journal.{JournalState}
use Rattle.mold_session.specs.Truthful.{IsTrueDatagram}
use Rattle.mold_wire.specs.Packet.{Spells}
use Rattle.mold_wire.specs.Truth.{Carries, IsTruePacket, published_at}
use Rattle.mold_wire.specs.declared.packet.Packet.{Packet}

-- A plan that isn't spent has messages left.
pub has_more : (plan : PlanState) → plan.from ≤ plan.to → (IsSpent plan → ⊥) → plan.from < plan.to
has_more plan ordered more = omega (arith, ordered, λ (none : plan.from ≡ plan.to). more (inr none))

-- The next packet of a plan reaches the view that awaits it.
pub record Comes (v : View) (journal : JournalState) (limit : ℕ) (plan : PlanState) (bytes : List ℕ) : Type 0 where
  pub awaits : Awaits v journal plan
  pub sends : SendsNext journal.messages limit plan
  pub begins : v.next ≡ plan.from
  pub gap : IsGap v awaits.end
  pub taken : IsTakenInGap v (next_part journal.messages limit plan) bytes
  pub published : (number : ℕ) (m : Message) → v.next ≤ number →
      slice_get (next_part journal.messages limit plan) (number - v.next) ≡ Some m →
      published_at journal.messages number ≡ Some m

-- The law on packets in the gap.
abbrev pub TakesInGap : Type 0
TakesInGap = (v : View) (end : ℕ) (messages : List Message) (bytes : List ℕ) →
    IsWellFormed v → IsGap v end → v.next + length messages ≤ end →
    Spells (data_packet v.session v.next messages) bytes → IsTakenInGap v messages bytes

abbrev pub OnePacket : Type 0
OnePacket = (one other : Packet) (bytes : List ℕ) → Spells one bytes → Spells other bytes → one ≡ other

abbrev pub CarriesPublished : Type 0
CarriesPublished = (packet : Packet) (published : List Message) (closed : Bool) (number : ℕ) (message : Message) →
    IsTruePacket packet published closed → Carries packet number message → published_at published number ≡ Some message

pub comes : TakesInGap → OnePacket → CarriesPublished → (v : View) (journal : JournalState) (limit : ℕ)
    (plan : PlanState) (bytes : List ℕ) → Awaits v journal plan → (IsSpent plan → ⊥) →
    SendsNext journal.messages limit plan → Spells (next_packet journal.messages limit plan) bytes →
    IsTrueDatagram journal bytes → Comes v journal limit plan bytes
comes takes one carries v journal limit plan bytes awaits more sends spelled truth =
    let part : List Message = next_part journal.messages limit plan in
    let at = awaits.gap (has_more plan awaits.ordered more) in
    let same : next_packet journal.messages limit plan ≡ data_packet v.session v.next part =
    λ i. data_packet (awaits.session i) (sym at.0 i) part
    in
    let here : Spells (data_packet v.session v.next part) bytes = subst (λ (p : Packet). Spells p bytes) same spelled in
    let said : IsTruePacket (data_packet v.session v.next part) journal.messages journal.closed =
    subst (λ (p : Packet). IsTruePacket p journal.messages journal.closed)
    (one truth.packet (data_packet v.session v.next part) bytes truth.spelled here) truth.so
    in
    record {
      awaits = awaits;
      sends = sends;
      begins = at.0;
      gap = at.1;
      taken = takes v awaits.end part bytes awaits.well_formed at.1
          (omega (arith, at.0, sends.within, awaits.within)) here;
      published = λ number m from is.
          carries (data_packet v.session v.next part) journal.messages journal.closed number m said
          (cond-true (leb v.next number) (slice_get part (number - v.next)) None (le-leb v.next number from) ∙ is);
    }

-- A datagram has only one reception.
one_reception : (v : View) (bytes : List ℕ) (r s : Reception) → receive v bytes ≡ Ok r → receive v bytes ≡ Ok s → r ≡ s
one_reception v bytes r s one other =
    ap (λ (x : Result Reception Refusal). result_unwrap_or x r) (sym one ∙ other)

-- Each delivered message is the one that was stored or published with its number.
hands_filled : (v w : View) (journal : JournalState) (limit : ℕ) (plan : PlanState) (bytes : List ℕ) →
    (is : Comes v journal limit plan bytes) → w ≡ is.taken.reception.view →
    handed_on v v.next (next_part journal.messages limit plan) ≡ filled v journal.messages w.next
hands_filled v w journal limit plan bytes is same =
    let part : List Message = next_part journal.messages limit plan in
    is.taken.hands.handed (message_of v journal.messages)
    (λ number m from below at.
    let lacked = is.gap.lacked number (omega (arith, below, is.begins, is.sends.within, is.awaits.within)) in
    sym (ap (λ (o : Option Message). unwrap_or (option_or o (published_at journal.messages number)) []) lacked
    ∙ ap (λ (o : Option Message). unwrap_or o []) (is.published number m from at)))
    (λ number m from stored.
    sym (ap (λ (o : Option Message). unwrap_or (option_or o (published_at journal.messages number)) []) stored))
    ∙ ap (λ (x : View). filled v journal.messages x.next) (sym same)

-- The rest of the plan is for messages that are then missing.
still_awaits : (v w : View) (journal : JournalState) (limit : ℕ) (plan : PlanState) (bytes : List ℕ) →
    Comes v journal limit plan bytes → IsWellFormed w → Took v (length (next_part journal.messages limit plan)) w →
    Awaits w journal (moved plan (length (next_part journal.messages limit plan)))
still_awaits v w journal limit plan bytes is well took =
    let count : ℕ = length (next_part journal.messages limit plan) in
    record {
      end = is.awaits.end;
      well_formed = well;
      session = is.awaits.session ∙ sym took.session;
      own = is.awaits.own;
      first = omega (arith, is.awaits.first);
      ordered = is.sends.within;
      held = is.awaits.held;
      within = is.awaits.within;
      gap = λ more.
          let left = leaves_gap v is.awaits.end count w is.gap took
          (omega (arith, more, is.begins, is.awaits.within)) in
          (left.next ∙ ap (λ (n : ℕ). n + count) is.begins, left.gap);
    }

pub takes_one : (v w : View) (before after : Handed) (journal : JournalState) (limit : ℕ) (plan behind : PlanState)
    (bytes : List ℕ) (told : Taken) → Comes v journal limit plan bytes → HasTaken v bytes before w after told →
    behind ≡ moved plan (length (next_part journal.messages limit plan)) →
    TakesOne v before journal limit plan w after behind
takes_one v w before after journal limit plan behind bytes told is has now =
    let part : List Message = next_part journal.messages limit plan in
    let one = one_reception v bytes has.reception is.taken.reception has.received is.taken.received in
    let view : w ≡ is.taken.reception.view = has.view ∙ ap (λ (r : Reception). r.view) one in
    let took : Took v (length part) w = subst (λ (x : View). Took v (length part) x) (sym view) is.taken.took in
    let well : IsWellFormed w = subst IsWellFormed (sym view) is.taken.well_formed in
    record {
      part = part;
      begins = sym is.begins;
      moved = ap (λ (p : PlanState). p.from) now;
      to = ap (λ (p : PlanState). p.to) now;
      sent = is.sends.sent
          ∙ (λ i. data_packet (is.awaits.session i) (sym is.begins i) part
          ∷ planned journal.messages limit (sym now i));
      view = view ∙ is.taken.view;
      took = took;
      fewer = is.taken.fewer ∙ ap (λ (x : View). length part + missing x) (sym view);
      awaits = subst (λ (p : PlanState). Awaits w journal p) (sym now)
          (still_awaits v w journal limit plan bytes is well took);
      batch = has.batch
          ∙ ap (followed_by before v.next)
          (ap (λ (r : Reception). r.handed) one ∙ is.taken.handed
          ∙ hands_filled v w journal limit plan bytes is view);
    }

-- The packet is refused only if an allocation fails.
pub never_refused : (v : View) (bytes : List ℕ) (r : Reception) (refused : Refusal) → receive v bytes ≡ Ok r →
    receive v bytes ≡ Err refused → ⊥
never_refused v bytes r refused taken not_taken =
    true≢false (ap (λ (x : Result Reception Refusal). is_ok x) (sym taken ∙ not_taken))
