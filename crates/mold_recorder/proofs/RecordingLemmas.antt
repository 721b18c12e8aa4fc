-- Calls of the repairer whose messages are appended to a durable journal.
use Rattle.std.proofs.Common.{◌≡◌, ◌⊎◌, ℕ, ◌+◌, length, length-append, arith}
use Rattle.std.proofs.Common.{Bool, false, true, List, [], ◌∷◌, ◌++◌, refl, sym, ap, subst, ◌∙◌, append_assoc}
use Rattle.std.proofs.Common.{append-nil}
use Rattle.std.proofs.KnownBytes.{Appends-nil, Appends-trans}
use Rattle.std.specs.Io.KnownBytes.{Appends}
use Rattle.std.specs.Prelude.{Err, None, Ok, Option}
use Rattle.mold_durable.specs.DurableJournal.{DurableState}
use Rattle.mold_input.specs.declared.message_format.MessageFormat.{MessageFormat}
use Rattle.mold_port_set.specs.PortSet.{Given, PortSetState, Sent}
use Rattle.mold_receive.specs.Receiving.{AreAsking, Call, EndsIn, Follow, HasAsked, IsAsking, ReceiverState, all_sent}
use Rattle.mold_receive.specs.Receiving.{all_taken, taken_by}
use Rattle.mold_receive.proofs.CallLemmas.{appended, follow_then, sent_then, sends_none, taken_then}
use Rattle.mold_receiver.specs.Batch.{Handed, followed_by}
use Rattle.mold_receiver.specs.Store.{Message}
use Rattle.mold_repair.specs.Laws.{AreInOrder, HasNumbers}
use Rattle.mold_repair.specs.Run.{HasStepped, IsRepaired, IsStepOf, after_lost, delivers, nothing}
use Rattle.mold_repair.specs.declared.outcome.Outcome.{Outcome}
use Rattle.mold_repair.specs.declared.repairer.Repairer.{Repairer}
use Rattle.mold_repair.specs.declared.step.RepairStep.{RepairStep}
use Rattle.mold_repair.specs.declared.step.RepairStep.TheVariants.{Take, Poll, Lost, Pass}
use Rattle.mold_recorder.specs.Appending.{HasAppended, HasAppendedSome, LeavesParts}
use Rattle.mold_recorder.specs.Recording.{AreWhole, HasCalled, HasDelivered, HasRecorded, HasSaid, HasStopped}
use Rattle.mold_recorder.specs.Recording.{HasTaken, RecorderState, all_delivered}
use Rattle.mold_recorder.proofs.AppendingLemmas.{appended_none, appended_then, some_all, some_saved, some_then}

-- ---- lists of calls

delivered_more : (calls more : List Call) →
    all_delivered (calls ++ more) ≡ all_delivered calls ++ all_delivered more
unfolding all_delivered
delivered_more [] more = refl
delivered_more (call ∷ calls) more =
    ap (λ (ms : List Message). call.is.handed.messages ++ ms) (delivered_more calls more)
    ∙ sym (append_assoc call.is.handed.messages (all_delivered calls) (all_delivered more))

whole_more : (calls more : List Call) → AreWhole calls → AreWhole more → AreWhole (calls ++ more)
unfolding AreWhole
whole_more [] more first last = last
whole_more (call ∷ calls) more first last = (first.0, whole_more calls more first.1 last)

-- A call that asks takes, delivers and gives up nothing.
asks_nothing : (old new : Repairer) (step : RepairStep) (handed : Handed) (outcome : Outcome) → IsAsking step →
    HasStepped old new step handed outcome → (handed.messages ≡ []) × (outcome.lost ≡ None)
asks_nothing old new (Take time origin datagram) handed outcome asks stepped = absurd asks
asks_nothing old new (Poll time) handed outcome asks stepped =
    (ap (λ (h : Handed). h.messages) stepped.batch, ap (λ (o : Outcome). o.lost) stepped.returned)
asks_nothing old new (Lost time) handed outcome asks stepped = absurd asks
asks_nothing old new (Pass time) handed outcome asks stepped =
    (ap (λ (h : Handed). h.messages) stepped.batch, ap (λ (o : Outcome). o.lost) stepped.returned)

takes_nothing : (lines : ℕ) (step : RepairStep) → IsAsking step → taken_by lines step ≡ []
takes_nothing lines (Take time origin datagram) asks = absurd asks
takes_nothing lines (Poll time) asks = refl
takes_nothing lines (Lost time) asks = absurd asks
takes_nothing lines (Pass time) asks = refl

asked_delivered : (calls : List Call) → AreAsking calls → all_delivered calls ≡ []
unfolding AreAsking all_delivered
asked_delivered [] asks = refl
asked_delivered (call ∷ calls) asks =
    ap (λ (ms : List Message). ms ++ all_delivered calls)
    (asks_nothing call.before call.after call.step call.is.handed call.outcome asks.0 call.is.stepped).0
    ∙ asked_delivered calls asks.1

asked_whole : (calls : List Call) → AreAsking calls → AreWhole calls
unfolding AreAsking AreWhole
asked_whole [] asks = tt
asked_whole (call ∷ calls) asks = (
  (asks_nothing call.before call.after call.step call.is.handed call.outcome asks.0 call.is.stepped).1,
  asked_whole calls asks.1,
)

asked_taken : (lines : ℕ) (calls : List Call) → AreAsking calls → all_taken lines calls ≡ []
unfolding AreAsking all_taken
asked_taken lines [] asks = refl
asked_taken lines (call ∷ calls) asks =
    ap (λ (g : List Given). g ++ all_taken lines calls) (takes_nothing lines call.step asks.0)
    ∙ asked_taken lines calls asks.1

-- ---- what a receiver delivered

-- Nothing was called.
pub delivered_none : {P : Type 0} (lines : ℕ) (servers : List P) (modeled : Bool) (old new : RecorderState P) →
    new.repairer ≡ old.repairer → (modeled ≡ true → new.ports.given ≡ old.ports.given) →
    (modeled ≡ true → new.ports.sent ≡ old.ports.sent) → HasDelivered lines servers modeled [] old new []
unfolding Follow all_taken all_sent AreWhole all_delivered
delivered_none lines servers modeled old new repairer given sent = record {
  calls = [];
  follow = repairer;
  since = [];
  given = λ is. given is ∙ sym (append-nil old.ports.given);
  taken = λ is. refl;
  sent = λ is. sent is ∙ sym (append-nil old.ports.sent);
  whole = tt;
  delivered = refl;
}

-- Requests were sent.
pub delivered_asked : {P : Type 0} (lines : ℕ) (servers : List P) (format : MessageFormat) (modeled : Bool)
    (old new : ReceiverState P) → HasAsked lines servers format modeled old new →
    HasDelivered lines servers modeled [] (record { repairer = old.repairer; ports = old.ports })
    (record { repairer = new.repairer; ports = new.ports }) []
delivered_asked lines servers format modeled old new asked =
    let calls = asked.received.calls in
    let none = asked_taken lines calls asked.asking in
    record {
      calls = calls;
      follow = asked.received.follow;
      since = [];
      given = λ is. asked.received.taken is ∙ ap (λ (g : List Given). old.ports.given ++ g) none;
      taken = λ is. none;
      sent = asked.received.sent;
      whole = asked_whole calls asked.asking;
      delivered = sym (asked_delivered calls asked.asking);
    }

-- A step that returned no request and gave up nothing is a call.
pub called_step : (step : RepairStep) (old new : Repairer) (handed : Handed) →
    HasStepped old new step handed (delivers old new None None) → new.options ≡ old.options →
    HasCalled step old new handed.messages
called_step step old new handed stepped options = record {
  call = record {
    before = old;
    after = new;
    step = step;
    outcome = delivers old new None None;
    is = record { handed = handed; stepped = stepped; options = options };
    fails = false;
  };
  from = refl;
  to = refl;
  stepped = refl;
  asked = refl;
  whole = refl;
  delivered = refl;
}

-- One call, with a datagram that the ports gave before, or none.
pub delivered_first : {P : Type 0} (lines : ℕ) (servers : List P) (modeled : Bool) (step : RepairStep)
    (old new : RecorderState P) (messages : List Message) → HasCalled step old.repairer new.repairer messages →
    new.ports ≡ old.ports → HasDelivered lines servers modeled (taken_by lines step) old new messages
unfolding Follow all_taken all_sent AreWhole all_delivered
delivered_first {P = P} lines servers modeled step old new messages made ports = record {
  calls = made.call ∷ [];
  follow = (made.from, sym made.to);
  since = [];
  given = λ is. ap (λ (p : PortSetState P). p.given) ports ∙ sym (append-nil old.ports.given);
  taken = λ is. ap (λ (s : RepairStep). taken_by lines s ++ []) made.stepped;
  sent = λ is. ap (λ (p : PortSetState P). p.sent) ports ∙ sym (append-nil old.ports.sent)
      ∙ ap (λ (l : List (Sent P)). old.ports.sent ++ (l ++ []))
      (sym (sends_none lines servers made.call.fails made.call.outcome.ask made.asked));
  whole = (made.whole, tt);
  delivered = made.delivered ∙ sym (append-nil made.call.is.handed.messages);
}

-- One call, with the datagram that the ports just gave.
pub delivered_one : {P : Type 0} (lines : ℕ) (servers : List P) (modeled : Bool) (step : RepairStep)
    (old new : RecorderState P) (messages : List Message) → HasCalled step old.repairer new.repairer messages →
    (modeled ≡ true → new.ports.given ≡ old.ports.given ++ taken_by lines step) →
    (modeled ≡ true → new.ports.sent ≡ old.ports.sent) → HasDelivered lines servers modeled [] old new messages
unfolding Follow all_taken all_sent AreWhole all_delivered
delivered_one {P = P} lines servers modeled step old new messages made given sent = record {
  calls = made.call ∷ [];
  follow = (made.from, sym made.to);
  since = taken_by lines step;
  given = given;
  taken = λ is. ap (λ (s : RepairStep). taken_by lines s ++ []) made.stepped ∙ append-nil (taken_by lines step);
  sent = λ is. sent is ∙ sym (append-nil old.ports.sent)
      ∙ ap (λ (l : List (Sent P)). old.ports.sent ++ (l ++ []))
      (sym (sends_none lines servers made.call.fails made.call.outcome.ask made.asked));
  whole = (made.whole, tt);
  delivered = made.delivered ∙ sym (append-nil made.call.is.handed.messages);
}

-- Calls, and then more calls.
pub delivered_then : {P : Type 0} (lines : ℕ) (servers : List P) (modeled : Bool) (first : List Given)
    (old mid new : RecorderState P) (messages more : List Message) →
    HasDelivered lines servers modeled first old mid messages → HasDelivered lines servers modeled [] mid new more →
    HasDelivered lines servers modeled first old new (messages ++ more)
delivered_then lines servers modeled first old mid new messages more one two = record {
  calls = one.calls ++ two.calls;
  follow = follow_then old.repairer mid.repairer new.repairer one.calls two.calls one.follow two.follow;
  since = one.since ++ two.since;
  given = λ is. appended old.ports.given mid.ports.given new.ports.given _ _ _ (one.given is) (two.given is) refl;
  taken = λ is. taken_then lines one.calls two.calls
      ∙ ap (λ (l : List Given). l ++ all_taken lines two.calls) (one.taken is)
      ∙ ap (λ (l : List Given). (first ++ one.since) ++ l) (two.taken is)
      ∙ append_assoc first one.since two.since;
  sent = λ is. appended old.ports.sent mid.ports.sent new.ports.sent _ _ _ (one.sent is) (two.sent is)
      (sent_then lines servers one.calls two.calls);
  whole = whole_more one.calls two.calls one.whole two.whole;
  delivered = ap (λ (ms : List Message). ms ++ more) one.delivered
      ∙ ap (λ (ms : List Message). all_delivered one.calls ++ ms) two.delivered
      ∙ sym (delivered_more one.calls two.calls);
}

-- ---- what a recorder keeps

module _ {S : Type 0} (shows may_leave : S → List ℕ → Type 0) (moment : S → ℕ) (left_since : S → ℕ → List ℕ → Type 0)
    (only_now : (storage : S) (bytes : List ℕ) → left_since storage (moment storage) bytes → may_leave storage bytes)
    {P : Type 0} (lines : ℕ) (servers : List P) (modeled : Bool) where
  -- A success is less than a fault.
  pub stopped_of : (first : List Given) (old new : RecorderState P) (before after : DurableState S) →
      HasRecorded lines servers modeled shows may_leave moment left_since first old new before after →
      HasStopped lines servers modeled shows may_leave moment left_since first old new before after
  stopped_of first old new before after recorded = record {
    messages = recorded.messages;
    delivered = recorded.delivered;
    some = some_all shows may_leave moment left_since before after recorded.messages recorded.appended;
  }

  -- The journal was not used, and nothing was delivered.
  pub recorded_still : (first : List Given) (old new : RecorderState P) (journal : DurableState S) →
      HasDelivered lines servers modeled first old new [] →
      HasRecorded lines servers modeled shows may_leave moment left_since first old new journal journal
  recorded_still first old new journal delivered = record {
    messages = [];
    delivered = delivered;
    appended = appended_none shows may_leave moment left_since only_now journal;
  }

  -- Nothing happened yet.
  pub recorded_yet : (state : RecorderState P) (journal : DurableState S) →
      HasRecorded lines servers modeled shows may_leave moment left_since [] state state journal journal
  recorded_yet state journal =
      recorded_still [] state state journal (delivered_none lines servers modeled state state refl (λ is. refl)
      (λ is. refl))

  -- One part after the other.
  pub recorded_then : (first : List Given) (old mid new : RecorderState P) (before between after : DurableState S) →
      HasRecorded lines servers modeled shows may_leave moment left_since first old mid before between →
      HasRecorded lines servers modeled shows may_leave moment left_since [] mid new between after →
      HasRecorded lines servers modeled shows may_leave moment left_since first old new before after
  recorded_then first old mid new before between after one two = record {
    messages = one.messages ++ two.messages;
    delivered = delivered_then lines servers modeled first old mid new one.messages two.messages one.delivered
        two.delivered;
    appended = appended_then shows may_leave moment left_since only_now before between after one.messages two.messages
        one.appended two.appended;
  }

  pub stopped_then : (first : List Given) (old mid new : RecorderState P) (before between after : DurableState S) →
      HasRecorded lines servers modeled shows may_leave moment left_since first old mid before between →
      HasStopped lines servers modeled shows may_leave moment left_since [] mid new between after →
      HasStopped lines servers modeled shows may_leave moment left_since first old new before after
  stopped_then first old mid new before between after one two = record {
    messages = one.messages ++ two.messages;
    delivered = delivered_then lines servers modeled first old mid new one.messages two.messages one.delivered
        two.delivered;
    some = some_then shows may_leave moment left_since only_now before between after one.messages two.messages
        one.appended two.some;
  }

  -- A datagram was taken, which the ports gave before, or none was.
  pub recorded_first : {T E : Type 0} (step : RepairStep) (old new : RecorderState P) (before after : DurableState S)
      (value : T) →
      HasTaken {E = E} shows may_leave moment left_since step old.repairer new.repairer before after (Ok value) →
      new.ports ≡ old.ports →
      HasRecorded lines servers modeled shows may_leave moment left_since (taken_by lines step) old new before after
  recorded_first step old new before after value taken ports = record {
    messages = taken.messages;
    delivered = delivered_first lines servers modeled step old new taken.messages taken.called ports;
    appended = taken.appended;
  }

  pub stopped_first : {T E : Type 0} (step : RepairStep) (old new : RecorderState P) (before after : DurableState S)
      (error : E) →
      HasTaken {T = T} shows may_leave moment left_since step old.repairer new.repairer before after (Err error) →
      new.ports ≡ old.ports →
      HasStopped lines servers modeled shows may_leave moment left_since (taken_by lines step) old new before after
  stopped_first step old new before after error taken ports = record {
    messages = taken.messages;
    delivered = delivered_first lines servers modeled step old new taken.messages taken.called ports;
    some = taken.some;
  }

  -- A datagram was taken that the ports just gave.
  pub recorded_one : {T E : Type 0} (step : RepairStep) (old new : RecorderState P) (before after : DurableState S)
      (value : T) →
      HasTaken {E = E} shows may_leave moment left_since step old.repairer new.repairer before after (Ok value) →
      (modeled ≡ true → new.ports.given ≡ old.ports.given ++ taken_by lines step) →
      (modeled ≡ true → new.ports.sent ≡ old.ports.sent) →
      HasRecorded lines servers modeled shows may_leave moment left_since [] old new before after
  recorded_one step old new before after value taken given sent = record {
    messages = taken.messages;
    delivered = delivered_one lines servers modeled step old new taken.messages taken.called given sent;
    appended = taken.appended;
  }

  pub stopped_one : {T E : Type 0} (step : RepairStep) (old new : RecorderState P) (before after : DurableState S)
      (error : E) →
      HasTaken {T = T} shows may_leave moment left_since step old.repairer new.repairer before after (Err error) →
      (modeled ≡ true → new.ports.given ≡ old.ports.given ++ taken_by lines step) →
      (modeled ≡ true → new.ports.sent ≡ old.ports.sent) →
      HasStopped lines servers modeled shows may_leave moment left_since [] old new before after
  stopped_one step old new before after error taken given sent = record {
    messages = taken.messages;
    delivered = delivered_one lines servers modeled step old new taken.messages taken.called given sent;
    some = taken.some;
  }

  -- The receiver did nothing, and a commit was made.
  pub recorded_commit : (state : RecorderState P) (before after : DurableState S) →
      HasAppended shows may_leave moment left_since before after [] →
      HasRecorded lines servers modeled shows may_leave moment left_since [] state state before after
  recorded_commit state before after appended = record {
    messages = [];
    delivered = delivered_none lines servers modeled state state refl (λ is. refl) (λ is. refl);
    appended = appended;
  }

  pub stopped_commit : (state : RecorderState P) (before after : DurableState S) →
      HasAppendedSome shows may_leave moment left_since before after [] →
      HasStopped lines servers modeled shows may_leave moment left_since [] state state before after
  stopped_commit state before after some = record {
    messages = [];
    delivered = delivered_none lines servers modeled state state refl (λ is. refl) (λ is. refl);
    some = some;
  }

  -- There was a fault, and then what waits was committed.
  pub stopped_saved : (first : List Given) (old new : RecorderState P) (before between after : DurableState S) →
      HasStopped lines servers modeled shows may_leave moment left_since first old new before between →
      (between.broken ≡ true → after ≡ between) →
      (after.broken ≡ true) ⊎ HasAppended shows may_leave moment left_since between after [] →
      LeavesParts shows may_leave moment left_since between after [] →
      HasStopped lines servers modeled shows may_leave moment left_since first old new before after
  stopped_saved first old new before between after stopped unwritten committed leaves = record {
    messages = stopped.messages;
    delivered = stopped.delivered;
    some = some_saved shows may_leave moment left_since only_now before between after stopped.messages stopped.some
        unwritten committed leaves;
  }

  -- Nothing was done, and then there was a fault.
  pub stopped_still : (old new : RecorderState P) (journal : DurableState S) →
      HasDelivered lines servers modeled [] old new [] →
      HasStopped lines servers modeled shows may_leave moment left_since [] old new journal journal
  stopped_still old new journal delivered =
      stopped_of [] old new journal journal (recorded_still [] old new journal delivered)

-- ---- standard error

pub said_none : (held : Option (List ℕ)) → HasSaid held held []
said_none held = record { text = []; appended = Appends-nil held }

-- Text was written, and nothing after it.
pub said_one : (old new : Option (List ℕ)) (text : List ℕ) → Appends old new text → HasSaid old new []
said_one old new text appended =
    record { text = text; appended = subst (λ (t : List ℕ). Appends old new t) (sym (append-nil text)) appended }

-- Text was written that ends in `last`.
pub said_last : (old new : Option (List ℕ)) (last text : List ℕ) → EndsIn last text → Appends old new text →
    HasSaid old new last
said_last old new last text ends appended =
    record { text = ends.front; appended = subst (λ (t : List ℕ). Appends old new t) ends.parts appended }

pub said_then : (old mid new : Option (List ℕ)) (last : List ℕ) → HasSaid old mid [] → HasSaid mid new last →
    HasSaid old new last
said_then old mid new last one two = record {
  text = one.text ++ two.text;
  appended = subst (λ (t : List ℕ). Appends old new t)
      (ap (λ (t : List ℕ). t ++ (two.text ++ last)) (append-nil one.text) ∙ sym (append_assoc one.text two.text last))
      (Appends-trans old mid new (one.text ++ []) (two.text ++ last) one.appended two.appended);
}

-- ---- numbers

-- What `order_law` of mold_repair states.
pub record OrderLaws : Type 0 where
  pub order : (old new : Repairer) (steps : List RepairStep) (outcomes : List Outcome) →
      IsRepaired old new steps outcomes → AreInOrder old.arbiter.view.next outcomes new.arbiter.view.next
  pub messages : (old new : Repairer) (step : RepairStep) (outcome : Outcome) →
      (is : IsStepOf old new step outcome) → HasNumbers is.handed outcome.delivered

handed_length : (first : ℕ) (messages : List Message) →
    length (followed_by nothing first messages).messages ≡ length messages
handed_length first [] = refl
handed_length first (message ∷ messages) = refl

-- A call that gave up nothing delivered the messages from the old number to the new one.
call_number : OrderLaws → (call : Call) → call.outcome.lost ≡ None →
    call.after.arbiter.view.next ≡ call.before.arbiter.view.next + length call.is.handed.messages
call_number laws call whole =
    let next : ℕ = call.before.arbiter.view.next in
    let order = laws.order call.before call.after (call.step ∷ []) (call.outcome ∷ []) (call.after, call.is, refl) in
    let has = laws.messages call.before call.after call.step call.outcome call.is in
    let first : call.outcome.delivered.first ≡ next =
    order.0.delivered ∙ ap (λ l. after_lost next l) whole in
    let count : length call.is.handed.messages ≡ length has.messages =
    ap (λ (h : Handed). length h.messages) has.batch ∙ handed_length call.outcome.delivered.first has.messages in
    omega (arith, first, count, has.counted, order.1)

calls_number : OrderLaws → (old new : Repairer) (calls : List Call) → Follow old calls new → AreWhole calls →
    new.arbiter.view.next ≡ old.arbiter.view.next + length (all_delivered calls)
unfolding Follow AreWhole all_delivered
calls_number laws old new [] follow whole =
    let e : new.arbiter.view.next ≡ old.arbiter.view.next = ap (λ (r : Repairer). r.arbiter.view.next) follow in
    omega (arith, e)
calls_number laws old new (call ∷ calls) follow whole =
    let from : call.before.arbiter.view.next ≡ old.arbiter.view.next =
    ap (λ (r : Repairer). r.arbiter.view.next) follow.0 in
    let one = call_number laws call whole.0 in
    let more = calls_number laws call.after new calls follow.1 whole.1 in
    omega (arith, from, one, more, length-append call.is.handed.messages (all_delivered calls))

-- The number of the next message after messages were delivered.
pub delivered_number : {P : Type 0} → OrderLaws → (lines : ℕ) (servers : List P) (modeled : Bool) (first : List Given)
    (old new : RecorderState P) (messages : List Message) →
    HasDelivered lines servers modeled first old new messages →
    new.repairer.arbiter.view.next ≡ old.repairer.arbiter.view.next + length messages
delivered_number laws lines servers modeled first old new messages is =
    calls_number laws old.repairer new.repairer is.calls is.follow is.whole
    ∙ ap (λ (ms : List Message). old.repairer.arbiter.view.next + length ms) (sym is.delivered)
