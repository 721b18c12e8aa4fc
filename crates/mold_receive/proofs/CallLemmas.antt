-- Calls of the repairer, and the text that they print.
use Rattle.std.proofs.Common.{◌≡◌, ◌≤◌, ℕ, length, ◌+◌, ◌++◌, ◌==◌, [], ◌∷◌, Bool, true, List, ap, refl, subst, sym, append-nil}
use Rattle.std.proofs.Common.{append_assoc, arith, length-append, ◌∙◌}
use Rattle.std.proofs.lemmas.List.{take-take, take_at}
use Rattle.std.proofs.lemmas.Result.{on_ok_weaker}
use Rattle.std.proofs.KnownBytes.{Appends-nil, Appends-trans}
use Rattle.std.specs.Io.KnownBytes.{Appends}
use Rattle.mold_devices.specs.Devices.{AppendsPrefix}
use Rattle.mold_devices.specs.Writing.{Moves}
use Rattle.std.specs.Prelude.{Result, Ok, Err, IfNone, IfOk, IfSome, IsSome, OnErr, OnOk, Option, None, Some, false, if◌then◌else◌, slice_get, take}
use Rattle.mold_input.specs.declared.message_format.MessageFormat.{MessageFormat}
use Rattle.mold_input.specs.declared.message_format.MessageFormat.TheVariants.{Lines, Blocks, BlocksToEmpty}
use Rattle.mold_listen.specs.Text.{empty_number, end_text, handed_text, mark_text, printable, stop_after}
use Rattle.mold_pacing.specs.declared.gap.Gap.{Gap}
use Rattle.mold_receiver.specs.Batch.{Handed}
use Rattle.mold_receiver.specs.Store.{Message}
use Rattle.mold_repair.specs.Run.{HasStepped, nothing}
use Rattle.mold_repair.specs.declared.outcome.Outcome.{Outcome}
use Rattle.mold_repair.specs.declared.repairer.Repairer.{Repairer}
use Rattle.mold_repair.specs.declared.step.RepairStep.{RepairStep}
use Rattle.mold_repair.specs.declared.step.RepairStep.TheVariants.{Take, Poll, Lost, Pass}
use Rattle.mold_turns.proofs.PrintingLemmas.{front_none}
use Rattle.mold_turns.specs.Outgoing.{note_text}
use Rattle.mold_turns.specs.Runs.{Begins}
use Rattle.mold_wire.specs.Request.{request_spelling}
use Rattle.mold_receive.proofs.PrintingLemmas.{all_printable, front_before}
use Rattle.mold_receive.specs.Receiving.{AreAsking, HasAsked, HasBegun, HasCut, HasCutCall, HasPrinted, HasStopped, IsAsking}
use Rattle.mold_receive.specs.Receiving.{Call, Follow, HasBroken, HasCalled, HasEnded, HasFailed, HasReceived, HasRun, HasWritten, ReceiverState, all_sent, all_taken, all_text}
use Rattle.mold_receive.specs.Receiving.{call_stop, call_text, call_to_stop, datagram_of, datagram_to, earlier, last_line, last_status}
use Rattle.mold_receive.specs.Receiving.{datagram_of_first, lost_text, port_of, stop_in, taken_by, text_to_stop, unless_stopped}
use Rattle.mold_receive.specs.declared.first_packet.FirstPacket.{FirstPacket}
use Rattle.mold_port_set.specs.PortSet.{Given, PortSetState, Sent, given_by, sent_by}
use Rattle.mold_repair.specs.declared.ask.Ask.{Ask}

-- a batch without messages stops nothing
pub nothing_stops : (format : MessageFormat) → stop_after format None nothing.first nothing.messages ≡ None
unfolding empty_number
nothing_stops Lines = refl
nothing_stops Blocks = refl
nothing_stops BlocksToEmpty = refl

-- a step that was printed is a call
pub called : (format : MessageFormat) (step : RepairStep) (old new : Repairer) (handed : Handed) (outcome : Outcome)
    (before after : List ℕ) → HasStepped old new step handed outcome → new.options ≡ old.options →
    after ≡ before ++ (lost_text format outcome.lost ++ handed_text format handed.first handed.messages) →
    HasCalled format step outcome.ask old new before after
called format step old new handed outcome before after stepped options printed = record {
  call = record {
    before = old;
    after = new;
    step = step;
    outcome = outcome;
    is = record { handed = handed; stepped = stepped; options = options };
    fails = false;
  };
  from = refl;
  to = refl;
  stepped = refl;
  asked = refl;
  printed = printed;
}

-- what one call leaves, if its send failed or not
pub received_one : {P : Type 0} (lines : ℕ) (servers : List P) (format : MessageFormat) (modeled : Bool)
    (step : RepairStep) (ask : Option Ask) (fails : Bool) (old new : ReceiverState P) →
    (made : HasCalled format step ask old.repairer new.repairer old.text new.text) →
    (modeled ≡ true → new.ports.given ≡ old.ports.given ++ taken_by lines step) →
    (modeled ≡ true → new.ports.sent ≡ old.ports.sent ++ (if fails then [] else datagram_of lines servers ask)) →
    call_stop format made.call ≡ None → HasReceived lines servers format modeled old new
unfolding Follow all_taken all_sent all_text stop_in
received_one {P = P} lines servers format modeled step ask fails old new made given sent goes =
    let one : Call = record {
      before = made.call.before;
      after = made.call.after;
      step = made.call.step;
      outcome = made.call.outcome;
      is = made.call.is;
      fails = fails;
    } in
    record {
      calls = one ∷ [];
      follow = (made.from, sym made.to);
      taken = λ is. given is ∙ ap (λ (l : List Given). old.ports.given ++ l)
          (ap (λ (s : RepairStep). taken_by lines s) (sym made.stepped) ∙ sym (append-nil (taken_by lines made.call.step)));
      sent = λ is. sent is ∙ ap (λ (l : List (Sent P)). old.ports.sent ++ l)
          (ap (λ (a : Option Ask). if fails then [] else datagram_of lines servers a) (sym made.asked)
          ∙ sym (append-nil (if fails then [] else datagram_of lines servers made.call.outcome.ask)));
      printed = made.printed
          ∙ ap (λ (t : List ℕ). old.text ++ t) (sym (append-nil (call_text format made.call)));
      full = ap (λ (s : Option ℕ). earlier s None) goes;
    }

-- no call changes nothing
pub received_none : {P : Type 0} (lines : ℕ) (servers : List P) (format : MessageFormat) (modeled : Bool)
    (old new : ReceiverState P) → new.repairer ≡ old.repairer → (modeled ≡ true → new.ports.given ≡ old.ports.given) →
    (modeled ≡ true → new.ports.sent ≡ old.ports.sent) → new.text ≡ old.text →
    HasReceived lines servers format modeled old new
unfolding Follow all_taken all_sent all_text stop_in
received_none lines servers format modeled old new repairer given sent text = record {
  calls = [];
  follow = repairer;
  taken = λ is. given is ∙ sym (append-nil old.ports.given);
  sent = λ is. sent is ∙ sym (append-nil old.ports.sent);
  printed = text ∙ sym (append-nil old.text);
  full = refl;
}

-- what a receive gave, by its result
pub gave_none : {E : Type 0} (old new : List Given) (port : ℕ) (result : Result (Option ℕ) E) (found : Option ℕ)
    (buffer : List ℕ) → new ≡ old ++ given_by port result buffer → result ≡ Ok found → found ≡ None → new ≡ old
gave_none {E = E} old new port result found buffer gave is none =
    gave
    ∙ ap (λ (r : Result (Option ℕ) E). old ++ given_by port r buffer) (is ∙ ap (λ (f : Option ℕ). Ok f) none)
    ∙ append-nil old

pub gave_fault : {E : Type 0} (old new : List Given) (port : ℕ) (result : Result (Option ℕ) E) (fault : E)
    (buffer : List ℕ) → new ≡ old ++ given_by port result buffer → result ≡ Err fault → new ≡ old
gave_fault {E = E} old new port result fault buffer gave is =
    gave ∙ ap (λ (r : Result (Option ℕ) E). old ++ given_by port r buffer) is ∙ append-nil old

pub gave_some : {E : Type 0} (old new : List Given) (port at : ℕ) (result : Result (Option ℕ) E) (found : Option ℕ)
    (count : ℕ) (buffer : List ℕ) → new ≡ old ++ given_by port result buffer → result ≡ Ok found →
    found ≡ Some count → port ≡ at → new ≡ old ++ record { port = at; bytes = take count buffer } ∷ []
gave_some {E = E} old new port at result found count buffer gave is some same =
    gave
    ∙ ap (λ (r : Result (Option ℕ) E). old ++ given_by port r buffer) (is ∙ ap (λ (f : Option ℕ). Ok f) some)
    ∙ ap (λ (p : ℕ). old ++ record { port = p; bytes = take count buffer } ∷ []) same

pub follow_then : (old mid new : Repairer) (calls more : List Call) → Follow old calls mid → Follow mid more new →
    Follow old (calls ++ more) new
unfolding Follow
follow_then old mid new [] more first last = subst (λ (r : Repairer). Follow r more new) first last
follow_then old mid new (call ∷ calls) more first last =
    (first.0, follow_then call.after mid new calls more first.1 last)

pub taken_then : (lines : ℕ) (calls more : List Call) →
    all_taken lines (calls ++ more) ≡ all_taken lines calls ++ all_taken lines more
unfolding all_taken
taken_then lines [] more = refl
taken_then lines (call ∷ calls) more =
    ap (λ (l : List Given). taken_by lines call.step ++ l) (taken_then lines calls more)
    ∙ sym (append_assoc (taken_by lines call.step) (all_taken lines calls) (all_taken lines more))

pub sent_then : {P : Type 0} (lines : ℕ) (servers : List P) (calls more : List Call) →
    all_sent lines servers (calls ++ more) ≡ all_sent lines servers calls ++ all_sent lines servers more
unfolding all_sent
sent_then lines servers [] more = refl
sent_then {P = P} lines servers (call ∷ calls) more =
    let one : List (Sent P) = if call.fails then [] else datagram_of lines servers call.outcome.ask in
    ap (λ (l : List (Sent P)). one ++ l) (sent_then lines servers calls more)
    ∙ sym (append_assoc one (all_sent lines servers calls) (all_sent lines servers more))

text_then : (format : MessageFormat) (calls more : List Call) →
    all_text format (calls ++ more) ≡ all_text format calls ++ all_text format more
unfolding all_text
text_then format [] more = refl
text_then format (call ∷ calls) more =
    ap (λ (l : List ℕ). call_text format call ++ l) (text_then format calls more)
    ∙ sym (append_assoc (call_text format call) (all_text format calls) (all_text format more))

-- neither of two numbers, if there is no earlier one
no_earlier : (first later : Option ℕ) → earlier first later ≡ None → (first ≡ None) × (later ≡ None)
no_earlier None later none = (refl, none)
no_earlier (Some number) later none = let no : ⊥ = cc in absurd no

-- the message that stops printing is in the second part, if it is not in the first one
stop_then : (format : MessageFormat) (calls more : List Call) → stop_in format calls ≡ None →
    stop_in format (calls ++ more) ≡ stop_in format more
unfolding stop_in
stop_then format [] more none = refl
stop_then format (call ∷ calls) more none =
    let both = no_earlier (call_stop format call) (stop_in format calls) none in
    ap (λ (s : Option ℕ). earlier s (stop_in format (calls ++ more))) both.0 ∙ stop_then format calls more both.1

-- a call in which no message stops printing is printed whole
whole_call : (format : MessageFormat) (call : Call) → call_stop format call ≡ None →
    call_to_stop format call ≡ call_text format call
whole_call format call none =
    ap (λ (l : List Message). lost_text format call.outcome.lost ++ handed_text format call.is.handed.first l)
    (all_printable format call.is.handed.first call.is.handed.messages none)

-- calls in which no message stops printing, and then others
text_then_stop : (format : MessageFormat) (calls more : List Call) → stop_in format calls ≡ None →
    text_to_stop format (calls ++ more) ≡ all_text format calls ++ text_to_stop format more
unfolding stop_in all_text text_to_stop
text_then_stop format [] more none = refl
text_then_stop format (call ∷ calls) more none =
    let both = no_earlier (call_stop format call) (stop_in format calls) none in
    let rest : List ℕ = text_to_stop format (calls ++ more) in
    ap (λ (s : Option ℕ). call_to_stop format call ++ unless_stopped s rest) both.0
    ∙ ap (λ (t : List ℕ). t ++ rest) (whole_call format call both.0)
    ∙ ap (λ (t : List ℕ). call_text format call ++ t) (text_then_stop format calls more both.1)
    ∙ sym (append_assoc (call_text format call) (all_text format calls) (text_to_stop format more))

-- what was added twice was added at once
pub appended : {A : Type 0} (old mid new first last both : List A) → mid ≡ old ++ first → new ≡ mid ++ last →
    both ≡ first ++ last → new ≡ old ++ both
appended {A = A} old mid new first last both mid_is new_is both_is =
    new_is ∙ ap (λ (l : List A). l ++ last) mid_is ∙ append_assoc old first last
    ∙ ap (λ (l : List A). old ++ l) (sym both_is)

-- calls, and then more calls
pub received_then : {P : Type 0} (lines : ℕ) (servers : List P) (format : MessageFormat) (modeled : Bool)
    (old mid new : ReceiverState P) → HasReceived lines servers format modeled old mid →
    HasReceived lines servers format modeled mid new → HasReceived lines servers format modeled old new
received_then lines servers format modeled old mid new first last = record {
  calls = first.calls ++ last.calls;
  follow = follow_then old.repairer mid.repairer new.repairer first.calls last.calls first.follow last.follow;
  taken = λ is. appended old.ports.given mid.ports.given new.ports.given _ _ _ (first.taken is) (last.taken is)
      (taken_then lines first.calls last.calls);
  sent = λ is. appended old.ports.sent mid.ports.sent new.ports.sent _ _ _ (first.sent is) (last.sent is)
      (sent_then lines servers first.calls last.calls);
  printed = appended old.text mid.text new.text _ _ _ first.printed last.printed
      (text_then format first.calls last.calls);
  full = stop_then format first.calls last.calls first.full ∙ last.full;
}

-- the same, if the second part has its format from the state that the first part left
pub received_more : {P : Type 0} (lines : ℕ) (servers : List P) (format other : MessageFormat) (modeled : Bool)
    (old mid new : ReceiverState P) → HasReceived lines servers format modeled old mid → other ≡ format →
    HasReceived lines servers other modeled mid new → HasReceived lines servers format modeled old new
received_more {P = P} lines servers format other modeled old mid new first same last =
    received_then lines servers format modeled old mid new first
    (subst (λ (f : MessageFormat). HasReceived lines servers f modeled mid new) same last)

asking_then : (calls more : List Call) → AreAsking calls → AreAsking more → AreAsking (calls ++ more)
unfolding AreAsking
asking_then [] more first last = last
asking_then (call ∷ calls) more first last = (first.0, asking_then calls more first.1 last)

-- a step that asks delivers nothing
asks_nothing : (old new : Repairer) (step : RepairStep) (handed : Handed) (outcome : Outcome) → IsAsking step →
    HasStepped old new step handed outcome → handed ≡ nothing
asks_nothing old new (Take time origin datagram) handed outcome asks stepped = absurd asks
asks_nothing old new (Poll time) handed outcome asks stepped = stepped.batch
asks_nothing old new (Lost time) handed outcome asks stepped = absurd asks
asks_nothing old new (Pass time) handed outcome asks stepped = stepped.batch

asks_goes : (format : MessageFormat) (call : Call) → IsAsking call.step → call_stop format call ≡ None
asks_goes format call asks =
    ap (λ (h : Handed). stop_after format None h.first h.messages)
    (asks_nothing call.before call.after call.step call.is.handed call.outcome asks call.is.stepped)
    ∙ nothing_stops format

-- a call that asks
pub asked_one : {P : Type 0} (lines : ℕ) (servers : List P) (format : MessageFormat) (modeled : Bool)
    (step : RepairStep) (ask : Option Ask) (fails : Bool) (old new : ReceiverState P) → IsAsking step →
    HasCalled format step ask old.repairer new.repairer old.text new.text →
    (modeled ≡ true → new.ports.given ≡ old.ports.given ++ taken_by lines step) →
    (modeled ≡ true → new.ports.sent ≡ old.ports.sent ++ (if fails then [] else datagram_of lines servers ask)) →
    HasAsked lines servers format modeled old new
unfolding AreAsking received_one
asked_one lines servers format modeled step ask fails old new asks made given sent = record {
  received = received_one lines servers format modeled step ask fails old new made given sent
      (asks_goes format made.call (subst (λ (s : RepairStep). IsAsking s) (sym made.stepped) asks));
  asking = (subst (λ (s : RepairStep). IsAsking s) (sym made.stepped) asks, tt);
}

-- no call asks
pub asked_none : {P : Type 0} (lines : ℕ) (servers : List P) (format : MessageFormat) (modeled : Bool)
    (old new : ReceiverState P) → new.repairer ≡ old.repairer → (modeled ≡ true → new.ports.given ≡ old.ports.given) →
    (modeled ≡ true → new.ports.sent ≡ old.ports.sent) → new.text ≡ old.text →
    HasAsked lines servers format modeled old new
unfolding AreAsking received_none
asked_none lines servers format modeled old new repairer given sent text =
    record { received = received_none lines servers format modeled old new repairer given sent text; asking = tt }

-- a call without a request sends nothing
pub sends_none : {P : Type 0} (lines : ℕ) (servers : List P) (fails : Bool) (ask : Option Ask) → ask ≡ None →
    (if fails then [] else datagram_of lines servers ask) ≡ []
sends_none lines servers true ask none = refl
sends_none lines servers false ask none = ap (λ (a : Option Ask). datagram_of lines servers a) none

-- nothing was called yet, and so nothing was asked
pub asked_yet : {P : Type 0} (lines : ℕ) (servers : List P) (format : MessageFormat) (modeled : Bool)
    (state : ReceiverState P) → HasAsked lines servers format modeled state state
asked_yet lines servers format modeled state =
    asked_none lines servers format modeled state state refl (λ is. refl) (λ is. refl) refl

-- requests, and then more requests, if the second part has its format from the state that the first part left
pub asked_more : {P : Type 0} (lines : ℕ) (servers : List P) (format other : MessageFormat) (modeled : Bool)
    (old mid new : ReceiverState P) → HasAsked lines servers format modeled old mid → other ≡ format →
    HasAsked lines servers other modeled mid new → HasAsked lines servers format modeled old new
unfolding received_then
asked_more {P = P} lines servers format other modeled old mid new first same last =
    let more = subst (λ (f : MessageFormat). HasAsked lines servers f modeled mid new) same last in
    record {
      received = received_then lines servers format modeled old mid new first.received more.received;
      asking = asking_then first.received.calls more.received.calls first.asking more.asking;
    }

-- nothing was called yet
pub received_yet : {P : Type 0} (lines : ℕ) (servers : List P) (format : MessageFormat) (modeled : Bool)
    (state : ReceiverState P) → HasReceived lines servers format modeled state state
received_yet lines servers format modeled state =
    received_none lines servers format modeled state state refl (λ is. refl) (λ is. refl) refl

-- the text after messages were given up, and what was stored after them was printed
pub lost_printed : (format other : MessageFormat) (before mid : List ℕ) (lost : Option Gap) (number : ℕ)
    (messages : List Message) → mid ≡ before ++ lost_text format lost → other ≡ format →
    mid ++ handed_text other number messages
    ≡ before ++ (lost_text format lost ++ handed_text format number messages)
lost_printed format other before mid lost number messages line same =
    ap (λ (f : MessageFormat). mid ++ handed_text f number messages) same
    ∙ ap (λ (t : List ℕ). t ++ handed_text format number messages) line
    ∙ append_assoc before (lost_text format lost) (handed_text format number messages)

-- a poll prints nothing
pub poll_printed : (format : MessageFormat) (text : List ℕ) →
    text ≡ text ++ (lost_text format None ++ handed_text format nothing.first nothing.messages)
unfolding handed_text
poll_printed format text = sym (append-nil text)

-- no request is sent if there is none, or if its server has no address
pub sent_none : {P : Type 0} (sent : List (Sent P)) (lines : ℕ) (servers : List P) (ask : Option Ask) → ask ≡ None →
    sent ≡ sent ++ (if false then [] else datagram_of lines servers ask)
sent_none sent lines servers ask none =
    sym (append-nil sent) ∙ ap (λ (a : Option Ask). sent ++ datagram_of lines servers a) (sym none)

pub sent_nowhere : {P : Type 0} (sent : List (Sent P)) (lines : ℕ) (servers : List P) (ask : Option Ask) (one : Ask) →
    ask ≡ Some one → slice_get servers one.server ≡ None →
    sent ≡ sent ++ (if false then [] else datagram_of lines servers ask)
sent_nowhere {P = P} sent lines servers ask one some nowhere =
    sym (append-nil sent)
    ∙ ap (λ (s : Option P). sent ++ datagram_to lines one s) (sym nowhere)
    ∙ ap (λ (a : Option Ask). sent ++ datagram_of lines servers a) (sym some)

-- a request was sent to its server, or its send failed
pub sent_to : {P : Type 0} (old new : List (Sent P)) (fails : Bool) (lines : ℕ) (servers : List P) (ask : Option Ask)
    (one : Ask) (server : P) (port : ℕ) (bytes : List ℕ) → new ≡ old ++ sent_by fails port server bytes →
    ask ≡ Some one → slice_get servers one.server ≡ Some server → port ≡ lines + one.server →
    bytes ≡ request_spelling one.request → new ≡ old ++ (if fails then [] else datagram_of lines servers ask)
sent_to old new true lines servers ask one server port bytes sent some there at spelled = sent
sent_to {P = P} old new false lines servers ask one server port bytes sent some there at spelled =
    sent
    ∙ ap (λ (p : ℕ). old ++ record { port = p; to = server; bytes = bytes } ∷ []) at
    ∙ ap (λ (b : List ℕ). old ++ record { port = lines + one.server; to = server; bytes = b } ∷ []) spelled
    ∙ ap (λ (s : Option P). old ++ datagram_to lines one s) (sym there)
    ∙ ap (λ (a : Option Ask). old ++ datagram_of lines servers a) (sym some)

-- text before the text of a receiver
abbrev pub behind_text : {P : Type 0} → List ℕ → ReceiverState P → ReceiverState P
behind_text front state = record { repairer = state.repairer; ports = state.ports; text = front ++ state.text }

-- calls after text was written
received_behind : {P : Type 0} (lines : ℕ) (servers : List P) (format : MessageFormat) (modeled : Bool)
    (front : List ℕ) (old new : ReceiverState P) → HasReceived lines servers format modeled old new →
    HasReceived lines servers format modeled (behind_text front old) (behind_text front new)
received_behind lines servers format modeled front old new has = record {
  calls = has.calls;
  follow = has.follow;
  taken = has.taken;
  sent = has.sent;
  printed = ap (λ (t : List ℕ). front ++ t) has.printed ∙ sym (append_assoc front old.text (all_text format has.calls));
  full = has.full;
}

-- nothing was written after calls
pub written_none : {P : Type 0} (lines : ℕ) (servers : List P) (format : MessageFormat) (modeled : Bool)
    (old new : ReceiverState P) (held : Option (List ℕ)) → HasReceived lines servers format modeled old new →
    HasWritten lines servers format modeled old new held held
written_none lines servers format modeled old new held has =
    record { written = []; appended = Appends-nil held; received = has }

-- a part of the text was written after calls
pub written_some : {P : Type 0} (lines : ℕ) (servers : List P) (format : MessageFormat) (modeled : Bool)
    (old new : ReceiverState P) (held_old held_new : Option (List ℕ)) (front left : List ℕ) →
    HasReceived lines servers format modeled old new → new.text ≡ front ++ left → Appends held_old held_new front →
    HasWritten lines servers format modeled old (record { repairer = new.repairer; ports = new.ports; text = left })
    held_old held_new
written_some {P = P} lines servers format modeled old new held_old held_new front left has parts appended = record {
  written = front;
  appended = appended;
  received = subst (λ (t : List ℕ). HasReceived lines servers format modeled old
      (record { repairer = new.repairer; ports = new.ports; text = t })) parts has;
}

-- one part was written after the other
pub written_then : {P : Type 0} (lines : ℕ) (servers : List P) (format : MessageFormat) (modeled : Bool)
    (old mid new : ReceiverState P) (held_old held held_new : Option (List ℕ)) →
    HasWritten lines servers format modeled old mid held_old held →
    HasWritten lines servers format modeled mid new held held_new →
    HasWritten lines servers format modeled old new held_old held_new
written_then {P = P} lines servers format modeled old mid new held_old held held_new first last = record {
  written = first.written ++ last.written;
  appended = Appends-trans held_old held held_new first.written last.written first.appended last.appended;
  received = received_then lines servers format modeled old (behind_text first.written mid) _ first.received
      (subst (λ (t : List ℕ). HasReceived lines servers format modeled (behind_text first.written mid)
      (record { repairer = new.repairer; ports = new.ports; text = t }))
      (sym (append_assoc first.written last.written new.text))
      (received_behind lines servers format modeled first.written mid
      (record { repairer = new.repairer; ports = new.ports; text = last.written ++ new.text }) last.received));
}

-- calls of datagrams that the ports gave are a run
pub run_of : {P : Type 0} (lines : ℕ) (servers : List P) (format : MessageFormat) (modeled : Bool)
    (old new : ReceiverState P) → HasReceived lines servers format modeled old new →
    HasRun lines servers format modeled [] old new
run_of lines servers format modeled old new has = record {
  calls = has.calls;
  follow = has.follow;
  since = all_taken lines has.calls;
  given = has.taken;
  taken = λ is. refl;
  sent = has.sent;
  printed = has.printed;
}

-- one call with a datagram that the ports had given before, or none
pub run_first : {P : Type 0} (lines : ℕ) (servers : List P) (format : MessageFormat) (modeled : Bool)
    (step : RepairStep) (old new : ReceiverState P) →
    HasCalled format step None old.repairer new.repairer old.text new.text → new.ports ≡ old.ports →
    HasRun lines servers format modeled (taken_by lines step) old new
unfolding Follow all_taken all_sent all_text
run_first {P = P} lines servers format modeled step old new made ports = record {
  calls = made.call ∷ [];
  follow = (made.from, sym made.to);
  since = [];
  given = λ is. ap (λ (p : PortSetState P). p.given) ports ∙ sym (append-nil old.ports.given);
  taken = λ is. ap (λ (s : RepairStep). taken_by lines s ++ []) made.stepped;
  sent = λ is. ap (λ (p : PortSetState P). p.sent) ports ∙ sym (append-nil old.ports.sent)
      ∙ ap (λ (l : List (Sent P)). old.ports.sent ++ l)
      (sym (append-nil (if made.call.fails then [] else datagram_of lines servers made.call.outcome.ask)
      ∙ sends_none lines servers made.call.fails made.call.outcome.ask made.asked));
  printed = made.printed
      ∙ ap (λ (t : List ℕ). old.text ++ t) (sym (append-nil (call_text format made.call)));
}

-- nothing was taken
pub run_none : {P : Type 0} (lines : ℕ) (servers : List P) (format : MessageFormat) (modeled : Bool)
    (state : ReceiverState P) → HasRun lines servers format modeled [] state state
run_none lines servers format modeled state =
    run_of lines servers format modeled state state (received_yet lines servers format modeled state)

-- a run, and then one that took nothing from before
pub run_then : {P : Type 0} (lines : ℕ) (servers : List P) (format : MessageFormat) (modeled : Bool)
    (first : List Given) (old mid new : ReceiverState P) → HasRun lines servers format modeled first old mid →
    HasRun lines servers format modeled [] mid new → HasRun lines servers format modeled first old new
run_then lines servers format modeled first old mid new one two = record {
  calls = one.calls ++ two.calls;
  follow = follow_then old.repairer mid.repairer new.repairer one.calls two.calls one.follow two.follow;
  since = one.since ++ two.since;
  given = λ is. appended old.ports.given mid.ports.given new.ports.given _ _ _ (one.given is) (two.given is) refl;
  taken = λ is. taken_then lines one.calls two.calls
      ∙ ap (λ (l : List Given). l ++ all_taken lines two.calls) (one.taken is)
      ∙ ap (λ (l : List Given). (first ++ one.since) ++ l) (two.taken is)
      ∙ append_assoc first one.since two.since;
  sent = λ is. appended old.ports.sent mid.ports.sent new.ports.sent _ _ _ (one.sent is) (two.sent is)
      (sent_then lines servers one.calls two.calls);
  printed = appended old.text mid.text new.text _ _ _ one.printed two.printed
      (text_then format one.calls two.calls);
}

-- a run after text was written
run_behind : {P : Type 0} (lines : ℕ) (servers : List P) (format : MessageFormat) (modeled : Bool)
    (first : List Given) (front : List ℕ) (old new : ReceiverState P) →
    HasRun lines servers format modeled first old new →
    HasRun lines servers format modeled first (behind_text front old) (behind_text front new)
run_behind lines servers format modeled first front old new has = record {
  calls = has.calls;
  follow = has.follow;
  since = has.since;
  given = has.given;
  taken = has.taken;
  sent = has.sent;
  printed = ap (λ (t : List ℕ). front ++ t) has.printed ∙ sym (append_assoc front old.text (all_text format has.calls));
}

-- one call, whatever it delivered, if its send failed or not
pub run_one : {P : Type 0} (lines : ℕ) (servers : List P) (format : MessageFormat) (modeled : Bool)
    (step : RepairStep) (old new : ReceiverState P) →
    HasCalled format step None old.repairer new.repairer old.text new.text →
    (modeled ≡ true → new.ports.given ≡ old.ports.given ++ taken_by lines step) →
    (modeled ≡ true → new.ports.sent ≡ old.ports.sent) → HasRun lines servers format modeled [] old new
unfolding Follow all_taken all_sent all_text
run_one {P = P} lines servers format modeled step old new made given sent = record {
  calls = made.call ∷ [];
  follow = (made.from, sym made.to);
  since = taken_by lines step;
  given = given;
  taken = λ is. append-nil (taken_by lines made.call.step)
      ∙ ap (λ (s : RepairStep). taken_by lines s) made.stepped;
  sent = λ is. sent is ∙ sym (append-nil old.ports.sent)
      ∙ ap (λ (l : List (Sent P)). old.ports.sent ++ l)
      (sym (append-nil (if made.call.fails then [] else datagram_of lines servers made.call.outcome.ask)
      ∙ sends_none lines servers made.call.fails made.call.outcome.ask made.asked));
  printed = made.printed
      ∙ ap (λ (t : List ℕ). old.text ++ t) (sym (append-nil (call_text format made.call)));
}

-- a fault after a part was written
pub failed_then : {P : Type 0} (lines : ℕ) (servers : List P) (format : MessageFormat) (modeled : Bool)
    (old mid : ReceiverState P) (held_old held held_new : Option (List ℕ)) →
    HasWritten lines servers format modeled old mid held_old held →
    HasFailed lines servers format modeled mid held held_new →
    HasFailed lines servers format modeled old held_old held_new
failed_then lines servers format modeled old mid held_old held held_new first last = record {
  end = behind_text first.written last.end;
  ran = run_then lines servers format modeled [] old (behind_text first.written mid) _
      (run_of lines servers format modeled old (behind_text first.written mid) first.received)
      (run_behind lines servers format modeled [] first.written mid last.end last.ran);
  front = record {
    front = first.written ++ last.front.front;
    rest = last.front.rest;
    parts = ap (λ (t : List ℕ). first.written ++ t) last.front.parts
        ∙ sym (append_assoc first.written last.front.front last.front.rest);
    appended = Appends-trans held_old held held_new first.written last.front.front first.appended last.front.appended;
  };
}

-- a fault of a write after calls
pub failed_write : {P : Type 0} (lines : ℕ) (servers : List P) (format : MessageFormat) (modeled : Bool)
    (old new : ReceiverState P) (held_old held_new : Option (List ℕ)) (text : List ℕ) →
    HasReceived lines servers format modeled old new → new.text ≡ text → AppendsPrefix held_old held_new text →
    HasFailed lines servers format modeled old held_old held_new
failed_write lines servers format modeled old new held_old held_new text has same front =
    record {
      end = new;
      ran = run_of lines servers format modeled old new has;
      front = subst (λ (t : List ℕ). AppendsPrefix held_old held_new t) (sym same) front;
    }

-- a fault in the text of one call
pub failed_one : {P : Type 0} (lines : ℕ) (servers : List P) (format : MessageFormat) (modeled : Bool)
    (step : RepairStep) (old new : ReceiverState P) (held_old held_new : Option (List ℕ)) →
    HasCalled format step None old.repairer new.repairer old.text new.text →
    (modeled ≡ true → new.ports.given ≡ old.ports.given ++ taken_by lines step) →
    (modeled ≡ true → new.ports.sent ≡ old.ports.sent) → AppendsPrefix held_old held_new new.text →
    HasFailed lines servers format modeled old held_old held_new
failed_one lines servers format modeled step old new held_old held_new made given sent front =
    record { end = new; ran = run_one lines servers format modeled step old new made given sent; front = front }

-- ---- a message that stops printing

-- one call stopped printing
pub stopped_one : {P : Type 0} (lines : ℕ) (servers : List P) (format : MessageFormat) (modeled : Bool)
    (step : RepairStep) (old new : ReceiverState P) (held_old held_new : Option (List ℕ)) (number : ℕ)
    (made : HasCalled format step None old.repairer new.repairer old.text new.text) →
    (modeled ≡ true → new.ports.given ≡ old.ports.given ++ taken_by lines step) →
    (modeled ≡ true → new.ports.sent ≡ old.ports.sent) →
    HasCutCall format made.call old.text held_old held_new number →
    HasStopped lines servers format modeled [] old new.repairer new.ports held_old held_new number
unfolding run_one stop_in text_to_stop
stopped_one lines servers format modeled step old new held_old held_new number made given sent cut = record {
  text = new.text;
  ran = run_one lines servers format modeled step old new made given sent;
  empty = ap (λ (s : Option ℕ). earlier s None) cut.empty;
  appended = subst (λ (t : List ℕ). Appends held_old held_new (old.text ++ t))
      (sym (append-nil (call_to_stop format made.call))
      ∙ ap (λ (s : Option ℕ). call_to_stop format made.call ++ unless_stopped s []) (sym cut.empty))
      cut.appended;
}

-- the text of calls in which no message stops printing, and then text up to one
cut_after : (format : MessageFormat) (calls more : List Call) (held_old held held_new : Option (List ℕ))
    (before mid written : List ℕ) → stop_in format calls ≡ None → Appends held_old held written →
    written ++ mid ≡ before ++ all_text format calls → Appends held held_new (mid ++ text_to_stop format more) →
    Appends held_old held_new (before ++ text_to_stop format (calls ++ more))
cut_after format calls more held_old held held_new before mid written none first parts last =
    let rest : List ℕ = text_to_stop format more in
    subst (λ (t : List ℕ). Appends held_old held_new t)
    (sym (append_assoc written mid rest)
    ∙ ap (λ (t : List ℕ). t ++ rest) parts
    ∙ append_assoc before (all_text format calls) rest
    ∙ ap (λ (t : List ℕ). before ++ t) (sym (text_then_stop format calls more none)))
    (Appends-trans held_old held held_new written (mid ++ rest) first last)

-- printing stopped after calls in which no message stops it
pub stopped_then : {P : Type 0} (lines : ℕ) (servers : List P) (format : MessageFormat) (modeled : Bool)
    (old mid : ReceiverState P) (new : Repairer) (after : PortSetState P) (held_old held held_new : Option (List ℕ))
    (number : ℕ) → HasWritten lines servers format modeled old mid held_old held →
    HasStopped lines servers format modeled [] mid new after held held_new number →
    HasStopped lines servers format modeled [] old new after held_old held_new number
unfolding run_then run_of run_behind
stopped_then lines servers format modeled old mid new after held_old held held_new number first last = record {
  text = first.written ++ last.text;
  ran = run_then lines servers format modeled [] old (behind_text first.written mid) _
      (run_of lines servers format modeled old (behind_text first.written mid) first.received)
      (run_behind lines servers format modeled [] first.written mid
      (record { repairer = new; ports = after; text = last.text }) last.ran);
  empty = stop_then format first.received.calls last.ran.calls first.received.full ∙ last.empty;
  appended = cut_after format first.received.calls last.ran.calls held_old held held_new old.text mid.text
      first.written first.received.full first.appended first.received.printed last.appended;
}

pub stopped_more : {P : Type 0} (lines : ℕ) (servers : List P) (format other : MessageFormat) (modeled : Bool)
    (old mid : ReceiverState P) (new : Repairer) (after : PortSetState P) (held_old held held_new : Option (List ℕ))
    (number : ℕ) → HasWritten lines servers format modeled old mid held_old held → other ≡ format →
    HasStopped lines servers other modeled [] mid new after held held_new number →
    HasStopped lines servers format modeled [] old new after held_old held_new number
stopped_more {P = P} lines servers format other modeled old mid new after held_old held held_new number first same
    last =
    stopped_then lines servers format modeled old mid new after held_old held held_new number first
    (subst (λ (f : MessageFormat). HasStopped lines servers f modeled [] mid new after held held_new number) same last)

-- what holds of the number, if there is one, holds of another property that follows
pub if_some_map : {P Q : ℕ → Type 0} (stopped : Option ℕ) → ((number : ℕ) → P number → Q number) →
    IfSome stopped P → IfSome stopped Q
if_some_map None more holds = tt
if_some_map (Some number) more holds = more number holds

-- printing did not stop
pub not_stopped : (P : ℕ → Type 0) (stopped : Option ℕ) → stopped ≡ None → IfSome stopped P
not_stopped P None none = tt
not_stopped P (Some number) none = let no : ⊥ = cc in absurd no

-- a part of a call's text was written
pub written_one : {P : Type 0} (lines : ℕ) (servers : List P) (format : MessageFormat) (modeled : Bool)
    (old : ReceiverState P) (repairer : Repairer) (ports : PortSetState P) (text left : List ℕ)
    (held_old held_new : Option (List ℕ)) →
    HasReceived lines servers format modeled old
    (record { repairer = repairer; ports = ports; text = text }) → Moves held_old held_new text left →
    HasWritten lines servers format modeled old (record { repairer = repairer; ports = ports; text = left })
    held_old held_new
written_one {P = P} lines servers format modeled old repairer ports text left held_old held_new has moved =
    written_some lines servers format modeled old
    (record { repairer = repairer; ports = ports; text = text }) held_old held_new moved.front left has moved.parts
    moved.appended

-- calls with the format of an earlier state
pub received_as : {P : Type 0} (lines : ℕ) (servers : List P) (format other : MessageFormat) (modeled : Bool)
    (old new : ReceiverState P) → other ≡ format → HasReceived lines servers other modeled old new →
    HasReceived lines servers format modeled old new
received_as lines servers format other modeled old new same has =
    subst (λ (f : MessageFormat). HasReceived lines servers f modeled old new) same has

pub on_err_of : {T E P : Type 0} (result : Result T E) → P → OnErr result P
on_err_of (Ok _) holds = tt
on_err_of (Err _) holds = holds

-- the same, if the second part has its format from the state that the first part left
pub written_more : {P : Type 0} (lines : ℕ) (servers : List P) (format other : MessageFormat) (modeled : Bool)
    (old mid new : ReceiverState P) (held_old held held_new : Option (List ℕ)) →
    HasWritten lines servers format modeled old mid held_old held → other ≡ format →
    HasWritten lines servers other modeled mid new held held_new →
    HasWritten lines servers format modeled old new held_old held_new
written_more {P = P} lines servers format other modeled old mid new held_old held held_new first same last =
    written_then lines servers format modeled old mid new held_old held held_new first
    (subst (λ (f : MessageFormat). HasWritten lines servers f modeled mid new held held_new) same last)

pub failed_more : {P : Type 0} (lines : ℕ) (servers : List P) (format other : MessageFormat) (modeled : Bool)
    (old mid : ReceiverState P) (held_old held held_new : Option (List ℕ)) →
    HasWritten lines servers format modeled old mid held_old held → other ≡ format →
    HasFailed lines servers other modeled mid held held_new →
    HasFailed lines servers format modeled old held_old held_new
failed_more {P = P} lines servers format other modeled old mid held_old held held_new first same last =
    failed_then lines servers format modeled old mid held_old held held_new first
    (subst (λ (f : MessageFormat). HasFailed lines servers f modeled mid held held_new) same last)

-- a list that did not change begins with itself
pub begins_same : {A : Type 0} (old new : List A) → new ≡ old → Begins old new
begins_same old new same = record { rest = []; parts = same ∙ sym (append-nil old) }

-- ---- a receiver that took its first packet

-- it took none
pub begun_none : {P : Type 0} (lines : ℕ) (servers : List P) (format : MessageFormat) (modeled : Bool)
    (state : ReceiverState P) (held : Option (List ℕ)) → HasBegun lines servers format modeled [] state state held held
unfolding run_none run_of received_yet received_none stop_in
begun_none lines servers format modeled state held = record {
  written = [];
  appended = Appends-nil held;
  ran = run_none lines servers format modeled state;
  full = refl;
}

-- it took one, and a part of its text was written
pub begun_one : {P : Type 0} (lines : ℕ) (servers : List P) (format : MessageFormat) (modeled : Bool)
    (step : RepairStep) (old : ReceiverState P) (repairer : Repairer) (ports : PortSetState P) (text left : List ℕ)
    (held_old held_new : Option (List ℕ))
    (made : HasCalled format step None old.repairer repairer old.text text) → ports ≡ old.ports →
    call_stop format made.call ≡ None → Moves held_old held_new text left →
    HasBegun lines servers format modeled (taken_by lines step) old
    (record { repairer = repairer; ports = ports; text = left }) held_old held_new
unfolding run_first stop_in
begun_one {P = P} lines servers format modeled step old repairer ports text left held_old held_new made same goes
    moved = record {
      written = moved.front;
      appended = moved.appended;
      ran = run_first lines servers format modeled step old
          (record { repairer = repairer; ports = ports; text = moved.front ++ left })
          (record {
            call = made.call;
            from = made.from;
            to = made.to;
            stepped = made.stepped;
            asked = made.asked;
            printed = sym moved.parts ∙ made.printed;
          })
          same;
      full = ap (λ (s : Option ℕ). earlier s None) goes;
    }

-- a fault in the text of the first packet
pub broken_first : {P : Type 0} (lines : ℕ) (servers : List P) (format : MessageFormat) (modeled : Bool)
    (step : RepairStep) (old : ReceiverState P) (repairer : Repairer) (ports : PortSetState P) (text : List ℕ)
    (held_old held_new : Option (List ℕ)) → HasCalled format step None old.repairer repairer old.text text →
    ports ≡ old.ports → AppendsPrefix held_old held_new text →
    HasBroken lines servers format modeled (taken_by lines step) old held_old held_new
broken_first {P = P} lines servers format modeled step old repairer ports text held_old held_new made same front =
    record {
      took = taken_by lines step;
      part = begins_same (taken_by lines step) (taken_by lines step) refl;
      end = record { repairer = repairer; ports = ports; text = text };
      ran = run_first lines servers format modeled step old
          (record { repairer = repairer; ports = ports; text = text }) made same;
      front = front_before held_old held_new text _ front;
    }

-- the first packet stopped printing
pub stopped_first : {P : Type 0} (lines : ℕ) (servers : List P) (format : MessageFormat) (modeled : Bool)
    (step : RepairStep) (old : ReceiverState P) (repairer : Repairer) (ports : PortSetState P) (text : List ℕ)
    (held_old held_new : Option (List ℕ)) (number : ℕ)
    (made : HasCalled format step None old.repairer repairer old.text text) → ports ≡ old.ports →
    HasCutCall format made.call old.text held_old held_new number →
    HasStopped lines servers format modeled (taken_by lines step) old repairer ports held_old held_new number
unfolding run_first stop_in text_to_stop
stopped_first lines servers format modeled step old repairer ports text held_old held_new number made same cut = record {
  text = text;
  ran = run_first lines servers format modeled step old
      (record { repairer = repairer; ports = ports; text = text }) made same;
  empty = ap (λ (s : Option ℕ). earlier s None) cut.empty;
  appended = subst (λ (t : List ℕ). Appends held_old held_new (old.text ++ t))
      (sym (append-nil (call_to_stop format made.call))
      ∙ ap (λ (s : Option ℕ). call_to_stop format made.call ++ unless_stopped s []) (sym cut.empty))
      cut.appended;
}

-- the same run, with the text in other parts
run_text : {P : Type 0} (lines : ℕ) (servers : List P) (format : MessageFormat) (modeled : Bool) (first : List Given)
    (old : ReceiverState P) (repairer : Repairer) (ports : PortSetState P) (text other : List ℕ) → other ≡ text →
    HasRun lines servers format modeled first old (record { repairer = repairer; ports = ports; text = text }) →
    HasRun lines servers format modeled first old (record { repairer = repairer; ports = ports; text = other })
run_text lines servers format modeled first old repairer ports text other same has = record {
  calls = has.calls;
  follow = has.follow;
  since = has.since;
  given = has.given;
  taken = has.taken;
  sent = has.sent;
  printed = same ∙ has.printed;
}

-- the first packet, and then turns
pub begun_then : {P : Type 0} (lines : ℕ) (servers : List P) (format other : MessageFormat) (modeled : Bool)
    (first : List Given) (old mid new : ReceiverState P) (held_old held held_new : Option (List ℕ)) →
    HasBegun lines servers format modeled first old mid held_old held → other ≡ format →
    HasWritten lines servers other modeled mid new held held_new →
    HasBegun lines servers format modeled first old new held_old held_new
unfolding run_then run_of run_behind run_text
begun_then {P = P} lines servers format other modeled first old mid new held_old held held_new one same two =
    let last : HasWritten lines servers format modeled mid new held held_new =
    subst (λ (f : MessageFormat). HasWritten lines servers f modeled mid new held held_new) same two in
    record {
      written = one.written ++ last.written;
      appended = Appends-trans held_old held held_new one.written last.written one.appended last.appended;
      ran = run_text lines servers format modeled first old new.repairer new.ports
          (one.written ++ (last.written ++ new.text)) ((one.written ++ last.written) ++ new.text)
          (append_assoc one.written last.written new.text)
          (run_then lines servers format modeled first old (behind_text one.written mid) _ one.ran
          (run_behind lines servers format modeled [] one.written mid _
          (run_of lines servers format modeled mid _ last.received)));
      full = stop_then format one.ran.calls last.received.calls one.full ∙ last.received.full;
    }

-- a fault of a turn after the first packet
pub broken_turn : {P : Type 0} (lines : ℕ) (servers : List P) (format other : MessageFormat) (modeled : Bool)
    (first : List Given) (old mid : ReceiverState P) (held_old held held_new : Option (List ℕ)) →
    HasBegun lines servers format modeled first old mid held_old held → other ≡ format →
    HasFailed lines servers other modeled mid held held_new →
    HasBroken lines servers format modeled first old held_old held_new
broken_turn {P = P} lines servers format other modeled first old mid held_old held held_new one same two =
    let failed : HasFailed lines servers format modeled mid held held_new =
    subst (λ (f : MessageFormat). HasFailed lines servers f modeled mid held held_new) same two in
    record {
      took = first;
      part = begins_same first first refl;
      end = behind_text one.written failed.end;
      ran = run_then lines servers format modeled first old (behind_text one.written mid) _ one.ran
          (run_behind lines servers format modeled [] one.written mid failed.end failed.ran);
      front = front_before held_old held_new (one.written ++ failed.end.text) _
          (record {
            front = one.written ++ failed.front.front;
            rest = failed.front.rest;
            parts = ap (λ (t : List ℕ). one.written ++ t) failed.front.parts
                ∙ sym (append_assoc one.written failed.front.front failed.front.rest);
            appended = Appends-trans held_old held held_new one.written failed.front.front one.appended
                failed.front.appended;
          });
    }

-- a fault after the first packet, before the turns
pub broken_begun : {P : Type 0} (lines : ℕ) (servers : List P) (format : MessageFormat) (modeled : Bool)
    (first : List Given) (old mid : ReceiverState P) (held_old held : Option (List ℕ)) →
    HasBegun lines servers format modeled first old mid held_old held →
    HasBroken lines servers format modeled first old held_old held
broken_begun lines servers format modeled first old mid held_old held one = record {
  took = first;
  part = begins_same first first refl;
  end = behind_text one.written mid;
  ran = one.ran;
  front = front_before held_old held (one.written ++ mid.text) _
      (record { front = one.written; rest = mid.text; parts = refl; appended = one.appended });
}

-- printing stopped in a turn after the first packet
pub stopped_turn : {P : Type 0} (lines : ℕ) (servers : List P) (format other : MessageFormat) (modeled : Bool)
    (first : List Given) (old mid : ReceiverState P) (new : Repairer) (after : PortSetState P)
    (held_old held held_new : Option (List ℕ)) (number : ℕ) →
    HasBegun lines servers format modeled first old mid held_old held → other ≡ format →
    HasStopped lines servers other modeled [] mid new after held held_new number →
    HasStopped lines servers format modeled first old new after held_old held_new number
unfolding run_then run_behind
stopped_turn {P = P} lines servers format other modeled first old mid new after held_old held held_new number one same
    two =
    let last : HasStopped lines servers format modeled [] mid new after held held_new number =
    subst (λ (f : MessageFormat). HasStopped lines servers f modeled [] mid new after held held_new number) same two in
    record {
      text = one.written ++ last.text;
      ran = run_then lines servers format modeled first old (behind_text one.written mid) _ one.ran
          (run_behind lines servers format modeled [] one.written mid
          (record { repairer = new; ports = after; text = last.text }) last.ran);
      empty = stop_then format one.ran.calls last.ran.calls one.full ∙ last.empty;
      appended = cut_after format one.ran.calls last.ran.calls held_old held held_new old.text mid.text one.written
          one.full one.appended one.ran.printed last.appended;
    }

-- ---- the end

-- what is written at the end
abbrev pub closing : {P : Type 0} → MessageFormat → ReceiverState P → List ℕ
closing format state =
    end_text format None (last_status state.repairer == 0) (last_line state.repairer state.ports.failures)

-- the end, after the first packet and the turns
pub ended_at : {P E : Type 0} (lines : ℕ) (servers : List P) (format : MessageFormat) (modeled : Bool)
    (first : List Given) (old mid : ReceiverState P) (held_old held held_new : Option (List ℕ))
    (result : Result ℕ E) → HasBegun lines servers format modeled first old mid held_old held →
    OnOk result (Appends held held_new (mid.text ++ closing format mid)) →
    IfOk result (λ status. status ≡ last_status mid.repairer) →
    IfOk result (HasEnded lines servers format modeled first old mid.repairer mid.ports held_old held_new)
ended_at lines servers format modeled first old mid held_old held held_new (Ok status) one appends is =
    let last = closing format mid in
    record {
      text = one.written ++ mid.text;
      ran = one.ran;
      full = one.full;
      appended = subst (λ (n : ℕ). Appends held_old held_new ((one.written ++ mid.text)
          ++ end_text format None (n == 0) (last_line mid.repairer mid.ports.failures))) (sym is)
          (subst (λ (t : List ℕ). Appends held_old held_new t) (sym (append_assoc one.written mid.text last))
          (Appends-trans held_old held held_new one.written (mid.text ++ last) one.appended appends));
      status_is = is;
    }
ended_at lines servers format modeled first old mid held_old held held_new (Err fault) one appends is = tt

-- a fault of the end, after the first packet and the turns
pub broken_end : {P : Type 0} (lines : ℕ) (servers : List P) (format : MessageFormat) (modeled : Bool)
    (first : List Given) (old mid : ReceiverState P) (held_old held held_new : Option (List ℕ)) →
    HasBegun lines servers format modeled first old mid held_old held →
    AppendsPrefix held held_new (mid.text ++ closing format mid) →
    HasBroken lines servers format modeled first old held_old held_new
broken_end lines servers format modeled first old mid held_old held held_new one front =
    let last = closing format mid in
    record {
      took = first;
      part = begins_same first first refl;
      end = behind_text one.written mid;
      ran = one.ran;
      front = record {
        front = one.written ++ front.front;
        rest = front.rest;
        parts = append_assoc one.written mid.text last
            ∙ ap (λ (t : List ℕ). one.written ++ t) front.parts
            ∙ sym (append_assoc one.written front.front front.rest);
        appended = Appends-trans held_old held held_new one.written front.front one.appended front.appended;
      };
    }

-- what follows the messages at the end: the last line, and then the mark
pub end_parts : (format : MessageFormat) (is_whole : Bool) (note : List ℕ) →
    end_text format None is_whole note ≡ note_text format note ++ mark_text format is_whole
end_parts Lines is_whole note = sym (append-nil note)
end_parts Blocks is_whole note = refl
end_parts BlocksToEmpty is_whole note = refl

-- text that is kept after it grew is kept
pub kept_after : (old mid new note : List ℕ) → mid ≡ old ++ note → take (length mid) new ≡ mid →
    take (length old) new ≡ old
kept_after old mid new note grew kept =
    let low : length old ≤ length mid = omega (arith, ap (λ (t : List ℕ). length t) grew, length-append old note) in
    sym (take-take (length old) (length mid) new low)
    ∙ ap (take (length old)) (kept ∙ grew)
    ∙ take_at old note (length old) refl

-- nothing was taken and nothing written
pub broken_yet : {P : Type 0} (lines : ℕ) (servers : List P) (format : MessageFormat) (modeled : Bool)
    (first : List Given) (old : ReceiverState P) (held : Option (List ℕ)) →
    HasBroken lines servers format modeled first old held held
broken_yet lines servers format modeled first old held = record {
  took = [];
  part = record { rest = first; parts = refl };
  end = old;
  ran = run_none lines servers format modeled old;
  front = front_none held _;
}

-- the datagram of a first packet that was taken
pub first_given : (lines : ℕ) (first : Option FirstPacket) (one : FirstPacket) (bytes : List ℕ) → first ≡ Some one →
    bytes ≡ one.datagram.items →
    record { port = port_of lines one.origin; bytes = bytes } ∷ [] ≡ datagram_of_first lines first
first_given lines first one bytes is same =
    ap (λ (b : List ℕ). record { port = port_of lines one.origin; bytes = b } ∷ []) same
    ∙ ap (λ (f : Option FirstPacket). datagram_of_first lines f) (sym is)

pub on_err_map : {T E P Q : Type 0} (result : Result T E) → (P → Q) → OnErr result P → OnErr result Q
on_err_map (Ok _) more holds = tt
on_err_map (Err _) more holds = more holds

pub on_ok_all : {T E P : Type 0} (result : Result T E) → P → OnOk result P
on_ok_all (Ok _) holds = holds
on_ok_all (Err _) holds = tt

pub on_ok_with : {T E P Q R : Type 0} (result : Result T E) → (P → Q → R) → OnOk result P → OnOk result Q → OnOk result R
on_ok_with (Ok _) both first second = both first second
on_ok_with (Err _) both first second = tt

-- ---- the messages of a call were printed, or printing stopped in them

-- the text after lost messages, up to the message that stops printing
lost_cut : (format other : MessageFormat) (before mid : List ℕ) (lost : Option Gap) (handed : Handed) →
    mid ≡ before ++ lost_text format lost → other ≡ format →
    mid ++ handed_text other handed.first (printable other None handed.messages)
    ≡ before ++ (lost_text format lost ++ handed_text format handed.first (printable format None handed.messages))
lost_cut format other before mid lost handed line same =
    let printed : List ℕ = handed_text format handed.first (printable format None handed.messages) in
    ap (λ (f : MessageFormat). mid ++ handed_text f handed.first (printable f None handed.messages)) same
    ∙ ap (λ (t : List ℕ). t ++ printed) line
    ∙ append_assoc before (lost_text format lost) printed

pub printed_batch : {T E : Type 0} (format other : MessageFormat) (step : RepairStep) (old new : Repairer)
    (handed : Handed) (outcome : Outcome) (before mid after : List ℕ) (held_old held_new : Option (List ℕ))
    (stopped : Option ℕ) (result : Result T E) → HasStepped old new step handed outcome → new.options ≡ old.options →
    mid ≡ before ++ lost_text format outcome.lost → other ≡ format →
    OnOk result (Moves held_old held_new (mid ++ handed_text other handed.first handed.messages) after) →
    OnOk result (stop_after other None handed.first handed.messages ≡ None) →
    OnErr result (AppendsPrefix held_old held_new (mid ++ handed_text other handed.first handed.messages)) →
    OnErr result (IfSome stopped (HasCut other handed mid held_old held_new)) →
    HasPrinted format step outcome.ask old new before after held_old held_new stopped result
unfolding called
printed_batch format other step old new handed outcome before mid after held_old held_new stopped result stepped options
    line same moved full front cut =
    let text : List ℕ = mid ++ handed_text other handed.first handed.messages in
    record {
      text = text;
      called = called format step old new handed outcome before text stepped options
          (lost_printed format other before mid outcome.lost handed.first handed.messages line same);
      full = on_ok_weaker result
          (λ none. ap (λ (f : MessageFormat). stop_after f None handed.first handed.messages) (sym same) ∙ none) full;
      moved = moved;
      front = front;
      cut = on_err_map result
          (if_some_map stopped
          (λ number is.
          record {
            empty = ap (λ (f : MessageFormat). stop_after f None handed.first handed.messages) (sym same) ∙ is.empty;
            appended = subst (λ (t : List ℕ). Appends held_old held_new t)
                (lost_cut format other before mid outcome.lost handed line same) is.appended;
          }))
          cut;
    }

-- memory ran out before the messages of a call were printed
pub printed_fault : {T E : Type 0} (format : MessageFormat) (step : RepairStep) (old new : Repairer) (handed : Handed)
    (outcome : Outcome) (before after : List ℕ) (held_old held_new : Option (List ℕ)) (stopped : Option ℕ)
    (fault : E) → HasStepped old new step handed outcome → new.options ≡ old.options →
    AppendsPrefix held_old held_new before → stopped ≡ None →
    HasPrinted {T = T} {E = E} format step outcome.ask old new before after held_old held_new stopped (Err fault)
printed_fault format step old new handed outcome before after held_old held_new stopped fault stepped options front
    none =
    let text : List ℕ = lost_text format outcome.lost ++ handed_text format handed.first handed.messages in
    record {
      text = before ++ text;
      called = called format step old new handed outcome before (before ++ text) stepped options refl;
      full = tt;
      moved = tt;
      front = front_before held_old held_new before text front;
      cut = not_stopped _ stopped none;
    }

-- ---- what a receiver that stopped leaves

pub if_ok_map : {R E : Type 0} (P Q : R → Type 0) (result : Result R E) → ((r : R) → P r → Q r) → IfOk result P →
    IfOk result Q
if_ok_map P Q (Ok r) more holds = more r holds
if_ok_map P Q (Err _) more holds = tt

pub if_none_of : (stopped : Option ℕ) (P : Type 0) → P → IfNone stopped P
if_none_of None P holds = holds
if_none_of (Some number) P holds = tt

pub if_none_some : (stopped : Option ℕ) (P : Type 0) → IsSome stopped → IfNone stopped P
if_none_some None P some = let no : ⊥ = cc in absurd no
if_none_some (Some number) P some = tt

pub if_some_all : (P : ℕ → Type 0) (stopped : Option ℕ) → ((number : ℕ) → P number) → IfSome stopped P
if_some_all P None holds = tt
if_some_all P (Some number) holds = holds number
