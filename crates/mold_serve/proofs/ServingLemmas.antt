-- Turns of a server: text put before its text changes nothing else, and a turn only appends to what is printed and
-- sent.
use Rattle.std.proofs.Common.{◌≡◌, ◌+◌, ◌≤◌, ℕ, Bool, true, false, List, [], ◌∷◌, ◌++◌, drop, length, Option, Result, Ok, Err, refl, sym, ap, subst, ◌∙◌}
use Rattle.std.specs.Prelude.{IfErr, IsErr}
use Rattle.mold_devices.specs.Faults.{CountsCommand}
use Rattle.mold_devices.specs.declared.fault.CommandFault.{CommandFault}
use Rattle.mold_ports.specs.Ports.{Port, Receipt, Datagram, Quiet, Failure, cut, next_of, received}
use Rattle.mold_serve.specs.Answering.{MayOffer, Reaches}
use Rattle.mold_serve.specs.FileError.{IsReadOrMemory}
use Rattle.mold_serve.specs.Serving.{IsInNextTurn, IsSame, MayAnswer, Service, ResponderState, behind, fails_first, met, offer, offer_all}
use Rattle.mold_serve.specs.Serving.{replied, reply, serve_turn, served_by, service_of, serving}
use Rattle.mold_turns.specs.Outgoing.{OutgoingState}
use Rattle.mold_serve.specs.Tally.{served_line, with_outgoing}
use Rattle.mold_serve.specs.declared.responder.Responder.{Responder}
use Rattle.mold_serve.specs.declared.tally.Tally.{Tally}
use Rattle.mold_session.specs.Answer.{FitAlone, PlanState}
use Rattle.mold_session.specs.Journal.{JournalState, journal_below}
use Rattle.mold_session.specs.Server.{ServerState, counted, planning}
use Rattle.mold_session.specs.Loading.{CountsLoad}
use Rattle.mold_session.specs.Serving.{IsPlanOf}
use Rattle.mold_session.proofs.RequestCheckLemmas.{all_below}
use Rattle.mold_session.specs.declared.error.AnswerError.{AnswerError}
use Rattle.mold_session.specs.declared.error.FileError.{FileError}
use Rattle.mold_turns.specs.Runs.{Begins, Ran, Rests, WrittenInTime, run}
use Rattle.mold_turns.proofs.OutgoingLemmas.{front_twice, more_after, written_front}
use Rattle.mold_turns.proofs.RunLemmas.{IsLoop, begins_more, begins_trans, begins_whole, none_ok}
use Rattle.mold_wire.specs.declared.packet.Packet.{Packet}
use Rattle.mold_wire.specs.declared.limits.TheConstants.{MAX_LIMIT}

-- ---- text put before

offer_behind : {P : Type 0} (to : P) (fails : Bool) (packet : Packet) (front : List ℕ) (responder : ResponderState P) →
    offer to fails packet (behind front responder) ≡ behind front (offer to fails packet responder)
offer_behind to true packet front responder = refl
offer_behind {P} to false packet front responder =
    let after : ResponderState P = offer to false packet responder in
    ap
    (λ (out : OutgoingState). record { port = after.port; tally = with_outgoing out after.tally; requests = after.requests })
    (more_after front _ responder.tally.outgoing)

offer_all_behind : {P : Type 0} (to : P) (packets : List Packet) (fails : List Bool) (front : List ℕ)
    (responder : ResponderState P) → offer_all to packets fails (behind front responder) ≡ behind front (offer_all to packets fails responder)
unfolding offer_all
offer_all_behind to [] fails front responder = refl
offer_all_behind to (packet ∷ packets) fails front responder =
    ap (offer_all to packets (drop 1 fails)) (offer_behind to (fails_first fails) packet front responder)
    ∙ offer_all_behind to packets (drop 1 fails) front (offer to (fails_first fails) packet responder)

replied_behind : {P : Type 0} (to : P) (fails : List Bool) (reply : Result (List Packet) AnswerError)
    (front : List ℕ) (responder : ResponderState P) → replied to fails reply (behind front responder) ≡ behind front (replied to fails reply responder)
replied_behind to fails (Ok packets) front responder = offer_all_behind to packets fails front _
replied_behind {P} to fails (Err why) front responder =
    let after : ResponderState P = replied to fails (Err why) responder in
    ap
    (λ (out : OutgoingState). record { port = after.port; tally = with_outgoing out after.tally; requests = after.requests })
    (more_after front _ responder.tally.outgoing)

met_behind : {P : Type 0} (service : Service) (fails : List Bool) (receipt : Receipt P) (front : List ℕ)
    (responder : ResponderState P) → met service fails receipt (behind front responder) ≡ behind front (met service fails receipt responder)
met_behind service fails (Datagram from bytes) front responder = replied_behind from fails (reply service bytes) front responder
met_behind service fails Quiet front responder = refl
met_behind service fails Failure front responder = refl

turn_behind : {P : Type 0} (service : Service) (front : List ℕ) (fails : List Bool) (responder : ResponderState P) →
    serve_turn service fails (behind front responder) ≡ behind front (serve_turn service fails responder)
unfolding serve_turn
turn_behind service front fails responder =
    met_behind service fails (cut MAX_LIMIT (next_of responder.port)) front
    (record { port = received responder.port; tally = responder.tally; requests = responder.requests })

-- ---- more is printed and sent

offer_prints : {P : Type 0} (to : P) (fails : Bool) (packet : Packet) (responder : ResponderState P) →
    Begins responder.tally.outgoing.text (offer to fails packet responder).tally.outgoing.text
offer_prints to true packet responder = begins_whole responder.tally.outgoing.text
offer_prints to false packet responder = begins_more responder.tally.outgoing.text _

pub offer_sends : {P : Type 0} (to : P) (fails : Bool) (packet : Packet) (responder : ResponderState P) →
    Begins responder.port.sent (offer to fails packet responder).port.sent
offer_sends to true packet responder = begins_whole responder.port.sent
offer_sends to false packet responder = begins_more responder.port.sent _

offer_all_prints : {P : Type 0} (to : P) (packets : List Packet) (fails : List Bool) (responder : ResponderState P) →
    Begins responder.tally.outgoing.text (offer_all to packets fails responder).tally.outgoing.text
unfolding offer_all
offer_all_prints to [] fails responder = begins_whole responder.tally.outgoing.text
offer_all_prints to (packet ∷ packets) fails responder =
    begins_trans (offer_prints to (fails_first fails) packet responder)
    (offer_all_prints to packets (drop 1 fails) (offer to (fails_first fails) packet responder))

pub offer_all_sends : {P : Type 0} (to : P) (packets : List Packet) (fails : List Bool) (responder : ResponderState P) →
    Begins responder.port.sent (offer_all to packets fails responder).port.sent
unfolding offer_all
offer_all_sends to [] fails responder = begins_whole responder.port.sent
offer_all_sends to (packet ∷ packets) fails responder =
    begins_trans (offer_sends to (fails_first fails) packet responder)
    (offer_all_sends to packets (drop 1 fails) (offer to (fails_first fails) packet responder))

replied_prints : {P : Type 0} (to : P) (fails : List Bool) (reply : Result (List Packet) AnswerError)
    (responder : ResponderState P) → Begins responder.tally.outgoing.text (replied to fails reply responder).tally.outgoing.text
replied_prints to fails (Ok packets) responder = offer_all_prints to packets fails _
replied_prints to fails (Err why) responder = begins_more responder.tally.outgoing.text _

pub replied_sends : {P : Type 0} (to : P) (fails : List Bool) (reply : Result (List Packet) AnswerError)
    (responder : ResponderState P) → Begins responder.port.sent (replied to fails reply responder).port.sent
replied_sends to fails (Ok packets) responder = offer_all_sends to packets fails _
replied_sends to fails (Err why) responder = begins_whole responder.port.sent

met_prints : {P : Type 0} (service : Service) (fails : List Bool) (receipt : Receipt P) (responder : ResponderState P) →
    Begins responder.tally.outgoing.text (met service fails receipt responder).tally.outgoing.text
met_prints service fails (Datagram from bytes) responder = replied_prints from fails (reply service bytes) responder
met_prints service fails Quiet responder = begins_whole responder.tally.outgoing.text
met_prints service fails Failure responder = begins_whole responder.tally.outgoing.text

met_sends : {P : Type 0} (service : Service) (fails : List Bool) (receipt : Receipt P) (responder : ResponderState P) →
    Begins responder.port.sent (met service fails receipt responder).port.sent
met_sends service fails (Datagram from bytes) responder = replied_sends from fails (reply service bytes) responder
met_sends service fails Quiet responder = begins_whole responder.port.sent
met_sends service fails Failure responder = begins_whole responder.port.sent

turn_prints : {P : Type 0} (service : Service) (fails : List Bool) (responder : ResponderState P) →
    Begins responder.tally.outgoing.text (serve_turn service fails responder).tally.outgoing.text
unfolding serve_turn
turn_prints service fails responder =
    met_prints service fails (cut MAX_LIMIT (next_of responder.port))
    (record { port = received responder.port; tally = responder.tally; requests = responder.requests })

turn_sends : {P : Type 0} (service : Service) (fails : List Bool) (responder : ResponderState P) →
    Begins responder.port.sent (serve_turn service fails responder).port.sent
unfolding serve_turn
turn_sends service fails responder =
    met_sends service fails (cut MAX_LIMIT (next_of responder.port))
    (record { port = received responder.port; tally = responder.tally; requests = responder.requests })

-- serving is a loop of turns
pub serving_is : {P : Type 0} (service : Service) → IsLoop (serving {P = P} service) behind
serving_is {P} service = record {
  none = λ responder. refl;
  twice = λ front back responder.
      ap
      (λ (out : OutgoingState). record { port = responder.port; tally = with_outgoing out responder.tally; requests = responder.requests })
      (front_twice front back responder.tally.outgoing);
  turn = turn_behind service;
  over = λ front responder. refl;
  text = λ front responder. refl;
  sent = λ front responder. refl;
  prints = turn_prints service;
  sends = turn_sends service;
}

-- ---- a turn for a receipt

-- a receipt in a buffer of 65,507 bytes is replied to
pub turn_by : {P : Type 0} (service : Service) (fails : List Bool) (responder : ResponderState P) (receipt : Receipt P) (buffer : ℕ) →
    buffer ≡ MAX_LIMIT → receipt ≡ cut buffer (next_of responder.port) →
    serve_turn service fails responder
    ≡ met service fails receipt
    (record { port = received responder.port; tally = responder.tally; requests = responder.requests })
unfolding serve_turn
turn_by {P} service fails responder receipt buffer long is =
    ap
    (λ (r : Receipt P).
    met service fails r (record { port = received responder.port; tally = responder.tally; requests = responder.requests }))
    (ap (λ (n : ℕ). cut n (next_of responder.port)) (sym long) ∙ sym is)

-- if a receipt was replied to, a turn was made
pub turn_met : {P T E : Type 0} (result : Result T E) (service : Service) (fails : List Bool) (old new : ResponderState P)
    (receipt : Receipt P) (buffer : ℕ) (port : Port P) → buffer ≡ MAX_LIMIT → receipt ≡ cut buffer (next_of old.port) →
    port ≡ received old.port →
    Reaches result new
    (met service fails receipt (record { port = port; tally = old.tally; requests = old.requests })) →
    Reaches result new (serve_turn service fails old)
turn_met {P} {T} {E} result service fails old new receipt buffer port long is left reached =
    subst (λ (s : ResponderState P). Reaches result new s) (sym (turn_by service fails old receipt buffer long is))
    (subst
    (λ (p : Port P).
    Reaches result new
    (met service fails receipt (record { port = p; tally = old.tally; requests = old.requests })))
    left
    reached)

-- all was done
pub reached : {P E : Type 0} {new wanted : ResponderState P} → new ≡ wanted →
    Reaches {T = Unit {0}} {E = E} (Ok tt) new wanted
reached {P} {E} {new} {wanted} same = record {
  whole = same;
  sent = subst (λ (s : ResponderState P). Begins new.port.sent s.port.sent) same (begins_whole new.port.sent);
}

-- a state with another tally
abbrev responder_with : {P : Type 0} → Port P → ℕ → Tally → ResponderState P
responder_with port requests tally = record { port = port; tally = tally; requests = requests }

pub tally_is : {P : Type 0} (port : Port P) (requests : ℕ) {one other : Tally} → one ≡ other →
    responder_with port requests one ≡ responder_with port requests other
tally_is port requests same = ap (responder_with port requests) same

-- ---- the text that was written

-- if a prefix of the text was written, what was printed and counted is that prefix and the rest
pub wrote : {P : Type 0} (port : Port P) (before : Tally) (left : OutgoingState) (requests : ℕ) (front : List ℕ) →
    before.outgoing.text ≡ front ++ left.text → left.failures ≡ before.outgoing.failures →
    left.side ≡ before.outgoing.side → left.format ≡ before.outgoing.format →
    left.stopped ≡ before.outgoing.stopped →
    responder_with port requests before ≡ behind front (responder_with port requests (with_outgoing left before))
wrote port before left requests front parts failures side format stopped =
    tally_is port requests
    (ap (λ (out : OutgoingState). with_outgoing out before)
    (written_front before.outgoing left front parts failures side format stopped))

-- the server answers from the same journal, with the same limits
pub same_service : (journal : JournalState) (server first : ServerState) (answered : ℕ) →
    server ≡ record first { answered = answered } → service_of journal server ≡ service_of journal first
same_service journal server first answered same = ap (service_of journal) same

-- ---- what a responder works with

pub same_at_first : {D J : Type 0} (responder : Responder D J) → IsSame responder responder
same_at_first responder = record { port = refl; server = refl; journal = refl; tally = refl; limits = refl }

pub same_twice : {D J : Type 0} {one two three : Responder D J} → IsSame one two → IsSame two three → IsSame one three
same_twice {D} {J} {one} {two} {three} first second = record {
  port = second.port ∙ first.port;
  server = second.server ∙ first.server;
  journal = second.journal ∙ first.journal;
  tally = second.tally ∙ first.tally;
  limits =
      second.limits
      ∙ ap (λ (s : ServerState). record s { answered = three.server.now.answered }) first.limits;
}

-- the responder answers with the same limits
pub service_is : {D J : Type 0} {old new : Responder D J} (journal : JournalState) → IsSame old new →
    service_of journal new.server.now ≡ service_of journal old.server.now
service_is journal same = ap (service_of journal) same.limits

-- the journals that were shown are still shown
abbrev pub Keeps : {J : Type 0} → (J → JournalState → Type 0) → J → J → Type 0
Keeps shows old new = (journal : JournalState) → shows old journal → shows new journal

-- what stayed the same still does
abbrev pub Remains : {J : Type 0} → (J → J → Type 0) → J → J → Type 0
Remains {J} stays old new = (earlier : J) → stays earlier old → stays earlier new

pub may_answer : {D J : Type 0} {shows : J → JournalState → Type 0} {journal : JournalState}
    {old new : Responder D J} → IsSame old new → Keeps shows old.journal.now new.journal.now →
    MayAnswer shows old.journal.now old.server.now journal → MayAnswer shows new.journal.now new.server.now journal
may_answer {D} {J} {shows} {journal} {old} {new} same kept may = record {
  shown = kept journal may.shown;
  longest = subst (λ (s : ServerState). journal.max_message ≤ s.max_message) (sym same.limits) may.longest;
}

-- a plan that the server made may be sent
pub may_plan : {J : Type 0} {shows : J → JournalState → Type 0} {held : J} {server after : ServerState}
    {plan : PlanState} {journal : JournalState} → after ≡ counted server → MayAnswer shows held server journal →
    IsPlanOf journal plan → FitAlone server.limit journal.messages → MayOffer shows held after plan journal
may_plan {J} {shows} {held} {server} {after} {plan} {journal} same may planned fit = record {
  answers = record {
    shown = may.shown;
    longest = subst (λ (s : ServerState). journal.max_message ≤ s.max_message) (sym same) may.longest;
  };
  planned = planned;
  fit = subst (λ (s : ServerState). FitAlone s.limit journal.messages) (sym same) fit;
}

-- an error that fits weaker premises fits stronger ones
pub errors_for : {T : Type 0} (result : Result T FileError) (Weak Strong : JournalState → Type 0) →
    ((journal : JournalState) → Strong journal → Weak journal) →
    IfErr result (λ error. (journal : JournalState) → Weak journal → IsReadOrMemory error) →
    IfErr result (λ error. (journal : JournalState) → Strong journal → IsReadOrMemory error)
errors_for (Ok _) Weak Strong weaken refused = tt
errors_for (Err error) Weak Strong weaken refused = λ journal strong. refused journal (weaken journal strong)

-- a plan from the messages below the next number is one from all messages
pub planned_from_all : (journal : JournalState) (below burst : ℕ) (bytes : List ℕ)
    (made : Result PlanState AnswerError) → below ≡ length journal.messages + 1 →
    made ≡ planning (journal_below journal below) burst bytes → made ≡ planning journal burst bytes
planned_from_all journal below burst bytes made next is =
    is ∙ ap (λ (j : JournalState). planning j burst bytes) (all_below journal below next)

-- the rest of a plan may be sent like the plan
pub may_offer : {D J : Type 0} {shows : J → JournalState → Type 0} {journal : JournalState} {old new : Responder D J}
    {first plan : PlanState} → IsSame old new → Keeps shows old.journal.now new.journal.now →
    plan.session ≡ first.session → plan.to ≡ first.to →
    MayOffer shows old.journal.now old.server.now first journal →
    MayOffer shows new.journal.now new.server.now plan journal
may_offer {D} {J} {shows} {journal} {old} {new} {first} {plan} same kept session to may = record {
  answers = may_answer same kept may.answers;
  planned = record {
    session = session ∙ may.planned.session;
    to = subst (λ (n : ℕ). n ≤ length journal.messages + 1) (sym to) may.planned.to;
  };
  fit = subst (λ (s : ServerState). FitAlone s.limit journal.messages) (sym same.limits) may.fit;
}

-- after a fault only what was sent is known
pub rests_as : {P T E : Type 0} (service : Service) (turns : ℕ) (start one other : ResponderState P) (result : Result T E)
    (old new : Option (List ℕ)) → one.port ≡ other.port → IsErr result →
    Rests (serving service) behind turns start result old new one →
    Rests (serving service) behind turns start result old new other
rests_as {P} {T} {E} service turns start one other result old new same failed rests = record {
  choices = rests.choices;
  counted = rests.counted;
  written = rests.written;
  appended = rests.appended;
  whole = none_ok result _ failed;
  front = rests.front;
  sent =
      subst
      (λ (port : Port P). Begins port.sent (run (serving service) rests.choices start).port.sent)
      same
      rests.sent;
}

-- what was served, if port and server are at the end as they were left
pub served_so : {D P E : Type 0} (known : D → Port P) (service : Service) (turns : ℕ) (start : ResponderState P)
    (result : Result ℕ E) (old new : Option (List ℕ)) (first : ServerState) (port end : D) (server last : ServerState) →
    end ≡ port → last ≡ server →
    Ran (serving service) turns start (λ s. served_line s.tally) (λ s. 0)
    (λ s. (known port ≡ s.port) × (server ≡ served_by first s)) result old new (known port).sent →
    Ran (serving service) turns start (λ s. served_line s.tally) (λ s. 0)
    (λ s. (known end ≡ s.port) × (last ≡ served_by first s)) result old new (known end).sent
served_so {D} {P} {E} known service turns start result old new first port end server last is_port is_server ran =
    subst
    (λ (d : D).
    Ran (serving service) turns start (λ s. served_line s.tally) (λ s. 0)
    (λ s. (known d ≡ s.port) × (last ≡ served_by first s)) result old new (known d).sent)
    (sym is_port)
    (subst
    (λ (n : ServerState).
    Ran (serving service) turns start (λ s. served_line s.tally) (λ s. 0)
    (λ s. (known port ≡ s.port) × (n ≡ served_by first s)) result old new (known port).sent)
    (sym is_server)
    ran)

-- the same for what a fault finds unwritten
pub timely_so : {D P : Type 0} (known : D → Port P) (service : Service) (start : ResponderState P)
    (live : Bool) (old new : Option (List ℕ)) (port end : D) → end ≡ port →
    WrittenInTime (serving service) start live old new (IsInNextTurn (known port)) →
    WrittenInTime (serving service) start live old new (IsInNextTurn (known end))
timely_so {D} known service start live old new port end is timely =
    subst (λ (d : D). WrittenInTime (serving service) start live old new (IsInNextTurn (known d))) (sym is) timely

-- the same for the journal
pub kept_so : {J : Type 0} (shows : J → JournalState → Type 0) (old journal end : J) → end ≡ journal →
    Keeps shows old journal → Keeps shows old end
kept_so {J} shows old journal end is kept = subst (λ (j : J). Keeps shows old j) (sym is) kept

pub remains_so : {J : Type 0} (stays : J → J → Type 0) (old journal end : J) → end ≡ journal →
    Remains stays old journal → Remains stays old end
remains_so {J} stays old journal end is remains = subst (λ (j : J). Remains stays old j) (sym is) remains

pub failures_so : {J T : Type 0} (failed : J → ℕ) (result : Result T CommandFault) (old journal end : J)
    (sink_old sink_new : ℕ) → end ≡ journal →
    CountsCommand (failed old) (failed journal) sink_old sink_new result →
    CountsCommand (failed old) (failed end) sink_old sink_new result
failures_so {J} failed result old journal end sink_old sink_new is counts =
    subst (λ (j : J). CountsCommand (failed old) (failed j) sink_old sink_new result) (sym is) counts

pub loads_so : {J T : Type 0} (failed : J → ℕ) (result : Result T FileError) (old journal end : J) →
    end ≡ journal → CountsLoad (failed old) (failed journal) result → CountsLoad (failed old) (failed end) result
loads_so {J} failed result old journal end is counts =
    subst (λ (j : J). CountsLoad (failed old) (failed j) result) (sym is) counts
