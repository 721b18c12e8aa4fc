-- Lemmas from the messages that a loop publishes to what it prints, if its ports give only what it sent.
use Rattle.std.proofs.Common.{◌≡◌, ℕ, ◌+◌, ◌≤◌, Bool, true, false, List, [], ◌∷◌, ◌++◌, length, map, Option, None, Some}
use Rattle.std.proofs.Common.{Ok, Result, inl, refl, sym, ap, subst, ◌∙◌, arith}
use Rattle.std.specs.Prelude.{IfOk}
use Rattle.std.specs.Io.KnownBytes.{Appends}
use Rattle.std.specs.List.{AllByRecursion}
use Rattle.std.proofs.lemmas.Result.{IfOk-weaker}
use Rattle.mold_devices.specs.Devices.{AppendsPrefix}
use Rattle.mold_feed.specs.Received.{GivesOnly, PrintsMessages, PrintsMessagesRefused, PrintedLine, printable_lines}
use Rattle.mold_feed.specs.Received.{printed_lines_text, published_text, stop_between}
use Rattle.mold_listen.specs.Listening.{Asking, Progress, ListenerState, last_lines, listener_status, missed}
use Rattle.mold_loop.specs.Looping.{Failed, LeftOut, LineState, LoopRun, Outcome, Pass, Sent, IsPortAfter}
use Rattle.mold_loop.specs.Looping.{after_line_if, after_routes, lines_after, loop_end, loop_lines, loop_status, loop_text, offered_by}
use Rattle.mold_loop.specs.Looping.{outgoing_after, passed, port_after, received_if, rounds_made}
use Rattle.mold_loop.specs.Looping.{routed_by, sent_by, with_progress}
use Rattle.mold_turns.specs.Outgoing.{OutgoingState, note_text}
use Rattle.mold_input.specs.Entries.{InputEntries}
use Rattle.mold_input.specs.declared.message_format.MessageFormat.{MessageFormat}
use Rattle.mold_loop_law.specs.Own.{GivesSent, OwnPorts, WasSent}
use Rattle.mold_loop.specs.Passing.{all_routed, routed, routed_end}
use Rattle.mold_send.specs.PublishLoop.{after_data, all_datagrams, data_after}
use Rattle.mold_loop.specs.Repairing.{RepairState, missed_more, repaired, repairing, requested, round, served}
use Rattle.mold_turns.specs.Runs.{run}
use Rattle.mold_feed.specs.Sent.{AllSent, IsOpening}
use Rattle.mold_serve.specs.Serving.{ResponderState, Service, serve_turn, service_of, serving}
use Rattle.mold_listen.specs.Text.{handed_text, printable, stop_after}
use Rattle.mold_loop.specs.declared.loop_parts.Drops.{Drops}
use Rattle.mold_loop.specs.declared.loop_parts.Routes.{Routes}
use Rattle.mold_feed.proofs.PrintedLineLemmas.{text-handing}
use Rattle.mold_feed.proofs.StopLemmas.{printable-handing, stop_said}
use Rattle.mold_feed.proofs.TakingLemmas.{HasHeard, HearingLaws, IsSound, MayCome, last_number, nothing_received}
use Rattle.mold_feed.proofs.TakingLemmas.{then_received}
use Rattle.mold_feed.proofs.ReceivedTurnLemmas.{after_responses, ends_so, port_received, rest_gives}
use Rattle.mold_feed.proofs.MessagesPrintedLemmas.{HasCome, prints_messages}
use Rattle.mold_feed.proofs.SameBytesLemmas.{none_if}
use Rattle.mold_feed.proofs.SentLemmas.{each_append, each_begun, each_front, each_rest, sent_front, sent_offered, sent_one}
use Rattle.mold_feed.proofs.OpeningLemmas.{OpeningLaws, begins_at, begins_honest, begins_in, left_by, left_messages}
use Rattle.mold_feed.proofs.SessionLawLemmas.{none_sent, port_weaker}
use Rattle.mold_ports.specs.Ports.{Port, offered}
use Rattle.mold_publish.specs.Publishing.{PublishedInput, input_published, refused_text}
use Rattle.mold_publish.specs.declared.message_refusal.MessageRefusal.{MessageRefusal}
use Rattle.mold_receiver.specs.Store.{Message}
use Rattle.mold_receiver.specs.View.{fresh}
use Rattle.mold_receiver.specs.Wanted.{wanted}
use Rattle.mold_receiver.specs.declared.line.Line.{Line}
use Rattle.mold_receiver.specs.declared.line.Line.TheVariants.{A, B}
use Rattle.mold_session.specs.Answer.{between}
use Rattle.mold_session.specs.Journal.{JournalState}
use Rattle.mold_session.specs.Server.{IsServer, ServerState}
use Rattle.mold_session.specs.Truthful.{MayAnswer, IsTrueDatagram}
use Rattle.mold_wire.specs.Request.{request_spelling}
use Rattle.mold_wire.specs.declared.request.Request.{Request}

-- the laws that the loop's law depends on
pub record LoopLaws (P : Type 0) : Type 0 where
  pub opening : OpeningLaws
  pub served : (service : Service) (choices : List (List Bool)) (start : ResponderState P) →
      MayAnswer service.journal service.limit → AllSent (IsTrueDatagram service.journal) start.port.sent →
      AllSent (IsTrueDatagram service.journal) (run (serving service) choices start).port.sent
  pub offered : (beats ends limit : ℕ) (journal : JournalState) (input : InputEntries) → IsOpening journal limit →
      AllByRecursion (IsTrueDatagram (left_by journal input))
      (all_datagrams limit beats ends (input_published journal input))
  pub progress : HearingLaws

-- ---- what the publisher's port sends

-- all datagrams of the list satisfy `Good`
abbrev AllRouted : (List ℕ → Type 0) → List (Routes × List ℕ) → Type 0
AllRouted Good datagrams = AllByRecursion (λ datagram. Good datagram.1) datagrams

abbrev AllPassed : (List ℕ → Type 0) → List Pass → Type 0
AllPassed Good passes = AllByRecursion (λ pass. Good pass.datagram) passes

data_routed : (Good : List ℕ → Type 0) (drops : Drops) (number : ℕ) (datagrams : List (List ℕ)) →
    AllByRecursion Good datagrams → AllRouted Good (routed drops number datagrams)
data_routed Good drops number [] each = tt
data_routed Good drops number (datagram ∷ datagrams) each =
    (each.0, data_routed Good drops (number + 1) datagrams each.1)

-- a loop sends no heartbeat, and one end packet
end_routed : (Good : List ℕ → Type 0) (refused : Option MessageRefusal) (journal : JournalState) →
    AllByRecursion Good (after_data 0 1 journal refused) → AllRouted Good (routed_end journal refused)
end_routed Good None journal each = (each.0, tt)
end_routed Good (Some why) journal each = tt

published_routed : (Good : List ℕ → Type 0) (drops : Drops) (limit : ℕ) (published : PublishedInput) →
    AllByRecursion Good (all_datagrams limit 0 1 published) → AllRouted Good (all_routed drops limit 0 published)
published_routed Good drops limit published each =
    let front : List (List ℕ) = data_after limit 0 published in
    let ends : List (List ℕ) = after_data 0 1 published.journal published.refused in
    each_append (λ (datagram : Routes × List ℕ). Good datagram.1) (routed drops 1 front)
    (routed_end published.journal published.refused)
    (data_routed Good drops 1 front (each_front Good front ends each))
    (end_routed Good published.refused published.journal (each_rest Good front ends each))

-- the datagrams of the passes satisfy `Good` too
routed_passed : (Good : List ℕ → Type 0) (passes : List Pass) → AllRouted Good (map routed_by passes) →
    AllPassed Good passes
routed_passed Good [] each = tt
routed_passed Good (pass ∷ passes) each = (each.0, routed_passed Good passes each.1)

outcome_sends : {P : Type 0} (Good : List ℕ → Type 0) (outcome : Outcome) (to : P) (bytes : List ℕ) (port : Port P) →
    AllSent Good port.sent → Good bytes → AllSent Good (port_after outcome to bytes port).sent
outcome_sends Good LeftOut to bytes port all one = all
outcome_sends Good Failed to bytes port all one = all
outcome_sends Good Sent to bytes port all one = sent_offered Good false to bytes port all one

passes_send : {P : Type 0} (Good : List ℕ → Type 0) (a b : P) (passes : List Pass) (s : LineState P) →
    AllPassed Good passes → AllSent Good s.publisher.sent → AllSent Good (lines_after a b passes s).publisher.sent
unfolding run passed
passes_send Good a b [] s each all = all
passes_send Good a b (pass ∷ passes) s each all =
    passes_send Good a b passes (passed a b pass s) each.1
    (outcome_sends Good pass.b b pass.datagram (port_after pass.a a pass.datagram s.publisher)
    (outcome_sends Good pass.a a pass.datagram s.publisher all each.0) each.0)

-- the sends of a prefix of the passes
behind_sends : {P : Type 0} (Good : List ℕ → Type 0) (a b : P) (passes : List Pass) (s : LineState P) (left : Port P) →
    IsPortAfter a b passes s left → AllPassed Good passes → AllSent Good s.publisher.sent → AllSent Good left.sent
behind_sends {P} Good a b passes s left stands each all =
    subst (λ (port : Port P). AllSent Good port.sent) (sym stands.port)
    (passes_send Good a b stands.front s
    (each_begun (λ (pass : Pass). Good pass.datagram) stands.front passes stands.begins each) all)

-- ---- what the server's port sends

module _ {P : Type 0} (Good : List ℕ → Type 0) (to : P) (service : Service)
    (serves : (fails : List Bool) (responder : ResponderState P) → AllSent Good responder.port.sent →
    AllSent Good (serve_turn service fails responder).port.sent) where
  requested_sends : (wish : Option Request) (choice : Bool × List Bool) (s : RepairState P) →
      AllSent Good s.server.sent → AllSent Good (requested wish to service choice s).server.sent
  requested_sends None choice s all = all
  requested_sends (Some request) (true, fails) s all = all
  requested_sends (Some request) (false, fails) s all = serves fails _ all

  rounds_send : (choices : List (Bool × List Bool)) (s : RepairState P) → AllSent Good s.server.sent →
      AllSent Good (run (repairing to service) choices s).server.sent
  unfolding run round
  rounds_send [] s all = all
  rounds_send (choice ∷ choices) s all =
      rounds_send choices (round to service choice s)
      (requested_sends (wanted s.progress.arbitration.view) choice s all)

-- no round is made if a line is refused
made_sends : {P : Type 0} (Good : List ℕ → Type 0) (to : P) (service : Service) (refused : Option MessageRefusal)
    (choices : List (Bool × List Bool)) (s : RepairState P) →
    (refused ≡ None → (fails : List Bool) (responder : ResponderState P) → AllSent Good responder.port.sent →
    AllSent Good (serve_turn service fails responder).port.sent) → AllSent Good s.server.sent →
    AllSent Good (rounds_made refused to service choices s).server.sent
made_sends Good to service None choices s serves all = rounds_send Good to service (serves refl) choices s all
made_sends Good to service (Some why) choices s serves all = all

-- ---- what the listener receives

-- what the listener has received, and what the ports of the lines still give
record HeardLines {P : Type 0} (journal : JournalState) (Plain : Type 0) (Good : List ℕ → Type 0) (old : Progress)
    (new : LineState P) : Type 0 where
  received : HasHeard journal Plain Good old new.progress
  a : GivesOnly Good new.a
  b : GivesOnly Good new.b

-- what the listener has received, and what the port of requests still gives
record HeardRounds {P : Type 0} (journal : JournalState) (Plain : Type 0) (Good : List ℕ → Type 0) (old : Progress)
    (new : RepairState P) : Type 0 where
  received : HasHeard journal Plain Good old new.progress
  gives : GivesOnly Good new.requests

gives_if : {P : Type 0} (Good : List ℕ → Type 0) (receives : Bool) (port : Port P) → GivesOnly Good port →
    GivesOnly Good (received_if receives port)
gives_if Good true port gives = rest_gives Good port.comes gives
gives_if Good false port gives = gives

-- a send prints nothing
outcome_text : (outcome : Outcome) (outgoing : OutgoingState) → (outgoing_after outcome outgoing).text ≡ outgoing.text
outcome_text LeftOut outgoing = refl
outcome_text Failed outgoing = refl
outcome_text Sent outgoing = refl

outcome_format : (outcome : Outcome) (outgoing : OutgoingState) →
    (outgoing_after outcome outgoing).format ≡ outgoing.format
outcome_format LeftOut outgoing = refl
outcome_format Failed outgoing = refl
outcome_format Sent outgoing = refl

outcome_stopped : (outcome : Outcome) (outgoing : OutgoingState) →
    (outgoing_after outcome outgoing).stopped ≡ outgoing.stopped
outcome_stopped LeftOut outgoing = refl
outcome_stopped Failed outgoing = refl
outcome_stopped Sent outgoing = refl

module _ (journal : JournalState) (Plain : Type 0) (Good : List ℕ → Type 0) (laws : HearingLaws)
    (may : MayCome journal Plain Good) where
  -- ---- one pass

  line_received : {P : Type 0} (receives : Bool) (line : Line) (port : Port P) (e : Progress) → IsSound journal e →
      GivesOnly Good port → HasHeard journal Plain Good e (after_line_if receives line port e)
  line_received true line port e sound gives = port_received journal Plain Good laws may (Some line) port e sound gives
  line_received false line port e sound gives = nothing_received journal Plain Good e e sound refl refl refl refl

  after_lines : {P : Type 0} (lines : Routes) (s : LineState P) → IsSound journal s.progress → GivesOnly Good s.a →
      GivesOnly Good s.b → HeardLines journal Plain Good s.progress (after_routes lines s)
  after_lines lines s sound a b =
      let mid : Progress = after_line_if lines.a A s.a s.progress in
      let on_a = line_received lines.a A s.a s.progress sound a in
      let on_b = line_received lines.b B s.b mid on_a.sound b in
      record {
        received = then_received journal Plain Good s.progress mid (after_routes lines s).progress sound on_a on_b;
        a = gives_if Good lines.a s.a a;
        b = gives_if Good lines.b s.b b;
      }

  pass_received : {P : Type 0} (a b : P) (pass : Pass) (s : LineState P) → IsSound journal s.progress →
      GivesOnly Good s.a → GivesOnly Good s.b → HeardLines journal Plain Good s.progress (passed a b pass s)
  unfolding passed
  pass_received {P} a b pass s sound on_a on_b =
      let mid : LineState P = offered_by a b pass s in
      let same : mid.progress.outgoing.text ≡ s.progress.outgoing.text =
      outcome_text pass.b (outgoing_after pass.a s.progress.outgoing) ∙ outcome_text pass.a s.progress.outgoing in
      let format : mid.progress.outgoing.format ≡ s.progress.outgoing.format =
      outcome_format pass.b (outgoing_after pass.a s.progress.outgoing) ∙ outcome_format pass.a s.progress.outgoing in
      let stopped : mid.progress.outgoing.stopped ≡ s.progress.outgoing.stopped =
      outcome_stopped pass.b (outgoing_after pass.a s.progress.outgoing) ∙ outcome_stopped pass.a s.progress.outgoing in
      let offers = nothing_received journal Plain Good s.progress mid.progress sound refl same format stopped in
      let hears = after_lines (sent_by pass) mid offers.sound on_a on_b in
      record {
        received =
            then_received journal Plain Good s.progress mid.progress (after_routes (sent_by pass) mid).progress sound offers
            hears.received;
        a = hears.a;
        b = hears.b;
      }

  passes_received : {P : Type 0} (a b : P) (passes : List Pass) (s : LineState P) → IsSound journal s.progress →
      GivesOnly Good s.a → GivesOnly Good s.b → HasHeard journal Plain Good s.progress (lines_after a b passes s).progress
  unfolding run
  passes_received a b [] s sound on_a on_b = nothing_received journal Plain Good s.progress s.progress sound refl refl refl refl
  passes_received {P} a b (pass ∷ passes) s sound on_a on_b =
      let after : LineState P = passed a b pass s in
      let one = pass_received a b pass s sound on_a on_b in
      then_received journal Plain Good s.progress after.progress (lines_after a b passes after).progress sound one.received
      (passes_received a b passes after one.received.sound one.a one.b)

  -- ---- one round

  repaired_received : {P : Type 0} (service : Service) (fails : List Bool) (s : RepairState P) → IsSound journal s.progress →
      GivesOnly Good s.requests → HeardRounds journal Plain Good s.progress (repaired service fails s)
  repaired_received {P} service fails s sound gives =
      let tally = (served service fails s).tally in
      let mid : Progress = missed_more tally.outgoing.failures s.progress in
      let before : Asking P = record { port = s.requests; progress = mid } in
      let same = nothing_received journal Plain Good s.progress mid sound refl refl refl refl in
      let answers = after_responses journal Plain Good laws may tally.answered before same.sound gives in
      record {
        received =
            then_received journal Plain Good s.progress mid (repaired service fails s).progress sound same answers.received;
        gives = answers.gives;
      }

  requested_received : {P : Type 0} (wish : Option Request) (to : P) (service : Service) (choice : Bool × List Bool)
      (s : RepairState P) → IsSound journal s.progress → GivesOnly Good s.requests →
      HeardRounds journal Plain Good s.progress (requested wish to service choice s)
  requested_received None to service choice s sound gives = record {
    received = nothing_received journal Plain Good s.progress s.progress sound refl refl refl refl;
    gives = gives;
  }
  requested_received (Some request) to service (true, fails) s sound gives = record {
    received = nothing_received journal Plain Good s.progress (missed s.progress) sound refl refl refl refl;
    gives = gives;
  }
  requested_received (Some request) to service (false, fails) s sound gives =
      repaired_received service fails
      (record {
        server = s.server;
        requests = offered false to (request_spelling request) s.requests;
        answered = s.answered;
        progress = s.progress;
      })
      sound gives

  rounds_received : {P : Type 0} (to : P) (service : Service) (choices : List (Bool × List Bool)) (s : RepairState P) →
      IsSound journal s.progress → GivesOnly Good s.requests →
      HasHeard journal Plain Good s.progress (run (repairing to service) choices s).progress
  unfolding run round
  rounds_received to service [] s sound gives = nothing_received journal Plain Good s.progress s.progress sound refl refl refl refl
  rounds_received {P} to service (choice ∷ choices) s sound gives =
      let after : RepairState P = round to service choice s in
      let one = requested_received (wanted s.progress.arbitration.view) to service choice s sound gives in
      then_received journal Plain Good s.progress after.progress (run (repairing to service) choices after).progress sound
      one.received
      (rounds_received to service choices after one.received.sound one.gives)

  made_received : {P : Type 0} (refused : Option MessageRefusal) (to : P) (service : Service)
      (choices : List (Bool × List Bool)) (s : RepairState P) → IsSound journal s.progress → GivesOnly Good s.requests →
      HasHeard journal Plain Good s.progress (rounds_made refused to service choices s).progress
  made_received None to service choices s sound gives = rounds_received to service choices s sound gives
  made_received (Some why) to service choices s sound gives =
      nothing_received journal Plain Good s.progress s.progress sound refl refl refl refl

-- ---- the whole loop

-- a server whose maximum message length is at least the journal's can respond from it
pub server_may : (laws : OpeningLaws) (limit : ℕ) (journal : JournalState) (input : InputEntries) (server : ServerState) →
    IsOpening journal limit → IsServer server → journal.max_message ≤ server.max_message →
    MayAnswer (left_by journal input) server.limit
server_may laws limit journal input server opening serves longest =
    laws.answers limit server.limit journal input opening serves.limited (omega (arith, longest, serves.longest))

-- all datagrams sent satisfy `Good`, so all that a port gives of them do
gives_true : {P : Type 0} (Good : List ℕ → Type 0) (sent : List (P × List ℕ)) (port : Port P) → AllSent Good sent →
    GivesSent sent port → GivesOnly Good port
gives_true Good sent port all gives =
    port_weaker (WasSent sent) Good (λ bytes was. sent_one Good sent was.to bytes all was.among) port gives

module _ {P : Type 0} (laws : LoopLaws P) (reporting : Bool) (drops : Drops) (a b to : P) (turns limit : ℕ)
    (journal : JournalState) (input : InputEntries) (server : ServerState) (start start_left : LineState P) (rounds rounds_left : RepairState P)
    {E : Type 0} (result : Result ℕ E) (old new errors_old errors_new : Option (List ℕ))
    (opening : IsOpening journal limit)
    (may : (input_published journal input).refused ≡ None → MayAnswer (left_by journal input) server.limit)
    (own : OwnPorts start start_left rounds rounds_left)
    (ran : LoopRun reporting drops a b to turns limit 0 (input_published journal input) server start rounds result old new
    errors_old errors_new start_left rounds_left) where
  abbrev published : PublishedInput
  published = input_published journal input

  abbrev left : JournalState
  left = left_by journal input

  abbrev Good : List ℕ → Type 0
  Good = IsTrueDatagram left

  -- the listener's progress at the end
  abbrev end : Progress
  end = (loop_end a b to published server ran.passes ran.choices start rounds).progress

  publisher_true : AllSent Good start_left.publisher.sent
  publisher_true =
      behind_sends Good a b ran.passes start start_left.publisher ran.offers
      (routed_passed Good ran.passes
      (subst (λ (datagrams : List (Routes × List ℕ)). AllRouted Good datagrams) (sym ran.are)
      (published_routed Good drops limit published (laws.offered 0 1 limit journal input opening))))
      (none_sent Good start.publisher.sent own.publisher)

  turn_true : published.refused ≡ None → (fails : List Bool) (responder : ResponderState P) →
      AllSent Good responder.port.sent → AllSent Good (serve_turn (service_of left server) fails responder).port.sent
  unfolding run
  turn_true unrefused fails responder all =
      laws.served (service_of left server) (fails ∷ []) responder (may unrefused) all

  server_true : AllSent Good rounds_left.server.sent
  server_true =
      let whole = loop_end a b to published server ran.passes ran.choices start rounds in
      sent_front Good rounds_left.server.sent whole.server.sent ran.answers
      (made_sends Good to (service_of left server) published.refused ran.choices
      (with_progress (lines_after a b ran.passes start).progress rounds) turn_true
      (none_sent Good rounds.server.sent own.server))

  -- an honest listener has received only true datagrams
  hears_true : IsSound left start.progress → HasHeard left (Unit {0}) Good start.progress end
  hears_true sound =
      let comes : MayCome left (Unit {0}) Good =
      record { harmless = λ bytes told. inl told; told = λ is_plain bytes told. told } in
      let mid : Progress = (lines_after a b ran.passes start).progress in
      let on_lines = passes_received left (Unit {0}) Good laws.progress comes a b ran.passes start sound
      (gives_true Good start_left.publisher.sent start.a publisher_true own.a)
      (gives_true Good start_left.publisher.sent start.b publisher_true own.b) in
      then_received left (Unit {0}) Good start.progress mid end sound on_lines
      (made_received left (Unit {0}) Good laws.progress comes published.refused to (service_of left server) ran.choices
      (with_progress mid rounds) on_lines.sound
      (gives_true Good rounds_left.server.sent rounds.requests server_true own.requests))

  -- a loop with status 0 refused no entry
  pub no_refusal : result ≡ Ok 0 → published.refused ≡ None
  no_refusal zero =
      none_if published.refused (λ why refused.
      let written = subst (λ (r : Result ℕ E). IfOk r (λ status. Appends old new (loop_text reporting published end)
      × (status ≡ loop_status published.refused end))) zero ran.whole in
      let two : 0 ≡ 2 = written.1 ∙ ap (λ (r : Option MessageRefusal). loop_status r end) refused in
      omega (arith, two))

  -- ---- a new listener

  module _ (first window : ℕ) (least : 1 ≤ first) (most : first ≤ length left.messages + 1)
      (anew : start.progress.arbitration.view ≡ fresh journal.session first window)
      (format : MessageFormat) (blank : start.progress.outgoing.text ≡ [])
      (in_format : start.progress.outgoing.format ≡ format) (unstopped : start.progress.outgoing.stopped ≡ None) where
    begins : start.progress.arbitration.view.next ≡ first
    begins = begins_at laws.opening limit journal input opening first window least most start.progress.arbitration anew

    sound : IsSound left start.progress
    sound = record {
      honest =
          begins_honest laws.opening limit journal input opening first window least most start.progress.arbitration anew;
      session = begins_in laws.opening limit journal input opening first window least most start.progress.arbitration anew;
    }

    done : HasHeard left (Unit {0}) Good start.progress end
    done = hears_true sound

    from : first ≤ end.arbitration.view.next
    from = omega (arith, begins, done.from)

    within : end.arbitration.view.next ≤ length left.messages + 1
    within = last_number left end done.sound

    text_is : end.outgoing.text ≡ published_text format left first end.arbitration.view.next
    text_is =
        let next : ℕ = end.arbitration.view.next in
        let here : ℕ = start.progress.arbitration.view.next in
        done.text
        ∙ ap (λ (f : MessageFormat). start.progress.outgoing.text
        ++ printed_lines_text f (printable_lines f start.progress.outgoing.stopped done.printed_lines)) in_format
        ∙ ap (λ (stopped : Option ℕ). start.progress.outgoing.text
        ++ printed_lines_text format (printable_lines format stopped done.printed_lines)) unstopped
        ∙ ap (λ (text : List ℕ). text
        ++ printed_lines_text format (printable_lines format None done.printed_lines)) blank
        ∙ ap (λ (printed_lines : List PrintedLine). printed_lines_text format (printable_lines format None printed_lines))
        (done.plain tt)
        ∙ ap (printed_lines_text format) (printable-handing format None here (between left.messages here next))
        ∙ text-handing format here (printable format None (between left.messages here next))
        ∙ ap (λ (n : ℕ). published_text format left n next) begins

    stop_is : end.outgoing.stopped ≡ stop_between format left first end.arbitration.view.next
    stop_is =
        let next : ℕ = end.arbitration.view.next in
        let here : ℕ = start.progress.arbitration.view.next in
        let messages : List Message = between left.messages here next in
        done.stop
        ∙ stop_said start.progress.outgoing.format start.progress.outgoing.stopped done.printed_lines here messages
        done.handed
        ∙ ap (λ (f : MessageFormat). stop_after f start.progress.outgoing.stopped here messages) in_format
        ∙ ap (λ (stopped : Option ℕ). stop_after format stopped here messages) unstopped
        ∙ ap (λ (n : ℕ). stop_between format left n next) begins

    -- if an entry is refused

    module _ (why : MessageRefusal) (refused : published.refused ≡ Some why) where
      abbrev published_messages : List Message
      published_messages = published.journal.messages

      abbrev next : ℕ
      next = end.arbitration.view.next

      same : left.messages ≡ published_messages
      same = left_messages journal input

      -- the last lines and the status are those of the refusal
      all_is : loop_text reporting published end
          ≡ handed_text format first (printable format None (between published_messages first next))
          ++ note_text format (refused_text (length published_messages + 1) why)
      all_is =
          ap (λ (text : List ℕ). text ++ loop_lines reporting published.journal published.refused end) text_is
          ∙ ap (λ (messages : List Message). handed_text format first (printable format None (between messages first next))
          ++ loop_lines reporting published.journal published.refused end) same
          ∙ ap (λ (r : Option MessageRefusal). handed_text format first (printable format None (between published_messages first next))
          ++ loop_lines reporting published.journal r end) refused
          ∙ ap (λ (f : MessageFormat). handed_text format first (printable format None (between published_messages first next))
          ++ note_text f (refused_text (length published_messages + 1) why)) (done.format ∙ in_format)

      two_is : loop_status published.refused end ≡ 2
      two_is = ap (λ (r : Option MessageRefusal). loop_status r end) refused

      pub loop_prints_refused : PrintsMessagesRefused format published_messages why first result old new
      loop_prints_refused = record {
        next = next;
        from = from;
        to = let most_of = ap (λ (messages : List Message). length messages) same in omega (arith, most_of, within);
        text =
            IfOk-weaker result _ _
            (λ answer written.
            (written.1 ∙ two_is, subst (λ (text : List ℕ). Appends old new text) all_is written.0))
            ran.whole;
        front = subst (λ (text : List ℕ). AppendsPrefix old new text) all_is ran.front;
      }

    -- if no entry is refused

    module _ (unrefused : published.refused ≡ None) where
      -- the last lines and the status are those of a listener
      line_is : loop_lines reporting published.journal published.refused end ≡ last_lines reporting end
      line_is = ap (λ (refused : Option MessageRefusal). loop_lines reporting published.journal refused end) unrefused

      status_is : loop_status published.refused end ≡ listener_status end
      status_is = ap (λ (refused : Option MessageRefusal). loop_status refused end) unrefused

      abbrev ending : ListenerState P
      ending = record { a = start.a; b = start.b; requests = rounds.requests; progress = end }

      comes : HasCome format reporting left first ending result old new
      comes = record {
        kept = done.format ∙ in_format;
        stop = stop_is;
        whole =
            IfOk-weaker result _ _
            (λ answer written. (
              subst (λ (line : List ℕ). Appends old new (end.outgoing.text ++ line)) line_is written.0,
              written.1 ∙ status_is,
            ))
            ran.whole;
        front = subst (λ (line : List ℕ). AppendsPrefix old new (end.outgoing.text ++ line)) line_is ran.front;
        from = from;
        to = within;
        ahead = done.sound.honest.well_formed.ahead;
        received = done.sound.honest.known;
        finished = λ over.
            let is = done.sound.honest.ends end.arbitration.view.next
            (ends_so end.arbitration.view.ended end.arbitration.view.next over) in
            record { closed = is.0; all = is.1 };
      }

      pub loop_prints_messages : PrintsMessages format reporting left first result old new
      loop_prints_messages = prints_messages comes text_is
