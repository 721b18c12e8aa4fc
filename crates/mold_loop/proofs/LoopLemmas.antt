-- Lemmas about the whole loop in one process: its datagrams, its rounds of requests, and its text.
use Rattle.std.proofs.Common.{◌≡◌, ◌∙◌, ℕ, Bool, true, false, List, [], ◌∷◌, ◌++◌, length, map, replicate}
use Rattle.std.proofs.Common.{Option, None, Some, Result, Ok, Err, ap, refl, sym, subst, append_assoc}
use Rattle.std.proofs.Math.ListN.{length-replicate}
use Rattle.std.proofs.lemmas.List.{map-append}
use Rattle.std.proofs.lemmas.Result.{on_ok_weaker}
use Rattle.std.proofs.KnownBytes.{Appends-trans}
use Rattle.std.specs.Prelude.{IfOk, IsErr, OnOk}
use Rattle.std.specs.Io.KnownBytes.{Appends}
use Rattle.mold_devices.specs.Devices.{AppendsPrefix}
use Rattle.mold_ports.specs.Ports.{Port}
use Rattle.mold_publish.specs.Publishing.{PublishedInput}
use Rattle.mold_publish.specs.declared.message_refusal.MessageRefusal.{MessageRefusal}
use Rattle.mold_session.specs.Journal.{JournalState}
use Rattle.mold_session.specs.Server.{ServerState}
use Rattle.mold_loop.proofs.HeardLemmas.{Heard, HeardFront, lines_grow, passed_prints, passed_says, run_behind}
use Rattle.mold_loop.proofs.RepairLemmas.{both_before, round_answers, round_before, round_says, rounds_are}
use Rattle.mold_turns.proofs.RunLemmas.{begins_behind, begins_more, begins_trans, begins_whole, grows_in, none_answered, none_ok}
use Rattle.mold_listen.proofs.TurnLemmas.{hearing_both}
use Rattle.mold_listen.specs.Listening.{Progress, progress}
use Rattle.mold_turns.proofs.OutgoingLemmas.{fronts_twice}
use Rattle.mold_turns.specs.Outgoing.{OutgoingState, note_side}
use Rattle.mold_loop.specs.Looping.{LineState, LoopRun, Outcome, LeftOut, Sent, Pass}
use Rattle.mold_loop.specs.Looping.{goes_out, lines_after, loop_lines, loop_note, loop_side, loop_side_text}
use Rattle.mold_loop.specs.Looping.{loop_status, loop_text, passing}
use Rattle.mold_loop.specs.Looping.{rounds_after, rounds_made, routed_by, texts_front, with_progress}
use Rattle.mold_loop.specs.Writing.{HasWritten}
use Rattle.mold_loop.specs.Passing.{all_routed}
use Rattle.mold_send.specs.PublishLoop.{left_journal}
use Rattle.mold_loop.specs.Repairing.{RepairState, answers_sent, repairing, rounds_side, side_before, text_before}
use Rattle.mold_turns.specs.Runs.{Begins, run}
use Rattle.mold_turns.specs.Sides.{RestsOfTwo}
use Rattle.mold_serve.specs.Serving.{Service, service_of}
use Rattle.mold_loop.specs.declared.loop_parts.Drops.{Drops}
use Rattle.mold_loop.specs.declared.loop_parts.Routes.{Routes}

-- ---- the remaining datagrams, each with the outcome that it is sent

outcome_of : Bool → Outcome
outcome_of false = LeftOut
outcome_of true = Sent

goes_is : (on : Bool) → goes_out (outcome_of on) ≡ on
unfolding outcome_of
goes_is false = refl
goes_is true = refl

all_sent : List (Routes × List ℕ) → List Pass
all_sent [] = []
all_sent (x ∷ xs) = record { datagram = x.1; a = outcome_of x.0.a; b = outcome_of x.0.b } ∷ all_sent xs

all_sent_are : (xs : List (Routes × List ℕ)) → map routed_by (all_sent xs) ≡ xs
unfolding all_sent
all_sent_are [] = refl
all_sent_are (x ∷ xs) =
    ap {B = List (Routes × List ℕ)}
    (λ (on : Bool). (record { a = on; b = goes_out (outcome_of x.0.b) }, x.1) ∷ map routed_by (all_sent xs))
    (goes_is x.0.a)
    ∙ ap {B = List (Routes × List ℕ)} (λ (on : Bool). (record { a = x.0.a; b = on }, x.1) ∷ map routed_by (all_sent xs))
    (goes_is x.0.b)
    ∙ ap (λ (l : List (Routes × List ℕ)). x ∷ l) (all_sent_are xs)

-- ---- text that precedes the text of a state

both_twice : {P : Type 0} (front said back more : List ℕ) (s : RepairState P) →
    both_before front said (both_before back more s) ≡ both_before (front ++ back) (said ++ more) s
both_twice {P} front said back more s =
    ap {B = RepairState P} (λ (outgoing : OutgoingState). record {
      server = s.server;
      requests = s.requests;
      answered = s.answered;
      progress = progress s.progress.arbitration outgoing;
    }) (fronts_twice front said back more s.progress.outgoing)

rounds_front : {P : Type 0} (refused : Option MessageRefusal) (to : P) (service : Service)
    (choices : List (Bool × List Bool)) (front said : List ℕ) (s : RepairState P) →
    rounds_made refused to service choices (both_before front said s)
    ≡ both_before front said (rounds_made refused to service choices s)
rounds_front None to service choices front said s =
    run_behind (repairing to service) (both_before front said) (round_before to service front said) (λ s. refl) choices
    s
rounds_front (Some why) to service choices front said s = refl

rounds_print : {P : Type 0} (refused : Option MessageRefusal) (to : P) (service : Service)
    (choices : List (Bool × List Bool)) (s : RepairState P) →
    Begins s.progress.outgoing.text (rounds_made refused to service choices s).progress.outgoing.text
rounds_print None to service choices s =
    grows_in (repairing to service) (repairing to service).text (rounds_are to service).prints choices s
rounds_print (Some why) to service choices s = begins_whole s.progress.outgoing.text

rounds_say : {P : Type 0} (refused : Option MessageRefusal) (to : P) (service : Service)
    (choices : List (Bool × List Bool)) (s : RepairState P) →
    Begins s.progress.outgoing.side (rounds_made refused to service choices s).progress.outgoing.side
rounds_say None to service choices s = grows_in (repairing to service) rounds_side (round_says to service) choices s
rounds_say (Some why) to service choices s = begins_whole s.progress.outgoing.side

rounds_send : {P : Type 0} (refused : Option MessageRefusal) (to : P) (service : Service)
    (choices : List (Bool × List Bool)) (s : RepairState P) →
    Begins s.requests.sent (rounds_made refused to service choices s).requests.sent
rounds_send None to service choices s =
    grows_in (repairing to service) (repairing to service).sent (rounds_are to service).sends choices s
rounds_send (Some why) to service choices s = begins_whole s.requests.sent

rounds_answer : {P : Type 0} (refused : Option MessageRefusal) (to : P) (service : Service)
    (choices : List (Bool × List Bool)) (s : RepairState P) →
    Begins s.server.sent (rounds_made refused to service choices s).server.sent
rounds_answer None to service choices s =
    grows_in (repairing to service) answers_sent (round_answers to service) choices s
rounds_answer (Some why) to service choices s = begins_whole s.server.sent

note_front : (reporting : Bool) (journal : JournalState) (refused : Option MessageRefusal) (front said : List ℕ)
    (e : Progress) →
    loop_note reporting journal refused (hearing_both front said e) ≡ loop_note reporting journal refused e
note_front reporting journal None front said e = refl
note_front reporting journal (Some why) front said e = refl

lines_front : (reporting : Bool) (journal : JournalState) (refused : Option MessageRefusal) (front said : List ℕ)
    (e : Progress) →
    loop_lines reporting journal refused (hearing_both front said e) ≡ loop_lines reporting journal refused e
lines_front reporting journal None front said e = refl
lines_front reporting journal (Some why) front said e = refl

status_front : (refused : Option MessageRefusal) (front said : List ℕ) (e : Progress) →
    loop_status refused (hearing_both front said e) ≡ loop_status refused e
status_front None front said e = refl
status_front (Some why) front said e = refl

-- ---- the end

-- the end of the run has all the written text before its own
end_is : {P : Type 0} (a b to : P) (published : PublishedInput) (server : ServerState) (passes : List Pass)
    (choices : List (Bool × List Bool)) (lines mid : LineState P) (rounds now : RepairState P)
    (front said back more : List ℕ) → lines_after a b passes lines ≡ texts_front front said mid →
    rounds_after to published server choices mid.progress rounds ≡ both_before back more now →
    rounds_after to published server choices (lines_after a b passes lines).progress rounds
    ≡ both_before (front ++ back) (said ++ more) now
end_is {P} a b to published server passes choices lines mid rounds now front said back more is made =
    let service : Service = service_of (left_journal published) server in
    ap (λ (s : LineState P). rounds_after to published server choices s.progress rounds) is
    ∙ rounds_front published.refused to service choices front said (with_progress mid.progress rounds)
    ∙ ap (both_before front said) made
    ∙ both_twice front said back more now

text_is : (reporting : Bool) (published : PublishedInput) (front said : List ℕ) (e : Progress) →
    loop_text reporting published (hearing_both front said e) ≡ front ++ loop_text reporting published e
text_is reporting published front said e =
    ap (λ (l : List ℕ). (front ++ e.outgoing.text) ++ l)
    (lines_front reporting published.journal published.refused front said e)
    ∙ append_assoc front e.outgoing.text (loop_lines reporting published.journal published.refused e)

side_is : (reporting : Bool) (published : PublishedInput) (front said : List ℕ) (e : Progress) →
    loop_side_text reporting published (hearing_both front said e) ≡ said ++ loop_side_text reporting published e
side_is reporting published front said e =
    ap (λ (l : List ℕ). (said ++ e.outgoing.side) ++ note_side e.outgoing.format l)
    (note_front reporting published.journal published.refused front said e)
    ∙ append_assoc said e.outgoing.side (loop_side reporting published.journal published.refused e)

behind_ok : {E : Type 0} (result : Result ℕ E) (old mid new : Option (List ℕ)) (front text whole : List ℕ)
    (status other : ℕ) → Appends old mid front → whole ≡ front ++ text → other ≡ status →
    IfOk result (λ answer. Appends mid new text × (answer ≡ status)) →
    IfOk result (λ answer. Appends old new whole × (answer ≡ other))
behind_ok (Ok answer) old mid new front text whole status other first same is done = (
  subst (λ (t : List ℕ). Appends old new t) (sym same) (Appends-trans old mid new front text first done.0),
  done.1 ∙ sym is,
)
behind_ok (Err _) old mid new front text whole status other first same is done = tt

said_ok : {E : Type 0} (result : Result ℕ E) (old mid new : Option (List ℕ)) (front text whole : List ℕ) →
    Appends old mid front → whole ≡ front ++ text → OnOk result (Appends mid new text) → OnOk result
    (Appends old new whole)
said_ok result old mid new front text whole first same said =
    on_ok_weaker result
    (λ second. subst (λ (t : List ℕ). Appends old new t) (sym same) (Appends-trans old mid new front text first second))
    said

-- the ports and the arbiter are those at the end of the run
pub record LoopStands {P : Type 0} (lines line_end : LineState P) (rounds round_end : RepairState P) : Type 0 where
  pub publisher_left : lines.publisher ≡ line_end.publisher
  pub a_left : lines.a ≡ line_end.a
  pub b_left : lines.b ≡ line_end.b
  pub server_left : rounds.server ≡ round_end.server
  pub requests_left : rounds.requests ≡ round_end.requests
  pub answered_left : rounds.answered ≡ round_end.answered
  pub arbiter_left : rounds.progress.arbitration ≡ round_end.progress.arbitration

module _ {P : Type 0} {reporting : Bool} (drops : Drops) (a b to : P) (turns limit sent : ℕ)
    (published : PublishedInput) (server : ServerState) (lines : LineState P) (rounds : RepairState P) where
  -- a fault while the data datagrams or the end packet are passed
  pub run_cut : {E : Type 0} (result : Result ℕ E) {xs : List (Routes × List ℕ)} (lines_left : LineState P)
      (rounds_left : RepairState P) (old new errors_old errors_new : Option (List ℕ)) →
      HeardFront a b xs lines lines_left old new errors_old errors_new →
      Begins xs (all_routed drops limit sent published) → IsErr result →
      rounds_left.server ≡ rounds.server → rounds_left.requests ≡ rounds.requests →
      LoopRun reporting drops a b to turns limit sent published server lines rounds result old new errors_old errors_new
      lines_left rounds_left
  run_cut result {xs} lines_left rounds_left old new errors_old errors_new with_receipt begins failed kept same =
      let rest : List Pass = all_sent begins.rest in
      let passes : List Pass = with_receipt.passes ++ rest in
      let choice : Bool × List Bool = (false, []) in
      let choices : List (Bool × List Bool) = replicate turns choice in
      let service : Service = service_of (left_journal published) server in
      let received_there : Progress = (lines_after a b passes lines).progress in
      let end : RepairState P = rounds_after to published server choices received_there rounds in
      let text : Begins with_receipt.written (loop_text reporting published end.progress) =
      begins_trans with_receipt.text
      (begins_trans
      (lines_grow a b (passing a b).text (passed_prints a b) with_receipt.passes rest lines)
      (begins_trans (rounds_print published.refused to service choices (with_progress received_there rounds))
      (begins_more end.progress.outgoing.text (loop_lines reporting published.journal published.refused end.progress)))) in
      let side : Begins with_receipt.said (loop_side_text reporting published end.progress) =
      begins_trans with_receipt.side
      (begins_trans
      (lines_grow a b (λ s. s.progress.outgoing.side) (passed_says a b) with_receipt.passes rest lines)
      (begins_trans (rounds_say published.refused to service choices (with_progress received_there rounds))
      (begins_more end.progress.outgoing.side (loop_side reporting published.journal published.refused end.progress))))
      in
      record {
        passes = passes;
        are =
            map-append routed_by with_receipt.passes rest
            ∙ ap (λ (l : List (Routes × List ℕ)). l ++ map routed_by rest) with_receipt.are
            ∙ ap (λ (l : List (Routes × List ℕ)). xs ++ l) (all_sent_are begins.rest)
            ∙ sym begins.parts;
        choices = choices;
        counted = length-replicate turns choice;
        whole = none_answered result _ failed;
        left = none_ok result _ failed;
        front = record { front = with_receipt.written; rest = text.rest; parts = text.parts; appended = with_receipt.appended };
        said = none_ok result _ failed;
        said_front = record {
          front = with_receipt.said;
          rest = side.rest;
          parts = side.parts;
          appended =
              with_receipt.told;
        };
        offers = record { front = with_receipt.passes; begins = begins_more with_receipt.passes rest; port = with_receipt.offered };
        requests =
            subst (λ (p : Port P). Begins p.sent end.requests.sent) (sym same)
            (rounds_send published.refused to service choices (with_progress received_there rounds));
        answers =
            subst (λ (p : Port P). Begins p.sent end.server.sent) (sym kept)
            (rounds_answer published.refused to service choices (with_progress received_there rounds));
      }

  -- everything is passed and requested: the remaining text is written, or a prefix of it
  pub run_end : {E : Type 0} (result : Result ℕ E) (mid lines_left : LineState P) (now rounds_left : RepairState P)
      (old first second new errors_old errors_first errors_second errors_new : Option (List ℕ))
      (choices : List (Bool × List Bool)) (written said : List ℕ) →
      Heard a b (all_routed drops limit sent published) lines mid old first errors_old errors_first →
      length choices ≡ turns → Appends first second written → Appends errors_first errors_second said →
      rounds_after to published server choices mid.progress rounds ≡ both_before written said now →
      AppendsPrefix second new (loop_text reporting published now.progress) →
      IfOk result (λ status. Appends second new (loop_text reporting published now.progress)
      × (status ≡ loop_status published.refused now.progress)) →
      AppendsPrefix errors_second errors_new (loop_side_text reporting published now.progress) →
      OnOk result (Appends errors_second errors_new (loop_side_text reporting published now.progress)) →
      LoopStands lines_left mid rounds_left now →
      OnOk result (HasWritten now.progress.outgoing rounds_left.progress.outgoing) →
      LoopRun reporting drops a b to turns limit sent published server lines rounds result old new errors_old errors_new
      lines_left rounds_left
  run_end result mid lines_left now rounds_left old first second new errors_old errors_first errors_second errors_new
      choices written said with_receipt counted appended told made cut done side_cut side_done agrees out =
      let before : List ℕ = with_receipt.written ++ written in
      let before_said : List ℕ = with_receipt.said ++ said in
      let end : RepairState P =
      rounds_after to published server choices (lines_after a b with_receipt.passes lines).progress rounds in
      let is : end ≡ both_before before before_said now =
      end_is a b to published server with_receipt.passes choices lines mid rounds now with_receipt.written
      with_receipt.said
      written said with_receipt.whole made in
      let start : Appends old second before =
      Appends-trans old first second with_receipt.written written with_receipt.appended appended in
      let start_said : Appends errors_old errors_second before_said =
      Appends-trans errors_old errors_first errors_second with_receipt.said said with_receipt.told told in
      let text : loop_text reporting published end.progress ≡ before ++ loop_text reporting published now.progress =
      ap (λ (s : RepairState P). loop_text reporting published s.progress) is
      ∙ text_is reporting published before before_said now.progress in
      let side : loop_side_text reporting published end.progress
      ≡ before_said ++ loop_side_text reporting published now.progress =
      ap (λ (s : RepairState P). loop_side_text reporting published s.progress) is
      ∙ side_is reporting published before before_said now.progress in
      let status : loop_status published.refused end.progress ≡ loop_status published.refused now.progress =
      ap (λ (s : RepairState P). loop_status published.refused s.progress) is
      ∙ status_front published.refused before before_said now.progress in
      record {
        passes = with_receipt.passes;
        are = with_receipt.are;
        choices = choices;
        counted = counted;
        whole =
            behind_ok result old second new before (loop_text reporting published now.progress) (loop_text reporting published end.progress)
            (loop_status published.refused now.progress) (loop_status published.refused end.progress) start text status
            done;
        left =
            on_ok_weaker result
            (λ nothing. record {
              publisher_left = agrees.publisher_left ∙ ap (λ (s : LineState P). s.publisher) (sym with_receipt.whole);
              a_left = agrees.a_left ∙ ap (λ (s : LineState P). s.a) (sym with_receipt.whole);
              b_left = agrees.b_left ∙ ap (λ (s : LineState P). s.b) (sym with_receipt.whole);
              server_left = agrees.server_left ∙ ap (λ (s : RepairState P). s.server) (sym is);
              requests_left = agrees.requests_left ∙ ap (λ (s : RepairState P). s.requests) (sym is);
              answered_left = agrees.answered_left ∙ ap (λ (s : RepairState P). s.answered) (sym is);
              arbiter_left = agrees.arbiter_left ∙ ap (λ (s : RepairState P). s.progress.arbitration) (sym is);
              outgoing_left =
                  subst (λ (s : RepairState P). HasWritten s.progress.outgoing rounds_left.progress.outgoing) (sym is)
                  (record { text = nothing.text; side = nothing.side; failures = nothing.failures });
            })
            out;
        front = record {
          front = before ++ cut.front;
          rest = cut.rest;
          parts =
              text ∙ ap (λ (t : List ℕ). before ++ t) cut.parts ∙ sym (append_assoc before cut.front cut.rest);
          appended = Appends-trans old second new before cut.front start cut.appended;
        };
        said =
            said_ok result errors_old errors_second errors_new before_said
            (loop_side_text reporting published now.progress) (loop_side_text reporting published end.progress)
            start_said
            side side_done;
        said_front = record {
          front = before_said ++ side_cut.front;
          rest = side_cut.rest;
          parts =
              side ∙ ap (λ (t : List ℕ). before_said ++ t) side_cut.parts
              ∙ sym (append_assoc before_said side_cut.front side_cut.rest);
          appended =
              Appends-trans errors_old errors_second errors_new before_said side_cut.front start_said side_cut.appended;
        };
        offers = record {
          front = with_receipt.passes;
          begins = begins_whole with_receipt.passes;
          port = agrees.publisher_left ∙ ap (λ (s : LineState P). s.publisher) (sym with_receipt.whole);
        };
        requests =
            subst (λ (p : Port P). Begins rounds_left.requests.sent p.sent)
            (agrees.requests_left ∙ ap (λ (s : RepairState P). s.requests) (sym is))
            (begins_whole rounds_left.requests.sent);
        answers =
            subst (λ (p : Port P). Begins rounds_left.server.sent p.sent)
            (agrees.server_left ∙ ap (λ (s : RepairState P). s.server) (sym is))
            (begins_whole rounds_left.server.sent);
      }

-- a fault in a round
pub run_unrepaired : {P T E F : Type 0} {reporting : Bool} (drops : Drops) (a b to : P) (turns limit sent : ℕ) (journal : JournalState)
    (server : ServerState) (lines : LineState P) (rounds : RepairState P) (asked : Result T F) (result : Result ℕ E)
    (mid lines_left : LineState P) (now : RepairState P)
    (old first new errors_old errors_first errors_new : Option (List ℕ)) →
    Heard a b (all_routed drops limit sent (record { journal = journal; refused = None })) lines mid old first
    errors_old
    errors_first →
    RestsOfTwo (repairing to (service_of (left_journal (record { journal = journal; refused = None })) server)) answers_sent
    text_before side_before rounds_side turns (with_progress mid.progress rounds) asked first new errors_first
    errors_new
    now →
    IsErr result → lines_left.publisher ≡ mid.publisher →
    LoopRun reporting drops a b to turns limit sent (record { journal = journal; refused = None }) server lines rounds result old
    new errors_old errors_new lines_left now
run_unrepaired {P} {T} {E} {F} {reporting} drops a b to turns limit sent journal server lines rounds asked result mid lines_left now
    old first new errors_old errors_first errors_new with_receipt two failed same =
    let published : PublishedInput = record { journal = journal; refused = None } in
    let service : Service = service_of (left_journal published) server in
    let rests = two.rests.rests in
    let said : List ℕ = two.rests.said in
    let end : RepairState P =
    rounds_after to published server rests.choices (lines_after a b with_receipt.passes lines).progress rounds in
    let made : RepairState P = run (repairing to service) rests.choices (with_progress mid.progress rounds) in
    let is : end ≡ both_before with_receipt.written with_receipt.said made =
    ap (λ (s : LineState P). rounds_after to published server rests.choices s.progress rounds) with_receipt.whole
    ∙ rounds_front None to service rests.choices with_receipt.written with_receipt.said
    (with_progress mid.progress rounds) in
    let text : Begins (with_receipt.written ++ rests.written) (loop_text reporting published end.progress) =
    begins_trans
    (subst (λ (s : RepairState P). Begins (with_receipt.written ++ rests.written) s.progress.outgoing.text) (sym is)
    (begins_behind with_receipt.written rests.front))
    (begins_more end.progress.outgoing.text (loop_lines reporting journal None end.progress)) in
    let side : Begins (with_receipt.said ++ said) (loop_side_text reporting published end.progress) =
    begins_trans
    (subst (λ (s : RepairState P). Begins (with_receipt.said ++ said) s.progress.outgoing.side) (sym is)
    (begins_behind with_receipt.said two.rests.front))
    (begins_more end.progress.outgoing.side (loop_side reporting journal None end.progress)) in
    record {
      passes = with_receipt.passes;
      are = with_receipt.are;
      choices = rests.choices;
      counted = rests.counted;
      whole = none_answered result _ failed;
      left = none_ok result _ failed;
      front = record {
        front = with_receipt.written ++ rests.written;
        rest = text.rest;
        parts = text.parts;
        appended = Appends-trans old first new with_receipt.written rests.written with_receipt.appended rests.appended;
      };
      said = none_ok result _ failed;
      said_front = record {
        front = with_receipt.said ++ said;
        rest = side.rest;
        parts = side.parts;
        appended =
            Appends-trans errors_old errors_first errors_new with_receipt.said said with_receipt.told
            two.rests.appended;
      };
      offers = record {
        front = with_receipt.passes;
        begins = begins_whole with_receipt.passes;
        port = same ∙ ap (λ (s : LineState P). s.publisher) (sym with_receipt.whole);
      };
      requests =
          subst (λ (s : RepairState P). Begins now.requests.sent s.requests.sent) (sym is) rests.sent;
      answers =
          subst (λ (s : RepairState P). Begins now.server.sent s.server.sent) (sym is) two.others;
    }
