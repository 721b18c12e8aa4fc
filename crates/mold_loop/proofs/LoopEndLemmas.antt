-- Lemmas about the loop's run over the lines that its publisher publishes.
use Rattle.std.proofs.Common.{◌≡◌, ◌∙◌, ℕ, ◌+◌, Bool, true, false, List, [], ◌++◌, length, replicate}
use Rattle.std.proofs.Common.{Option, None, Some, Result, Ok, ap, refl, sym, subst, append-nil}
use Rattle.std.proofs.Math.ListN.{length-replicate}
use Rattle.std.proofs.KnownBytes.{Appends-nil}
use Rattle.std.specs.Prelude.{IfSome, IfOk, IsErr, OnOk}
use Rattle.std.specs.Io.KnownBytes.{Appends}
use Rattle.mold_devices.specs.Devices.{AppendsPrefix}
use Rattle.mold_input.specs.Entries.{InputEntries}
use Rattle.mold_ports.specs.Ports.{Port}
use Rattle.mold_publish.specs.Publishing.{PublishedInput, input_published, refused_text}
use Rattle.mold_publish.specs.declared.message_refusal.MessageRefusal.{MessageRefusal}
use Rattle.mold_receiver.specs.Arbiter.{Arbitration}
use Rattle.mold_session.specs.Journal.{JournalState}
use Rattle.mold_session.specs.Publisher.{PublisherState}
use Rattle.mold_session.specs.Server.{ServerState}
use Rattle.mold_loop.proofs.HeardLemmas.{Heard, received_more, received_failed, routed_more}
use Rattle.mold_send.proofs.SendingLemmas.{any_known}
use Rattle.mold_turns.proofs.RunLemmas.{begins_more, begins_none, begins_trans, begins_whole}
use Rattle.mold_turns.specs.Outgoing.{OutgoingState, note_side, note_text}
use Rattle.mold_listen.specs.Listening.{progress, last_lines, last_side, listener_status}
use Rattle.mold_loop.specs.Writing.{HasWritten}
use Rattle.mold_loop.specs.Looping.{IsData, LineState, LoopRun, PassRests, ReceivesMessages}
use Rattle.mold_loop.specs.Looping.{with_progress}
use Rattle.mold_loop.specs.Passing.{all_routed, routed, routed_end}
use Rattle.mold_send.specs.PublishLoop.{closed_unless, data_after, left_journal}
use Rattle.mold_loop.specs.Repairing.{RepairState, answers_sent, repairing, rounds_side, side_before, text_before}
use Rattle.mold_turns.specs.Runs.{Begins, run}
use Rattle.mold_turns.specs.Sides.{RestsOfTwo}
use Rattle.mold_serve.specs.Serving.{service_of}
use Rattle.mold_loop.specs.declared.loop_parts.Drops.{Drops}
use Rattle.mold_loop.specs.declared.loop_parts.Routes.{Routes}
use Rattle.mold_loop.proofs.LoopLemmas.{LoopStands, run_cut, run_end, run_unrepaired}

-- the run of the published lines is the run to prove
run_from : {P E : Type 0} {reporting : Bool} (drops : Drops) (a b to : P) (turns : ℕ) (start : PublisherState) (server : ServerState)
    (lines : LineState P) (rounds : RepairState P) (known : Option InputEntries) (journal : JournalState)
    (refused : Option MessageRefusal) (front : List (List ℕ)) (result : Result ℕ E)
    (old new errors_old errors_new : Option (List ℕ))
    (lines_left : LineState P) (rounds_left : RepairState P) → IfSome known (IsData start front journal refused) →
    (data_after start.limit start.sent (record { journal = journal; refused = refused }) ≡ front →
    LoopRun reporting drops a b to turns start.limit start.sent (record { journal = journal; refused = refused }) server lines
    rounds result old new errors_old errors_new lines_left rounds_left) →
    IfSome known (λ input. LoopRun reporting drops a b to turns start.limit start.sent
    (input_published start.journal input) server lines rounds result old new errors_old errors_new lines_left
    rounds_left)
run_from {P} {E} {reporting} drops a b to turns start server lines rounds None journal refused front result old new
    errors_old errors_new lines_left rounds_left all ran = tt
run_from {P} {E} {reporting} drops a b to turns start server lines rounds (Some input) journal refused front result old
    new errors_old errors_new lines_left rounds_left all ran =
    subst
    (λ (p : PublishedInput). LoopRun reporting drops a b to turns start.limit start.sent p server lines rounds result
    old new errors_old errors_new
    lines_left rounds_left)
    (sym all.1)
    (ran (ap (λ (p : PublishedInput). data_after start.limit start.sent p) (sym all.1) ∙ all.0))

begins_routed : (drops : Drops) (limit sent : ℕ) (published : PublishedInput) (front : List (List ℕ)) →
    Begins front (data_after limit sent published) →
    Begins (routed drops 1 front) (all_routed drops limit sent published)
begins_routed drops limit sent published front begins =
    let rest : List (Routes × List ℕ) = routed drops (1 + length front) begins.rest in
    begins_trans
    (record {
      rest = rest;
      parts =
          ap (λ (ds : List (List ℕ)). routed drops 1 ds) begins.parts ∙ routed_more drops 1 front begins.rest;
    })
    (begins_more (routed drops 1 (data_after limit sent published)) (routed_end published.journal published.refused))

-- a fault before anything is passed
pub loop_unbegun : {P E : Type 0} (reporting : Bool) (drops : Drops) (a b to : P) (turns : ℕ) (start : PublisherState) (server : ServerState)
    (lines : LineState P) (rounds : RepairState P) (known : Option InputEntries) (result : Result ℕ E)
    (held errors : Option (List ℕ)) → IsErr result →
    IfSome known (λ input. LoopRun reporting drops a b to turns start.limit start.sent
    (input_published start.journal input) server lines rounds result held held errors errors lines rounds)
unfolding run
loop_unbegun reporting drops a b to turns start server lines rounds known result held errors failed =
    any_known known _
    (λ input.
    run_cut drops a b to turns start.limit start.sent (input_published start.journal input) server lines
    rounds result {xs = []} lines rounds held held errors errors
    (record {
      passes = [];
      are = refl;
      written = [];
      appended = Appends-nil held;
      said = [];
      told = Appends-nil errors;
      text = begins_none lines.progress.outgoing.text;
      side = begins_none lines.progress.outgoing.side;
      offered = refl;
    })
    (record { rest = _; parts = refl }) failed refl refl)

-- a fault while lines are read
pub loop_unreceived : {P E F : Type 0} (reporting : Bool) (drops : Drops) (a b to : P) (turns : ℕ) (start last : PublisherState)
    (server : ServerState) (lines : LineState P) (rounds : RepairState P) (known : Option InputEntries)
    (found : Result (Option MessageRefusal) F) (result : Result ℕ E) (old new errors_old errors_new : Option (List ℕ))
    (lines_left : LineState P)
    (rounds_left : RepairState P) → IsErr result → rounds_left.server ≡ rounds.server →
    rounds_left.requests ≡ rounds.requests → ReceivesMessages drops a b start last known found lines lines_left old new
    errors_old errors_new →
    IfSome known (λ input. LoopRun reporting drops a b to turns start.limit start.sent
    (input_published start.journal input) server lines rounds result old new errors_old errors_new lines_left
    rounds_left)
loop_unreceived reporting drops a b to turns start last server lines rounds None found result old new errors_old
    errors_new lines_left rounds_left failed kept same hears = tt
loop_unreceived reporting drops a b to turns start last server lines rounds (Some input) found result old new
    errors_old errors_new lines_left rounds_left failed kept same hears =
    let published : PublishedInput = input_published start.journal input in
    run_cut drops a b to turns start.limit start.sent published server lines rounds result lines_left rounds_left old
    new errors_old errors_new
    (record {
      passes = hears.passes;
      are = hears.are;
      written = hears.written;
      appended = hears.appended;
      said = hears.said;
      told = hears.told;
      text = hears.text;
      side = hears.side;
      offered = hears.offered;
    })
    (begins_routed drops start.limit start.sent published hears.front hears.begins) failed kept same

received_of : {P E : Type 0} (drops : Drops) (a b : P) (start now : PublisherState) (known : Option InputEntries)
    (refused : Option MessageRefusal) (first here : LineState P) (old new errors_old errors_new : Option (List ℕ)) →
    (hears : ReceivesMessages {E = E} drops a b start now known (Ok refused) first here old new errors_old errors_new) →
    Heard a b (routed drops 1 hears.front) first here old new errors_old errors_new
received_of drops a b start now known refused first here old new errors_old errors_new hears = record {
  passes = hears.passes;
  are = hears.are;
  written = hears.written;
  appended = hears.appended;
  said = hears.said;
  told = hears.told;
  whole = hears.whole;
}

-- a line is refused
pub loop_stopped : {P E F : Type 0} (reporting : Bool) (drops : Drops) (a b to : P) (turns : ℕ) (start now : PublisherState)
    (server : ServerState) (lines : LineState P) (rounds : RepairState P) (known : Option InputEntries)
    (why : MessageRefusal) (number : ℕ) (result : Result ℕ E)
    (old mid new errors_old errors_mid errors_new : Option (List ℕ)) (here lines_left : LineState P)
    (rounds_left : RepairState P) →
    ReceivesMessages {E = F} drops a b start now known (Ok (Some why)) lines here old mid errors_old errors_mid →
    number ≡ length now.journal.messages + 1 →
    AppendsPrefix mid new
    (here.progress.outgoing.text ++ note_text here.progress.outgoing.format (refused_text number why)) →
    IfOk result (λ status. Appends mid new
    (here.progress.outgoing.text ++ note_text here.progress.outgoing.format (refused_text number why)) × (status ≡ 2)) →
    AppendsPrefix errors_mid errors_new
    (here.progress.outgoing.side ++ note_side here.progress.outgoing.format (refused_text number why)) →
    OnOk result (Appends errors_mid errors_new
    (here.progress.outgoing.side ++ note_side here.progress.outgoing.format (refused_text number why))) →
    LoopStands lines_left here rounds_left (with_progress here.progress rounds) →
    OnOk result (HasWritten here.progress.outgoing rounds_left.progress.outgoing) →
    IfSome known (λ input. LoopRun reporting drops a b to turns start.limit start.sent
    (input_published start.journal input) server lines rounds result old new errors_old errors_new lines_left
    rounds_left)
loop_stopped {P} reporting drops a b to turns start now server lines rounds known why number result old mid new
    errors_old errors_mid errors_new here left asked
    hears numbered cut done side_cut side_done agrees out =
    let published : PublishedInput = record { journal = now.journal; refused = Some why } in
    let text : ℕ → List ℕ =
    λ n. here.progress.outgoing.text ++ note_text here.progress.outgoing.format (refused_text n why) in
    let side : ℕ → List ℕ =
    λ n. here.progress.outgoing.side ++ note_side here.progress.outgoing.format (refused_text n why) in
    let choice : Bool × List Bool = (false, []) in
    run_from drops a b to turns start server lines rounds known now.journal (Some why) hears.front result old new
    errors_old errors_new
    left asked hears.all
    (λ whole.
    run_end drops a b to turns start.limit start.sent published server lines rounds result here left
    (with_progress here.progress rounds) asked old mid mid new errors_old errors_mid errors_mid errors_new
    (replicate turns choice) [] []
    (subst (λ (l : List (Routes × List ℕ)). Heard a b l lines here old mid errors_old errors_mid)
    (ap (λ (ds : List (List ℕ)). routed drops 1 ds) (sym whole) ∙ sym (append-nil _))
    (received_of drops a b start now known (Some why) lines here old mid errors_old errors_mid hears))
    (length-replicate turns choice) (Appends-nil mid) (Appends-nil errors_mid) refl
    (subst (λ (n : ℕ). AppendsPrefix mid new (text n)) numbered cut)
    (subst (λ (n : ℕ). IfOk result (λ status. Appends mid new (text n) × (status ≡ 2))) numbered done)
    (subst (λ (n : ℕ). AppendsPrefix errors_mid errors_new (side n)) numbered side_cut)
    (subst (λ (n : ℕ). OnOk result (Appends errors_mid errors_new (side n))) numbered side_done)
    agrees out)

-- all datagrams are the data datagrams, then the end packet
all_are : (drops : Drops) (start : PublisherState) (journal : JournalState) (front : List (List ℕ)) →
    data_after start.limit start.sent (record { journal = journal; refused = None }) ≡ front →
    all_routed drops start.limit start.sent (record { journal = journal; refused = None })
    ≡ routed drops 1 front ++ routed_end journal None
all_are drops start journal front whole =
    ap (λ (ds : List (List ℕ)). routed drops 1 ds ++ routed_end journal None) whole

-- a fault while the end packet is passed, or in the write after it
pub loop_unended : {P T E F G : Type 0} (reporting : Bool) (drops : Drops) (a b to : P) (turns : ℕ) (start now : PublisherState)
    (server : ServerState) (lines : LineState P) (rounds : RepairState P) (known : Option InputEntries)
    (ended : Result T G) (result : Result ℕ E) (old mid new errors_old errors_mid errors_new : Option (List ℕ))
    (here lines_left : LineState P)
    (rounds_left : RepairState P) →
    ReceivesMessages {E = F} drops a b start now known (Ok None) lines here old mid errors_old errors_mid →
    PassRests a b (routed_end now.journal None) ended here lines_left mid new errors_mid errors_new → IsErr result →
    rounds_left.server ≡ rounds.server → rounds_left.requests ≡ rounds.requests →
    IfSome known (λ input. LoopRun reporting drops a b to turns start.limit start.sent
    (input_published start.journal input) server lines rounds result old new errors_old errors_new lines_left
    rounds_left)
loop_unended {P} reporting drops a b to turns start now server lines rounds known ended result old mid new errors_old
    errors_mid errors_new here left asked hears has failed kept same =
    let published : PublishedInput = record { journal = now.journal; refused = None } in
    run_from drops a b to turns start server lines rounds known now.journal None hears.front result old new errors_old
    errors_new
    left asked hears.all
    (λ whole.
    run_cut drops a b to turns start.limit start.sent published server lines rounds result left asked old new
    errors_old errors_new
    (received_failed a b ended (received_of drops a b start now known None lines here old mid errors_old errors_mid
    hears) has)
    (subst (λ (l : List (Routes × List ℕ)). Begins l (all_routed drops start.limit start.sent published))
    (all_are drops start now.journal hears.front whole)
    (begins_whole (all_routed drops start.limit start.sent published)))
    failed kept same)

-- the rounds of requests start with the listener's progress after the end packet
pub rests_from : {P T E : Type 0} (to : P) (server : ServerState) (turns : ℕ) (journal other : JournalState)
    (port requests : Port P) (arbitration : Arbitration) (printer : OutgoingState)
    (rounds : RepairState P) (result : Result T E) (old new errors_old errors_new : Option (List ℕ))
    (now : RepairState P) →
    journal ≡ other → port ≡ rounds.server → requests ≡ rounds.requests → server.answered ≡ rounds.answered →
    RestsOfTwo (repairing to (service_of journal server)) answers_sent text_before side_before rounds_side turns
    (record { server = port; requests = requests; answered = server.answered; progress = progress arbitration printer })
    result old new errors_old errors_new now →
    RestsOfTwo (repairing to (service_of other server)) answers_sent text_before side_before rounds_side turns
    (with_progress (progress arbitration printer) rounds) result old new errors_old errors_new now
rests_from {P} to server turns journal other port requests arbitration printer rounds result old new errors_old
    errors_new now same ports asked answered rests =
    let of : Port P → Port P → ℕ → RepairState P =
    λ p q n. record { server = p; requests = q; answered = n; progress = progress arbitration printer } in
    subst (λ (j : JournalState). RestsOfTwo (repairing to (service_of j server)) answers_sent text_before side_before
    rounds_side turns
    (with_progress (progress arbitration printer) rounds) result old new errors_old errors_new now) same
    (subst (λ (s : RepairState P). RestsOfTwo (repairing to (service_of journal server)) answers_sent text_before
    side_before rounds_side turns s
    result old new errors_old errors_new now)
    (ap (λ (p : Port P). of p requests server.answered) ports
    ∙ ap (λ (q : Port P). of rounds.server q server.answered) asked
    ∙ ap (λ (n : ℕ). of rounds.server rounds.requests n) answered)
    rests)

received_all : {P T F G : Type 0} (drops : Drops) (a b : P) (start now : PublisherState) (known : Option InputEntries)
    (lines here there : LineState P) (old mid new errors_old errors_mid errors_new : Option (List ℕ)) (value : T) →
    (hears : ReceivesMessages {E = F} drops a b start now known (Ok None) lines here old mid errors_old errors_mid) →
    PassRests {T = T} {E = G} a b (routed_end now.journal None) (Ok value) here there mid new errors_mid errors_new →
    data_after start.limit start.sent (record { journal = now.journal; refused = None }) ≡ hears.front →
    Heard a b (all_routed drops start.limit start.sent (record { journal = now.journal; refused = None })) lines there old
    new errors_old errors_new
received_all {P} drops a b start now known lines here there old mid new errors_old errors_mid errors_new value hears
    has whole =
    subst (λ (l : List (Routes × List ℕ)). Heard a b l lines there old new errors_old errors_new)
    (sym (all_are drops start now.journal hears.front whole))
    (received_more a b value (received_of drops a b start now known None lines here old mid errors_old errors_mid
    hears) has)

-- a fault in a round
pub loop_unrepaired : {P T U E F G H : Type 0} (reporting : Bool) (drops : Drops) (a b to : P) (turns : ℕ) (start now : PublisherState)
    (server : ServerState) (lines : LineState P) (rounds : RepairState P) (known : Option InputEntries) (value : T)
    (asked : Result U H) (result : Result ℕ E)
    (old first mid new errors_old errors_first errors_mid errors_new : Option (List ℕ))
    (here there lines_left : LineState P)
    (rounds_left : RepairState P) →
    ReceivesMessages {E = F} drops a b start now known (Ok None) lines here old first errors_old errors_first →
    PassRests {T = T} {E = G} a b (routed_end now.journal None) (Ok value) here there first mid errors_first errors_mid
    →
    RestsOfTwo (repairing to (service_of (record now.journal { closed = true }) server)) answers_sent text_before
    side_before rounds_side turns
    (with_progress there.progress rounds) asked mid new errors_mid errors_new rounds_left →
    IsErr result → lines_left.publisher ≡ there.publisher →
    IfSome known (λ input. LoopRun reporting drops a b to turns start.limit start.sent
    (input_published start.journal input) server lines rounds result old new errors_old errors_new lines_left
    rounds_left)
loop_unrepaired reporting drops a b to turns start now server lines rounds known value asked result old first mid new
    errors_old errors_first errors_mid errors_new here there left
    made hears has rests failed same =
    run_from drops a b to turns start server lines rounds known now.journal None hears.front result old new errors_old
    errors_new
    left made hears.all
    (λ whole.
    run_unrepaired drops a b to turns start.limit start.sent now.journal server lines rounds asked result there left
    made old mid new errors_old errors_mid errors_new
    (received_all drops a b start now known lines here there old first mid errors_old errors_first errors_mid value
    hears has whole) rests failed same)

-- the last line is printed, or a prefix of the remaining text
pub loop_done : {P T U E F G H : Type 0} (reporting : Bool) (drops : Drops) (a b to : P) (turns : ℕ) (start now : PublisherState)
    (server : ServerState) (lines : LineState P) (rounds : RepairState P) (known : Option InputEntries) (value : T)
    (done : U) (result : Result ℕ E)
    (old first mid next new errors_old errors_first errors_mid errors_next errors_new : Option (List ℕ))
    (here there lines_left : LineState P)
    (behind rounds_left : RepairState P) →
    ReceivesMessages {E = F} drops a b start now known (Ok None) lines here old first errors_old errors_first →
    PassRests {T = T} {E = G} a b (routed_end now.journal None) (Ok value) here there first mid errors_first errors_mid
    →
    RestsOfTwo {E = H} (repairing to (service_of (record now.journal { closed = true }) server)) answers_sent text_before
    side_before rounds_side turns (with_progress there.progress rounds) (Ok done) mid next errors_mid errors_next
    behind →
    AppendsPrefix next new (behind.progress.outgoing.text ++ last_lines reporting behind.progress) →
    IfOk result (λ status. Appends next new (behind.progress.outgoing.text ++ last_lines reporting behind.progress)
    × (status ≡ listener_status behind.progress)) →
    AppendsPrefix errors_next errors_new (behind.progress.outgoing.side ++ last_side reporting behind.progress) →
    OnOk result (Appends errors_next errors_new (behind.progress.outgoing.side ++ last_side reporting behind.progress))
    →
    LoopStands lines_left there rounds_left behind →
    OnOk result (HasWritten behind.progress.outgoing rounds_left.progress.outgoing) →
    IfSome known (λ input. LoopRun reporting drops a b to turns start.limit start.sent
    (input_published start.journal input) server lines rounds result old new errors_old errors_new lines_left
    rounds_left)
loop_done reporting drops a b to turns start now server lines rounds known v done result old first mid next new
    errors_old errors_first errors_mid errors_next errors_new here there left made
    rest hears has rests cut printed side_cut side_printed is out =
    run_from drops a b to turns start server lines rounds known now.journal None hears.front result old new errors_old
    errors_new
    left rest hears.all
    (λ whole.
    run_end drops a b to turns start.limit start.sent (record { journal = now.journal; refused = None }) server lines
    rounds result there left made rest old mid next new errors_old errors_mid errors_next errors_new
    rests.rests.rests.choices rests.rests.rests.written rests.rests.said
    (received_all drops a b start now known lines here there old first mid errors_old errors_first errors_mid v hears
    has whole)
    rests.rests.rests.counted rests.rests.rests.appended rests.rests.appended rests.rests.rests.whole cut printed
    side_cut
    side_printed is out)

-- the journal that the publisher ends with
pub journal_left : {P E : Type 0} (drops : Drops) (a b : P) (start now : PublisherState) (known : Option InputEntries)
    (refused : Option MessageRefusal) (lines here : LineState P) (old new errors_old errors_new : Option (List ℕ))
    (journal : JournalState) →
    ReceivesMessages {E = E} drops a b start now known (Ok refused) lines here old new errors_old errors_new →
    journal ≡ closed_unless refused now.journal →
    IfSome known (λ input. journal ≡ left_journal (input_published start.journal input))
journal_left drops a b start now None refused lines here old new errors_old errors_new journal hears is = tt
journal_left drops a b start now (Some input) refused lines here old new errors_old errors_new journal hears is =
    is ∙ sym (ap (λ (p : PublishedInput). left_journal p) hears.all.1)
