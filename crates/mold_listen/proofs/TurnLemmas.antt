-- A turn of a listener, and listening as a loop of turns.
use Rattle.std.proofs.Common.{◌≡◌, ℕ, zero, suc, Bool, true, false, List, [], ◌∷◌, ◌++◌, Option, None, Some, Result}
use Rattle.std.proofs.Common.{ap, append-nil, refl, sym, subst, ◌∙◌, ◌↔◌, eq-eqb, ne_eqb}
use Rattle.std.proofs.lemmas.Result.{on_ok_weaker}
use Rattle.std.specs.Prelude.{IsErr, IsTrue, OnErr, if◌then◌else◌}
use Rattle.mold_ports.specs.Ports.{Port, Receipt, Datagram, Quiet, Failure, cut, next_of, offered, received}
use Rattle.mold_receiver.specs.Arbiter.{Arbitration}
use Rattle.mold_receiver.specs.Receive.{receive}
use Rattle.mold_receiver.specs.View.{View}
use Rattle.mold_receiver.specs.Wanted.{wanted}
use Rattle.mold_receiver.specs.declared.line.Line.{Line}
use Rattle.mold_receiver.specs.declared.line.Line.TheVariants.{A, B}
use Rattle.mold_turns.specs.Runs.{Begins, WrittenInTime}
use Rattle.mold_turns.specs.Sides.{RanBeside}
use Rattle.mold_listen.specs.declared.feed_listener.FeedListener.{FeedListener}
use Rattle.mold_turns.proofs.RunLemmas.{IsBeside, IsLoop, begins_more, begins_trans, begins_whole, none_ok}
use Rattle.mold_wire.specs.Request.{request_spelling}
use Rattle.mold_wire.specs.declared.request.Request.{Request}
use Rattle.mold_listen.specs.Text.{end_mark, end_note, end_text, finished_line, mark_text, open_line, taking_side, taking_stop}
use Rattle.mold_listen.specs.Text.{taking_text}
use Rattle.mold_input.specs.declared.message_format.MessageFormat.{MessageFormat}
use Rattle.mold_input.specs.declared.message_format.MessageFormat.TheVariants.{Lines, Blocks, BlocksToEmpty}
use Rattle.mold_listen.specs.Listening.{Asking, Progress, HasAsked, HasTurned, ListenerState, asked, progress, last_line, line_status}
use Rattle.mold_turns.specs.Outgoing.{OutgoingState, note_side, note_text, said_out, with_both, with_fronts, with_more, with_note}
use Rattle.mold_turns.specs.Outgoing.{with_stop}
use Rattle.mold_listen.specs.Listening.{Agrees, IsInNextTurn, IsSame, ends_at, with_next_receipt, receive_responses, with_receipt, is_finished, listened_lines}
use Rattle.mold_listen.specs.Listening.{listened_side, put_beside, side_text}
use Rattle.mold_listen.specs.Listening.{after_lines, listening, listener, put_before, receives, status, turn, turn_asked}
use Rattle.mold_listen.proofs.ListenLemmas.{hearing_sends, stepped}
use Rattle.mold_turns.proofs.OutgoingLemmas.{both_after, front_twice, fronts_twice, outgoing_is, said_front}
use Rattle.mold_wire.specs.declared.limits.TheConstants.{MAX_LIMIT}

-- ---- text put before

abbrev pub hearing_both : List ℕ → List ℕ → Progress → Progress
hearing_both front said e = record { arbitration = e.arbitration; outgoing = with_fronts front said e.outgoing }

abbrev pub asking_both : {P : Type 0} → List ℕ → List ℕ → Asking P → Asking P
asking_both front said s = record { port = s.port; progress = hearing_both front said s.progress }

abbrev pub put_both : {P : Type 0} → List ℕ → List ℕ → ListenerState P → ListenerState P
put_both front said s =
    listener s.a s.b s.requests s.progress.arbitration (with_fronts front said s.progress.outgoing)

received_both : {P : Type 0} (front said : List ℕ) (line : Option Line) (receipt : Receipt P) (e : Progress) →
    with_receipt line receipt (hearing_both front said e) ≡ hearing_both front said (with_receipt line receipt e)
received_both front said line (Datagram from bytes) e =
    ap (λ (o : OutgoingState). progress (with_receipt line (Datagram from bytes) e).arbitration
    (with_stop (taking_stop e.outgoing.format e.outgoing.stopped e.arbitration.view.next
    (receive e.arbitration.view bytes)) o))
    (both_after front said
    (taking_text e.outgoing.format e.outgoing.stopped e.arbitration.view.next (receive e.arbitration.view bytes))
    (taking_side e.outgoing.format (receive e.arbitration.view bytes)) e.outgoing)
received_both front said line Quiet e = refl
received_both front said line Failure e = refl

pub hear_both : {P : Type 0} (front said : List ℕ) (line : Option Line) (port : Port P) (e : Progress) →
    with_next_receipt line port (hearing_both front said e) ≡ hearing_both front said (with_next_receipt line port e)
unfolding with_next_receipt
hear_both front said line port e = received_both front said line (cut MAX_LIMIT (next_of port)) e

pub answers_both : {P : Type 0} (front said : List ℕ) (count : ℕ) (s : Asking P) →
    receive_responses count (asking_both front said s) ≡ asking_both front said (receive_responses count s)
unfolding receive_responses
answers_both front said zero s = refl
answers_both {P} front said (suc count) s =
    ap {B = Asking P} (λ (e : Progress). receive_responses count (record { port = received s.port; progress = e }))
    (hear_both front said None s.port s.progress)
    ∙ answers_both front said count (stepped s)

asked_both : {P : Type 0} (front said : List ℕ) (wish : Option Request) (server : P) (burst : ℕ) (fails : Bool)
    (s : Asking P) →
    asked wish server burst fails (asking_both front said s) ≡ asking_both front said (asked wish server burst fails s)
asked_both front said None server burst fails s = refl
asked_both front said (Some request) server burst true s = refl
asked_both front said (Some request) server burst false s =
    answers_both front said (receives burst s.port.comes)
    (record { port = offered false server (request_spelling request) s.port; progress = s.progress })

lines_both : {P : Type 0} (front said : List ℕ) (s : ListenerState P) →
    after_lines (put_both front said s) ≡ hearing_both front said (after_lines s)
lines_both front said s =
    ap (with_next_receipt (Some B) s.b) (hear_both front said (Some A) s.a s.progress)
    ∙ hear_both front said (Some B) s.b (with_next_receipt (Some A) s.a s.progress)

turn_both : {P : Type 0} (server : P) (burst : ℕ) (front said : List ℕ) (fails : Bool) (s : ListenerState P) →
    turn server burst fails (put_both front said s) ≡ put_both front said (turn server burst fails s)
unfolding turn
turn_both {P} server burst front said fails s =
    let with_receipt : Progress = after_lines s in
    let to : Asking P → ListenerState P = λ q. record { a = received s.a; b = received s.b; requests = q.port; progress = q.progress } in
    ap (λ (e : Progress). to (asked (wanted e.arbitration.view) server burst fails (record { port = s.requests; progress = e })))
    (lines_both front said s)
    ∙ ap to (asked_both front said (wanted with_receipt.arbitration.view) server burst fails
    (record { port = s.requests; progress = with_receipt }))

-- ---- a turn only appends to what is printed and sent

received_prints : {P : Type 0} (line : Option Line) (receipt : Receipt P) (e : Progress) →
    Begins e.outgoing.text (with_receipt line receipt e).outgoing.text
received_prints line (Datagram from bytes) e =
    begins_more e.outgoing.text
    (taking_text e.outgoing.format e.outgoing.stopped e.arbitration.view.next (receive e.arbitration.view bytes))
received_prints line Quiet e = begins_whole e.outgoing.text
received_prints line Failure e = begins_whole e.outgoing.text

pub hear_prints : {P : Type 0} (line : Option Line) (port : Port P) (e : Progress) →
    Begins e.outgoing.text (with_next_receipt line port e).outgoing.text
unfolding with_next_receipt
hear_prints line port e = received_prints line (cut MAX_LIMIT (next_of port)) e

pub answers_print : {P : Type 0} (count : ℕ) (s : Asking P) → Begins s.progress.outgoing.text (receive_responses count s).progress.outgoing.text
unfolding receive_responses
answers_print zero s = begins_whole s.progress.outgoing.text
answers_print (suc count) s = begins_trans (hear_prints None s.port s.progress) (answers_print count (stepped s))

asked_prints : {P : Type 0} (wish : Option Request) (server : P) (burst : ℕ) (fails : Bool) (s : Asking P) →
    Begins s.progress.outgoing.text (asked wish server burst fails s).progress.outgoing.text
asked_prints None server burst fails s = begins_whole s.progress.outgoing.text
asked_prints (Some request) server burst true s = begins_whole s.progress.outgoing.text
asked_prints (Some request) server burst false s =
    answers_print (receives burst s.port.comes)
    (record { port = offered false server (request_spelling request) s.port; progress = s.progress })

received_says : {P : Type 0} (line : Option Line) (receipt : Receipt P) (e : Progress) →
    Begins e.outgoing.side (with_receipt line receipt e).outgoing.side
received_says line (Datagram from bytes) e =
    begins_more e.outgoing.side
    (taking_side e.outgoing.format (receive e.arbitration.view bytes))
received_says line Quiet e = begins_whole e.outgoing.side
received_says line Failure e = begins_whole e.outgoing.side

pub hear_says : {P : Type 0} (line : Option Line) (port : Port P) (e : Progress) →
    Begins e.outgoing.side (with_next_receipt line port e).outgoing.side
unfolding with_next_receipt
hear_says line port e = received_says line (cut MAX_LIMIT (next_of port)) e

pub answers_say : {P : Type 0} (count : ℕ) (s : Asking P) → Begins s.progress.outgoing.side (receive_responses count s).progress.outgoing.side
unfolding receive_responses
answers_say zero s = begins_whole s.progress.outgoing.side
answers_say (suc count) s = begins_trans (hear_says None s.port s.progress) (answers_say count (stepped s))

asked_says : {P : Type 0} (wish : Option Request) (server : P) (burst : ℕ) (fails : Bool) (s : Asking P) →
    Begins s.progress.outgoing.side (asked wish server burst fails s).progress.outgoing.side
asked_says None server burst fails s = begins_whole s.progress.outgoing.side
asked_says (Some request) server burst true s = begins_whole s.progress.outgoing.side
asked_says (Some request) server burst false s =
    answers_say (receives burst s.port.comes)
    (record { port = offered false server (request_spelling request) s.port; progress = s.progress })

asked_sends : {P : Type 0} (wish : Option Request) (server : P) (burst : ℕ) (fails : Bool) (s : Asking P) →
    Begins s.port.sent (asked wish server burst fails s).port.sent
asked_sends None server burst fails s = begins_whole s.port.sent
asked_sends (Some request) server burst true s = begins_whole s.port.sent
asked_sends {P} (Some request) server burst false s =
    let port : Port P = offered false server (request_spelling request) s.port in
    subst (λ (l : List (P × List ℕ)). Begins s.port.sent l)
    (sym (hearing_sends (receives burst s.port.comes) (record { port = port; progress = s.progress })))
    (begins_more s.port.sent ((server, request_spelling request) ∷ []))

turn_prints : {P : Type 0} (server : P) (burst : ℕ) (fails : Bool) (s : ListenerState P) →
    Begins s.progress.outgoing.text (turn server burst fails s).progress.outgoing.text
unfolding turn
turn_prints server burst fails s =
    begins_trans
    (begins_trans (hear_prints (Some A) s.a s.progress) (hear_prints (Some B) s.b (with_next_receipt (Some A) s.a s.progress)))
    (asked_prints (wanted (after_lines s).arbitration.view) server burst fails
    (record { port = s.requests; progress = after_lines s }))

turn_says : {P : Type 0} (server : P) (burst : ℕ) (fails : Bool) (s : ListenerState P) →
    Begins s.progress.outgoing.side (turn server burst fails s).progress.outgoing.side
unfolding turn
turn_says server burst fails s =
    begins_trans
    (begins_trans (hear_says (Some A) s.a s.progress) (hear_says (Some B) s.b (with_next_receipt (Some A) s.a s.progress)))
    (asked_says (wanted (after_lines s).arbitration.view) server burst fails
    (record { port = s.requests; progress = after_lines s }))

turn_sends : {P : Type 0} (server : P) (burst : ℕ) (fails : Bool) (s : ListenerState P) →
    Begins s.requests.sent (turn server burst fails s).requests.sent
unfolding turn
turn_sends server burst fails s =
    asked_sends (wanted (after_lines s).arbitration.view) server burst fails
    (record { port = s.requests; progress = after_lines s })

pub is_loop : {P : Type 0} (server : P) (burst : ℕ) → IsLoop (listening server burst) put_before
is_loop {P} server burst = record {
  none = λ s. refl;
  twice = λ front back s.
      ap (listener s.a s.b s.requests s.progress.arbitration) (front_twice front back s.progress.outgoing);
  turn = λ front. turn_both server burst front [];
  over = λ front s. refl;
  text = λ front s. refl;
  sent = λ front s. refl;
  prints = turn_prints server burst;
  sends = turn_sends server burst;
}

pub is_beside : {P : Type 0} (server : P) (burst : ℕ) → IsBeside (listening server burst) put_before put_beside side_text
is_beside {P} server burst = record {
  nothing = λ s. refl;
  twice = λ one two s.
      ap (listener s.a s.b s.requests s.progress.arbitration) (fronts_twice [] one [] two s.progress.outgoing);
  turn = turn_both server burst [];
  over = λ said s. refl;
  text = λ said s. refl;
  sent = λ said s. refl;
  swaps = λ said front s. refl;
  adds = λ said s. refl;
  same = λ front s. refl;
  says = turn_says server burst;
}

-- ---- a turn was made

-- a fault before anything was sent
pub turned_cut : {P T E : Type 0} (server : P) (burst : ℕ) (result : Result T E) (before after : ListenerState P) →
    IsErr result → after.requests ≡ before.requests → HasTurned server burst result before after
turned_cut {P} server burst result before after failed same = record {
  fails = false;
  whole = none_ok result _ failed;
  sent =
      subst (λ (p : Port P). Begins p.sent (turn server burst false before).requests.sent) (sym same)
      (turn_sends server burst false before);
}

listener_is : {P : Type 0} (s : ListenerState P) (a b : Port P) (q : Asking P) → s.a ≡ a → s.b ≡ b →
    record { port = s.requests; progress = s.progress } ≡ q → s ≡ record { a = a; b = b; requests = q.port; progress = q.progress }
listener_is {P} s a b q is_a is_b is_q =
    ap {B = ListenerState P} (λ (p : Port P). record { a = p; b = s.b; requests = s.requests; progress = s.progress }) is_a
    ∙ ap {B = ListenerState P} (λ (p : Port P). record { a = a; b = p; requests = s.requests; progress = s.progress }) is_b
    ∙ ap {B = ListenerState P} (λ (r : Asking P). record { a = a; b = b; requests = r.port; progress = r.progress }) is_q

-- both lines were received, and then the request was made
pub has_turned : {P T E : Type 0} (server : P) (burst : ℕ) (result : Result T E) (before after : ListenerState P)
    (mid : Progress) → mid ≡ after_lines before → after.a ≡ received before.a → after.b ≡ received before.b →
    HasAsked (wanted mid.arbitration.view) server burst result (record { port = before.requests; progress = mid })
    (record { port = after.requests; progress = after.progress }) →
    HasTurned server burst result before after
unfolding turn
has_turned {P} server burst result before after mid is_mid is_a is_b has =
    let now : HasAsked (wanted (after_lines before).arbitration.view) server burst result
    (record { port = before.requests; progress = after_lines before })
    (record { port = after.requests; progress = after.progress }) =
    subst (λ (e : Progress). HasAsked (wanted e.arbitration.view) server burst result
    (record { port = before.requests; progress = e }) (record { port = after.requests; progress = after.progress })) is_mid has in
    record {
      fails = now.fails;
      whole =
          on_ok_weaker result
          (λ is. listener_is after (received before.a) (received before.b) (turn_asked server burst now.fails before)
          is_a is_b is) now.whole;
      sent =
          subst (λ (l : List (P × List ℕ)). Begins after.requests.sent l) now.sent
          (begins_whole after.requests.sent);
    }

-- ---- between turns

-- the listener still has the same parts
pub same_at_first : {D : Type 0} (feed : FeedListener D) → IsSame feed feed
same_at_first feed = record { a = refl; b = refl; requests = refl; arbiter = refl; printer = refl }

pub same_twice : {D : Type 0} {one two three : FeedListener D} → IsSame one two → IsSame two three → IsSame one three
same_twice first second = record {
  a = second.a ∙ first.a;
  b = second.b ∙ first.b;
  requests = second.requests ∙ first.requests;
  arbiter = second.arbiter ∙ first.arbiter;
  printer = second.printer ∙ first.printer;
}

pub finished_is : (b : Bool) (v w : View) → IsTrue b ↔ (v.ended ≡ Some v.next) → v ≡ w → ends_at w.ended w.next ≡ b
finished_is b v w printer same =
    ap (λ (u : View). ends_at u.ended u.next) (sym same) ∙ tells_end b v.ended v.next printer
  where
    tells_end : (b : Bool) (ended : Option ℕ) (next : ℕ) → IsTrue b ↔ (ended ≡ Some next) → ends_at ended next ≡ b
    tells_end true None next printer = let none = printer.0 refl in let no : ⊥ = cc in absurd no
    tells_end false None next printer = refl
    tells_end true (Some end) next printer = eq-eqb end next (let some = printer.0 refl in let e : end ≡ next = cc in e)
    tells_end false (Some end) next printer =
        ne_eqb end next (λ same. let yes = printer.1 (ap Some same) in let no : ⊥ = cc in no)

-- the text for standard error was written, and then a prefix of the text
pub moved_same : {P : Type 0} (a b requests : Port P) (arbitration : Arbitration) (old mid new : OutgoingState)
    (front : List ℕ) → mid ≡ said_out old → mid.text ≡ front ++ new.text → new.failures ≡ mid.failures →
    new.side ≡ mid.side → new.format ≡ mid.format → new.stopped ≡ mid.stopped →
    listener a b requests arbitration old
    ≡ put_before front (put_beside old.side (listener a b requests arbitration new))
moved_same a b requests arbitration old mid new front is parts failures side format stopped =
    ap (listener a b requests arbitration) (said_front old mid new front is parts failures side format stopped)

-- ---- the last line

pub finished_status : (e : Progress) → is_finished e ≡ true → 0 ≡ line_status e
finished_status e over = ap (λ (b : Bool). if b then 0 else 1) (sym over)

pub open_status : (e : Progress) → is_finished e ≡ false → 1 ≡ line_status e
open_status e over = ap (λ (b : Bool). if b then 0 else 1) (sym over)

pub finished_last : (a : Arbitration) (old new : OutgoingState) (v : View) (next : ℕ) → is_finished (progress a old) ≡ true →
    v ≡ a.view → next ≡ v.next → new ≡ with_note (finished_line next old.failures) old →
    new ≡ with_note (last_line (progress a old)) old
finished_last a old new v next over same is_next is =
    let e : Progress = progress a old in
    is
    ∙ ap (λ (n : ℕ). with_note (finished_line n old.failures) old) (is_next ∙ ap (λ (u : View). u.next) same)
    ∙ ap (λ (b : Bool). with_note (if b then finished_line a.view.next old.failures
    else open_line a.view.next a.view.known old.failures) old) (sym over)

pub open_last : (a : Arbitration) (old new : OutgoingState) (v : View) (next known : ℕ) → is_finished (progress a old) ≡ false →
    v ≡ a.view → next ≡ v.next → known ≡ v.known → new ≡ with_note (open_line next known old.failures) old →
    new ≡ with_note (last_line (progress a old)) old
open_last a old new v next known over same is_next is_known is =
    is
    ∙ ap (λ (n : ℕ). with_note (open_line n known old.failures) old) (is_next ∙ ap (λ (u : View). u.next) same)
    ∙ ap (λ (n : ℕ). with_note (open_line a.view.next n old.failures) old)
    (is_known ∙ ap (λ (u : View). u.known) same)
    ∙ ap (λ (b : Bool). with_note (if b then finished_line a.view.next old.failures
    else open_line a.view.next a.view.known old.failures) old) (sym over)

pub none_stopped : (stopped : Option ℕ) → ((number : ℕ) → stopped ≡ Some number → ⊥) → stopped ≡ None
none_stopped None never = refl
none_stopped (Some number) never = absurd (never number refl)

-- the last lines without the line of an empty message: the note, and then the mark of the end
pub marked : (finished : Bool) (note : List ℕ) (o : OutgoingState) → o.stopped ≡ None →
    with_more (mark_text o.format finished) (with_note note o)
    ≡ with_both (end_text o.format o.stopped finished (end_note o.stopped note))
    (note_side o.format (end_note o.stopped note)) o
marked finished note o none =
    outgoing_is (with_more (mark_text o.format finished) (with_note note o))
    (with_both (end_text o.format o.stopped finished (end_note o.stopped note))
    (note_side o.format (end_note o.stopped note)) o)
    (texts o.text o.stopped o.format none)
    (ap (λ (stopped : Option ℕ). o.side ++ note_side o.format (end_note stopped note)) (sym none)) refl refl refl
  where
    texts : (text : List ℕ) (stopped : Option ℕ) (format : MessageFormat) → stopped ≡ None →
        (text ++ note_text format note) ++ mark_text format finished
        ≡ text ++ end_text format stopped finished (end_note stopped note)
    texts text (Some empty) format none = let no : ⊥ = cc in absurd no
    texts text None Lines none = append-nil (text ++ note)
    texts text None Blocks none = append-nil (text ++ [])
    texts text None BlocksToEmpty none = ap (λ (t : List ℕ). t ++ end_mark finished) (append-nil text)

-- ---- at the end

-- a run that leaves these ports and this arbiter
abbrev pub Listened : {D P E : Type 0} → Bool → (D → Port P) → P → ℕ → ℕ → ListenerState P → Result ℕ E → Option (List ℕ) →
    Option (List ℕ) → Option (List ℕ) → Option (List ℕ) → D → D → D → Arbitration → Type 0
Listened reporting known server burst turns start result old new errors_old errors_new a b requests arbitration =
    RanBeside (listening server burst) side_text turns start (listened_lines reporting) (listened_side reporting) status
    (Agrees (known a) (known b) (known requests) arbitration) result old new errors_old errors_new (known requests).sent

-- the ports and the arbiter at the end are those that were left
pub listened_so : {D P E : Type 0} (reporting : Bool) (known : D → Port P) (server : P) (burst turns : ℕ) (start : ListenerState P)
    (result : Result ℕ E) (old new errors_old errors_new : Option (List ℕ)) (a a_end b b_end requests requests_end : D)
    (arbitration arbitration_end : Arbitration) → a_end ≡ a → b_end ≡ b → requests_end ≡ requests →
    arbitration_end ≡ arbitration →
    Listened reporting known server burst turns start result old new errors_old errors_new a b requests arbitration →
    Listened reporting known server burst turns start result old new errors_old errors_new a_end b_end requests_end
    arbitration_end
listened_so {D} reporting known server burst turns start result old new errors_old errors_new a a_end b b_end requests
    requests_end arbitration arbitration_end is_a is_b is_requests is_arbiter listened =
    let leaves : D → D → D → Arbitration → Type 0 =
    Listened reporting known server burst turns start result old new errors_old errors_new in
    subst (λ (d : D). leaves d b_end requests_end arbitration_end) (sym is_a)
    (subst (λ (d : D). leaves a d requests_end arbitration_end) (sym is_b)
    (subst (λ (d : D). leaves a b d arbitration_end) (sym is_requests)
    (subst (λ (w : Arbitration). leaves a b requests w) (sym is_arbiter) listened)))

-- the same for what a fault finds unwritten
pub timely_so : {D P E : Type 0} (M : Type 0) (known : D → Port P) (server : P) (burst : ℕ) (start : ListenerState P)
    (result : Result ℕ E) (live : Bool) (old new : Option (List ℕ)) (a a_end b b_end : D) → a_end ≡ a → b_end ≡ b →
    OnErr result (M → WrittenInTime (listening server burst) start live old new (IsInNextTurn (known a) (known b))) →
    OnErr result
    (M → WrittenInTime (listening server burst) start live old new (IsInNextTurn (known a_end) (known b_end)))
timely_so {D} M known server burst start result live old new a a_end b b_end is_a is_b timely =
    let leaves : D → D → Type 0 =
    λ d e. OnErr result (M → WrittenInTime (listening server burst) start live old new (IsInNextTurn (known d) (known e))) in
    subst (λ (d : D). leaves d b_end) (sym is_a) (subst (λ (e : D). leaves a e) (sym is_b) timely)

-- An error is not a success.
pub not_ok : ◌≡◌ {A = Bool} false true → ⊥
not_ok e = cc
