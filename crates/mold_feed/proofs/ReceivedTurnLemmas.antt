-- What an honest listener does with one receive, with the responses to a request, in a turn, and in a run of turns.
use Rattle.std.proofs.Common.{◌≡◌, ℕ, zero, suc, ◌+◌, Bool, true, false, List, [], ◌∷◌, ◌++◌, length, drop, take, refl, ap}
use Rattle.std.proofs.Common.{◌∙◌, arith, eqb-true, inl, inr}
use Rattle.std.specs.Prelude.{Option, None, Some, if◌then◌else◌}
use Rattle.std.specs.List.{AllByRecursion, Contains}
use Rattle.std.proofs.lemmas.Bool.{false≢true}
use Rattle.std.proofs.lemmas.List.Elements.{Contains-append_right}
use Rattle.mold_ports.specs.Ports.{Port, Receipt, Datagram, Quiet, Failure, cut, first, next_of, offered}
use Rattle.mold_receiver.specs.Honest.{IsHonest}
use Rattle.mold_receiver.specs.Wanted.{wanted}
use Rattle.mold_receiver.specs.declared.line.Line.{Line}
use Rattle.mold_receiver.specs.declared.line.Line.TheVariants.{A, B}
use Rattle.mold_session.specs.Answer.{between}
use Rattle.mold_session.specs.Journal.{JournalState}
use Rattle.mold_session.specs.Truthful.{IsTrueDatagram}
use Rattle.mold_wire.specs.Request.{request_spelling}
use Rattle.mold_wire.specs.declared.request.Request.{Request}
use Rattle.mold_feed.specs.Received.{GivesOnly, Gives, HasFinished, HasListened, CanReceive, ReceivesOnly, IsReceived, IsHarmless}
use Rattle.mold_feed.specs.Received.{PrintedLine, printable_lines, printed_lines_text}
use Rattle.mold_listen.specs.Listening.{Asking, Progress, ListenerState, asked, ends_at, with_next_receipt, receive_responses, with_receipt, is_finished, is_over}
use Rattle.mold_listen.specs.Listening.{after_lines, listening, missed, receives, turn, turn_asked}
use Rattle.mold_turns.specs.Runs.{run}
use Rattle.mold_listen.specs.Text.{handed_text, printable}
use Rattle.mold_input.specs.declared.message_format.MessageFormat.{MessageFormat}
use Rattle.mold_receiver.specs.Store.{Message}
use Rattle.mold_feed.proofs.StopLemmas.{printable-handing, stop_said}
use Rattle.mold_feed.proofs.PrintedLineLemmas.{refused-weaker, text-handing}
use Rattle.mold_feed.proofs.TakingLemmas.{HasHeard, HearingLaws, IsSound, MayCome, last_number, nothing_received}
use Rattle.mold_feed.proofs.TakingLemmas.{taken_received, then_received}
use Rattle.mold_listen.proofs.ListenLemmas.{stepped}
use Rattle.mold_wire.specs.declared.limits.TheConstants.{MAX_LIMIT}

-- ---- what ports give

next_gives : {P : Type 0} (Good : List ℕ → Type 0) (comes : List (Receipt P)) → AllByRecursion (Gives Good) comes →
    Gives Good (first comes)
next_gives Good [] gives = tt
next_gives Good (receipt ∷ more) gives = gives.0

pub rest_gives : {P : Type 0} (Good : List ℕ → Type 0) (comes : List (Receipt P)) → AllByRecursion (Gives Good) comes →
    AllByRecursion (Gives Good) (drop 1 comes)
rest_gives Good [] gives = tt
rest_gives Good (receipt ∷ more) gives = gives.1

-- what was received, and what the port of requests still gives
pub record HeardAnswers {P : Type 0} (journal : JournalState) (Plain : Type 0) (Good : List ℕ → Type 0) (old : Progress)
    (new : Asking P) : Type 0 where
  pub received : HasHeard journal Plain Good old new.progress
  pub gives : GivesOnly Good new.port

-- what was received, and what the three ports still give
record HeardTurns {P : Type 0} (journal : JournalState) (Plain : Type 0) (Good : List ℕ → Type 0) (old : Progress)
    (new : ListenerState P) : Type 0 where
  received : HasHeard journal Plain Good old new.progress
  gives : ReceivesOnly Good new

-- after a turn the run ends or goes on
either_received : {P : Type 0} (journal : JournalState) (Plain : Type 0) (Good : List ℕ → Type 0) (old : Progress)
    (over : Bool) (one all : ListenerState P) → HeardTurns journal Plain Good old one →
    HeardTurns journal Plain Good old all → HeardTurns journal Plain Good old (if over then one else all)
either_received journal Plain Good old true one all first whole = first
either_received journal Plain Good old false one all first whole = whole

module _ (journal : JournalState) (Plain : Type 0) (Good : List ℕ → Type 0) (laws : HearingLaws)
    (may : MayCome journal Plain Good) where
  -- ---- one receive

  receipt_received : {P : Type 0} (line : Option Line) (receipt : Receipt P) (e : Progress) → IsSound journal e →
      Gives Good receipt → HasHeard journal Plain Good e (with_receipt line (cut MAX_LIMIT receipt) e)
  receipt_received line (Datagram from bytes) e sound gives =
      taken_received journal Plain Good laws may line (take MAX_LIMIT bytes) e sound gives
  receipt_received line Quiet e sound gives = nothing_received journal Plain Good e e sound refl refl refl refl
  receipt_received line Failure e sound gives = nothing_received journal Plain Good e (missed e) sound refl refl refl refl

  pub port_received : {P : Type 0} (line : Option Line) (port : Port P) (e : Progress) → IsSound journal e →
      GivesOnly Good port → HasHeard journal Plain Good e (with_next_receipt line port e)
  unfolding with_next_receipt
  port_received line port e sound gives = receipt_received line (next_of port) e sound (next_gives Good port.comes gives)

  -- ---- the responses to a request

  pub after_responses : {P : Type 0} (count : ℕ) (s : Asking P) → IsSound journal s.progress → GivesOnly Good s.port →
      HeardAnswers journal Plain Good s.progress (receive_responses count s)
  unfolding receive_responses
  after_responses zero s sound gives = record {
    received = nothing_received journal Plain Good s.progress s.progress sound refl refl refl refl;
    gives = gives;
  }
  after_responses (suc count) s sound gives =
      let one = port_received None s.port s.progress sound gives in
      let more = after_responses count (stepped s) one.sound (rest_gives Good s.port.comes gives) in
      record {
        received = then_received journal Plain Good s.progress (stepped s).progress (receive_responses count (stepped s)).progress sound one more.received;
        gives = more.gives;
      }

  asked_received : {P : Type 0} (wish : Option Request) (server : P) (burst : ℕ) (fails : Bool) (s : Asking P) →
      IsSound journal s.progress → GivesOnly Good s.port →
      HeardAnswers journal Plain Good s.progress (asked wish server burst fails s)
  asked_received None server burst fails s sound gives = record {
    received = nothing_received journal Plain Good s.progress s.progress sound refl refl refl refl;
    gives = gives;
  }
  asked_received (Some request) server burst true s sound gives = record {
    received = nothing_received journal Plain Good s.progress (missed s.progress) sound refl refl refl refl;
    gives = gives;
  }
  asked_received (Some request) server burst false s sound gives =
      after_responses (receives burst s.port.comes)
      (record { port = offered false server (request_spelling request) s.port; progress = s.progress }) sound gives

  -- ---- turns

  turn_received : {P : Type 0} (server : P) (burst : ℕ) (fails : Bool) (s : ListenerState P) →
      IsSound journal s.progress → ReceivesOnly Good s →
      HeardTurns journal Plain Good s.progress (turn server burst fails s)
  unfolding turn
  turn_received {P} server burst fails s sound gives =
      let mid : Progress = with_next_receipt (Some A) s.a s.progress in
      let a = port_received (Some A) s.a s.progress sound gives.a in
      let b = port_received (Some B) s.b mid a.sound gives.b in
      let lines = then_received journal Plain Good s.progress mid (after_lines s) sound a b in
      let before : Asking P = record { port = s.requests; progress = after_lines s } in
      let answers : HeardAnswers journal Plain Good (after_lines s) (turn_asked server burst fails s) =
      asked_received (wanted (after_lines s).arbitration.view) server burst fails before lines.sound gives.requests in
      record {
        received =
            then_received journal Plain Good s.progress (after_lines s) (turn_asked server burst fails s).progress sound lines answers.received;
        gives = record {
          a = rest_gives Good s.a.comes gives.a;
          b = rest_gives Good s.b.comes gives.b;
          requests = answers.gives;
        };
      }

  run_received : {P : Type 0} (server : P) (burst : ℕ) (choices : List Bool) (s : ListenerState P) →
      IsSound journal s.progress → ReceivesOnly Good s →
      HeardTurns journal Plain Good s.progress (run (listening server burst) choices s)
  unfolding run
  run_received server burst [] s sound gives = record {
    received = nothing_received journal Plain Good s.progress s.progress sound refl refl refl refl;
    gives = gives;
  }
  run_received {P} server burst (fails ∷ more) s sound gives =
      let after : ListenerState P = turn server burst fails s in
      let end : ListenerState P = run (listening server burst) more after in
      let one = turn_received server burst fails s sound gives in
      let rest = run_received server burst more after one.received.sound one.gives in
      either_received journal Plain Good s.progress (is_over after.progress) after end one
      (record {
        received = then_received journal Plain Good s.progress after.progress end.progress sound one.received rest.received;
        gives = rest.gives;
      })

-- ---- a whole run

-- both of two properties
abbrev Both : (List ℕ → Type 0) → (List ℕ → Type 0) → List ℕ → Type 0
Both Good Came bytes = Good bytes × Came bytes

given_first : {P : Type 0} (Good Came : List ℕ → Type 0) (receipt : Receipt P) (comes : List (Receipt P)) →
    ((from : P) (whole : List ℕ) → Contains (receipt ∷ comes) (Datagram from whole) → Came (take MAX_LIMIT whole)) →
    Gives Good receipt → Gives (Both Good Came) receipt
given_first Good Came (Datagram from bytes) comes came gives = (gives, came from bytes (0, omega arith, refl))
given_first Good Came Quiet comes came gives = tt
given_first Good Came Failure comes came gives = tt

given_all : {P : Type 0} (Good Came : List ℕ → Type 0) (comes : List (Receipt P)) →
    ((from : P) (whole : List ℕ) → Contains comes (Datagram from whole) → Came (take MAX_LIMIT whole)) →
    AllByRecursion (Gives Good) comes → AllByRecursion (Gives (Both Good Came)) comes
given_all Good Came [] came gives = tt
given_all Good Came (receipt ∷ comes) came gives = (
  given_first Good Came receipt comes came gives.0,
  given_all Good Came comes (λ from whole is.
      came from whole (Contains-append_right (receipt ∷ []) comes (Datagram from whole) is)) gives.1,
)

-- what a port gives, it gives with this property too
port_gives : {P : Type 0} (Good Came : List ℕ → Type 0) (port : Port P) →
    ((bytes : List ℕ) → IsReceived port bytes → Came bytes) → GivesOnly Good port → GivesOnly (Both Good Came) port
port_gives Good Came port came gives =
    given_all Good Came port.comes (λ from whole is.
    came (take MAX_LIMIT whole) (record { from = from; whole = whole; comes = is; seen = refl })) gives

ports_give : {P : Type 0} (Good : List ℕ → Type 0) (s : ListenerState P) → ReceivesOnly Good s →
    ReceivesOnly (Both Good (CanReceive s)) s
ports_give Good s hears = record {
  a = port_gives Good (CanReceive s) s.a (λ bytes is. inl is) hears.a;
  b = port_gives Good (CanReceive s) s.b (λ bytes is. inr (inl is)) hears.b;
  requests = port_gives Good (CanReceive s) s.requests (λ bytes is. inr (inr is)) hears.requests;
}

-- a run that may receive foreign bytes
pub run_listened : {P : Type 0} → HearingLaws → (journal : JournalState) (server : P) (burst : ℕ) (choices : List Bool)
    (start : ListenerState P) → IsHonest start.progress.arbitration.view journal.messages journal.closed →
    start.progress.arbitration.view.session ≡ journal.session → ReceivesOnly (IsHarmless journal) start →
    HasListened start.progress.outgoing.format journal (CanReceive start) start.progress.arbitration.view.next
    start.progress.outgoing.stopped start.progress.outgoing.text
    (run (listening server burst) choices start).progress
run_listened {P} laws journal server burst choices start honest session hears =
    let Good : List ℕ → Type 0 = Both (IsHarmless journal) (CanReceive start) in
    let done : HasHeard journal ⊥ Good start.progress (run (listening server burst) choices start).progress =
    (run_received journal ⊥ Good laws
    (record { harmless = λ bytes good. good.0; told = λ never bytes good. absurd never }) server burst choices start
    (record { honest = honest; session = session }) (ports_give (IsHarmless journal) start hears)).received in
    record {
      kept = done.format;
      printed_lines = done.printed_lines;
      text = done.text;
      stop =
          done.stop
          ∙ stop_said start.progress.outgoing.format start.progress.outgoing.stopped done.printed_lines
          start.progress.arbitration.view.next
          (between journal.messages start.progress.arbitration.view.next
          (run (listening server burst) choices start).progress.arbitration.view.next)
          done.handed;
      refused = refused-weaker Good (CanReceive start) journal.session (λ bytes good. good.1) done.printed_lines done.refused;
      from = done.from;
      to = last_number journal (run (listening server burst) choices start).progress done.sound;
      handed = done.handed;
      honest = done.sound.honest;
      session = done.sound.session;
    }

-- a run that receives only what is true
pub run_plain : {P : Type 0} → HearingLaws → (journal : JournalState) (server : P) (burst : ℕ) (choices : List Bool)
    (start : ListenerState P) → IsHonest start.progress.arbitration.view journal.messages journal.closed →
    start.progress.arbitration.view.session ≡ journal.session → ReceivesOnly (IsTrueDatagram journal) start →
    (run (listening server burst) choices start).progress.outgoing.text
    ≡ start.progress.outgoing.text ++ handed_text start.progress.outgoing.format start.progress.arbitration.view.next
    (printable start.progress.outgoing.format start.progress.outgoing.stopped
    (between journal.messages start.progress.arbitration.view.next
    (run (listening server burst) choices start).progress.arbitration.view.next))
run_plain {P} laws journal server burst choices start honest session hears =
    let front : List ℕ = start.progress.outgoing.text in
    let from : ℕ = start.progress.arbitration.view.next in
    let format : MessageFormat = start.progress.outgoing.format in
    let stopped : Option ℕ = start.progress.outgoing.stopped in
    let messages : List Message =
    between journal.messages from (run (listening server burst) choices start).progress.arbitration.view.next in
    let done : HasHeard journal (Unit {0}) (IsTrueDatagram journal) start.progress (run (listening server burst) choices start).progress =
    (run_received journal (Unit {0}) (IsTrueDatagram journal) laws
    (record { harmless = λ bytes told. inl told; told = λ is_plain bytes told. told }) server burst choices start
    (record { honest = honest; session = session }) hears).received in
    done.text
    ∙ ap (λ (l : List PrintedLine). front ++ printed_lines_text format (printable_lines format stopped l)) (done.plain tt)
    ∙ ap (λ (l : List PrintedLine). front ++ printed_lines_text format l) (printable-handing format stopped from messages)
    ∙ ap (λ (l : List ℕ). front ++ l) (text-handing format from (printable format stopped messages))

pub ends_so : (ended : Option ℕ) (next : ℕ) → ends_at ended next ≡ true → ended ≡ Some next
ends_so None next is = absurd (false≢true is)
ends_so (Some end) next is = ap Some (eqb-true end next is)

-- a run that has finished
pub run_finished : {P : Type 0} → HearingLaws → (journal : JournalState) (server : P) (burst : ℕ) (choices : List Bool)
    (start : ListenerState P) → IsHonest start.progress.arbitration.view journal.messages journal.closed →
    start.progress.arbitration.view.session ≡ journal.session → ReceivesOnly (IsHarmless journal) start →
    is_finished (run (listening server burst) choices start).progress ≡ true →
    HasFinished journal (run (listening server burst) choices start).progress
run_finished {P} laws journal server burst choices start honest session hears finished =
    let end : Progress = (run (listening server burst) choices start).progress in
    let done = run_listened laws journal server burst choices start honest session hears in
    let ends : (journal.closed ≡ true) × (end.arbitration.view.next ≡ length journal.messages + 1) =
    done.honest.ends end.arbitration.view.next
    (ends_so end.arbitration.view.ended end.arbitration.view.next finished) in
    record { closed = ends.0; all = ends.1 }
