-- What the journals of publisher and recorders have at one time.
use Rattle.std.proofs.Common.{◌≡◌, ℕ, ◌+◌, ◌<◌, ◌≤◌, Bool, true, false, List, [], ◌∷◌, ◌++◌, length}
use Rattle.std.proofs.Common.{refl, sym, ap, subst, ◌∙◌, arith, append-nil, append_assoc, inl, inr, length-append}
use Rattle.std.proofs.lemmas.Bool.{false≢true}
use Rattle.std.proofs.lemmas.Option.{none-some}
use Rattle.std.specs.List.{AllByRecursion}
use Rattle.std.specs.Prelude.{None, Option, Some, slice_get}
use Rattle.mold_day_law.specs.Recorders.{HasBegun, HasRecorded, HaveRecorded, IsRecordOf, MayAllArrive, MayArrive}
use Rattle.mold_day_law.specs.Recorders.{RecorderLife}
use Rattle.mold_durable.specs.DurableJournal.{DurableState}
use Rattle.mold_durable.specs.Life.{Life, MayHappen as MayHappenTo, Moment, after as after_moment, born}
use Rattle.mold_durable.specs.Life.Moment.{Append, Close as CloseJournal, Commit, Crash}
use Rattle.mold_durable_law.proofs.HistoryLemmas.{all_allowed, all_run, history_begun}
use Rattle.mold_durable_law.specs.History.{AllMayHappen, Event, History, IsOther, MayHappen, after_all, after_event}
use Rattle.mold_durable_law.specs.History.{all_steps, begun, life_of}
use Rattle.mold_durable_law.specs.History.Event.{Other, Writes}
use Rattle.mold_durable_publisher.specs.Told.{IsLater, IsLife, IsTrueOf}
use Rattle.mold_feed.proofs.ReceivedTurnLemmas.{ends_so}
use Rattle.mold_feed.proofs.SentLemmas.{each_append, each_begun, each_front, each_rest}
use Rattle.mold_pacing.specs.declared.gap.Gap.{Gap}
use Rattle.mold_port_set.specs.PortSet.{Given}
use Rattle.mold_receive.specs.Receiving.{Call, Follow, all_taken, is_finished, port_of, taken_by}
use Rattle.mold_receiver.specs.Honest.{IsHonest}
use Rattle.mold_receiver.specs.Store.{Message}
use Rattle.mold_receiver.specs.View.{IsRoom, View, fresh_within}
use Rattle.mold_recorder.specs.Recording.{AreWhole, HasDelivered, IsFileLeft, RecorderState, all_delivered}
use Rattle.mold_repair.proofs.LawLemmas.{HasMoved, TakenLaw, has_moved}
use Rattle.mold_repair.specs.Came.{range}
use Rattle.mold_repair.specs.Run.{IsRepaired, after_lost}
use Rattle.mold_repair.specs.Safe.{AreHarmless, ArePieces, IsHarmless, IsPiece}
use Rattle.mold_repair.specs.declared.outcome.Outcome.{Outcome}
use Rattle.mold_repair.specs.declared.repairer.Repairer.{Repairer}
use Rattle.mold_repair.specs.declared.step.RepairStep.{RepairStep}
use Rattle.mold_repair.specs.declared.step.RepairStep.TheVariants.{Lost, Pass, Poll, Take}
use Rattle.mold_session.specs.Records.{SpellsJournal3}
use Rattle.mold_turns.specs.Runs.{Begins}
use Rattle.mold_wire.specs.Packet.{Spells}
use Rattle.mold_wire.specs.Truth.{Carries, published_at}
use Rattle.mold_wire.specs.declared.limits.TheConstants.{MAX_NUMBER}
use Rattle.mold_wire.specs.declared.packet.Packet.{Packet}
use Rattle.mold_wire.specs.declared.session.Session.{Session}
use Rattle.mold_world.proofs.MachineLemmas.{IsKept, Laws, append_cases, at_place, kept_run, kept_start, prefix_from}
use Rattle.mold_world.proofs.MachineLemmas.{prefix_same}
use Rattle.mold_world.specs.Headline.{IsPrefix}
use Rattle.mold_world.specs.Machine.{Machine, Step, after, start}
use Rattle.mold_world.specs.Machine.Step.{Close, Deliver, Nothing, Publish, Restart, Send}

-- The laws of the crates below that are used.
pub record DayLaws : Type 0 where
  pub machine : Laws
  pub begins : (session : Session) → IsLife (born session)
  pub goes_on : (life : Life) (moment : Moment) → IsLife life → MayHappenTo life moment →
      IsLife (after_moment life moment)
  pub later : (session : Session) (before after : List (List ℕ)) (was is : Bool) (datagram : List ℕ) →
      IsLater before was after is → IsTrueOf session before was datagram → IsTrueOf session after is datagram
  pub moved : (history : History) (moment : Moment) →
      life_of (after_event history (Writes moment)) ≡ after_moment (life_of history) moment
  pub anew : (room : Option ℕ) (session : Session) (next window : ℕ) (published : List Message) (closed : Bool) →
      IsRoom room → 1 ≤ next →
      next ≤ length published + 1 → length published < MAX_NUMBER →
      IsHonest (fresh_within room session next window) published closed
  pub taken : TakenLaw
  pub honest : (old new : Repairer) (steps : List RepairStep) (outcomes : List Outcome)
      (ran : IsRepaired old new steps outcomes) (published : List Message) (closed : Bool) →
      IsHonest old.arbiter.view published closed →
      AreHarmless old.arbiter.view.session published closed steps → IsHonest new.arbiter.view published closed
  pub pieces : (old new : Repairer) (steps : List RepairStep) (outcomes : List Outcome)
      (ran : IsRepaired old new steps outcomes) (published : List Message) (closed : Bool) →
      IsHonest old.arbiter.view published closed →
      AreHarmless old.arbiter.view.session published closed steps → ArePieces published old new steps outcomes ran
  pub one_file : (one other : Session) (messages others : List (List ℕ)) (closed shut : Bool) (bytes : List ℕ) →
      SpellsJournal3 one messages closed bytes → SpellsJournal3 other others shut bytes →
      (one ≡ other) × (messages ≡ others) × (closed ≡ shut)

-- ---- the publisher

-- Every step of the machine was allowed.
pub kept_all : DayLaws → (session : Session) (events : List Event) → AllMayHappen (begun session) events →
    IsKept (after_all (begun session) events).machine
kept_all laws session events may =
    subst IsKept (sym (all_run (begun session) events))
    (kept_run laws.machine (start session) (all_steps (begun session) events) (kept_start session)
    (all_allowed (begun session) events (history_begun session) may))

life_after_step : (machine : Machine) (step : Step) (waiting : List (List ℕ)) → IsOther step →
    IsLife (life_of (record { machine = machine; waiting = waiting })) →
    IsLife (life_of (record { machine = after machine step; waiting = waiting }))
life_after_step machine (Publish message) waiting other is = absurd other
life_after_step machine Close waiting other is = absurd other
life_after_step machine (Send bytes) waiting other is = is
life_after_step machine (Deliver receiver messages ended) waiting other is = is
life_after_step machine (Restart receiver next) waiting other is = is
life_after_step machine Nothing waiting other is = is

life_after : DayLaws → (history : History) (event : Event) → IsLife (life_of history) → MayHappen history event →
    IsLife (life_of (after_event history event))
life_after laws history (Writes moment) is may =
    subst IsLife (sym (laws.moved history moment)) (laws.goes_on (life_of history) moment is may)
life_after laws history (Other step) is may = life_after_step history.machine step history.waiting may.0 is

life_after_all : DayLaws → (history : History) (events : List Event) → IsLife (life_of history) →
    AllMayHappen history events → IsLife (life_of (after_all history events))
life_after_all laws history [] is may = is
life_after_all laws history (event ∷ events) is may =
    life_after_all laws (after_event history event) events (life_after laws history event is may.0) may.1

-- There are numbers for all committed messages.
pub few_committed : DayLaws → (session : Session) (events : List Event) → AllMayHappen (begun session) events →
    length (life_of (after_all (begun session) events)).committed < MAX_NUMBER
few_committed laws session events may =
    let is : IsLife (life_of (after_all (begun session) events)) =
    life_after_all laws (begun session) events (laws.begins session) may in
    omega (arith, is.few)

-- What a sent datagram carries was published.
pub carried_published : Laws → (machine : Machine) (place : ℕ) (datagram : List ℕ) (packet : Packet) (number : ℕ)
    (message : List ℕ) → IsKept machine → slice_get machine.sent place ≡ Some datagram → Spells packet datagram →
    Carries packet number message → published_at machine.published number ≡ Some message
carried_published laws machine place datagram packet number message kept sent spelled carries =
    let said = kept.said place datagram sent in
    let same = laws.one_packet packet said.packet datagram spelled said.spelled in
    laws.carried said.packet machine.published machine.closed number message said.is_true
    (subst (λ (p : Packet). Carries p number message) same carries)

-- The session keeps its name.
session_after_step : (machine : Machine) (step : Step) → (after machine step).session ≡ machine.session
session_after_step machine (Publish message) = refl
session_after_step machine Close = refl
session_after_step machine (Send bytes) = refl
session_after_step machine (Deliver receiver messages ended) = refl
session_after_step machine (Restart receiver next) = refl
session_after_step machine Nothing = refl

session_after_event : (history : History) (event : Event) →
    (after_event history event).machine.session ≡ history.machine.session
session_after_event history (Writes moment) = refl
session_after_event history (Other step) = session_after_step history.machine step

pub session_after : (history : History) (events : List Event) →
    (after_all history events).machine.session ≡ history.machine.session
session_after history [] = refl
session_after history (event ∷ events) =
    session_after (after_event history event) events ∙ session_after_event history event

-- Committed messages stay committed.
grows : (history : History) (event : Event) → MayHappen history event →
    IsPrefix history.machine.published (after_event history event).machine.published
grows history (Writes (Append message)) may = record { behind = []; parts = sym (append-nil history.machine.published) }
grows history (Writes Commit) may = record { behind = history.waiting; parts = refl }
grows history (Writes CloseJournal) may = record { behind = history.waiting; parts = refl }
grows history (Writes Crash) may = record { behind = []; parts = sym (append-nil history.machine.published) }
grows history (Other (Publish message)) may = absurd may.0
grows history (Other Close) may = absurd may.0
grows history (Other (Send bytes)) may = record { behind = []; parts = sym (append-nil history.machine.published) }
grows history (Other (Deliver receiver messages ended)) may =
    record { behind = []; parts = sym (append-nil history.machine.published) }
grows history (Other (Restart receiver next)) may =
    record { behind = []; parts = sym (append-nil history.machine.published) }
grows history (Other Nothing) may = record { behind = []; parts = sym (append-nil history.machine.published) }

prefix_of_prefix : (xs ys zs : List (List ℕ)) → IsPrefix xs ys → IsPrefix ys zs → IsPrefix xs zs
prefix_of_prefix xs ys zs one other = record {
  behind = one.behind ++ other.behind;
  parts = other.parts ∙ ap (λ (l : List (List ℕ)). l ++ other.behind) one.parts
      ∙ append_assoc xs one.behind other.behind;
}

later_prefix : (messages : List (List ℕ)) (history : History) (events later : List Event) →
    AllMayHappen history (events ++ later) → IsPrefix messages (after_all history events).machine.published →
    IsPrefix messages (after_all history (events ++ later)).machine.published
later_prefix messages history [] [] may is = is
later_prefix messages history [] (event ∷ later) may is =
    later_prefix messages (after_event history event) [] later may.1
    (prefix_of_prefix messages history.machine.published (after_event history event).machine.published is
    (grows history event may.0))
later_prefix messages history (event ∷ events) later may is =
    later_prefix messages (after_event history event) events later may.1 is

-- A server may send what is true of messages that it has read.
pub served : DayLaws → (session : Session) (events later : List Event) (messages : List (List ℕ)) (datagram : List ℕ) →
    AllMayHappen (begun session) (events ++ later) →
    IsPrefix messages (life_of (after_all (begun session) events)).committed →
    IsTrueOf session messages false datagram →
    MayHappen (after_all (begun session) (events ++ later)) (Other (Send datagram))
served laws session events later messages datagram may prefix so =
    let machine : Machine = (after_all (begun session) (events ++ later)).machine in
    let grown : IsPrefix messages machine.published =
    later_prefix messages (begun session) events later may prefix in
    let now : IsTrueOf session machine.published machine.closed datagram =
    laws.later session messages machine.published false machine.closed datagram
    (record {
      extra = grown.behind;
      longer = grown.parts;
      few = few_committed laws session (events ++ later) may;
      over = λ closed. absurd (false≢true closed);
    }) so in (
      tt,
      record {
        packet = now.packet;
        spelled = now.spelled;
        named = now.named ∙ sym (session_after (begun session) (events ++ later));
        is_true = now.so;
      },
    )

-- ---- what a recorder delivers

-- A datagram that may arrive is true, or does not encode a packet of the session.
harmless : (machine : Machine) (given : Given) → IsKept machine → MayArrive machine given →
    IsHarmless machine.session machine.published machine.closed given.bytes
harmless machine given kept (inl sent) =
    let said = kept.said sent.0 given.bytes sent.1 in
    inl (record { packet = said.packet; spelled = said.spelled; session = said.named; so = said.is_true })
harmless machine given kept (inr foreign) = inr foreign

harmless_step : (machine : Machine) (lines : ℕ) (step : RepairStep) → IsKept machine →
    MayAllArrive machine (taken_by lines step) →
    AreHarmless machine.session machine.published machine.closed (step ∷ [])
harmless_step machine lines (Take time origin datagram) kept arrive =
    (harmless machine (record { port = port_of lines origin; bytes = datagram.now }) kept arrive.0, tt)
harmless_step machine lines (Poll time) kept arrive = tt
harmless_step machine lines (Lost time) kept arrive = tt
harmless_step machine lines (Pass time) kept arrive = tt

-- The messages are the published ones from the number `first` on.
abbrev Each : List Message → ℕ → List Message → Type 0
Each published first messages =
    (place : ℕ) (message : Message) → slice_get messages place ≡ Some message →
    published_at published (first + place) ≡ Some message

each_none : (published : List Message) (first : ℕ) → Each published first []
each_none published first place message is = absurd (none-some message is)

each_joined : (published : List Message) (first : ℕ) (xs ys : List Message) → Each published first xs →
    Each published (first + length xs) ys → Each published first (xs ++ ys)
each_joined published first xs ys one other place message is =
    elim (append_cases xs ys place message is) [
      | inl before ↦ one place message before
      | inr rest ↦
          let at : first + length xs + rest.0 ≡ first + place = omega (arith, rest.1) in
          subst (λ (n : ℕ). published_at published n ≡ Some message) at (other rest.0 message rest.2)
    ]

-- The receiver has delivered these messages from the number `first` on. They are the published ones.
record HasDeliveredAll (machine : Machine) (first : ℕ) (messages : List Message) (new : Repairer) : Type 0 where
  honest : IsHonest new.arbiter.view machine.published machine.closed
  session : new.arbiter.view.session ≡ machine.session
  next : new.arbiter.view.next ≡ first + length messages
  each : Each machine.published first messages

module _ (laws : DayLaws) (machine : Machine) (kept : IsKept machine) (lines : ℕ) where
  call_delivers : (call : Call) → call.outcome.lost ≡ None →
      IsHonest call.before.arbiter.view machine.published machine.closed →
      call.before.arbiter.view.session ≡ machine.session → MayAllArrive machine (taken_by lines call.step) →
      HasDeliveredAll machine call.before.arbiter.view.next call.is.handed.messages call.after
  call_delivers call whole honest named arrive =
      let published : List Message = machine.published in
      let moved : HasMoved call.before call.after call.outcome call.is.handed =
      has_moved laws.taken call.before call.after call.step call.outcome call.is.handed call.is.stepped in
      let ran : IsRepaired call.before call.after (call.step ∷ []) (call.outcome ∷ []) = (call.after, call.is, refl) in
      let are : AreHarmless call.before.arbiter.view.session published machine.closed (call.step ∷ []) =
      subst (λ (s : Session). AreHarmless s published machine.closed (call.step ∷ [])) (sym named)
      (harmless_step machine lines call.step kept arrive) in
      let piece : IsPiece published call.outcome.delivered.first call.outcome.delivered.end call.is.handed.messages =
      (laws.pieces call.before call.after (call.step ∷ []) (call.outcome ∷ []) ran published machine.closed honest
      are).0 in
      let range_is : call.outcome.delivered ≡ range call.before.arbiter.view.next call.after.arbiter.view.next =
      moved.delivered
      ∙ ap (λ (lost : Option Gap). range (after_lost call.before.arbiter.view.next lost) call.after.arbiter.view.next)
      whole in
      let first : call.outcome.delivered.first ≡ call.before.arbiter.view.next = ap (λ (g : Gap). g.first) range_is in
      let end : call.outcome.delivered.end ≡ call.after.arbiter.view.next = ap (λ (g : Gap). g.end) range_is in
      record {
        honest = laws.honest call.before call.after (call.step ∷ []) (call.outcome ∷ []) ran published machine.closed
            honest are;
        session = moved.session ∙ named;
        next = omega (arith, piece.counted, first, end);
        each = subst (λ (n : ℕ). Each published n call.is.handed.messages) first piece.each;
      }

  calls_deliver : (old new : Repairer) (calls : List Call) → Follow old calls new → AreWhole calls →
      IsHonest old.arbiter.view machine.published machine.closed → old.arbiter.view.session ≡ machine.session →
      MayAllArrive machine (all_taken lines calls) →
      HasDeliveredAll machine old.arbiter.view.next (all_delivered calls) new
  unfolding Follow AreWhole all_taken all_delivered
  calls_deliver old new [] follow whole honest named arrive =
      let same : new.arbiter.view ≡ old.arbiter.view = ap (λ (r : Repairer). r.arbiter.view) follow in
      let next : new.arbiter.view.next ≡ old.arbiter.view.next = ap (λ (v : View). v.next) same in
      record {
        honest = subst (λ (v : View). IsHonest v machine.published machine.closed) (sym same) honest;
        session = ap (λ (v : View). v.session) same ∙ named;
        next = omega (arith, next);
        each = each_none machine.published old.arbiter.view.next;
      }
  calls_deliver old new (call ∷ calls) follow whole honest named arrive =
      let same : call.before.arbiter.view ≡ old.arbiter.view = ap (λ (r : Repairer). r.arbiter.view) follow.0 in
      let one : HasDeliveredAll machine call.before.arbiter.view.next call.is.handed.messages call.after =
      call_delivers call whole.0
      (subst (λ (v : View). IsHonest v machine.published machine.closed) (sym same) honest)
      (ap (λ (v : View). v.session) same ∙ named)
      (each_front (MayArrive machine) (taken_by lines call.step) (all_taken lines calls) arrive) in
      let rest : HasDeliveredAll machine call.after.arbiter.view.next (all_delivered calls) new =
      calls_deliver call.after new calls follow.1 whole.1 one.honest one.session
      (each_rest (MayArrive machine) (taken_by lines call.step) (all_taken lines calls) arrive) in
      let next : call.before.arbiter.view.next ≡ old.arbiter.view.next = ap (λ (v : View). v.next) same in
      record {
        honest = rest.honest;
        session = rest.session;
        next = omega (arith, one.next, rest.next, next, length-append call.is.handed.messages (all_delivered calls));
        each =
            each_joined machine.published old.arbiter.view.next call.is.handed.messages (all_delivered calls)
            (subst (λ (n : ℕ). Each machine.published n call.is.handed.messages) next one.each)
            (subst (λ (n : ℕ). Each machine.published n (all_delivered calls)) (one.next
            ∙ ap (λ (n : ℕ). n + length call.is.handed.messages) next) rest.each);
      }

-- ---- what the journal of a recorder has

prefix_before : (xs ys zs : List Message) → IsPrefix (xs ++ ys) zs → IsPrefix xs zs
prefix_before xs ys zs is =
    record { behind = ys ++ is.behind; parts = is.parts ∙ append_assoc xs ys is.behind }

prefix_length : (xs ys : List Message) → IsPrefix xs ys → length xs ≤ length ys
prefix_length xs ys is =
    omega (arith, ap (λ (l : List Message). length l) is.parts, length-append xs is.behind)

-- Messages from the next number on follow a prefix.
prefix_longer : Laws → (found messages published : List Message) → IsPrefix found published →
    Each published (length found + 1) messages → IsPrefix (found ++ messages) published
prefix_longer laws found messages published is each =
    prefix_from (found ++ messages) published (λ place message here.
    elim (append_cases found messages place message here) [
      | inl before ↦
          sym (at_place published place)
          ∙ ap (λ (l : List Message). published_at l (1 + place)) is.parts
          ∙ laws.keeps found is.behind (1 + place) message (at_place found place ∙ before)
      | inr rest ↦
          let at : length found + 1 + rest.0 ≡ 1 + place = omega (arith, rest.1) in
          sym (at_place published place)
          ∙ subst (λ (n : ℕ). published_at published n ≡ Some message) at (each rest.0 message rest.2)
    ])

-- The journal of a receiver that has delivered all messages from the first one on that it had not.
pub record IsRecorded (machine : Machine) (found messages : List Message) (new : Repairer) : Type 0 where
  pub prefix : IsPrefix (found ++ messages) machine.published
  pub whole : is_finished new ≡ true →
      (machine.closed ≡ true) × (found ++ messages ≡ machine.published)

module _ (laws : DayLaws) (machine : Machine) (kept : IsKept machine) (few : length machine.published < MAX_NUMBER)
  where
    pub recorded : {P S : Type 0} (shows may_leave : S → List ℕ → Type 0) (lines : ℕ) (servers : List P)
        (took : List Given) (start end : RecorderState P) (journal : DurableState S) (found messages : List Message) →
        HasBegun shows may_leave machine.session found start.repairer journal →
        (is : HasDelivered lines servers true took start end messages) → MayAllArrive machine (took ++ is.since) →
        IsPrefix found machine.published → IsRecorded machine found messages end.repairer
    recorded shows may_leave lines servers took start end journal found messages begun is arrive prefix =
        let old : Repairer = start.repairer in
        let new : Repairer = end.repairer in
        let fits : length found ≤ length machine.published = prefix_length found machine.published prefix in
        let honest : IsHonest old.arbiter.view machine.published machine.closed =
        subst (λ (v : View). IsHonest v machine.published machine.closed) (sym begun.anew.is)
        (laws.anew begun.anew.room machine.session (length found + 1) begun.window machine.published machine.closed
        begun.anew.valid (omega arith)
        (omega (arith, fits)) few) in
        let all : HasDeliveredAll machine old.arbiter.view.next (all_delivered is.calls) new =
        calls_deliver laws machine kept lines old new is.calls is.follow is.whole honest
        (ap (λ (v : View). v.session) begun.anew.is)
        (subst (λ (g : List Given). MayAllArrive machine g) (sym (is.taken refl)) arrive) in
        let next : old.arbiter.view.next ≡ length found + 1 = ap (λ (v : View). v.next) begun.anew.is in
        let each : Each machine.published (length found + 1) messages =
        subst (λ (l : List Message). Each machine.published (length found + 1) l) (sym is.delivered)
        (subst (λ (n : ℕ). Each machine.published n (all_delivered is.calls)) next all.each) in
        let longer : IsPrefix (found ++ messages) machine.published =
        prefix_longer laws.machine found messages machine.published prefix each in
        record {
          prefix = longer;
          whole = λ finished.
              let ends : (machine.closed ≡ true) × (new.arbiter.view.next ≡ length machine.published + 1) =
              all.honest.ends new.arbiter.view.next
              (ends_so new.arbiter.view.ended new.arbiter.view.next finished) in
              let count : length messages ≡ length (all_delivered is.calls) =
              ap (λ (l : List Message). length l) is.delivered in (
                ends.0,
                prefix_same (found ++ messages) machine.published longer
                    (omega (arith, ends.1, all.next, next, count, length-append found messages)),
              );
        }

-- The file that a life of a recorder has left.
module _ (laws : DayLaws) (history : History) (kept : IsKept history.machine)
    (few : length history.machine.published < MAX_NUMBER) where
  abbrev published : List Message
  published = history.machine.published

  part_recorded : (found messages front rest : List Message) (new : Repairer) →
      IsRecorded history.machine found messages new → messages ≡ front ++ rest → IsPrefix (found ++ front) published
  part_recorded found messages front rest new is parts =
      prefix_before (found ++ front) rest published
      (subst (λ (l : List Message). IsPrefix l published)
      (ap (λ (l : List Message). found ++ l) parts ∙ sym (append_assoc found front rest)) is.prefix)

  file_recorded : (found messages left : List Message) (closed : Bool) (new : Repairer) (file : List ℕ) →
      IsRecorded history.machine found messages new →
      IsFileLeft (record { session = history.machine.session; committed = found; closed = false; waiting = [] })
      messages (is_finished new) file →
      SpellsJournal3 history.machine.session left closed file → IsRecordOf (life_of history) left closed
  file_recorded found messages left closed new file is (inl part) spelled =
      let same = laws.one_file history.machine.session history.machine.session (found ++ part.front) left false closed
      file part.file spelled in
      record {
        prefix = subst (λ (l : List Message). IsPrefix l published) same.1
            (part_recorded found messages part.front part.rest new is part.parts);
        whole = λ over. absurd (false≢true (same.2 ∙ over));
      }
  file_recorded found messages left closed new file is (inr all) spelled =
      let same = laws.one_file history.machine.session history.machine.session (found ++ messages) left true closed file
      all.1 spelled in
      let whole = is.whole all.0 in
      record {
        prefix = subst (λ (l : List Message). IsPrefix l published) same.1 is.prefix;
        whole = λ over. (whole.0, sym same.1 ∙ whole.1);
      }

  took_arrived : (took first since : List Given) → Begins took first →
      MayAllArrive history.machine (first ++ since) → MayAllArrive history.machine (took ++ since)
  took_arrived took first since part arrive =
      let May : Given → Type 0 = MayArrive history.machine in
      each_append May took since (each_begun May took first part (each_front May first since arrive))
      (each_rest May first since arrive)

  pub life_recorded : {P S : Type 0} (shows may_leave : S → List ℕ → Type 0) (moment : S → ℕ)
      (left_since : S → ℕ → List ℕ → Type 0) (life : RecorderLife) →
      HasRecorded P shows may_leave moment left_since history.machine life → IsPrefix life.found published →
      IsRecordOf (life_of history) life.left life.closed
  life_recorded shows may_leave moment left_since life has prefix =
      let ran = has.ran in
      let is : IsRecorded history.machine life.found ran.messages ran.end.repairer =
      recorded laws history.machine kept few shows may_leave has.lines has.servers ran.took has.start ran.end has.before
      life.found ran.messages has.begun ran.delivered
      (took_arrived ran.took has.first ran.delivered.since ran.part has.arrived) prefix in
      let left = (ran.leaves (record {
        session = history.machine.session;
        committed = life.found;
        closed = false;
        waiting = [];
      }) has.begun.lives).each has.file has.crash in
      file_recorded life.found ran.messages life.left life.closed ran.end.repairer has.file is left
      has.spelled

  pub lives_recorded : (P : Type 0) {S : Type 0} (shows may_leave : S → List ℕ → Type 0) (moment : S → ℕ)
      (left_since : S → ℕ → List ℕ → Type 0) (messages : List Message) (closed : Bool) (lives : List RecorderLife) →
      HaveRecorded P shows may_leave moment left_since history.machine messages closed lives →
      IsPrefix messages published →
      AllByRecursion (λ (life : RecorderLife). IsRecordOf (life_of history) life.left life.closed) lives
  lives_recorded P shows may_leave moment left_since messages closed [] have prefix = tt
  lives_recorded P shows may_leave moment left_since messages closed (life ∷ lives) have prefix =
      let one : IsRecordOf (life_of history) life.left life.closed =
      life_recorded shows may_leave moment left_since life have.2
      (subst (λ (l : List Message). IsPrefix l published) (sym have.1) prefix) in (
        one,
        lives_recorded P shows may_leave moment left_since life.left life.closed lives have.3
            one.prefix,
      )
