-- What a server sends of the messages of a journal below a number.
use Rattle.std.proofs.Common.{◌≡◌, ℕ, ◌+◌, ◌-◌, ◌≤◌, List, length, length-drop, take, drop, Option, None, Some, Result}
use Rattle.std.proofs.Common.{Ok, Err, IfNone, IfSome, refl, sym, ap, subst, ◌∙◌, inl, inr, arith}
use Rattle.std.proofs.Math.Seq.{drop-append-le}
use Rattle.std.proofs.lemmas.List.{length-take, take_all, take-append-drop, take-append-le}
use Rattle.std.specs.Option.{OnSome}
use Rattle.mold_wire.specs.Packet.{Spells}
use Rattle.mold_wire.specs.declared.packet.Packet.{Packet}
use Rattle.mold_wire.specs.declared.request.Request.{Request}
use Rattle.mold_session.specs.Answer.{FitAlone, IsPlan, IsSpent, PlanState, SendsNext, answer, between, moved, next_packet}
use Rattle.mold_session.specs.Answer.{next_part, plan_for, planned}
use Rattle.mold_session.specs.Datagrams.{data_packet, first_part}
use Rattle.mold_session.specs.Journal.{IsJournal, JournalState, journal_below}
use Rattle.mold_session.specs.Putting.{Puts}
use Rattle.mold_session.specs.Server.{IsAnswerable, IsServer, ServerState, SpellsAnswer, checked_request, counted, plan_of}
use Rattle.mold_session.specs.Server.{planning}
use Rattle.mold_session.specs.declared.error.AnswerError.{AnswerError}
use Rattle.mold_ffi.specs.Buffer.{PutsPacket}
use Rattle.mold_ffi.specs.Server.Answering.{Answers, Serves}
use Rattle.mold_ffi.specs.Server.MoldPlan.{plan_of as fields_plan, plan_fields}
use Rattle.mold_ffi.specs.declared.code.TheConstants as codes
use Rattle.mold_ffi.specs.declared.server.mold_plan.MoldPlan.{MoldPlan}

-- The journal below its next number has all its messages.
pub all_below : (journal : JournalState) (below : ℕ) → below ≡ length journal.messages + 1 →
    journal_below journal below ≡ journal
all_below journal below is =
    ap (λ (ms : List (List ℕ)). record journal { messages = ms })
    (take_all (below - 1) journal.messages (omega (arith, is)))

-- How many messages the journal below a number has.
length_below : (journal : JournalState) (below : ℕ) → 1 ≤ below → below ≤ length journal.messages + 1 →
    length (journal_below journal below).messages + 1 ≡ below
length_below journal below some within = omega (arith, length-take (below - 1) journal.messages, some, within)

-- The messages between two numbers are the same in a journal and in its messages below a number.
between_below : (messages : List (List ℕ)) (below from to : ℕ) → 1 ≤ from → from ≤ to →
    to ≤ length (take (below - 1) messages) + 1 → between messages from to ≡ between (take (below - 1) messages) from to
between_below messages below from to first ordered last =
    let fewer : List (List ℕ) = take (below - 1) messages in
    let rest : List (List ℕ) = drop (below - 1) messages in
    ap (λ (t : List (List ℕ)). between t from to) (sym (take-append-drop (below - 1) messages))
    ∙ ap (λ (t : List (List ℕ)). take (to - from) t)
    (drop-append-le (from - 1) fewer rest (omega (arith, first, ordered, last)))
    ∙ take-append-le (to - from) (drop (from - 1) fewer) rest
    (omega (arith, length-drop (from - 1) fewer, first, ordered, last))

-- The next packet of a plan for messages below a number, and its messages.
part_below : (journal : JournalState) (below limit : ℕ) (plan : PlanState) → IsPlan plan →
    plan.to ≤ length (journal_below journal below).messages + 1 →
    next_part journal.messages limit plan ≡ next_part (journal_below journal below).messages limit plan
part_below journal below limit plan is last =
    ap (λ (t : List (List ℕ)). first_part limit t) (between_below journal.messages below plan.from plan.to is.0 is.1 last)

packet_below : (journal : JournalState) (below limit : ℕ) (plan : PlanState) → IsPlan plan →
    plan.to ≤ length (journal_below journal below).messages + 1 →
    next_packet journal.messages limit plan ≡ next_packet (journal_below journal below).messages limit plan
packet_below journal below limit plan is last =
    ap (λ (t : List (List ℕ)). data_packet plan.session plan.from t) (part_below journal below limit plan is last)

-- The plan is the one for a request that was accepted.
record IsPlanned (journal : JournalState) (burst : ℕ) (bytes : List ℕ) (plan : PlanState) : Type 0 where
  pub request : Request
  pub asks : checked_request journal bytes ≡ Ok request
  pub plan_is : plan ≡ plan_for journal burst request

planned_of : (journal : JournalState) (burst : ℕ) (bytes : List ℕ) (plan : PlanState)
    (asked : Result Request AnswerError) → checked_request journal bytes ≡ asked → Ok plan ≡ plan_of journal burst asked →
    IsPlanned journal burst bytes plan
planned_of journal burst bytes plan (Err error) asks is = absurd cc
planned_of journal burst bytes plan (Ok request) asks is = record { request = request; asks = asks; plan_is = cc }

-- The laws of mold_session about requests and plans.
pub record Laws : Type 0 where
  pub answerable : (journal : JournalState) (request : Request) (bytes : List ℕ) →
      checked_request journal bytes ≡ Ok request → IsAnswerable journal request
  pub plan : (journal : JournalState) (burst : ℕ) (request : Request) → IsAnswerable journal request →
      IsPlan (plan_for journal burst request)
  pub below : (journal : JournalState) (number limit burst : ℕ) (request : Request) →
      IsAnswerable (journal_below journal number) request →
      planned journal.messages limit (plan_for (journal_below journal number) burst request)
      ≡ answer (journal_below journal number).messages journal.session limit request.sequence request.count burst
  pub next : (published : List (List ℕ)) (limit : ℕ) (plan : PlanState) → FitAlone limit published → IsPlan plan →
      plan.to ≤ length published + 1 → (IsSpent plan → ⊥) → SendsNext published limit plan
  pub fit : (journal : JournalState) (server : ServerState) → IsJournal journal → IsServer server →
      journal.max_message ≤ server.max_message → FitAlone server.limit journal.messages

-- The plan for an accepted request is not spent.
unspent : (journal : JournalState) (burst : ℕ) (request : Request) → IsAnswerable journal request → 1 ≤ burst →
    IsSpent (plan_for journal burst request) → ⊥
unspent journal burst request is some (inl none) = omega (arith, some, none)
unspent journal burst request is some (inr none) = omega (arith, is.count, is.last, none)

-- The first datagram of a plan from the messages below a number is the first response.
record IsFirst (journal : JournalState) (server : ServerState) (below : ℕ) (asked : List ℕ) (plan : PlanState)
    : Type 0 where
  pub more : IsSpent plan → ⊥
  pub spelled : (bytes : List ℕ) → Spells (next_packet journal.messages server.limit plan) bytes →
      SpellsAnswer (journal_below journal below) server asked bytes

first_below : (journal : JournalState) (server : ServerState) (below : ℕ) (asked : List ℕ) (plan : PlanState) →
    Laws → IsJournal journal → IsServer server → journal.max_message ≤ server.max_message →
    Ok plan ≡ planning (journal_below journal below) server.burst asked → IsFirst journal server below asked plan
first_below journal server below asked plan laws journaled is within made =
    let fewer : JournalState = journal_below journal below in
    let found = planned_of fewer server.burst asked plan (checked_request fewer asked) refl made in
    let answerable = laws.answerable fewer found.request asked found.asks in
    let whole : PlanState = plan_for fewer server.burst found.request in
    let more = unspent fewer server.burst found.request answerable is.some in
    let next = laws.next journal.messages server.limit whole (laws.fit journal server journaled is within)
    (laws.plan fewer server.burst found.request answerable)
    (omega (arith, length-take (below - 1) journal.messages)) more
    in
    record {
      more = subst (λ (p : PlanState). IsSpent p → ⊥) (sym found.plan_is) more;
      spelled = λ bytes spelled. record {
        request = found.request;
        packet = next_packet journal.messages server.limit whole;
        rest = planned journal.messages server.limit
            (moved whole (length (next_part journal.messages server.limit whole)));
        asks = found.asks;
        sent = sym (laws.below journal below server.limit server.burst found.request answerable) ∙ next.sent;
        spelled = subst (λ (p : PlanState). Spells (next_packet journal.messages server.limit p) bytes) found.plan_is
            spelled;
      };
    }

-- What a server wrote of the packet: nothing if the plan is spent, otherwise the packet. `later` is the plan afterwards.
pub record HasWritten (packet : Packet) (count : ℕ) (plan later : PlanState) (old new : List ℕ) (code size : ℕ)
    : Type 0 where
  pub absent : IsSpent plan → (code ≡ codes.ABSENT) × (size ≡ 0) × (new ≡ old) × (later ≡ plan)
  pub put : (IsSpent plan → ⊥) →
      (code ≡ codes.DONE) × PutsPacket packet old new size × (later ≡ moved plan count)

pub has_written : {X : Type 0} (now : X → List ℕ) (found : Option X) (packet : Packet) (count : ℕ)
    (plan later : PlanState) (old new : List ℕ) (code size : ℕ) → IfNone found (IsSpent plan) →
    IfNone found (later ≡ plan) → OnSome found (IsSpent plan → ⊥) → OnSome found (later ≡ moved plan count) →
    IfSome found (λ x. Spells packet (now x)) →
    IfNone found ((code ≡ codes.ABSENT) × (size ≡ 0) × (new ≡ old)) →
    IfSome found (λ x. (code ≡ codes.DONE) × Puts old new (now x) size) →
    HasWritten packet count plan later old new code size
has_written now None packet count plan later old new code size spent same more advanced spelled absent put = record {
  absent = λ _. (absent.0, absent.1, absent.2, same);
  put = λ not. absurd (not spent);
}
has_written now (Some x) packet count plan later old new code size spent same more advanced spelled absent put = record {
  absent = λ is. absurd (more is);
  put = λ _. (put.0, record { bytes = now x; spelled = spelled; put = put.1 }, advanced);
}

-- A request that is refused has no plan.
refused_none : (journal : JournalState) (burst : ℕ) (plan : PlanState) (error : AnswerError)
    (asked : Result Request AnswerError) → asked ≡ Err error → Ok plan ≡ plan_of journal burst asked → ⊥
refused_none journal burst plan error (Err why) is made = cc
refused_none journal burst plan error (Ok request) is made = cc

-- The first datagram of a new plan is the response to the request.
pub answers_below : (server after : ServerState) (served journal : JournalState) (below count : ℕ)
    (request old new : List ℕ) (before code size : ℕ) (plan later : PlanState) → journal_below journal below ≡ served →
    Laws → IsJournal journal → IsServer server → journal.max_message ≤ server.max_message → server.limit ≤ length old →
    Ok plan ≡ planning (journal_below journal below) server.burst request →
    HasWritten (next_packet journal.messages server.limit plan) count plan later old new code size →
    after ≡ counted server → Answers ServerState server served request old new before code size (λ s. s) after
answers_below server after served journal below count request old new before code size plan later same laws journaled is
    within long made written counts =
    let fewer : JournalState = journal_below journal below in
    let first = first_below journal server below request plan laws journaled is within made in
    let put = written.put first.more in
    subst (λ (j : JournalState). Answers ServerState server j request old new before code size (λ s. s) after) same
    (record {
      foreign = λ not. absurd (not within);
      room = λ _ short. absurd (omega (arith, short, long));
      refused = λ error _ _ asks.
          absurd (refused_none fewer server.burst plan error (checked_request fewer request) asks made);
      answered = λ asked _ _ asks. (
        put.0,
        record { bytes = put.1.bytes; spelled = first.spelled put.1.bytes put.1.spelled; put = put.1.put },
        counts,
      );
    })

-- The plan can be sent: its messages have numbers below `below`, and it has at most as many datagrams as the burst.
pub record CanSend (server : ServerState) (journal : JournalState) (below : ℕ) (plan : PlanState) : Type 0 where
  pub is : IsPlan plan
  pub suits : journal.max_message ≤ server.max_message
  pub session : plan.session ≡ journal.session
  pub to : plan.to ≤ below
  pub left : plan.left ≤ server.burst

-- What was written of a plan's next datagram.
abbrev pub written_next : ServerState → JournalState → List ℕ → List ℕ → ℕ → ℕ → PlanState → PlanState → Type 0
written_next server journal old new code size later plan =
    HasWritten (next_packet journal.messages server.limit plan) (length (next_part journal.messages server.limit plan))
    plan later old new code size

-- The next datagram of a plan is the same, whether it is packed from the journal or from its messages below a number.
serves_fields : (server : ServerState) (journal : JournalState) (below : ℕ) (fields after : MoldPlan)
    (old new : List ℕ) (before code size : ℕ) (later : PlanState) →
    (1 ≤ below) × (below ≤ length journal.messages + 1) → CanSend server journal below (fields_plan fields) →
    server.limit ≤ length old → after ≡ plan_fields later →
    written_next server journal old new code size later (fields_plan fields) →
    Serves server (journal_below journal below) fields after old new before code size
serves_fields server journal below fields after old new before code size later kept can long wrote written =
    let plan : PlanState = fields_plan fields in
    let last : plan.to ≤ length (journal_below journal below).messages + 1 =
    omega (arith, can.to, length_below journal below kept.0 kept.1) in
    record {
      broken = λ not. absurd (not (record {
        suits = can.suits;
        first = can.is.0;
        ordered = can.is.1;
        within = last;
        few = can.left;
        session = can.session;
      }));
      room = λ _ short. absurd (omega (arith, short, long));
      absent = λ _ _ spent. let a = written.absent spent in (a.0, a.1, a.2, wrote ∙ ap plan_fields a.3);
      put = λ _ _ more. let a = written.put more in (
        a.0,
        subst (λ (p : Packet). PutsPacket p old new size) (packet_below journal below server.limit plan can.is last) a.1,
        wrote
            ∙ ap plan_fields a.2
            ∙ ap (λ (t : List (List ℕ)). plan_fields (moved plan (length t)))
            (part_below journal below server.limit plan can.is last),
      );
    }

pub serves_below : (server : ServerState) (served journal : JournalState) (below : ℕ) (fields after : MoldPlan)
    (old new : List ℕ) (before code size : ℕ) (plan later : PlanState) → journal_below journal below ≡ served →
    (1 ≤ below) × (below ≤ length journal.messages + 1) → plan ≡ fields_plan fields →
    CanSend server journal below plan → server.limit ≤ length old → after ≡ plan_fields later →
    written_next server journal old new code size later plan →
    Serves server served fields after old new before code size
serves_below server served journal below fields after old new before code size plan later same kept resumed can long wrote
    written =
    subst (λ (j : JournalState). Serves server j fields after old new before code size) same
    (serves_fields server journal below fields after old new before code size later kept
    (subst (CanSend server journal below) resumed can) long wrote
    (subst (written_next server journal old new code size later) resumed written))
