-- The start of a round: the server accepts the request, and its responses bring messages.
use Rattle.std.proofs.Common.{◌≡◌, ℕ, ◌+◌, ◌-◌, ◌<◌, ◌≤◌, List, [], length, refl, sym, ap, subst, ◌∙◌, arith, min}
use Rattle.std.specs.Prelude.{Some, Ok, Result}
use Rattle.std.specs.Result.{result_unwrap_or}
use Rattle.mold_receiver.specs.Batch.{Handed, followed_by}
use Rattle.mold_receiver.specs.Store.{Message}
use Rattle.mold_receiver.specs.View.{View, IsWellFormed}
use Rattle.mold_receiver.specs.Wanted.{IsGap, gap_end, wanted}
use Rattle.mold_rounds.proofs.AnswerLemmas.{InRound, gap_found, round_begins, round_ends, round_goes_on, round_stops}
use Rattle.mold_rounds.proofs.FilledLemmas.{FollowedTwice, ahead_of}
use Rattle.mold_rounds.proofs.AsksLemmas.{PacksFronts, brings}
use Rattle.mold_rounds.proofs.RoundsLemmas.{WalksRanges, rounds_some}
use Rattle.mold_rounds.specs.CatchUp.{IsPartOfRound, filled, round_answer}
use Rattle.mold_rounds.specs.Rounds.{rounds}
use Rattle.mold_rounds.specs.Taking.{IsAhead, IsRound, TakesNone, TakesOne}
use Rattle.mold_session.specs.Answer.{FitAlone, HasFirst, IsPlan, PlanState, answer, plan_for, planned}
use Rattle.mold_session.specs.Journal.{JournalState}
use Rattle.mold_session.specs.Server.{IsAnswerable, IsServer, ServerState, checked_request, counted, planning}
use Rattle.mold_session.specs.declared.error.AnswerError.{AnswerError}
use Rattle.mold_wire.specs.Request.{SpellsRequest}
use Rattle.mold_wire.specs.declared.request.Request.{Request}
use Rattle.mold_wire.specs.declared.session.Session.{Session}

-- The laws on responses.
pub record AnswersRequests : Type 0 where
  pub asked : (journal : JournalState) (request : Request) (bytes : List ℕ) →
      SpellsRequest request bytes → IsAnswerable journal request → checked_request journal bytes ≡ Ok request
  pub planned_so : (journal : JournalState) (burst : ℕ) (request : Request) (bytes : List ℕ) →
      checked_request journal bytes ≡ Ok request → planning journal burst bytes ≡ Ok (plan_for journal burst request)
  pub plan_is : (journal : JournalState) (burst : ℕ) (request : Request) →
      IsAnswerable journal request → IsPlan (plan_for journal burst request)
  pub answers : (journal : JournalState) (limit burst : ℕ) (request : Request) →
      IsAnswerable journal request → planned journal.messages limit (plan_for journal burst request)
      ≡ answer journal.messages journal.session limit request.sequence request.count burst
  pub first : (published : List Message) (session : Session) (limit number count burst : ℕ) →
      FitAlone limit published → 1 ≤ number → number ≤ length published → 1 ≤ count → 1 ≤ burst →
      HasFirst session number (answer published session limit number count burst)

-- The receiver wants messages that the journal has.
pub record Wants (v : View) (journal : JournalState) (request : Request) : Type 0 where
  pub well_formed : IsWellFormed v
  pub session : v.session ≡ journal.session
  pub known : v.known ≤ length journal.messages + 1
  pub gap : IsGap v (gap_end v)
  pub asked_session : request.session ≡ v.session
  pub asked_from : request.sequence ≡ v.next
  pub asked_count : request.count ≡ min 65534 (gap_end v - v.next)

-- The law on what is wanted.
abbrev pub AsksWanted : Type 0
AsksWanted = (v : View) (r : Request) → wanted v ≡ Some r →
    (r.session ≡ v.session) × (r.sequence ≡ v.next) × (r.count ≡ min 65534 (gap_end v - v.next))

abbrev pub WantsGap : Type 0
WantsGap = (v : View) (r : Request) → IsWellFormed v → wanted v ≡ Some r → IsGap v (gap_end v)

pub wants : AsksWanted → WantsGap → (v : View) (journal : JournalState) (request : Request) →
    wanted v ≡ Some request → IsWellFormed v → v.session ≡ journal.session → v.known ≤ length journal.messages + 1 →
    Wants v journal request
wants asks gap v journal request is well session known =
    let asked = asks v request is in
    record {
      well_formed = well;
      session = session;
      known = known;
      gap = gap v request well is;
      asked_session = asked.0;
      asked_from = asked.1;
      asked_count = asked.2;
    }

pub answerable : (v : View) (journal : JournalState) (request : Request) → Wants v journal request →
    IsAnswerable journal request
answerable v journal request wants = record {
  session = wants.asked_session ∙ wants.session;
  first = omega (arith, wants.asked_from, wants.well_formed.first);
  last = omega (arith, wants.asked_from, wants.gap.after, wants.gap.within, wants.known);
  count = omega (arith, wants.asked_count, wants.gap.after);
}

-- The plan of the responses.
pub plan_made : AnswersRequests → (v : View) (journal : JournalState) (burst : ℕ) (request : Request) (bytes : List ℕ) →
    Wants v journal request → SpellsRequest request bytes →
    planning journal burst bytes ≡ Ok (plan_for journal burst request)
plan_made laws v journal burst request bytes wants spelled =
    laws.planned_so journal burst request bytes
    (laws.asked journal request bytes spelled (answerable v journal request wants))

pub one_plan : (r : Result PlanState AnswerError) (one other : PlanState) → r ≡ Ok one → r ≡ Ok other → one ≡ other
one_plan r one other is also = ap (λ (x : Result PlanState AnswerError). result_unwrap_or x one) (sym is ∙ also)

-- What holds during the whole round.
pub record Starts (v : View) (before : Handed) (journal : JournalState) (server : ServerState) : Type 0 where
  pub needed : 0 < rounds v journal.messages server.limit server.burst
  pub ends : (now : View) (at : Handed) (plan : PlanState) →
      InRound v before journal server.limit server.burst now at plan →
      planned journal.messages server.limit plan ≡ [] →
      IsRound v journal.messages server.limit server.burst now

sent_first : AnswersRequests → (v : View) (journal : JournalState) (server : ServerState) (request : Request) →
    Wants v journal request → IsServer server → FitAlone server.limit journal.messages →
    HasFirst v.session v.next (round_answer v journal.messages server.limit server.burst)
sent_first laws v journal server request wants is fit =
    laws.first journal.messages v.session server.limit v.next (min 65534 (gap_end v - v.next)) server.burst fit
    wants.well_formed.first (omega (arith, wants.gap.after, wants.gap.within, wants.known))
    (omega (arith, wants.gap.after)) is.some

pub starts : AnswersRequests → PacksFronts → WalksRanges → (v : View) (before : Handed) (journal : JournalState)
    (server : ServerState) (request : Request) → Wants v journal request → IsServer server →
    FitAlone server.limit journal.messages → Starts v before journal server
starts laws packs walks v before journal server request wants is fit =
    let room : 20 ≤ server.limit = omega (arith, is.limited.0) in
    let found =
    gap_found packs v journal.messages server.limit server.burst room
    (sent_first laws v journal server request wants is fit)
    in
    record {
      needed = rounds_some packs walks v (gap_end v) journal.messages server.limit server.burst room is.some wants.gap
          found;
      ends = λ now at plan so_far none.
          round_ends packs walks v before journal server.limit server.burst now at plan room is.some
          wants.well_formed.first wants.gap found (brings packs server.limit server.burst _ room is.some found) so_far
          none;
    }

pub begins : AnswersRequests → (v : View) (before : Handed) (journal : JournalState) (server : ServerState)
    (request : Request) (plan : PlanState) → Wants v journal request → plan ≡ plan_for journal server.burst request →
    InRound v before journal server.limit server.burst v before plan
begins laws v before journal server request plan wants made =
    let may = answerable v journal request wants in
    let p : PlanState = plan_for journal server.burst request in
    let is = laws.plan_is journal server.burst request may in
    let sent : planned journal.messages server.limit p ≡ round_answer v journal.messages server.limit server.burst =
    laws.answers journal server.limit server.burst request may
    ∙ (λ i. answer journal.messages (sym wants.session i) server.limit (wants.asked_from i) (wants.asked_count i)
    server.burst)
    in
    let to : p.to ≤ gap_end v = omega (arith, wants.asked_from, wants.asked_count, wants.gap.after) in
    subst (λ (x : PlanState). InRound v before journal server.limit server.burst v before x) (sym made)
    (round_begins v before journal server.limit server.burst p wants.gap
    (record {
      end = gap_end v;
      well_formed = wants.well_formed;
      session = sym wants.session;
      own = refl;
      first = is.0;
      ordered = is.1;
      held = omega arith;
      within = to;
      gap = λ more. (sym wants.asked_from, wants.gap);
    })
    wants.asked_from to sent)

-- The state of a round: its start, the one request that was counted, and the packets so far.
pub record IsRounding (v : View) (before : Handed) (journal : JournalState) (server : ServerState) (now : View)
    (at : Handed) (plan : PlanState) (served : ServerState) : Type 0 where
  pub start : Starts v before journal server
  pub answered : served ≡ counted server
  pub so_far : InRound v before journal server.limit server.burst now at plan

limit_is : (v : View) (before : Handed) (journal : JournalState) (server : ServerState) (now : View) (at : Handed)
    (plan : PlanState) (served : ServerState) → IsRounding v before journal server now at plan served →
    served.limit ≡ server.limit
limit_is v before journal server now at plan served is = ap (λ (s : ServerState). s.limit) is.answered

pub rounding_more : FollowedTwice → (v : View) (before : Handed) (journal : JournalState) (server : ServerState)
    (now then_view : View) (at after : Handed) (plan behind : PlanState) (served still : ServerState) →
    IsRounding v before journal server now at plan served →
    TakesOne now at journal served.limit plan then_view after behind → still ≡ served →
    IsRounding v before journal server then_view after behind still
rounding_more twice v before journal server now then_view at after plan behind served still is takes same = record {
  start = is.start;
  answered = same ∙ is.answered;
  so_far = round_goes_on twice v before journal server.limit server.burst now then_view at after plan behind is.so_far
      (subst (λ (n : ℕ). TakesOne now at journal n plan then_view after behind)
      (limit_is v before journal server now at plan served is) takes);
}

-- Fewer packets are left.
pub rounding_shorter : (v : View) (before : Handed) (journal : JournalState) (server : ServerState)
    (now then_view : View) (at after : Handed) (plan behind : PlanState) (served : ServerState) →
    IsRounding v before journal server now at plan served →
    TakesOne now at journal served.limit plan then_view after behind →
    length (planned journal.messages server.limit behind) < length (planned journal.messages server.limit plan)
rounding_shorter v before journal server now then_view at after plan behind served is takes =
    let here =
    subst (λ (n : ℕ). TakesOne now at journal n plan then_view after behind)
    (limit_is v before journal server now at plan served is) takes
    in
    omega (arith, ap length here.sent)

-- All responses were taken.
pub rounding_done : (v : View) (before : Handed) (journal : JournalState) (server : ServerState)
    (now then_view : View) (at after : Handed) (plan behind : PlanState) (served : ServerState) →
    IsRounding v before journal server now at plan served →
    TakesNone now at journal served.limit plan then_view after behind →
    IsRound v journal.messages server.limit server.burst then_view
rounding_done v before journal server now then_view at after plan behind served is none =
    subst (λ (w : View). IsRound v journal.messages server.limit server.burst w) (sym none.view)
    (is.start.ends now at plan is.so_far
    (subst (λ (n : ℕ). planned journal.messages n plan ≡ [])
    (limit_is v before journal server now at plan served is) none.spent))

-- Nothing more was taken, since an allocation failed for a packet.
pub rounding_stopped : (v : View) (before : Handed) (journal : JournalState) (server : ServerState) (now w : View)
    (at : Handed) (plan : PlanState) (served : ServerState) → IsRounding v before journal server now at plan served →
    0 < length (planned journal.messages served.limit plan) → w ≡ now →
    IsPartOfRound v journal.messages server.limit server.burst w
rounding_stopped v before journal server now w at plan served is more same =
    subst (λ (x : View). IsPartOfRound v journal.messages server.limit server.burst x) (sym same)
    (round_stops v before journal server.limit server.burst now at plan is.so_far
    (subst (λ (n : ℕ). 0 < length (planned journal.messages n plan))
    (limit_is v before journal server now at plan served is) more))

pub rounding_ahead : (v : View) (before : Handed) (journal : JournalState) (server : ServerState) (now w : View)
    (at : Handed) (plan : PlanState) (served : ServerState) → IsRounding v before journal server now at plan served →
    w ≡ now → IsAhead v w
rounding_ahead v before journal server now w at plan served is same =
    subst (λ (x : View). IsAhead v x) (sym same) (ahead_of v _ now is.so_far.took)

pub rounding_batch : (v : View) (before : Handed) (journal : JournalState) (server : ServerState) (now w : View)
    (at after : Handed) (plan : PlanState) (served : ServerState) →
    IsRounding v before journal server now at plan served → w ≡ now → after ≡ at →
    after ≡ followed_by before v.next (filled v journal.messages w.next)
rounding_batch v before journal server now w at after plan served is same kept =
    kept ∙ is.so_far.batch
    ∙ ap (λ (x : View). followed_by before v.next (filled v journal.messages x.next)) (sym same)
