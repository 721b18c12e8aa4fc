-- The responses to a request, offered one by one.
use Rattle.std.proofs.lemmas.Bool.{false≢true}
use Rattle.std.specs.Prelude.{IsErr, is_ok}
use Rattle.std.proofs.Common.{◌≡◌, ℕ, ◌+◌, Bool, true, false, List, [], ◌∷◌, ◌++◌, length, take, arith}
use Rattle.std.proofs.Common.{Result, Ok, Err, refl, sym, ap, subst, ◌∙◌, append_assoc}
use Rattle.mold_ports.specs.Ports.{Port, offered}
use Rattle.mold_session.specs.Answer.{PlanState, SendsNext, answer, moved, next_packet, next_part, plan_for, planned}
use Rattle.mold_durable_publisher.specs.DurablePublisher.{ShowsJournal}
use Rattle.mold_durable_publisher.specs.declared.durable_publisher.DurablePublisher.{DurablePublisher}
use Rattle.mold_session.specs.Journal.{IsJournal, JournalState, journal_below}
use Rattle.mold_session.specs.Server.{IsAnswerable, ServerState, checked_request, plan_of, planning}
use Rattle.mold_session.specs.declared.error.AnswerError.{AnswerError}
use Rattle.mold_session.specs.declared.error.FileError.{FileError}
use Rattle.mold_wire.specs.Packet.{Spells, spelling_of}
use Rattle.mold_wire.specs.declared.packet.Packet.{Packet}
use Rattle.mold_wire.specs.declared.request.Request.{Request}
use Rattle.mold_feeder.specs.Requests.{MayRespond, Offering, Offers, OffersFront, OffersNext, OffersOne}
use Rattle.mold_feeder.specs.Requests.{responses, responses_to}

-- The next packet of a plan was offered.
pub offered_one : {P : Type 0} (to : P) (messages : List (List ℕ)) (limit : ℕ) (plan behind : PlanState) (bytes : List ℕ)
    (old new : Port P) (fails : Bool) → SendsNext messages limit plan →
    behind ≡ moved plan (length (next_part messages limit plan)) → Spells (next_packet messages limit plan) bytes →
    new ≡ offered fails to bytes old → OffersOne to (planned messages limit plan) (planned messages limit behind) old new
offered_one to messages limit plan behind bytes old new fails next moves spells sent = record {
  packet = next_packet messages limit plan;
  parts = next.sent
      ∙ ap (λ (p : PlanState). next_packet messages limit plan ∷ planned messages limit p) (sym moves);
  offers = (fails, sent ∙ ap (λ (b : List ℕ). offered fails to b old) spells.spelled);
}

-- Packets that are offered after others.
offers_more : {P : Type 0} (to : P) (xs ys : List Packet) (old mid new : Port P) → Offers to xs old mid →
    Offers to ys mid new → Offers to (xs ++ ys) old new
offers_more to [] ys old mid new first second = subst (λ (o : Port _). Offers to ys o new) first second
offers_more to (x ∷ xs) ys old mid new first second =
    (first.0, offers_more to xs ys (offered first.0 to (spelling_of x) old) mid new first.1 second)

-- Before the first packet.
pub offering_init : {P : Type 0} (to : P) (all : List Packet) (old : Port P) → Offering to all all old old
offering_init to all old = record { done = []; offers = refl; parts = refl }

-- One more packet was offered.
pub offering_step : {P : Type 0} (to : P) (all before after : List Packet) (old mid new : Port P) →
    Offering to all before old mid → OffersOne to before after mid new → Offering to all after old new
offering_step to all before after old mid new offering one = record {
  done = offering.done ++ one.packet ∷ [];
  offers = offers_more to offering.done (one.packet ∷ []) old mid new offering.offers one.offers;
  parts = offering.parts
      ∙ ap (λ (l : List Packet). offering.done ++ l) one.parts
      ∙ sym (append_assoc offering.done (one.packet ∷ []) after);
}

-- No packet remained.
pub offering_done : {P : Type 0} (to : P) (all left : List Packet) (old mid new : Port P) →
    Offering to all left old mid → (left ≡ []) × (new ≡ mid) → OffersFront to true all old new
offering_done to all left old mid new offering none = record {
  left = left;
  offers = subst (λ (p : Port _). Offering to all left old p) (sym none.1) offering;
  all = λ whole. none.0;
}

-- A read failed, and nothing more was offered.
pub offering_stopped : {P : Type 0} (to : P) (all left : List Packet) (old mid new : Port P) →
    Offering to all left old mid → new ≡ mid → OffersFront to false all old new
offering_stopped to all left old mid new offering same = record {
  left = left;
  offers = subst (λ (p : Port _). Offering to all left old p) (sym same) offering;
  all = λ whole. absurd (false≢true whole);
}

-- No packet was offered, as there is none.
pub offers_none : {P : Type 0} (to : P) (packets : List Packet) (port : Port P) → packets ≡ [] →
    OffersFront to true packets port port
offers_none to packets port none = record { left = packets; offers = offering_init to packets port; all = λ whole. none }

-- The packets of a plan are the responses to its request.
pub responses_of : (journal : JournalState) (server : ServerState) (messages : List (List ℕ)) (bytes : List ℕ)
    (plan : PlanState) (asked : Result Request AnswerError) →
    ((request : Request) → checked_request journal bytes ≡ Ok request → IsAnswerable journal request) →
    ((request : Request) → IsAnswerable journal request →
    planned messages server.limit (plan_for journal server.burst request)
    ≡ answer journal.messages journal.session server.limit request.sequence request.count server.burst) →
    checked_request journal bytes ≡ asked → Ok plan ≡ plan_of journal server.burst asked →
    planned messages server.limit plan ≡ responses_to journal server asked
responses_of journal server messages bytes plan (Err error) answerable answers is made = let no : ⊥ = cc in absurd no
responses_of journal server messages bytes plan (Ok request) answerable answers is made =
    let for : plan ≡ plan_for journal server.burst request = cc in
    ap (planned messages server.limit) for ∙ answers request (answerable request is)

-- The packets of a plan that is made from the messages below a number are the responses that these messages give.
pub responses_below : (journal : JournalState) (server mine : ServerState) (below sent : ℕ) (bytes : List ℕ)
    (plan : PlanState) →
    ((one : JournalState) (request : Request) (asked : List ℕ) → checked_request one asked ≡ Ok request →
    IsAnswerable one request) →
    ((one : JournalState) (number limit burst : ℕ) (request : Request) → IsAnswerable (journal_below one number) request →
    planned one.messages limit (plan_for (journal_below one number) burst request)
    ≡ answer (journal_below one number).messages one.session limit request.sequence request.count burst) →
    below ≡ sent + 1 → mine.limit ≡ server.limit → Ok plan ≡ planning (journal_below journal below) server.burst bytes →
    planned journal.messages mine.limit plan
    ≡ responses (record journal { messages = take sent journal.messages }) server bytes
responses_below journal server mine below sent bytes plan answerable answers is limit made =
    let asked = journal_below journal below in
    ap (λ (n : ℕ). planned journal.messages n plan) limit
    ∙ responses_of asked server journal.messages bytes plan (checked_request asked bytes)
    (λ request. answerable asked request bytes) (λ request. answers journal below server.limit server.burst request)
    refl made
    ∙ ap (λ (n : ℕ). responses (record journal { messages = take n journal.messages }) server bytes)
    (omega (arith, is))

none_planned : (journal : JournalState) (server : ServerState) (why : AnswerError)
    (asked : Result Request AnswerError) → Err why ≡ plan_of journal server.burst asked →
    responses_to journal server asked ≡ []
none_planned journal server why (Err error) made = refl
none_planned journal server why (Ok request) made = let no : ⊥ = cc in absurd no

-- A request that is refused gets no response.
pub responses_none : (journal : JournalState) (server : ServerState) (below sent : ℕ) (bytes : List ℕ)
    (why : AnswerError) → below ≡ sent + 1 → Err why ≡ planning (journal_below journal below) server.burst bytes →
    responses (record journal { messages = take sent journal.messages }) server bytes ≡ []
responses_none journal server below sent bytes why is made =
    sym (ap (λ (n : ℕ). responses (record journal { messages = take n journal.messages }) server bytes)
    (omega (arith, is)))
    ∙ none_planned (journal_below journal below) server why (checked_request (journal_below journal below) bytes) made

-- The server may go on with a plan.
pub may_still : {S : Type 0} {shows may_leave : S → List ℕ → Type 0} (old new : DurablePublisher S)
    (server mine : ServerState) (plan later : PlanState) (journal : JournalState) → mine ≡ server →
    later.session ≡ plan.session → later.to ≡ plan.to →
    (ShowsJournal shows may_leave old journal → ShowsJournal shows may_leave new journal) →
    MayRespond shows may_leave old server plan journal → MayRespond shows may_leave new mine later journal
may_still old new server mine plan later journal same session to shown may = record {
  shown = shown may.shown;
  longest = omega (arith, may.longest, ap (λ (s : ServerState). s.max_message) same);
  planned = record { session = session ∙ may.planned.session; to = omega (arith, to, may.planned.to) };
}

-- The journal that a publisher shows is one.
pub journaled : {S : Type 0} {shows may_leave : S → List ℕ → Type 0} (publisher : DurablePublisher S)
    (journal : JournalState) → ShowsJournal shows may_leave publisher journal → IsJournal journal
journaled publisher journal shown = subst IsJournal (sym shown.is) shown.rests.publishes.indexed.journaled

-- What the next packet is, with the limits of the server at the beginning.
pub step_of : {P : Type 0} (to : P) (messages : List (List ℕ)) (server mine : ServerState) (before after : PlanState)
    (more is : Bool) (old new : Port P) → mine ≡ server → more ≡ is →
    OffersNext to more (planned messages mine.limit before) (planned messages mine.limit after) old new →
    OffersNext to is (planned messages server.limit before) (planned messages server.limit after) old new
step_of to messages server mine before after more is old new same branch offers =
    subst (λ (b : Bool). OffersNext to b (planned messages server.limit before) (planned messages server.limit after) old
    new) branch
    (subst (λ (s : ServerState). OffersNext to more (planned messages s.limit before) (planned messages s.limit after)
    old new) same offers)

-- After an error, the response is not whole.
pub stopped_by : {P T : Type 0} (to : P) (all left : List Packet) (old mid new : Port P) (result : Result T FileError) →
    IsErr result → Offering to all left old mid → new ≡ mid → OffersFront to (is_ok result) all old new
stopped_by to all left old mid new (Ok x) failed offering same = absurd (false≢true failed)
stopped_by to all left old mid new (Err error) failed offering same = offering_stopped to all left old mid new offering same
