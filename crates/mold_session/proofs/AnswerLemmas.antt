-- The responses to a request: the next packet of a plan, and those after it.
use Rattle.std.proofs.Common.{◌≡◌, ℕ, zero, suc, ◌+◌, ◌-◌, ◌<◌, ◌≤◌, List, [], ◌∷◌, ◌++◌, length, length-drop, take, drop, refl, sym, ap, ◌∙◌, inl, inr, arith}
use Rattle.std.proofs.Math.Seq.{drop-append_seam, drop-append-le}
use Rattle.std.proofs.lemmas.List.{length-take, drop-drop, drop-take, take_min, take-append-drop, take-append-le}
use Rattle.std.specs.Prelude.{min}
use Rattle.mold_wire.specs.declared.request.Request.{Request}
use Rattle.mold_wire.specs.declared.session.Session.{Session}
use Rattle.mold_wire.specs.declared.packet.Packet.{Packet}
use Rattle.mold_wire.specs.Packing.{IsFront, front}
use Rattle.mold_session.proofs.DatagramLemmas.{packing_none, packing_first}
use Rattle.mold_session.proofs.FrontLemmas.{FrontIs, OnlyFront, SomeFront, Alone, each_drop, each_take, some_front, first_of_taken}
use Rattle.mold_session.specs.Answer.{from_number, between, answer, PlanState, IsPlan, plan_for, IsSpent, next_part}
use Rattle.mold_session.specs.Answer.{next_packet, moved, planned, FitAlone, HasFirst, SendsNext}
use Rattle.mold_session.specs.Datagrams.{first_part, packing}
use Rattle.mold_session.specs.Journal.{JournalState, journal_below}

-- The number of messages between two sequence numbers.
pub between_length :
    (published : List (List ℕ)) (from to : ℕ) → 1 ≤ from → from ≤ to → to ≤ length published + 1 →
    length (between published from to) ≡ to - from
between_length published from to first ordered last =
    omega (
      arith,
      length-take (to - from) (drop (from - 1) published),
      length-drop (from - 1) published,
      first,
      ordered,
      last,
    )

-- The messages between two sequence numbers, without the first `count` of them.
between_behind :
    (published : List (List ℕ)) (from to count : ℕ) → 1 ≤ from → from + count ≤ to →
    drop count (between published from to) ≡ between published (from + count) to
between_behind published from to count first within =
    let sum : to - from ≡ count + (to - (from + count)) = omega (arith, within) in
    let index : from - 1 + count ≡ from + count - 1 = omega (arith, first) in
    ap (λ (n : ℕ). drop count (take n (drop (from - 1) published))) sum
    ∙ drop-take count (to - (from + count)) (drop (from - 1) published)
    ∙ ap (λ (t : List (List ℕ)). take (to - (from + count)) t) (drop-drop count (from - 1) published)
    ∙ ap (λ (n : ℕ). take (to - (from + count)) (drop n published)) index

-- The messages of the next packet are a prefix of the plan's remaining messages.
pub record IsPart (published : List (List ℕ)) (limit : ℕ) (plan : PlanState) (part : List (List ℕ)) : Type 0 where
  pub within : plan.from + length part ≤ plan.to
  pub parts : between published plan.from plan.to ≡ part ++ between published (plan.from + length part) plan.to

pub is_part :
    (published : List (List ℕ)) (limit : ℕ) (plan : PlanState) (part : List (List ℕ)) → IsPlan plan →
    plan.to ≤ length published + 1 →
    IsFront limit (between published plan.from plan.to) (length (between published plan.from plan.to)) part →
    IsPart published limit plan part
is_part published limit plan part is last longest =
    let ms : List (List ℕ) = between published plan.from plan.to in
    let all : length ms ≡ plan.to - plan.from = between_length published plan.from plan.to is.0 is.1 last in
    let within : plan.from + length part ≤ plan.to = omega (arith, longest.few, all, is.1) in
    let behind : longest.behind ≡ between published (plan.from + length part) plan.to =
    sym (drop-append_seam part longest.behind)
    ∙ ap (λ (t : List (List ℕ)). drop (length part) t) (sym longest.parts)
    ∙ between_behind published plan.from plan.to (length part) is.0 within
    in
    record {
      within = within;
      parts = longest.parts ∙ ap (λ (t : List (List ℕ)). part ++ t) behind;
    }

-- The next packet has a message if the plan has remaining messages and each fits a datagram by itself.
pub part_some :
    (published : List (List ℕ)) (limit : ℕ) (plan : PlanState) (part : List (List ℕ)) → SomeFront → Alone →
    FitAlone limit published → IsPlan plan → plan.from < plan.to → plan.to ≤ length published + 1 →
    IsFront limit (between published plan.from plan.to) (length (between published plan.from plan.to)) part →
    0 < length part
part_some published limit plan part some alone each is more last longest =
    let all = between_length published plan.from plan.to is.0 is.1 last in
    some_front limit (between published plan.from plan.to) (length (between published plan.from plan.to)) part some
    alone
    (each_take (λ (m : List ℕ). length m + 22 ≤ limit) (plan.to - plan.from) (drop (plan.from - 1) published)
    (each_drop (λ (m : List ℕ). length m + 22 ≤ limit) (plan.from - 1) published each))
    (omega (arith, all, more)) (omega (arith, all, more)) longest

-- A plan that isn't spent has a packet and a message left.
unspent : (plan : PlanState) → IsPlan plan → (IsSpent plan → ⊥) → (0 < plan.left) × (plan.from < plan.to)
unspent plan is more = (
  omega (arith, λ (none : plan.left ≡ 0). more (inl none)),
  omega (arith, is.1, λ (none : plan.from ≡ plan.to). more (inr none)),
)

-- If some message fits a datagram by itself, a header does, too.
header_room : (limit : ℕ) (messages : List (List ℕ)) → FitAlone limit messages → 0 < length messages → 20 ≤ limit
header_room limit [] each some = absurd (omega arith)
header_room limit (message ∷ messages) each some = omega (arith, each.0)

take_first :
    (n : ℕ) (packet : Packet) (packets : List Packet) → 0 < n →
    take n (packet ∷ packets) ≡ packet ∷ take (n - 1) packets
take_first zero packet packets some = absurd (omega arith)
take_first (suc n) packet packets some =
    let one_less : n ≡ suc n - 1 = omega arith in
    ap (λ (m : ℕ). packet ∷ take m packets) one_less

-- A prefix of the empty list is empty.
take_none : {X : Type 0} (n : ℕ) → take {A = X} n [] ≡ []
take_none zero = refl
take_none (suc n) = refl

pub next_of :
    (published : List (List ℕ)) (limit : ℕ) (plan : PlanState) → FrontIs → SomeFront → Alone →
    FitAlone limit published → IsPlan plan → plan.to ≤ length published + 1 → (IsSpent plan → ⊥) →
    SendsNext published limit plan
next_of published limit plan front_is some alone each is last more =
    let ms : List (List ℕ) = between published plan.from plan.to in
    let part : List (List ℕ) = next_part published limit plan in
    let both = unspent plan is more in
    let room = header_room limit published each (omega (arith, both.1, last, is.0)) in
    let longest : IsFront limit ms (length ms) part = front_is limit ms (length ms) room in
    let next = is_part published limit plan part is last longest in
    let found_some = part_some published limit plan part some alone each is both.1 last longest in
    record {
      sent =
          ap (λ (t : List Packet). take plan.left t)
          (packing_first limit plan.session plan.from ms part (between published (plan.from + length part) plan.to) refl
          found_some next.parts)
          ∙ take_first plan.left (next_packet published limit plan)
          (packing limit plan.session (plan.from + length part)
          (between published (plan.from + length part) plan.to)) both.0;
      some = found_some;
      within = next.within;
    }

-- A spent plan sends nothing.
pub none_of :
    (published : List (List ℕ)) (limit : ℕ) (plan : PlanState) → IsSpent plan → planned published limit plan ≡ []
none_of published limit plan (inl none) =
    ap (λ (n : ℕ). take n (packing limit plan.session plan.from (between published plan.from plan.to))) none
none_of published limit plan (inr none) =
    let zero_left : plan.to - plan.from ≡ 0 = omega (arith, none) in
    ap (λ (n : ℕ). take plan.left (packing limit plan.session plan.from (take n (from_number published plan.from))))
    zero_left
    ∙ ap (λ (t : List Packet). take plan.left t) (packing_none limit plan.session plan.from)
    ∙ take_none plan.left

-- A plan sends at most `left` packets.
pub planned_few :
    (published : List (List ℕ)) (limit : ℕ) (plan : PlanState) →
    length (planned published limit plan) ≤ plan.left
planned_few published limit plan =
    omega (
      arith,
      length-take plan.left (packing limit plan.session plan.from (between published plan.from plan.to)),
    )

-- Messages that are published later don't change what a plan sends.
pub between_grown :
    (published more : List (List ℕ)) (from to : ℕ) → 1 ≤ from → from ≤ to → to ≤ length published + 1 →
    between (published ++ more) from to ≡ between published from to
between_grown published more from to first ordered last =
    ap (λ (t : List (List ℕ)). take (to - from) t)
    (drop-append-le (from - 1) published more (omega (arith, first, ordered, last)))
    ∙ take-append-le (to - from) (drop (from - 1) published) more
    (omega (arith, length-drop (from - 1) published, first, ordered, last))

pub planned_grown :
    (published more : List (List ℕ)) (limit : ℕ) (plan : PlanState) → IsPlan plan →
    plan.to ≤ length published + 1 → planned (published ++ more) limit plan ≡ planned published limit plan
planned_grown published more limit plan is last =
    ap (λ (t : List (List ℕ)). take plan.left (packing limit plan.session plan.from t))
    (between_grown published more plan.from plan.to is.0 is.1 last)

-- A plan for an accepted request sends the responses to the request.
asked_between :
    (published : List (List ℕ)) (number count : ℕ) → 1 ≤ number → number ≤ length published →
    between published number (min (number + count) (length published + 1)) ≡ take count (from_number published number)
asked_between published number count first last =
    let rest : List (List ℕ) = from_number published number in
    let sum : min (number + count) (length published + 1) - number ≡ min count (length rest) =
    omega (arith, length-drop (number - 1) published, first, last)
    in
    ap (λ (n : ℕ). take n rest) sum ∙ take_min count rest

pub planned_answer :
    (journal : JournalState) (limit burst : ℕ) (request : Request) → 1 ≤ request.sequence →
    request.sequence ≤ length journal.messages →
    planned journal.messages limit (plan_for journal burst request)
    ≡ answer journal.messages journal.session limit request.sequence request.count burst
planned_answer journal limit burst request first last =
    ap (λ (t : List (List ℕ)). take burst (packing limit journal.session request.sequence t))
    (asked_between journal.messages request.sequence request.count first last)

-- The plan for an accepted request is valid and not spent.
pub plan_is :
    (journal : JournalState) (burst : ℕ) (request : Request) → 1 ≤ request.sequence →
    request.sequence ≤ length journal.messages → IsPlan (plan_for journal burst request)
plan_is journal burst request first last = (first, omega (arith, last))

pub plan_within :
    (journal : JournalState) (burst : ℕ) (request : Request) →
    (plan_for journal burst request).to ≤ length journal.messages + 1
plan_within journal burst request = omega arith

pub plan_unspent :
    (published : List (List ℕ)) (session : Session) (number count burst : ℕ) → 1 ≤ number →
    number ≤ length published → 1 ≤ count → 1 ≤ burst →
    IsSpent (record {
      session = session;
      from = number;
      to = min (number + count) (length published + 1);
      left = burst;
    }) → ⊥
plan_unspent published session number count burst first last some packets (inl none) = omega (arith, packets, none)
plan_unspent published session number count burst first last some packets (inr none) = omega (arith, some, last, none)

-- A plan from the messages below a number sends the responses that a journal with only these messages gives.
pub planned_below :
    (journal : JournalState) (below limit burst : ℕ) (request : Request) → 1 ≤ request.sequence →
    request.sequence ≤ length (journal_below journal below).messages →
    planned journal.messages limit (plan_for (journal_below journal below) burst request)
    ≡ answer (journal_below journal below).messages journal.session limit request.sequence request.count burst
planned_below journal below limit burst request first last =
    let fewer : JournalState = journal_below journal below in
    let plan : PlanState = plan_for fewer burst request in
    ap (λ (t : List (List ℕ)). planned t limit plan) (sym (take-append-drop (below - 1) journal.messages))
    ∙ planned_grown fewer.messages (drop (below - 1) journal.messages) limit plan
    (plan_is fewer burst request first last) (plan_within fewer burst request)
    ∙ planned_answer fewer limit burst request first last

-- A request gets a first response, which has at least one message.
pub answer_first :
    (published : List (List ℕ)) (session : Session) (limit number count burst : ℕ) → FrontIs → SomeFront → Alone →
    FitAlone limit published → 1 ≤ number → number ≤ length published → 1 ≤ count → 1 ≤ burst →
    HasFirst session number (answer published session limit number count burst)
answer_first published session limit number count burst front_is some alone each first last more packets =
    let to : ℕ = min (number + count) (length published + 1) in
    let plan : PlanState = record { session = session; from = number; to = to; left = burst } in
    let next = next_of published limit plan front_is some alone each (first, omega (arith, last)) (omega arith)
    (plan_unspent published session number count burst first last more packets) in
    record {
      part = next_part published limit plan;
      rest = planned published limit (moved plan (length (next_part published limit plan)));
      sent =
          ap (λ (t : List (List ℕ)). take burst (packing limit session number t))
          (sym (asked_between published number count first last))
          ∙ next.sent;
      some = next.some;
    }

-- The first packet of the first `count` messages has their longest prefix that fits.
pub taken_part :
    (limit : ℕ) (messages : List (List ℕ)) (count : ℕ) → FrontIs → OnlyFront → 20 ≤ limit →
    first_part limit (take count messages) ≡ front limit messages count
taken_part limit messages count front_is only room =
    sym (first_of_taken limit messages count (front limit messages count) only (front_is limit messages count room))
