-- The front of the requests in flight.
use Rattle.std.proofs.Common.{◌≡◌, ℕ, zero, suc, ◌+◌, ◌<◌, ◌≤◌, ◌||◌, ◌&&◌, max, min, nat_le, nat_lt, map, Bool, true, false, cond, List, [], ◌∷◌}
use Rattle.std.proofs.Common.{IfNone, IfSome, Option, None, Some, refl, ap, ◌∙◌, sym, subst, arith, inl, inr}
use Rattle.std.specs.Prelude.{find, is_some, remove, slice_get}
use Rattle.std.specs.FinMap as finite
use Rattle.std.specs.List.{list_any}
use Rattle.std.proofs.lemmas.Bool.{cases_lt, true≢false}
use Rattle.std.proofs.lemmas.Bool.Decides.{nat_tests}
use Rattle.mold_pacing.specs.Flight.{covers, in_flight}
use Rattle.mold_pacing.specs.Polls.{HasAsked, IsIdle}
use Rattle.mold_pacing.specs.Table.{CanLeave, placed, without}
use Rattle.mold_pacing.specs.declared.ask.Ask.{Ask as Sent}
use Rattle.mold_pacing.specs.declared.flight.Flight.{Flight}
use Rattle.mold_pacing.specs.declared.gap.Gap.{Gap}
use Rattle.mold_pacing.specs.declared.pacer.Pacer.{Pacer}
use Rattle.mold_pacing.specs.Responses.{after_arrival, after_response, has_come, is_response_to}
use Rattle.mold_pacing.specs.Run.{Takes}
use Rattle.mold_pacing.specs.declared.step.Step.TheVariants.{Arrive, Respond}
use Rattle.mold_receiver.specs.Arbiter.{Arbitration, HasArbitrated, arbitrated}
use Rattle.mold_receiver.specs.Batch.{Handed}
use Rattle.mold_receiver.specs.Receive.{Reception}
use Rattle.mold_receiver.specs.View.{IsWellFormed, View}
use Rattle.mold_receiver.specs.declared.line.Line.{Line}
use Rattle.mold_receiver.specs.declared.taken.Taken.{Taken}
use Rattle.mold_repair.specs.Came.{came_below, filled_steps, held_end, held_from, noted}
use Rattle.mold_repair.specs.Taking.{HasLearned}
use Rattle.mold_repair.specs.declared.origin.RepairOrigin.TheVariants.{Line as OnLine}
use Rattle.mold_repair.proofs.HeldLemmas.{held_has}
use Rattle.mold_repair.proofs.LawLemmas.{taken_view}
use Rattle.mold_wire.specs.Reading.{reading}
use Rattle.mold_repair.specs.Front.{HasGap, IsFront, IsFrontLeft, NoneSpans}
use Rattle.mold_repair.specs.Missing.{IsMissing}
use Rattle.mold_repair.proofs.ProgressLemmas.{Continues, ReceiverLaws, taken_on}

pub no_front : (v : View) (fs : List Flight) → IsFront v fs 0 0
no_front v fs = record {
  known = omega arith;
  sent = λ time q before below missing. absurd (omega (arith, before));
}

-- A stored number is not missing.
pub not_missing : (v : View) (q : ℕ) → IsMissing v q → is_some (finite.get v.store q) ≡ true → ⊥
not_missing v q missing some = true≢false (sym some ∙ ap is_some missing.lacked)

-- What is in flight at a time was in flight before.
pub in_flight_before : (fs : List Flight) (time later q : ℕ) → time ≤ later → in_flight later q fs ≡ true →
    in_flight time q fs ≡ true
in_flight_before [] time later q order busy = busy
in_flight_before (f ∷ fs) time later q order busy =
    elim (covers later q f) as (λ b. covers later q f ≡ b → in_flight time q (f ∷ fs) ≡ true) [
      | true ↦ λ covered.
          let here : covers time q f ≡ true = grind (arith, nat_tests, order, covered) in
          ap (λ (b : Bool). b || in_flight time q fs) here
      | false ↦ λ off.
          let rest : in_flight later q fs ≡ true = grind (arith, busy, off) in
          let more = in_flight_before fs time later q order rest in
          grind (arith, more)
    ] refl

any_placed : (p : Flight → Bool) (sent : Flight) (fs : List Flight) → list_any p fs ≡ true →
    list_any p (placed sent fs) ≡ true
any_placed p sent [] any = absurd (true≢false (sym any))
any_placed p sent (f ∷ fs) any =
    elim (nat_le sent.first f.first) as (λ b. list_any p (cond b (sent ∷ f ∷ fs) (f ∷ placed sent fs)) ≡ true) [
      | true ↦ grind (arith, any)
      | false ↦ elim (p f) as (λ b. p f ≡ b → list_any p (f ∷ placed sent fs) ≡ true) [
        | true ↦ λ on. grind (arith, on)
        | false ↦ λ off.
            let rest : list_any p fs ≡ true = grind (arith, any, off) in
            let more = any_placed p sent fs rest in
            grind (arith, more)
      ] refl
    ]

any_removed : (p : Flight → Bool) (fs : List Flight) (index : ℕ) (f : Flight) → slice_get fs index ≡ Some f →
    p f ≡ false → list_any p fs ≡ true → list_any p (remove fs index) ≡ true
any_removed p [] index f there off any = cc
any_removed p (g ∷ gs) zero f there off any =
    let is : g ≡ f = grind (arith, there) in
    let here : p g ≡ false = ap p is ∙ off in
    let rest : list_any p gs ≡ true = grind (arith, any, here) in
    rest
any_removed p (g ∷ gs) (suc index) f there off any =
    elim (p g) as (λ b. p g ≡ b → list_any p (g ∷ remove gs index) ≡ true) [
      | true ↦ λ on. grind (arith, on)
      | false ↦ λ here.
          let rest : list_any p gs ≡ true = grind (arith, any, here) in
          let more = any_removed p gs index f there off rest in
          grind (arith, more)
    ] refl

any_without : (fs : List Flight) (places now time q : ℕ) (leaves : Option ℕ) → CanLeave fs places now leaves →
    now ≤ time → in_flight time q fs ≡ true → in_flight time q (without leaves fs) ≡ true
any_without fs places now time q None can later any = any
any_without fs places now time q (Some index) can later any =
    let over = can.over in
    let off : covers time q can.flight ≡ false = grind (arith, nat_tests, over, later) in
    any_removed (covers time q) fs index can.flight can.there off any

-- A request that is sent leaves the front as it is.
pub front_sent : (v : View) (old new : Pacer) (g : Gap) (r : Option Sent) (number until : ℕ) →
    old.state.now < until → IsFront v old.flights.items number until → IfSome r (HasAsked old new (g ∷ [])) →
    IfNone r (IsIdle old new (g ∷ [])) → IsFront v new.flights.items number until
front_sent v old new g None number until later front asked idle =
    subst (λ (fs : List Flight). IsFront v fs number until) (sym idle.flights) front
front_sent v old new g (Some sent) number until later front asked idle =
    subst (λ (fs : List Flight). IsFront v fs number until) (sym asked.flights) (record {
      known = front.known;
      sent = λ time q before below missing.
          let then = max time old.state.now in
          let busy = front.sent then q (omega (arith, before, later)) below missing in
          in_flight_before _ time then q (omega arith)
          (any_placed (covers then q) _ (without asked.leaves old.flights.items)
          (any_without old.flights.items old.options.places old.state.now then q asked.leaves asked.place.can (omega arith) busy));
    })

-- What becomes known, and what arrives, leaves the front as it is.
pub front_continues : (v w : View) (fs : List Flight) (number until : ℕ) → Continues v w → v.known ≤ w.known →
    IsFront v fs number until → IsFront w fs number until
front_continues v w fs number until on grows front = record {
  known = omega (arith, front.known, grows);
  sent = λ time q before below missing.
      front.sent time q before below (elim (finite.get v.store q) as (λ o. finite.get v.store q ≡ o → IsMissing v q) [
        | None ↦ λ e. record {
          after = omega (arith, on.ahead, missing.after);
          below = omega (arith, below, front.known);
          lacked = e;
        }
        | Some m ↦ λ e. absurd (elim (on.has q (inr (ap is_some e))) [
          | inl past ↦ omega (arith, past, missing.after)
          | inr some ↦ not_missing w q missing some
        ])
      ] refl);
}

-- An accepted datagram takes nothing away.
pub taken_continues : ReceiverLaws → (line : Option Line) (bytes : List ℕ) (old new : Arbitration)
    (before after : Handed) (t : Taken) → HasArbitrated line old bytes before new after t → IsWellFormed old.view →
    Continues old.view new.view × (old.view.known ≤ new.view.known)
taken_continues laws line bytes old new before after t has well =
    let v = old.view in
    let r = has.reception in
    let view = ap (λ (a : Arbitration). a.view) (has.arbitration ∙ ap (arbitrated line bytes old) has.received)
    ∙ taken_view line bytes old r in
    let packet = laws.taken v bytes r has.received in
    let known = ap (λ (w : View). w.known) (view ∙ ap (λ (x : Reception). x.view) packet.taken) in
    (subst (Continues v) (sym view) (taken_on laws v bytes r well has.received), omega (arith, known))

any_map : (p : Flight → Bool) (change : Flight → Flight) (fs : List Flight) →
    ((f : Flight) → p f ≡ true → p (change f) ≡ true) → list_any p fs ≡ true → list_any p (map change fs) ≡ true
any_map p change [] keeps any = any
any_map p change (f ∷ fs) keeps any =
    elim (p f) as (λ b. p f ≡ b → list_any p (change f ∷ map change fs) ≡ true) [
      | true ↦ λ on. (let here : p (change f) ≡ true = keeps f on in ap (λ (b : Bool). b || list_any p (map change fs)) here)
      | false ↦ λ off.
          let rest : list_any p fs ≡ true = grind (arith, any, off) in
          let more = any_map p change fs keeps rest in
          grind (arith, more)
    ] refl

arrival_covers : (now first end time n : ℕ) (f : Flight) → (first ≤ n → n < end → ⊥) → covers time n f ≡ true →
    covers time n (after_arrival now first end f) ≡ true
arrival_covers now first end time n f off covered =
    elim (has_come first end f) as (λ b. has_come first end f ≡ b →
    covers time n (cond b (record f { until = min f.until now }) f) ≡ true) [
      | true ↦ λ come.
          let begins : first ≤ f.first = grind (arith, nat_tests, come) in
          let ends : f.end ≤ end = grind (arith, nat_tests, come) in
          let low : f.first ≤ n = grind (arith, nat_tests, covered) in
          let high : n < f.end = grind (arith, nat_tests, covered) in
          absurd (off (omega (arith, begins, low)) (omega (arith, ends, high)))
      | false ↦ λ stays. covered
    ] refl

-- What arrived leaves the front as it is.
front_arrived : (v : View) (p q : Pacer) (from number until : ℕ) → Takes p q (Arrive (held_from v from)) None →
    IsFront v p.flights.items number until → IsFront v q.flights.items number until
front_arrived v p q from number until took front =
    subst (λ (fs : List Flight). IsFront v fs number until) (sym took.table) (record {
      known = front.known;
      sent = λ time n before below missing.
          any_map (covers time n) (after_arrival p.state.now from (held_end v from)) p.flights.items
          (λ f covered. arrival_covers p.state.now from (held_end v from) time n f
          (λ low high. elim (held_has v from n low high) [
            | inl past ↦ omega (arith, past, missing.after)
            | inr some ↦ not_missing v n missing some
          ]) covered) (front.sent time n before below missing);
    })

front_filled : (v : View) (request : Option Flight) (p q : Pacer) (number until : ℕ) →
    HasLearned p q (filled_steps v request) → IsFront v p.flights.items number until →
    IsFront v q.flights.items number until
front_filled v None p q number until ran front =
    subst (λ (r : Pacer). IsFront v r.flights.items number until) (sym ran) front
front_filled v (Some request) p q number until ran front =
    subst (λ (r : Pacer). IsFront v r.flights.items number until) (sym ran.2)
    (front_arrived v p ran.0 request.first number until ran.1 front)

front_came : (v : View) (b : Bool) (from : ℕ) (request : Option Flight) (p q : Pacer) (number until : ℕ) →
    HasLearned p q (cond b (Arrive (held_from v from) ∷ filled_steps v request) []) →
    IsFront v p.flights.items number until → IsFront v q.flights.items number until
front_came v true from request p q number until ran front =
    front_filled v request ran.0 q number until ran.2 (front_arrived v p ran.0 from number until ran.1 front)
front_came v false from request p q number until ran front =
    subst (λ (r : Pacer). IsFront v r.flights.items number until) (sym ran) front

-- What a line brought leaves the front as it is.
pub front_noted : (v : View) (line : Line) (bytes : List ℕ) (p q : Pacer) (number until : ℕ) →
    HasLearned p q (noted (OnLine line) bytes v p.state.now p.flights.items) →
    IsFront v p.flights.items number until → IsFront v q.flights.items number until
front_noted v line bytes p q number until ran front =
    let came = came_below (v.next + v.window) (reading bytes) in
    front_came v (nat_lt came.first came.end) came.first (find (covers p.state.now came.first) p.flights.items) p q
    number until ran front

find_some_at : (p : Flight → Bool) (fs : List Flight) (i : ℕ) (f : Flight) → slice_get fs i ≡ Some f →
    p f ≡ true → is_some (find p fs) ≡ true
find_some_at p [] i f there passes = cc
find_some_at p (g ∷ gs) zero f there passes =
    let is : g ≡ f = grind (arith, there) in
    let here : p g ≡ true = ap p is ∙ passes in
    ap (λ (b : Bool). is_some (cond b (Some g) (find p gs))) here
find_some_at p (g ∷ gs) (suc i) f there passes =
    let rest = find_some_at p gs i f there passes in
    elim (p g) as (λ b. is_some (cond b (Some g) (find p gs)) ≡ true) [ true ↦ refl | false ↦ rest ]

-- Without a request for a number that each request in flight over `number` asks for, no request spans `number`.
pub none_spans : (fs : List Flight) (now q number : ℕ) (r : Option Flight) → r ≡ find (covers now q) fs →
    is_some r ≡ false → ((f : Flight) → f.first < number → number < f.end → (f.first ≤ q) × (q < f.end)) →
    NoneSpans fs now number
none_spans fs now q number r is none within i f there flies low high =
    let in_it = within f low high in
    let from = in_it.0 in
    let below = in_it.1 in
    let covered : covers now q f ≡ true = grind (arith, nat_tests, flies, from, below) in
    true≢false (sym (find_some_at (covers now q) fs i f there covered) ∙ ap is_some (sym is) ∙ none)

pub has_gap : (v : View) (came : Gap) (end : ℕ) → end ≡ held_end v came.first → came.end ≤ end → HasGap v came
has_gap v came end is within q low high missing =
    elim (held_has v came.first q low (omega (arith, is, within, high))) [
      | inl past ↦ omega (arith, past, missing.after)
      | inr some ↦ not_missing v q missing some
    ]

any_map_at : (p : Flight → Bool) (change : Flight → Flight) (fs : List Flight) →
    ((i : ℕ) (f : Flight) → slice_get fs i ≡ Some f → p f ≡ true → p (change f) ≡ true) → list_any p fs ≡ true →
    list_any p (map change fs) ≡ true
any_map_at p change [] keeps any = any
any_map_at p change (f ∷ fs) keeps any =
    elim (p f) as (λ b. p f ≡ b → list_any p (change f ∷ map change fs) ≡ true) [
      | true ↦ λ on. (let here : p (change f) ≡ true = keeps 0 f refl on in ap (λ (b : Bool). b || list_any p (map change fs)) here)
      | false ↦ λ off.
          let rest : list_any p fs ≡ true = grind (arith, any, off) in
          let more = any_map_at p change fs (λ i g there. keeps (suc i) g there) rest in
          grind (arith, more)
    ] refl

response_covers : (settle now first end time q : ℕ) (f : Flight) → covers time q f ≡ true →
    (is_response_to now first end f ≡ true → f.end ≤ end → ⊥) →
    (is_response_to now first end f ≡ true → end < f.end → time < now + settle) →
    covers time q (after_response settle now first end f) ≡ true
response_covers settle now first end time q f covered freed partial =
    elim (is_response_to now first end f) as (λ b. is_response_to now first end f ≡ b →
    covers time q (cond b (record f {
      until = cond (nat_le f.end end) now (min f.until (now + settle));
      pause = 0;
      attempts = 0;
      reached = max f.reached end;
    }) f) ≡ true) [
      | true ↦ λ responds.
          elim (cases_lt end f.end) [
            | inl more ↦
                let off : nat_le f.end end ≡ false = grind (arith, nat_tests, more) in
                let soon = partial responds more in
                let flies : time < f.until = grind (arith, nat_tests, covered) in
                let low : f.first ≤ q = grind (arith, nat_tests, covered) in
                let high : q < f.end = grind (arith, nat_tests, covered) in
                let still : time < min f.until (now + settle) = omega (arith, flies, soon) in
                let there : (nat_lt time (min f.until (now + settle)) && (nat_le f.first q && nat_lt q f.end)) ≡ true = grind (arith, nat_tests, still, low, high) in
                ap (λ (b : Bool). nat_lt time (cond b now (min f.until (now + settle))) && (nat_le f.first q && nat_lt q f.end)) off ∙ there
            | inr all ↦ absurd (freed responds all)
          ]
      | false ↦ λ stays. covered
    ] refl

-- What a response leaves of the front.
front_responded : (v : View) (server : ℕ) (came : Gap) (p q : Pacer) (number until number_left until_left : ℕ) →
    Takes p q (Respond server came) None →
    IsFrontLeft v p.flights.items p.state.now p.options.settle came number until number_left until_left →
    IsFront v p.flights.items number until → IsFront v q.flights.items number_left until_left
front_responded v server came p q number until number_left until_left took left front =
    let now = p.state.now in
    subst (λ (fs : List Flight). IsFront v fs number_left until_left) (sym took.table) (record {
      known = omega (arith, front.known, left.few);
      sent = λ time n before below missing.
          any_map_at (covers time n) (after_response p.options.settle now came.first came.end) p.flights.items
          (λ i f there covered.
          let low : f.first ≤ n = grind (arith, nat_tests, covered) in
          let high : n < f.end = grind (arith, nat_tests, covered) in
          response_covers p.options.settle now came.first came.end time n f covered
          (λ responds all.
          let flies : now < f.until = grind (arith, nat_tests, responds) in
          let begins : came.first < f.end = grind (arith, nat_tests, responds) in
          elim left.begins [
            | inl none ↦ omega (arith, none, below)
            | inr kept ↦ elim (cases_lt n came.first) [
              | inl under ↦ kept.0 i f there flies (omega (arith, low, under)) begins
              | inr over ↦ kept.1 n over (omega (arith, high, all)) missing
            ]
          ])
          (λ responds more.
          let flies : now < f.until = grind (arith, nat_tests, responds) in
          let ends : f.first < came.end = grind (arith, nat_tests, responds) in
          elim left.ends [
            | inl soon ↦ omega (arith, before, soon)
            | inr none ↦ absurd (none i f there flies ends more)
          ]))
          (front.sent time n (omega (arith, before, left.short)) (omega (arith, below, left.few)) missing);
    })

front_less : (v : View) (fs : List Flight) (number until fewer shorter : ℕ) → fewer ≤ number → shorter ≤ until →
    IsFront v fs number until → IsFront v fs fewer shorter
front_less v fs number until fewer shorter few short front = record {
  known = omega (arith, few, front.known);
  sent = λ time q before below missing. front.sent time q (omega (arith, before, short)) (omega (arith, below, few)) missing;
}

pub front_server : (v : View) (b : Bool) (server : ℕ) (came : Gap) (request : Option Flight) (p q : Pacer)
    (number until number_left until_left : ℕ) →
    HasLearned p q (cond b (Respond server came ∷ (Arrive (held_from v came.first) ∷ filled_steps v request)) []) →
    IsFrontLeft v p.flights.items p.state.now p.options.settle came number until number_left until_left →
    IsFront v p.flights.items number until → IsFront v q.flights.items number_left until_left
front_server v true server came request p q number until number_left until_left ran left front =
    front_came v true came.first request ran.0 q number_left until_left ran.2
    (front_responded v server came p ran.0 number until number_left until_left ran.1 left front)
front_server v false server came request p q number until number_left until_left ran left front =
    subst (λ (r : Pacer). IsFront v r.flights.items number_left until_left) (sym ran)
    (front_less v p.flights.items number until number_left until_left left.few left.short front)
