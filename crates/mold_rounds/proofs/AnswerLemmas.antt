-- The responses to a request, taken in order.
use Rattle.std.proofs.Common.{◌≡◌, ℕ, zero, suc, ◌+◌, ◌-◌, ◌<◌, ◌≤◌}
use Rattle.std.proofs.Common.{List, [], ◌∷◌, ◌++◌, length, length-drop, length-take, take, drop}
use Rattle.std.proofs.Common.{take-append-drop, take-take, take_all, eqb, refl, sym}
use Rattle.std.proofs.Common.{ap, subst, ◌∙◌, inl, inr, arith, min}
use Rattle.std.proofs.lemmas.Bool.{cases_eq, cases_lt, cond-true, eq-eqb}
use Rattle.std.proofs.lemmas.List.Sums.{sum_by_push}
use Rattle.std.proofs.lemmas.List.{append-nil}
use Rattle.mold_receiver.specs.Batch.{Handed, followed_by}
use Rattle.mold_receiver.specs.Gap.{Took}
use Rattle.mold_receiver.specs.Receive.{data_packet, view_after}
use Rattle.mold_receiver.specs.Store.{Message}
use Rattle.mold_receiver.specs.View.{View, IsWellFormed}
use Rattle.mold_receiver.specs.Wanted.{IsGap, gap_end, missing}
use Rattle.mold_rounds.proofs.AsksLemmas.{PacksFronts, carried_any}
use Rattle.mold_rounds.proofs.FilledLemmas.{FollowedTwice, ahead_of, batch_more, batch_none, took_twice}
use Rattle.mold_rounds.proofs.RoundsLemmas.{WalksRanges, one_round}
use Rattle.mold_rounds.specs.CatchUp.{IsPartOfRound, filled, round_answer, views_after}
use Rattle.mold_rounds.specs.Rounds.{brought, carried}
use Rattle.mold_rounds.specs.Taking.{Awaits, IsRound, TakesOne}
use Rattle.mold_session.specs.Answer.{HasFirst, PlanState, between, from_number, planned}
use Rattle.mold_session.specs.Datagrams.{first_part, packing, packing_within}
use Rattle.mold_session.specs.Journal.{JournalState}
use Rattle.mold_wire.specs.Packet.{messages_of}
use Rattle.mold_wire.specs.Packing.{front}
use Rattle.mold_wire.specs.declared.packet.Packet.{Packet}
use Rattle.mold_wire.specs.declared.session.Session.{Session}

-- A prefix with one packet more.
take_more : (n : ℕ) (ps : List Packet) (p : Packet) (rest : List Packet) → drop n ps ≡ p ∷ rest →
    take (suc n) ps ≡ take n ps ++ p ∷ []
take_more zero [] p rest is = absurd (omega (arith, ap length is))
take_more zero (q ∷ ps) p rest is = ap (take 1) is
take_more (suc n) [] p rest is = absurd (omega (arith, ap length is))
take_more (suc n) (q ∷ ps) p rest is = ap (λ (t : List Packet). q ∷ t) (take_more n ps p rest is)

drop_more : (n : ℕ) (ps : List Packet) (p : Packet) (rest : List Packet) → drop n ps ≡ p ∷ rest →
    drop (suc n) ps ≡ rest
drop_more zero [] p rest is = absurd (omega (arith, ap length is))
drop_more zero (q ∷ ps) p rest is = ap (drop 1) is
drop_more (suc n) [] p rest is = absurd (omega (arith, ap length is))
drop_more (suc n) (q ∷ ps) p rest is = drop_more n ps p rest is

views_push : (v : View) (ps : List Packet) (p : Packet) →
    views_after v (ps ++ p ∷ []) ≡ view_after (views_after v ps) p
unfolding views_after
views_push v [] p = refl
views_push v (q ∷ ps) p = views_push (view_after v q) ps p

-- The receiver has taken some of the responses of a round.
pub record InRound (v : View) (before : Handed) (journal : JournalState) (limit burst : ℕ) (now : View)
    (after : Handed) (plan : PlanState) : Type 0 where
  pub sent : ℕ
  pub left : drop sent (round_answer v journal.messages limit burst) ≡ planned journal.messages limit plan
  pub view : now ≡ views_after v (take sent (round_answer v journal.messages limit burst))
  pub took : Took v (carried (take sent (round_answer v journal.messages limit burst))) now
  pub fewer : missing v ≡ carried (take sent (round_answer v journal.messages limit burst)) + missing now
  pub awaits : Awaits now journal plan
  pub place : plan.from ≡ v.next + carried (take sent (round_answer v journal.messages limit burst))
  pub to : plan.to ≤ gap_end v
  pub batch : after ≡ followed_by before v.next (filled v journal.messages now.next)

took_none : (v : View) (end : ℕ) → IsWellFormed v → IsGap v end → Took v 0 v
took_none v end well gap = record {
  low = omega arith;
  high = well.ahead;
  session = refl;
  known = refl;
  ended = refl;
  window = refl;
  room = refl;
  had = λ number from below. absurd (omega (arith, from, below));
  none = λ number below. gap.lacked number (omega (arith, gap.after, below));
  same = λ number from. refl;
}

pub round_begins : (v : View) (before : Handed) (journal : JournalState) (limit burst : ℕ) (plan : PlanState) →
    IsGap v (gap_end v) → Awaits v journal plan → plan.from ≡ v.next → plan.to ≤ gap_end v →
    planned journal.messages limit plan ≡ round_answer v journal.messages limit burst →
    InRound v before journal limit burst v before plan
unfolding views_after
round_begins v before journal limit burst plan gap awaits from to sent = record {
  sent = 0;
  left = sym sent;
  view = refl;
  took = took_none v (gap_end v) awaits.well_formed gap;
  fewer = omega arith;
  awaits = awaits;
  place = omega (arith, from);
  to = to;
  batch = batch_none v journal.messages before;
}

pub round_goes_on : FollowedTwice → (v : View) (before : Handed) (journal : JournalState) (limit burst : ℕ)
    (now then_view : View) (at after : Handed) (plan behind : PlanState) →
    InRound v before journal limit burst now at plan →
    TakesOne now at journal limit plan then_view after behind →
    InRound v before journal limit burst then_view after behind
round_goes_on twice v before journal limit burst now then_view at after plan behind is takes =
    let whole : List Packet = round_answer v journal.messages limit burst in
    let p : Packet = data_packet now.session now.next takes.part in
    let rest : List Packet = planned journal.messages limit behind in
    let left : drop is.sent whole ≡ p ∷ rest = is.left ∙ takes.sent in
    let more = take_more is.sent whole p rest left in
    let counted : carried (take (suc is.sent) whole) ≡ carried (take is.sent whole) + length takes.part =
    ap carried more ∙ sum_by_push (λ (packet : Packet). length (messages_of packet.body)) (take is.sent whole) p
    in
    let took =
    took_twice v (carried (take is.sent whole)) now (length takes.part) then_view is.took takes.took
    (sym takes.begins ∙ is.place)
    in
    record {
      sent = suc is.sent;
      left = drop_more is.sent whole p rest left;
      view = takes.view ∙ ap (λ (x : View). view_after x p) is.view
          ∙ sym (ap (views_after v) more ∙ views_push v (take is.sent whole) p);
      took = subst (λ (n : ℕ). Took v n then_view) (sym counted) took;
      fewer = omega (arith, is.fewer, takes.fewer, counted);
      awaits = takes.awaits;
      place = omega (arith, takes.moved, is.place, counted);
      to = omega (arith, takes.to, is.to);
      batch = batch_more twice v now journal.messages before at after then_view.next
          (ahead_of v (carried (take is.sent whole)) now is.took) (omega (arith, takes.took.low)) is.batch takes.batch;
    }

-- A prefix of a prefix is the shorter one.
take_of_take : (m n : ℕ) (messages : List Message) → take m (take n messages) ≡ take (min m n) messages
take_of_take m n messages =
    elim (cases_lt n m) [
      | inr fewer ↦
          let least : m ≡ min m n = omega (arith, fewer) in
          take-take m n messages fewer ∙ ap (λ (k : ℕ). take k messages) least
      | inl more ↦
          let least : n ≡ min m n = omega (arith, more) in
          take_all m (take n messages) (omega (arith, more, length-take n messages))
          ∙ ap (λ (k : ℕ). take k messages) least
    ]

-- The requested messages are at most 65,534 of those in the gap.
asked_of_gap : (v : View) (published : List Message) →
    take 65534 (between published v.next (gap_end v))
    ≡ take (min 65534 (gap_end v - v.next)) (from_number published v.next)
asked_of_gap v published = take_of_take 65534 (gap_end v - v.next) (from_number published v.next)

brought_is : (v : View) (published : List Message) (limit burst : ℕ) →
    carried (round_answer v published limit burst) ≡ brought limit burst (between published v.next (gap_end v))
brought_is v published limit burst =
    carried_any limit burst v.next v.session (take (min 65534 (gap_end v - v.next)) (from_number published v.next))
    ∙ sym (ap (λ (t : List Message). carried (take burst (packing limit (record { 0 = [] }) 1 t)))
    (asked_of_gap v published))

-- If there is a first packet, it has at least one message.
none_of : (n : ℕ) (ps : List Packet) (p : Packet) (rest : List Packet) → length ps ≡ 0 → take n ps ≡ p ∷ rest → ⊥
none_of n ps p rest none is = omega (arith, none, ap length is, length-take n ps)

part_within : (limit most n : ℕ) (session : Session) (sequence : ℕ) (messages : List Message) (p : Packet)
    (rest : List Packet) → take n (packing_within limit most session sequence messages) ≡ p ∷ rest →
    0 < length (first_part limit messages)
unfolding packing_within
part_within limit zero n session sequence messages p rest is = absurd (none_of n [] p rest refl is)
part_within limit (suc most) n session sequence messages p rest is =
    elim (cases_eq (length (first_part limit messages)) 0) [
      | inl none ↦
          absurd (none_of n _ p rest
          (ap length (cond-true (eqb (length (first_part limit messages)) 0) _ _ (eq-eqb _ 0 none))) is)
      | inr some ↦ omega (arith, some)
    ]

part_some : (limit n : ℕ) (session : Session) (sequence : ℕ) (messages : List Message) (p : Packet)
    (rest : List Packet) → take n (packing limit session sequence messages) ≡ p ∷ rest →
    0 < length (first_part limit messages)
unfolding packing
part_some limit n session sequence messages p rest is =
    part_within limit (length messages) n session sequence messages p rest is

-- If there is a response, a message in the gap fits.
pub gap_found : PacksFronts → (v : View) (published : List Message) (limit burst : ℕ) → 20 ≤ limit →
    HasFirst v.session v.next (round_answer v published limit burst) →
    0 < length (front limit (between published v.next (gap_end v)) 65534)
gap_found packs v published limit burst room has =
    let asked : List Message = take (min 65534 (gap_end v - v.next)) (from_number published v.next) in
    let same : length (first_part limit asked) ≡ length (front limit (between published v.next (gap_end v)) 65534) =
    ap (λ (t : List Message). length (first_part limit t)) (sym (asked_of_gap v published))
    ∙ ap length (packs.part limit 65534 (between published v.next (gap_end v)) room)
    in
    omega (arith, same, part_some limit burst v.session v.next asked _ has.rest has.sent)

-- All responses were taken.
pub round_ends : PacksFronts → WalksRanges → (v : View) (before : Handed) (journal : JournalState) (limit burst : ℕ)
    (now : View) (at : Handed) (plan : PlanState) → 20 ≤ limit → 1 ≤ burst → 1 ≤ v.next → IsGap v (gap_end v) →
    0 < length (front limit (between journal.messages v.next (gap_end v)) 65534) →
    0 < brought limit burst (between journal.messages v.next (gap_end v)) →
    InRound v before journal limit burst now at plan → planned journal.messages limit plan ≡ [] →
    IsRound v journal.messages limit burst now
round_ends packs walks v before journal limit burst now at plan room some first gap found brings is none =
    let whole : List Packet = round_answer v journal.messages limit burst in
    let all : take is.sent whole ≡ whole =
    sym (append-nil (take is.sent whole))
    ∙ ap (λ (t : List Packet). take is.sent whole ++ t) (sym (is.left ∙ none))
    ∙ take-append-drop is.sent whole
    in
    let counted : carried (take is.sent whole) ≡ brought limit burst (between journal.messages v.next (gap_end v)) =
    ap carried all ∙ brought_is v journal.messages limit burst
    in
    record {
      view = is.view ∙ ap (views_after v) all;
      rest = one_round packs walks v (gap_end v) journal.messages limit burst (carried (take is.sent whole)) now
          (record {
            room = room;
            some = some;
            first = first;
            gap = gap;
            found = found;
            brings = counted;
            within = omega (arith, is.place, is.to, is.awaits.ordered);
            took = is.took;
          });
      fewer = omega (arith, is.fewer, counted, brings);
    }

-- A response was left.
pub round_stops : (v : View) (before : Handed) (journal : JournalState) (limit burst : ℕ) (now : View) (at : Handed)
    (plan : PlanState) → InRound v before journal limit burst now at plan →
    0 < length (planned journal.messages limit plan) → IsPartOfRound v journal.messages limit burst now
round_stops v before journal limit burst now at plan is more = record {
  taken = is.sent;
  some_left =
      omega (arith, more, ap length is.left, length-drop is.sent (round_answer v journal.messages limit burst));
  view = is.view;
}
