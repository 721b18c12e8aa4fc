-- The effect of a data packet in the gap.
use Rattle.std.proofs.Common.{◌≡◌, ℕ, suc, ◌+◌, ◌-◌, ◌≤◌, max, true, false, ltb}
use Rattle.std.proofs.Common.{◌&&◌}
use Rattle.std.proofs.Common.{List, [], ◌∷◌, length, refl, sym, ap, subst, ◌∙◌, inl, inr, arith}
use Rattle.std.specs.Prelude.{Option, None, Some, Ok, is_none, is_some, slice_get}
use Rattle.std.specs.FinMap as finite
use Rattle.std.specs.Option.{option_or}
use Rattle.std.proofs.lemmas.Bool.{true≢false, cases_lt, cond-true, cond-false, lt-ltb, le-ltb, and_from, and_left}
use Rattle.std.proofs.lemmas.Bool.{and_right}
use Rattle.std.proofs.lemmas.Option.{slice_get_within}
use Rattle.mold_wire.specs.Packet.{top_of}
use Rattle.mold_wire.specs.Reading.{reading}
use Rattle.mold_wire.specs.declared.packet.Body.{Body}
use Rattle.mold_wire.specs.declared.packet.Body.TheVariants.{Data, End}
use Rattle.mold_wire.specs.declared.packet.Packet.{Packet}
use Rattle.mold_rule.specs.Ranges.{lacking}
use Rattle.mold_rule.specs.declared.refusal.Refusal.{Refusal}
use Rattle.mold_receiver.specs.Gap.{HandsOn, IsTakenInGap, Took, messages_from}
use Rattle.mold_receiver.specs.Receive.{data_packet, decide, handed_on, receive_read, reception, refusal, view_after}
use Rattle.mold_receiver.specs.Store.{Message, available, cut}
use Rattle.mold_receiver.specs.View.{View, IsWellFormed}
use Rattle.mold_receiver.specs.Wanted.{IsGap, lacks, missing}
use Rattle.mold_receiver.proofs.LawLemmas.{goes_through, handed_reads, next_lacks, some_same}
use Rattle.mold_receiver.proofs.WellLemmas.{takes_well}
use Rattle.mold_receiver.proofs.MissingLemmas.{CountsLacking, missing_is}
use Rattle.mold_receiver.proofs.RefusalLemmas.{Admits, admitted_none, no_first_conflict}
use Rattle.mold_receiver.proofs.RoomLemmas.{begun_kept, undropped_all}
use Rattle.mold_receiver.proofs.RuleLemmas.{available_cases, available_from, message_bounds, message_past}
use Rattle.mold_receiver.proofs.RuleLemmas.{message_within, stored_past}
use Rattle.mold_receiver.proofs.StoreLemmas.{get-cut, none_some, run_had}
use Rattle.mold_receiver.proofs.ViewLemmas.{between_of}

-- The data packet that begins with the message `next`.
abbrev pub packet : View → List Message → Packet
packet v ms = data_packet v.session v.next ms

-- The packet is in the gap up to `end`, and no refusal applies to it.
pub record IsInGap (v : View) (ms : List Message) (end : ℕ) : Type 0 where
  pub well : IsWellFormed v
  pub gap : IsGap v end
  pub fits : v.next + length ms ≤ end
  pub none : refusal v (packet v ms) ≡ None

no_end : {messages : List Message} → ◌≡◌ {A = Body} (Data messages) End → ⊥
no_end e = cc

pub in_gap : Admits → (v : View) (ms : List Message) (end : ℕ) → IsWellFormed v → IsGap v end →
    v.next + length ms ≤ end → IsInGap v ms end
in_gap admits v ms end well gap fits =
    let p = packet v ms in
    let top : top_of p ≤ v.known = omega (arith, fits, gap.within) in
    let agree = no_first_conflict v.store v.next v.next ms (λ i m x at stored.
    absurd (none_some (sym (gap.lacked (v.next + i) (omega (arith, fits, slice_get_within ms i m at)))
    ∙ stored))) in
    record {
      well = well;
      gap = gap;
      fits = fits;
      none = admitted_none admits v p (record {
        named = λ name is. some_same is;
        first = well.first;
        last = omega (arith, top, well.last);
        same_end = λ ending e is. absurd (no_end ending);
        above = λ ending. absurd (no_end ending);
        within = λ e is. omega (arith, top, well.ends e is);
      }) agree;
    }

-- Available messages after the packet's last one were stored before.
behind : (v : View) (ms : List Message) (q : ℕ) → v.next + length ms ≤ q →
    finite.get (available v.store v.next v.next ms) q ≡ finite.get v.store q
behind v ms q past =
    available_from v.store v.next v.next ms q (omega (arith, past))
    ∙ ap (λ (o : Option Message). option_or o (finite.get v.store q)) (message_past v.next ms q past)

pub took : (v : View) (ms : List Message) (end : ℕ) → IsInGap v ms end → Took v (length ms) (view_after v (packet v ms))
took v ms end is =
    let p = packet v ms in
    let w = view_after v p in
    let look = finite.get (available v.store v.next v.next ms) in
    let low = goes_through v p is.well (omega arith) in
    let well = takes_well v p is.well is.none in
    let stored : (q : ℕ) → finite.get w.store q ≡ finite.get (cut (available v.store v.next v.next ms) w.next v.window) q =
    λ q. ap (λ (t : List Message). finite.get (cut (available v.store v.next v.next t) w.next v.window) q)
    (undropped_all v p (begun_kept v p (omega arith))) in
    let none : (q : ℕ) → q ≤ w.next → finite.get w.store q ≡ None = λ q below.
    stored q
    ∙ get-cut (available v.store v.next v.next ms) w.next v.window q
    ∙ cond-false (ltb w.next q && ltb q (w.next + v.window)) (look q) None
    (and_left (ltb w.next q) (ltb q (w.next + v.window)) (le-ltb w.next q below)) in
    record {
      low = low;
      high = omega (arith, well.ahead, is.fits, is.gap.within);
      session = refl;
      known = omega (arith, is.fits, is.gap.within);
      ended = refl;
      window = refl;
      room = refl;
      had = λ q past below.
          ap is_some (sym (behind v ms q past))
          ∙ run_had look v.next (max v.known (top_of p) - v.next) q (omega (arith, past)) below;
      none = none;
      same = λ q from.
          elim (cases_lt w.next q) [
            | inr here ↦
                let same : w.next ≡ q = omega (arith, here, from) in
                none q (omega (arith, here))
                ∙ sym (sym (behind v ms q (omega (arith, low, from)))
                ∙ subst (λ (k : ℕ). look k ≡ None) same (next_lacks v p is.well))
            | inl above ↦
                elim (cases_lt q (w.next + v.window)) [
                  | inl inside ↦
                      stored q
                      ∙ get-cut (available v.store v.next v.next ms) w.next v.window q
                      ∙ cond-true (ltb w.next q && ltb q (w.next + v.window)) (look q) None
                      (and_from (ltb w.next q) (ltb q (w.next + v.window)) (lt-ltb w.next q above)
                      (lt-ltb q (w.next + v.window) inside))
                      ∙ behind v ms q (omega (arith, low, from))
                  | inr outside ↦
                      stored q
                      ∙ get-cut (available v.store v.next v.next ms) w.next v.window q
                      ∙ cond-false (ltb w.next q && ltb q (w.next + v.window)) (look q) None
                      (and_right (ltb w.next q) (ltb q (w.next + v.window)) (le-ltb q (w.next + v.window) outside))
                      ∙ sym (stored_past v.store v.next v.window (between_of v is.well) q (omega (arith, low, outside)))
                ]
          ];
    }

messages_are : (message : ℕ → Message) (number : ℕ) (ms : List Message) →
    ((i : ℕ) (m : Message) → slice_get ms i ≡ Some m → m ≡ message (number + i))
    → ms ≡ messages_from message number (length ms)
unfolding messages_from
messages_are message number [] each = refl
messages_are message number (m ∷ ms) each =
    let here : number + 0 ≡ number = omega arith in
    let rest = messages_are message (suc number) ms (λ i x is.
    let at : number + suc i ≡ suc number + i = omega arith in
    each (suc i) x is ∙ ap message at) in
    (λ i. (each 0 m refl ∙ ap message here) i ∷ rest i)

-- If nothing is stored below the packet's top, the numbers determine what is delivered.
pub hands : (v : View) (ms : List Message) (end : ℕ) → IsInGap v ms end → HandsOn v ms (view_after v (packet v ms)).next
hands v ms end is = record {
  handed = λ message carried stored.
      let on = handed_on v v.next ms in
      let count : length on ≡ v.next + length on - v.next = omega arith in
      messages_are message v.next on (λ i m at.
      elim (available_cases v.store v.next v.next ms (v.next + i) m (handed_reads v (packet v ms) i m at)) [
        | inl from ↦
            let bounds = message_bounds v.next ms (v.next + i) m from.1 in
            carried (v.next + i) m bounds.0 bounds.1 (sym (message_within v.next ms (v.next + i) bounds.0) ∙ from.1)
        | inr had ↦
            elim (cases_lt (v.next + i) end) [
              | inl lacked ↦ absurd (none_some (sym (is.gap.lacked (v.next + i) lacked) ∙ had))
              | inr past ↦ stored (v.next + i) m (omega (arith, past, is.fits)) had
            ]
      ]) ∙ ap (messages_from message v.next) count;
}

not_none : (o : Option Message) → is_some o ≡ true → is_none o ≡ false
not_none None some = absurd (true≢false (sym some))
not_none (Some m) some = refl

-- The number of missing messages falls by the number of the packet's messages.
pub fewer : CountsLacking → (v : View) (ms : List Message) (end : ℕ) → IsInGap v ms end →
    missing v ≡ length ms + missing (view_after v (packet v ms))
fewer counts v ms end is =
    let w = view_after v (packet v ms) in
    let t = took v ms end is in
    let count = length ms in
    let ran = w.next - (v.next + count) in
    let whole : v.known - v.next ≡ count + (ran + (w.known - w.next)) = omega (arith, t.low, t.high, t.known) in
    let at : v.next + count + ran ≡ w.next = omega (arith, t.low) in
    let parts = counts.parts (lacks v.store) v.next count (ran + (w.known - w.next)) in
    let rest = counts.parts (lacks v.store) (v.next + count) ran (w.known - w.next) in
    let front = counts.all (lacks v.store) v.next count
    (λ q from below. ap is_none (is.gap.lacked q (omega (arith, below, is.fits)))) in
    let run = counts.none (lacks v.store) (v.next + count) ran
    (λ q from below. not_none (finite.get v.store q) (t.had q from (omega (arith, below, at)))) in
    let left = counts.same (lacks v.store) (lacks w.store) w.next (w.known - w.next)
    (λ q from below. ap is_none (sym (t.same q from))) in
    let moved : lacking (lacks v.store) (v.next + count + ran) (w.known - w.next) ≡ lacking (lacks w.store) w.next
    (w.known - w.next) =
    ap (λ (n : ℕ). lacking (lacks v.store) n (w.known - w.next)) at ∙ left in
    let all : lacking (lacks v.store) v.next (v.known - v.next) ≡ lacking (lacks v.store) v.next
    (count + (ran + (w.known - w.next))) =
    ap (lacking (lacks v.store) v.next) whole in
    let well = takes_well v (packet v ms) is.well is.none in
    omega (arith, missing_is counts v is.well, missing_is counts w well, all, parts, rest, front, run, moved)

pub taken_in_gap : CountsLacking → (v : View) (ms : List Message) (end : ℕ) (bytes : List ℕ) → IsInGap v ms end →
    reading bytes ≡ Ok (packet v ms) → IsTakenInGap v ms bytes
taken_in_gap counts v ms end bytes is read =
    let p = packet v ms in
    let none = is.none in
    record {
      reception = reception v p;
      received = ap (receive_read v) read ∙ ap (λ (o : Option Refusal). decide o (reception v p)) none;
      view = refl;
      handed = refl;
      well_formed = takes_well v p is.well none;
      took = took v ms end is;
      hands = hands v ms end is;
      fewer = fewer counts v ms end is;
    }
