-- An honest view refuses nothing that is true, and stays honest.
use Rattle.std.proofs.Common.{◌≡◌, ℕ, ◌+◌, ◌-◌, ◌<◌, ◌≤◌, Bool, true, false, leb, List, [], ◌∷◌, ◌++◌}
use Rattle.std.proofs.Common.{length, length-append, sym, ap, subst, ◌∙◌, inl, inr, arith, nat_cmp}
use Rattle.std.specs.Prelude.{Option, None, Some, Ok, slice_get}
use Rattle.std.specs.FinMap as finite
use Rattle.std.proofs.lemmas.Bool.{true≢false, cases_lt, cond-true, cond-false, le-leb, lt-leb}
use Rattle.std.proofs.lemmas.Option.{slice_get_within}
use Rattle.mold_wire.specs.Packet.{messages_of, top_of}
use Rattle.mold_wire.specs.Reading.{reading}
use Rattle.mold_wire.specs.Truth.{Carries, IsTruePacket, IsTrueBody, message_at, published_at}
use Rattle.mold_wire.specs.declared.packet.Packet.{Packet}
use Rattle.mold_wire.specs.declared.packet.Body.{Body}
use Rattle.mold_wire.specs.declared.packet.Body.TheVariants.{Data, Heartbeat, End}
use Rattle.mold_wire.specs.declared.session.Session.{Session}
use Rattle.mold_rule.specs.declared.refusal.Refusal.{Refusal}
use Rattle.mold_receiver.specs.Honest.{IsHonest, IsTakenHonestly}
use Rattle.mold_receiver.specs.Receive.{decide, ended_after, receive_read, reception, refusal, view_after}
use Rattle.mold_receiver.specs.Store.{Message, stored_bytes}
use Rattle.mold_receiver.specs.View.{View, IsRoom, IsWithinRoom, fresh_within}
use Rattle.mold_receiver.proofs.CaseLemmas.{get-append_left}
use Rattle.mold_receiver.proofs.LawLemmas.{handed_had, some_same, stored_had}
use Rattle.mold_receiver.proofs.WellLemmas.{takes_well}
use Rattle.mold_receiver.proofs.RefusalLemmas.{Admits, admitted_none, no_first_conflict}
use Rattle.mold_receiver.proofs.SizeLemmas.{bytes_slots}
use Rattle.mold_receiver.proofs.StoreLemmas.{none_some}

-- What a true packet states.
pub record IsTold (p : Packet) (published : List Message) : Type 0 where
  pub first : 1 ≤ p.sequence
  pub top : top_of p ≤ length published + 1
  pub carried : (number : ℕ) (m : Message) → Carries p number m → published_at published number ≡ Some m

pub true_first : (body : Body) (sequence : ℕ) (published : List Message) (closed : Bool) →
    IsTrueBody body sequence published closed → 1 ≤ sequence
true_first (Data messages) sequence published closed said = said.0
true_first Heartbeat sequence published closed said = said.0
true_first End sequence published closed said = omega (arith, said.1)

not_end : {messages : List Message} → ◌≡◌ {A = Body} (Data messages) End → ⊥
not_end e = cc

beat_no_end : ◌≡◌ {A = Body} Heartbeat End → ⊥
beat_no_end e = cc

true_end : (body : Body) (sequence : ℕ) (published : List Message) (closed : Bool) →
    IsTrueBody body sequence published closed → body ≡ End → sequence ≡ length published + 1
true_end (Data messages) sequence published closed said ending = absurd (not_end ending)
true_end Heartbeat sequence published closed said ending = absurd (beat_no_end ending)
true_end End sequence published closed said ending = said.1

true_ends : (body : Body) (sequence : ℕ) (published : List Message) (closed : Bool) (ended : Option ℕ) →
    IsTrueBody body sequence published closed
    → ((end : ℕ) → ended ≡ Some end → (closed ≡ true) × (end ≡ length published + 1))
    → (end : ℕ) → ended_after body sequence ended ≡ Some end → (closed ≡ true) × (end ≡ length published + 1)
true_ends (Data messages) sequence published closed ended said ends end is = ends end is
true_ends Heartbeat sequence published closed ended said ends end is = ends end is
true_ends End sequence published closed ended said ends end is = (said.0, sym (some_same is) ∙ said.1)

-- An honest view accepts what is true.
pub refuses_nothing : Admits → (v : View) (p : Packet) (published : List Message) (closed : Bool) →
    IsHonest v published closed → IsTold p published → p.session ≡ v.session → IsTruePacket p published closed
    → refusal v p ≡ None
refuses_nothing admits v p published closed honest told same is_true =
    let top = told.top in
    let agree = no_first_conflict v.store v.next p.sequence (messages_of p.body) (λ i m x is stored.
    let at = p.sequence + i in
    let place : at - p.sequence ≡ i = omega arith in
    let carried : message_at p.sequence (messages_of p.body) at ≡ Some m =
    cond-true (leb p.sequence at) (slice_get (messages_of p.body) (at - p.sequence)) None
    (le-leb p.sequence at (omega arith)) ∙ ap (slice_get (messages_of p.body)) place ∙ is
    in
    some_same (sym (honest.stored at x stored) ∙ told.carried at m carried))
    in
    admitted_none admits v p (record {
      named = λ name is. (λ i. (same i).0) ∙ some_same is;
      first = told.first;
      last = omega (arith, top, is_true.few);
      same_end = λ ending end is.
          omega (arith, true_end p.body p.sequence published closed is_true.said ending, (honest.ends end is).1);
      above = λ ending.
          omega (arith, true_end p.body p.sequence published closed is_true.said ending, honest.known);
      within = λ end is. omega (arith, top, (honest.ends end is).1);
    }) agree

-- It is honest after it accepted that.
pub stays_honest : (v : View) (p : Packet) (published : List Message) (closed : Bool) →
    IsHonest v published closed → IsTold p published → IsTruePacket p published closed
    → refusal v p ≡ None → IsHonest (view_after v p) published closed
stays_honest v p published closed honest told is_true none = record {
  well_formed = takes_well v p honest.well_formed none;
  stored = λ number m is.
      elim (stored_had v p number m is) [
        | inl had ↦ honest.stored number m had
        | inr carried ↦ told.carried number m carried
      ];
  known = omega (arith, honest.known, told.top);
  ends = true_ends p.body p.sequence published closed v.ended is_true.said honest.ends;
}

pub takes_honestly : Admits → (v : View) (p : Packet) (bytes : List ℕ) (published : List Message) (closed : Bool) →
    reading bytes ≡ Ok p → IsHonest v published closed → IsTold p published → p.session ≡ v.session →
    IsTruePacket p published closed
    → IsTakenHonestly v bytes published closed
takes_honestly admits v p bytes published closed read honest told same is_true =
    let none = refuses_nothing admits v p published closed honest told same is_true in
    record {
      reception = reception v p;
      received = ap (receive_read v) read ∙ ap (λ (o : Option Refusal). decide o (reception v p)) none;
      honest = stays_honest v p published closed honest told is_true none;
      handed = λ i m is.
          elim (handed_had v p i m is) [
            | inl had ↦ honest.stored (v.next + i) m had
            | inr carried ↦ told.carried (v.next + i) m carried
          ];
    }

-- A published message keeps its number.
still_published : (published : List Message) (m : Message) (number : ℕ) (x : Message) →
    published_at published number ≡ Some x → published_at (published ++ m ∷ []) number ≡ Some x
still_published published m number x is =
    elim (cases_lt number 1) [
      | inl low ↦
          absurd (none_some
          (sym (cond-false (leb 1 number) (slice_get published (number - 1)) None (lt-leb 1 number low)) ∙ is))
      | inr some ↦
          let found : slice_get published (number - 1) ≡ Some x =
          sym (cond-true (leb 1 number) (slice_get published (number - 1)) None (le-leb 1 number some)) ∙ is in
          cond-true (leb 1 number) (slice_get (published ++ m ∷ []) (number - 1)) None (le-leb 1 number some)
          ∙ get-append_left published (m ∷ []) (number - 1) (slice_get_within published (number - 1) x found) ∙ found
    ]

pub honest_published : (v : View) (published : List Message) (m : Message) → IsHonest v published false →
    IsHonest v (published ++ m ∷ []) false
honest_published v published m honest = record {
  well_formed = honest.well_formed;
  stored = λ number x is. still_published published m number x (honest.stored number x is);
  known = omega (arith, honest.known, length-append published (m ∷ []));
  ends = λ end is. absurd (true≢false (sym (honest.ends end is).0));
}

pub honest_closed : (v : View) (published : List Message) → IsHonest v published false → IsHonest v published true
honest_closed v published honest = record {
  well_formed = honest.well_formed;
  stored = honest.stored;
  known = honest.known;
  ends = λ end is. absurd (true≢false (sym (honest.ends end is).0));
}

no_bytes : stored_bytes finite.empty ≡ 0
no_bytes = bytes_slots 0 []

pub honest_fresh : (room : Option ℕ) (session : Session) (next window : ℕ) (published : List Message) (closed : Bool) →
    IsRoom room → 1 ≤ next → next ≤ length published + 1 → length published < 18446744073709551615
    → IsHonest (fresh_within room session next window) published closed
honest_fresh room session next window published closed is_room first ahead few = record {
  well_formed = record {
    first = first;
    ahead = omega arith;
    last = omega (arith, ahead, few);
    stored = λ number m is. absurd (none_some (sym (finite.get-empty nat_cmp number) ∙ is));
    ends = λ end is. absurd (none_some is);
    bounded = subst (IsWithinRoom room) (sym no_bytes) is_room;
  };
  stored = λ number m is. absurd (none_some (sym (finite.get-empty nat_cmp number) ∙ is));
  known = ahead;
  ends = λ end is. absurd (none_some is);
}
