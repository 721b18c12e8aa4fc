-- Views over slots.
use Rattle.std.proofs.Common.{◌≡◌, ℕ, zero, suc, ◌+◌, ◌-◌, ◌<◌, ◌≤◌, ◌^◌, max, leb, ltb, List, length}
use Rattle.std.proofs.Common.{replicate, refl, sym, ap, subst, ◌∙◌, inl, inr, arith, nat_cmp}
use Rattle.std.specs.Prelude.{Option, None, Some}
use Rattle.std.specs.FinMap as finite
use Rattle.std.proofs.lemmas.Bool.{cases_lt, cond-true, cond-false, le-leb, lt-leb, lt-ltb}
use Rattle.mold_wire.specs.Packet.{messages_of}
use Rattle.mold_wire.specs.declared.packet.Body.{Body}
use Rattle.mold_wire.specs.declared.packet.Body.TheVariants.{Data, Heartbeat, End}
use Rattle.mold_wire.specs.declared.session.Session.{Session}
use Rattle.mold_rule.specs.Refusals.{end_below, past_end}
use Rattle.mold_receiver.specs.Receive.{ended_after}
use Rattle.mold_receiver.specs.Slots.{Slot, slot_at, slots_bytes, store_of, count_held}
use Rattle.mold_receiver.specs.Store.{Message, Store}
use Rattle.mold_receiver.specs.View.{View, IsRoom, IsWellFormed, IsWithinRoom, view_over}
use Rattle.mold_receiver.proofs.SizeLemmas.{bytes_slots}
use Rattle.mold_receiver.proofs.RuleLemmas.{IsBetween, none_unless}
use Rattle.mold_receiver.proofs.SlotLemmas.{get-slots, len-slots}
use Rattle.mold_receiver.proofs.StoreLemmas.{none_some}

pub between_of : (v : View) → IsWellFormed v → IsBetween v.store v.next v.window
between_of v well q m is = let lies = well.stored q m is in (lies.0, lies.1)

ends_data : (ended : Option ℕ) (known top : ℕ) → ((end : ℕ) → ended ≡ Some end → end ≡ known) →
    past_end ended Heartbeat top ≡ None
    → (end : ℕ) → ended ≡ Some end → end ≡ max known top
ends_data None known top ends past end is = absurd (none_some is)
ends_data (Some e) known top ends past end is =
    let same = ends end is in
    let at : e ≡ end = cc in
    elim (cases_lt e top) [
      | inl below ↦ absurd (none_some (sym past ∙ cond-true (ltb e top) _ _ (lt-ltb e top below)))
      | inr above ↦ omega (arith, same, at)
    ]

past_data : (ended : Option ℕ) (ms : List Message) (top : ℕ) → past_end ended (Data ms) top ≡ None →
    past_end ended Heartbeat top ≡ None
past_data None ms top past = refl
past_data (Some e) ms top past = past

pub ends_well : (ended : Option ℕ) (body : Body) (sequence known top : ℕ) → sequence + length (messages_of body) ≡ top
    → ((end : ℕ) → ended ≡ Some end → end ≡ known) → end_below body sequence known ≡ None →
    past_end ended body top ≡ None
    → (end : ℕ) → ended_after body sequence ended ≡ Some end → end ≡ max known top
ends_well ended (Data ms) sequence known top tops ends below past end is =
    ends_data ended known top ends (past_data ended ms top past) end is
ends_well ended Heartbeat sequence known top tops ends below past end is = ends_data ended known top ends past end is
ends_well ended End sequence known top tops ends below past end is =
    let at : sequence ≡ end = cc in
    elim (cases_lt sequence known) [
      | inl low ↦ absurd (none_some (sym below ∙ cond-true (ltb sequence known) _ _ (lt-ltb sequence known low)))
      | inr high ↦ omega (arith, at, tops)
    ]

-- The store over slots, by number.
pub get_from : (next : ℕ) (slots : List Slot) (q : ℕ) → next ≤ q →
    finite.get (store_of next slots) q ≡ slot_at slots (q - next)
get_from next slots q low = get-slots next slots q
    ∙ cond-true (leb next q) (slot_at slots (q - next)) None (le-leb next q low)

pub get_below : (next : ℕ) (slots : List Slot) (q : ℕ) → q < next → finite.get (store_of next slots) q ≡ None
get_below next slots q low = get-slots next slots q
    ∙ cond-false (leb next q) (slot_at slots (q - next)) None (lt-leb next q low)

-- One more than a stored number has 64 bits.
pub slot_numbers : (room : Option ℕ) (session : Session) (next known : ℕ) (ended : Option ℕ) (slots : List Slot) →
    IsWellFormed (view_over room session next known ended slots)
    → (i : ℕ) (m : Message) → slot_at slots i ≡ Some m → next + i + 1 < 2 ^ 64
slot_numbers room session next known ended slots well i m is =
    let place : next + i - next ≡ i = omega arith in
    let lies = well.stored (next + i) m (get_from next slots (next + i) (omega arith) ∙ ap (slot_at slots) place
    ∙ is) in
    omega (arith, lies.2, well.last)

-- The first slot is that of `next`, which is never stored.
pub first_empty : (room : Option ℕ) (session : Session) (next known : ℕ) (ended : Option ℕ) (slots : List Slot) →
    IsWellFormed (view_over room session next known ended slots) → slot_at slots 0 ≡ None
first_empty room session next known ended slots well =
    none_unless (slot_at slots 0) (λ m is.
    let place : next - next ≡ 0 = omega arith in
    let lies = well.stored next m (get_from next slots next (omega arith) ∙ ap (slot_at slots) place ∙ is) in
    omega (arith, lies.0))

-- Empty slots represent an empty store.
pub empty_store : (next n : ℕ) → store_of next (replicate n None) ≡ finite.empty
empty_store next zero = refl
empty_store next (suc n) = empty_store (suc next) n

empty_bytes : (n : ℕ) → slots_bytes (replicate n None) ≡ 0
empty_bytes zero = refl
empty_bytes (suc n) = empty_bytes n

pub fresh_well : (room : Option ℕ) (session : Session) (next n : ℕ) → 1 ≤ next → next < 2 ^ 64 → IsRoom room →
    IsWellFormed (view_over room session next next None (replicate n None))
fresh_well room session next n first last is_room = record {
  first = first;
  ahead = omega arith;
  last = last;
  stored = λ q m is. absurd
      (none_some (sym (ap (λ (s : Store). finite.get s q) (empty_store next n) ∙ finite.get-empty nat_cmp q) ∙ is));
  ends = λ e is. absurd (none_some is);
  bounded = subst (IsWithinRoom room) (sym (bytes_slots next (replicate n None) ∙ empty_bytes n)) is_room;
}

pub none_held : (next : ℕ) (slots : List Slot) → count_held slots ≡ 0 → store_of next slots ≡ finite.empty
none_held next slots none = finite.empty_of_len (store_of next slots) (len-slots next slots ∙ none)
