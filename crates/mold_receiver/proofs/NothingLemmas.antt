-- The view after a packet that has no message from `next` on.
use Rattle.std.proofs.Common.{◌≡◌, ℕ, suc, ◌+◌, ◌-◌, ◌<◌, ◌≤◌, max, leb, ◌&&◌, List, [], ◌∷◌, length, refl, ap, ◌∙◌, inl, inr}
use Rattle.std.proofs.Common.{◌⊎◌, arith, nat_cmp}
use Rattle.std.specs.Prelude.{Option, None, Some, is_none, slice_get}
use Rattle.std.specs.FinMap as finite
use Rattle.std.proofs.lemmas.Bool.{and_left, cases_lt, cond-false, cond-true, le-leb, lt-leb}
use Rattle.mold_wire.specs.Packet.{messages_of, top_of}
use Rattle.mold_wire.specs.declared.packet.Packet.{Packet}
use Rattle.mold_wire.specs.Truth.{message_at}
use Rattle.mold_receiver.specs.Receive.{handed_on, count_beyond, ended_after, undropped, view_at, view_after, taken_of}
use Rattle.mold_receiver.specs.Slots.{AreEmpty, Slot, slot_at, store_of}
use Rattle.mold_receiver.specs.Store.{Message, Store, differs, numbered, from_next, first_conflict}
use Rattle.mold_receiver.specs.View.{View, IsWellFormed}
use Rattle.mold_receiver.proofs.SlotLemmas.{get-slots}
use Rattle.mold_receiver.proofs.CaseLemmas.{nothing_handed, nothing_stored, nothing_kept}
use Rattle.mold_receiver.proofs.RuleLemmas.{message_below, message_past, message_within, count_none}
use Rattle.mold_receiver.proofs.RoomLemmas.{undropped_none}
use Rattle.mold_receiver.proofs.ViewLemmas.{between_of}

-- The packet has no message at or above `next`.
pub nothing_view : (v : View) (p : Packet) (top : ℕ) → IsWellFormed v → top_of p ≡ top →
    ((q : ℕ) → v.next ≤ q → message_at p.sequence (messages_of p.body) q ≡ None)
    → view_after v p ≡ record v { known = max v.known top; ended = ended_after p.body p.sequence v.ended }
nothing_view v p top well tops nothing =
    let ms = messages_of p.body in
    let none : handed_on v p.sequence ms ≡ [] =
    nothing_handed v.store v.next v.window (max v.known (top_of p) - v.next) p.sequence ms
    (between_of v well) nothing in
    let here : v.next + length (handed_on v p.sequence ms) ≡ v.next = ap (λ (t : List Message). v.next + length t) none
    ∙ (let e : v.next + 0 ≡ v.next = omega arith in e) in
    let stored = nothing_stored v.store v.next v.window p.sequence (undropped v p) (between_of v well)
    (λ q from. undropped_none v p q (nothing q from)) in
    ap (view_at v p) here
    ∙ (λ i. record {
      session = v.session;
      next = v.next;
      known = max v.known (tops i);
      ended =
          ended_after p.body p.sequence v.ended;
      store = stored i;
      window = v.window;
      room = v.room;
    })

pub nothing_taken : (v : View) (p : Packet) (top : ℕ) → IsWellFormed v → top_of p ≡ top →
    ((q : ℕ) → v.next ≤ q → message_at p.sequence (messages_of p.body) q ≡ None)
    → count_beyond v.next v.store (numbered p.sequence (messages_of p.body)) ≡ 0
    → taken_of v p (view_after v p) ≡ record { handed = 0; kept = 0; beyond = 0 }
nothing_taken v p top well tops nothing past =
    let zero_handed : v.next - v.next ≡ 0 = omega arith in
    ap (taken_of v p) (nothing_view v p top well tops nothing)
    ∙ (λ i. record {
      handed = zero_handed i;
      kept = nothing_kept v.store p.sequence (messages_of p.body) i;
      beyond =
          past i;
    })

-- If the packet ends at or below `next`, or has no messages, it has no message at or above `next`.
pub nothing_there : (next n : ℕ) (ms : List Message) → (n + length ms ≤ next) ⊎ (ms ≡ []) → (q : ℕ) → next ≤ q →
    message_at n ms q ≡ None
nothing_there next n ms (inl below) q low = message_past n ms q (omega arith)
nothing_there next n ms (inr none) q low =
    elim (cases_lt q n) [
      | inl below ↦ message_below n ms q below
      | inr above ↦ message_within n ms q above ∙ ap (λ (t : List Message). slice_get t (q - n)) none
    ]

pub nothing_beyond : (next n : ℕ) (s : Store) (ms : List Message) → (n + length ms ≤ next) ⊎ (ms ≡ []) →
    count_beyond next s (numbered n ms) ≡ 0
nothing_beyond next n s ms (inl below) =
    count_none (λ q. leb next q && is_none (finite.get s q)) n ms
    (λ i within. and_left (leb next (n + i)) (is_none (finite.get s (n + i))) (lt-leb next (n + i) (omega (arith, below, within))))
nothing_beyond next n s ms (inr none) = ap (λ (t : List Message). count_beyond next s (numbered n t)) none

pub none_handed : (v : View) (n : ℕ) (ms : List Message) → IsWellFormed v → (n + length ms ≤ v.next) ⊎ (ms ≡ []) →
    handed_on v n ms ≡ []
none_handed v n ms well nothing =
    nothing_handed v.store v.next v.window (max v.known (n + length ms) - v.next) n ms (between_of v well)
    (nothing_there v.next n ms nothing)

-- A packet wholly below `next` has no conflict. If nothing is stored, no packet has one.
pub below_no_conflict : (s : Store) (next n : ℕ) (ms : List Message) → n + length ms ≤ next →
    first_conflict s (from_next next n ms) ≡ None
below_no_conflict s next n [] below = refl
below_no_conflict s next n (m ∷ ms) below =
    ap (first_conflict s)
    (cond-false (leb next n) ((n, m) ∷ from_next next (suc n) ms) (from_next next (suc n) ms)
    (lt-leb next n (omega arith)))
    ∙ below_no_conflict s next (suc n) ms (omega (arith, below))

pub empty_no_conflict : (s : Store) (pairs : List (ℕ × Message)) → s ≡ finite.empty → first_conflict s pairs ≡ None
empty_no_conflict s [] empty = refl
empty_no_conflict s (pair ∷ pairs) empty =
    let none : finite.get s pair.0 ≡ None = ap (λ (t : Store). finite.get t pair.0) empty
    ∙ finite.get-empty nat_cmp pair.0 in
    cond-false (differs (finite.get s pair.0) pair.1) (Some pair.0) (first_conflict s pairs)
    (ap (λ (o : Option Message). differs o pair.1) none) ∙ empty_no_conflict s pairs empty

-- Nor has one if no slot of its messages from `next` on has a message.
pub clear_no_conflict : (slots : List Slot) (next n top : ℕ) (ms : List Message) → n + length ms ≡ top →
    AreEmpty slots (max n next - next) (top - next) →
    first_conflict (store_of next slots) (from_next next n ms) ≡ None
clear_no_conflict slots next n top [] ends empty = refl
clear_no_conflict slots next n top (m ∷ ms) ends empty =
    let s = store_of next slots in
    let rest = from_next next (suc n) ms in
    let others : first_conflict s rest ≡ None =
    clear_no_conflict slots next (suc n) top ms (omega (arith, ends))
    (λ i low high. empty i (omega (arith, low)) high) in
    elim (cases_lt n next) [
      | inl below ↦
          ap (first_conflict s) (cond-false (leb next n) ((n, m) ∷ rest) rest (lt-leb next n below)) ∙ others
      | inr above ↦
          let none : finite.get s n ≡ None = get-slots next slots n
          ∙ cond-true (leb next n) (slot_at slots (n - next)) None (le-leb next n above)
          ∙ empty (n - next) (omega (arith, above)) (omega (arith, above, ends)) in
          ap (first_conflict s) (cond-true (leb next n) ((n, m) ∷ rest) rest (le-leb next n above))
          ∙ cond-false (differs (finite.get s n) m) (Some n) (first_conflict s rest)
          (ap (λ (o : Option Message). differs o m) none)
          ∙ others
    ]

-- Nor has one if all its numbers are greater than those of the stored messages.
pub ahead_no_conflict : (s : Store) (known next n : ℕ) (ms : List Message) →
    ((number : ℕ) (message : Message) → finite.get s number ≡ Some message → number < known) → known ≤ n →
    first_conflict s (from_next next n ms) ≡ None
ahead_no_conflict s known next n [] below ahead = refl
ahead_no_conflict s known next n (m ∷ ms) below ahead =
    let rest = from_next next (suc n) ms in
    let others : first_conflict s rest ≡ None =
    ahead_no_conflict s known next (suc n) ms below (omega (arith, ahead)) in
    let none : finite.get s n ≡ None =
    elim (finite.get s n) as (λ (o : Option Message). finite.get s n ≡ o → o ≡ None) [
      | None ↦ λ _. refl
      | Some message ↦ λ is. absurd (omega (arith, below n message is, ahead))
    ] refl in
    elim (cases_lt n next) [
      | inl low ↦ ap (first_conflict s) (cond-false (leb next n) ((n, m) ∷ rest) rest (lt-leb next n low)) ∙ others
      | inr high ↦
          ap (first_conflict s) (cond-true (leb next n) ((n, m) ∷ rest) rest (le-leb next n high))
          ∙ cond-false (differs (finite.get s n) m) (Some n) (first_conflict s rest)
          (ap (λ (o : Option Message). differs o m) none)
          ∙ others
    ]

pub known_no_conflict : (v : View) (n : ℕ) (ms : List Message) → IsWellFormed v → v.known ≤ n →
    first_conflict v.store (from_next v.next n ms) ≡ None
known_no_conflict v n ms well ahead =
    ahead_no_conflict v.store v.known v.next n ms (λ number message at. (well.stored number message at).2) ahead
