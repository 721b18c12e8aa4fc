-- The refusals of a packet by a view.
use Rattle.std.proofs.Common.{◌≡◌, ℕ, suc, ◌+◌, false, not, leb, List, [], ◌∷◌, refl, sym, ap, subst, ◌∙◌}
use Rattle.std.proofs.Common.{inl, inr, arith}
use Rattle.std.specs.Prelude.{Option, None, Some, Result, Ok, Err, slice_get}
use Rattle.std.specs.FinMap as finite
use Rattle.std.proofs.lemmas.Bool.{cases_Bool, cond-true, cond-false}
use Rattle.std.proofs.lemmas.Slice.Eq.{bytes_eq-Decides}
use Rattle.mold_wire.specs.Packet.{messages_of}
use Rattle.mold_wire.specs.declared.error.DecodeError.{DecodeError}
use Rattle.mold_wire.specs.declared.packet.Packet.{Packet}
use Rattle.mold_rule.specs.Refusals.{IsAdmitted, first_some, refusal_of, refusals}
use Rattle.mold_rule.specs.declared.refusal.Refusal.{Refusal}
use Rattle.mold_rule.specs.declared.refusal.Refusal.TheVariants.{Malformed, Memory}
use Rattle.mold_receiver.specs.Receive.{Reception, decide, receive_read, reception, refusal}
use Rattle.mold_receiver.specs.Store.{Message, Store, differs, first_conflict, from_next}
use Rattle.mold_receiver.specs.View.{View}
use Rattle.mold_receiver.proofs.StoreLemmas.{none_some}

-- The rule's law on packets that it admits.
abbrev pub Admits : Type 0
Admits = (session : Option (List ℕ)) (known : ℕ) (ended : Option ℕ) (p : Packet) →
    IsAdmitted session known ended p → refusal_of session known ended None p ≡ None

-- If a packet is admitted and differs from the store at no number, no refusal applies to it.
pub admitted_none : Admits → (v : View) (p : Packet) → IsAdmitted (Some v.session.0) v.known v.ended p →
    first_conflict v.store (from_next v.next p.sequence (messages_of p.body)) ≡ None → refusal v p ≡ None
admitted_none admits v p is same =
    ap (λ (o : Option ℕ). refusal_of (Some v.session.0) v.known v.ended o p) same
    ∙ admits (Some v.session.0) v.known v.ended p is

-- None of these refusals applies.
abbrev pub AllNone : List (Option Refusal) → Type 0
AllNone [] = Unit {0}
AllNone (r ∷ rs) = (r ≡ None) × AllNone rs

all_none : (rs : List (Option Refusal)) → first_some rs ≡ None → AllNone rs
all_none [] none = tt
all_none (None ∷ rs) none = (refl, all_none rs none)
all_none (Some r ∷ rs) none = absurd (none_some (sym none))

-- If no refusal applies to a packet, each single one is none.
pub each_none : (v : View) (p : Packet) → refusal v p ≡ None →
    AllNone (refusals (Some v.session.0) v.known v.ended
    (first_conflict v.store (from_next v.next p.sequence (messages_of p.body))) p)
each_none v p none =
    all_none (refusals (Some v.session.0) v.known v.ended
    (first_conflict v.store (from_next v.next p.sequence (messages_of p.body))) p) none

-- The rule's law on `Memory`.
abbrev pub NamesNoMemory : Type 0
NamesNoMemory = (session : Option (List ℕ)) (known : ℕ) (ended number : Option ℕ) (p : Packet) →
    refusal_of session known ended number p ≡ Some Memory → ⊥

same_refused : {r s : Refusal} → ◌≡◌ {A = Result Reception Refusal} (Err r) (Err s) → r ≡ s
same_refused e = cc

ok_err : {r : Reception} {s : Refusal} → ◌≡◌ {A = Result Reception Refusal} (Ok r) (Err s) → ⊥
ok_err e = cc

malformed_memory : {e : DecodeError} → ◌≡◌ {A = Refusal} (Malformed e) Memory → ⊥
malformed_memory e = cc

decided : (o : Option Refusal) (r : Reception) (x : Refusal) → decide o r ≡ Err x → o ≡ Some x
decided None r x is = absurd (ok_err is)
decided (Some y) r x is = ap (λ (z : Refusal). Some z) (same_refused is)

-- The receiving rule never refuses with `Memory`.
pub never_memory : NamesNoMemory → (v : View) (read : Result Packet DecodeError) → receive_read v read ≡ Err Memory → ⊥
never_memory never v (Ok p) is =
    never (Some v.session.0) v.known v.ended
    (first_conflict v.store (from_next v.next p.sequence (messages_of p.body))) p
    (decided (refusal v p) (reception v p) Memory is)
never_memory never v (Err error) is = malformed_memory (same_refused is)

same_message : (o : Option Message) (m : Message) → ((x : Message) → o ≡ Some x → x ≡ m) → differs o m ≡ false
same_message None m same = refl
same_message (Some x) m same = ap not ((bytes_eq-Decides x m).1 (same x refl))

-- Messages that agree with the store at each number have no conflict.
pub no_first_conflict : (s : Store) (next n : ℕ) (ms : List Message)
    → ((i : ℕ) (m x : Message) → slice_get ms i ≡ Some m → finite.get s (n + i) ≡ Some x → x ≡ m)
    → first_conflict s (from_next next n ms) ≡ None
no_first_conflict s next n [] agree = refl
no_first_conflict s next n (m ∷ ms) agree =
    let here : n + 0 ≡ n = omega arith in
    let rest = no_first_conflict s next (suc n) ms (λ i k x is stored.
    let at : suc n + i ≡ n + suc i = omega arith in
    agree (suc i) k x is (subst (λ (q : ℕ). finite.get s q ≡ Some x) at stored))
    in
    elim (cases_Bool (leb next n)) [
      | inl from ↦
          ap (first_conflict s)
          (cond-true (leb next n) ((n, m) ∷ from_next next (suc n) ms) (from_next next (suc n) ms) from)
          ∙ cond-false (differs (finite.get s n) m) (Some n) (first_conflict s (from_next next (suc n) ms))
          (same_message (finite.get s n) m
          (λ x stored. agree 0 m x refl (subst (λ (q : ℕ). finite.get s q ≡ Some x) (sym here) stored)))
          ∙ rest
      | inr below ↦
          ap (first_conflict s)
          (cond-false (leb next n) ((n, m) ∷ from_next next (suc n) ms) (from_next next (suc n) ms) below) ∙ rest
    ]
