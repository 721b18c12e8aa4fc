-- A packet is not refused exactly when it is admissible and has no conflict. Memory is never the reason.
use Rattle.std.proofs.Common.{◌≡◌, ℕ, ◌+◌, ◌≤◌, Bool, true, false, eqb, List, [], ◌∷◌, length, refl, sym, ap}
use Rattle.std.proofs.Common.{subst, ◌∙◌, inl, inr, arith}
use Rattle.std.specs.Prelude.{Option, None, Some}
use Rattle.std.specs.Str.{bytes_eq}
use Rattle.std.proofs.lemmas.Bool.{true≢false, cases_lt, cond-false, not-false, not_from_true, ltb-false, le-ltb}
use Rattle.std.proofs.lemmas.Bool.{eqb-true, eqb-false, eq-eqb, ne_eqb}
use Rattle.std.proofs.lemmas.Option.{none-some, same_Some}
use Rattle.std.proofs.lemmas.Slice.Eq.{bytes_eq-Decides}
use Rattle.mold_wire.specs.Packet.{messages_of, top_of}
use Rattle.mold_wire.specs.declared.packet.Packet.{Packet}
use Rattle.mold_wire.specs.declared.packet.Body.{Body}
use Rattle.mold_wire.specs.declared.packet.Body.TheVariants.{Data, Heartbeat, End}
use Rattle.mold_rule.specs.declared.refusal.Refusal.{Refusal}
use Rattle.mold_rule.specs.declared.refusal.Refusal.TheVariants.{Malformed, WrongSession, SequenceZero, PastLast}
use Rattle.mold_rule.specs.declared.refusal.Refusal.TheVariants.{EndConflict, EndBelow, PastEnd, Conflict, Memory}
use Rattle.mold_rule.specs.Refusals.{IsAdmitted, conflict_at, end_below, end_conflict, first_some, past_end, refusal_of}
use Rattle.mold_rule.specs.Refusals.{refusals, refuse_if, wrong_session}

-- None of the refusals in the list is present.
abbrev AllNone : List (Option Refusal) → Type 0
AllNone [] = Unit {0}
AllNone (r ∷ rs) = (r ≡ None) × AllNone rs

all_none : (rs : List (Option Refusal)) → first_some rs ≡ None → AllNone rs
all_none [] none = tt
all_none (None ∷ rs) none = (refl, all_none rs none)
all_none (Some r ∷ rs) none = absurd (none-some r (sym none))

none_first : (o : Option Refusal) (rest : List (Option Refusal)) → o ≡ None → first_some rest ≡ None →
    first_some (o ∷ rest) ≡ None
none_first o rest none behind = ap (λ (x : Option Refusal). first_some (x ∷ rest)) none ∙ behind

refuse_none : (b : Bool) (r : Refusal) → refuse_if b r ≡ None → b ≡ false
refuse_none true r none = absurd (none-some r (sym none))
refuse_none false r none = refl

none_refuse : (b : Bool) (r : Refusal) → b ≡ false → refuse_if b r ≡ None
none_refuse b r none = cond-false b (Some r) None none

session_to : (o : Option (List ℕ)) (name : List ℕ) → wrong_session o name ≡ None →
    (x : List ℕ) → o ≡ Some x → name ≡ x
session_to None name none x is = absurd (none-some x is)
session_to (Some y) name none x is =
    (bytes_eq-Decides name y).0 (not-false (bytes_eq name y) (refuse_none _ _ none)) ∙ same_Some y x is

session_from : (o : Option (List ℕ)) (name : List ℕ) → ((x : List ℕ) → o ≡ Some x → name ≡ x) →
    wrong_session o name ≡ None
session_from None name same = refl
session_from (Some y) name same =
    none_refuse _ _ (not_from_true (bytes_eq name y) ((bytes_eq-Decides name y).1 (same y refl)))

same_end_to : (body : Body) (n : ℕ) (ended : Option ℕ) → end_conflict body n ended ≡ None → body ≡ End →
    (number : ℕ) → ended ≡ Some number → n ≡ number
same_end_to (Data ms) n ended none end number is = cc
same_end_to Heartbeat n ended none end number is = cc
same_end_to End n None none end number is = absurd (none-some number is)
same_end_to End n (Some e) none end number is =
    eqb-true n e (not-false (eqb n e) (refuse_none _ _ none)) ∙ same_Some e number is

same_end_from : (body : Body) (n : ℕ) (ended : Option ℕ) →
    (body ≡ End → (number : ℕ) → ended ≡ Some number → n ≡ number) → end_conflict body n ended ≡ None
same_end_from (Data ms) n ended same = refl
same_end_from Heartbeat n ended same = refl
same_end_from End n None same = refl
same_end_from End n (Some e) same = none_refuse _ _ (not_from_true (eqb n e) (eq-eqb n e (same refl e refl)))

above_to : (body : Body) (n known : ℕ) → end_below body n known ≡ None → body ≡ End → known ≤ n
above_to (Data ms) n known none end = absurd cc
above_to Heartbeat n known none end = absurd cc
above_to End n known none end = ltb-false n known (refuse_none _ _ none)

above_from : (body : Body) (n known : ℕ) → (body ≡ End → known ≤ n) → end_below body n known ≡ None
above_from (Data ms) n known above = refl
above_from Heartbeat n known above = refl
above_from End n known above = none_refuse _ _ (le-ltb n known (above refl))

-- The top of an end packet that reports the known end is not above that end.
within_to : (ended : Option ℕ) (body : Body) (n : ℕ) → past_end ended body (n + length (messages_of body)) ≡ None →
    (body ≡ End → (number : ℕ) → ended ≡ Some number → n ≡ number) →
    (number : ℕ) → ended ≡ Some number → n + length (messages_of body) ≤ number
within_to None body n none same number is = absurd (none-some number is)
within_to (Some e) (Data ms) n none same number is =
    omega (arith, ltb-false e (n + length ms) (refuse_none _ _ none), same_Some e number is)
within_to (Some e) Heartbeat n none same number is =
    omega (arith, ltb-false e (n + 0) (refuse_none _ _ none), same_Some e number is)
within_to (Some e) End n none same number is = omega (arith, same refl number is)

within_from : (ended : Option ℕ) (body : Body) (top : ℕ) → ((number : ℕ) → ended ≡ Some number → top ≤ number) →
    past_end ended body top ≡ None
within_from None body top within = refl
within_from (Some e) (Data ms) top within = none_refuse _ _ (le-ltb e top (within e refl))
within_from (Some e) Heartbeat top within = none_refuse _ _ (le-ltb e top (within e refl))
within_from (Some e) End top within = refl

from_one : (n : ℕ) → (n ≡ 0 → ⊥) → 1 ≤ n
from_one n some = elim (cases_lt 0 n) [ inl above ↦ above | inr none ↦ absurd (some (omega arith)) ]

conflict_none : (differs : Option ℕ) → conflict_at differs ≡ None → differs ≡ None
conflict_none None none = refl
conflict_none (Some number) none = absurd (none-some (Conflict number) (sym none))

-- A packet that is not refused is admissible, and none of its messages differs.
pub none_admitted : (session : Option (List ℕ)) (known : ℕ) (ended differs : Option ℕ) (p : Packet) →
    refusal_of session known ended differs p ≡ None → IsAdmitted session known ended p
none_admitted session known ended differs p none =
    let each = all_none (refusals session known ended differs p) none in
    let same = same_end_to p.body p.sequence ended each.1.1.1.0 in
    record {
      named = session_to session p.session.0 each.0;
      first = from_one p.sequence (eqb-false p.sequence 0 (refuse_none _ _ each.1.0));
      last = omega (arith, ltb-false 18446744073709551615 (top_of p) (refuse_none _ _ each.1.1.0));
      same_end = same;
      above = above_to p.body p.sequence known each.1.1.1.1.0;
      within = within_to ended p.body p.sequence each.1.1.1.1.1.0 same;
    }

pub none_differs : (session : Option (List ℕ)) (known : ℕ) (ended differs : Option ℕ) (p : Packet) →
    refusal_of session known ended differs p ≡ None → differs ≡ None
none_differs session known ended differs p none =
    conflict_none differs (all_none (refusals session known ended differs p) none).1.1.1.1.1.1.0

-- An admissible packet without a message that differs is not refused.
pub none_refused : (session : Option (List ℕ)) (known : ℕ) (ended : Option ℕ) (p : Packet) →
    IsAdmitted session known ended p → refusal_of session known ended None p ≡ None
none_refused session known ended p is =
    none_first _ _ (session_from session p.session.0 is.named)
    (none_first _ _ (none_refuse _ _ (ne_eqb p.sequence 0 (λ e. omega (arith, e, is.first))))
    (none_first _ _ (none_refuse _ _ (le-ltb 18446744073709551615 (top_of p) (omega (arith, is.last))))
    (none_first _ _ (same_end_from p.body p.sequence ended is.same_end)
    (none_first _ _ (above_from p.body p.sequence known is.above)
    (none_first _ _ (within_from ended p.body (top_of p) is.within) refl)))))

-- The reason of the refusal is not memory.
abbrev is_other : Refusal → Bool
is_other (Malformed error) = true
is_other WrongSession = true
is_other SequenceZero = true
is_other PastLast = true
is_other (EndConflict end) = true
is_other (EndBelow known) = true
is_other (PastEnd end) = true
is_other (Conflict number) = true
is_other Memory = false

abbrev Other : Option Refusal → Type 0
Other None = Unit {0}
Other (Some refusal) = is_other refusal ≡ true

refused_other : (b : Bool) (r : Refusal) → is_other r ≡ true → Other (refuse_if b r)
refused_other true r other = other
refused_other false r other = tt

wrong_session_other : (session : Option (List ℕ)) (name : List ℕ) → Other (wrong_session session name)
wrong_session_other None name = tt
wrong_session_other (Some session) name = refused_other _ WrongSession refl

end_conflict_other : (body : Body) (sequence : ℕ) (ended : Option ℕ) → Other (end_conflict body sequence ended)
end_conflict_other (Data messages) sequence ended = tt
end_conflict_other Heartbeat sequence ended = tt
end_conflict_other End sequence None = tt
end_conflict_other End sequence (Some end) = refused_other _ (EndConflict end) refl

end_below_other : (body : Body) (sequence known : ℕ) → Other (end_below body sequence known)
end_below_other (Data messages) sequence known = tt
end_below_other Heartbeat sequence known = tt
end_below_other End sequence known = refused_other _ (EndBelow known) refl

past_end_other : (ended : Option ℕ) (body : Body) (top : ℕ) → Other (past_end ended body top)
past_end_other None body top = tt
past_end_other (Some end) (Data messages) top = refused_other _ (PastEnd end) refl
past_end_other (Some end) Heartbeat top = refused_other _ (PastEnd end) refl
past_end_other (Some end) End top = tt

conflict_other : (number : Option ℕ) → Other (conflict_at number)
conflict_other None = tt
conflict_other (Some number) = refl

abbrev AllOther : List (Option Refusal) → Type 0
AllOther [] = Unit {0}
AllOther (r ∷ rs) = Other r × AllOther rs

first_other : (rs : List (Option Refusal)) → AllOther rs → Other (first_some rs)
first_other [] all = tt
first_other (None ∷ rs) all = first_other rs all.1
first_other (Some r ∷ rs) all = all.0

all_other : (session : Option (List ℕ)) (known : ℕ) (ended differs : Option ℕ) (p : Packet) →
    AllOther (refusals session known ended differs p)
all_other session known ended differs p = (
  wrong_session_other session p.session.0,
  (
    refused_other _ SequenceZero refl,
    (
      refused_other _ PastLast refl,
      (
        end_conflict_other p.body p.sequence ended,
        (
          end_below_other p.body p.sequence known,
          (past_end_other ended p.body (top_of p), (conflict_other differs, tt)),
        ),
      ),
    ),
  ),
)

pub never_memory : (session : Option (List ℕ)) (known : ℕ) (ended differs : Option ℕ) (p : Packet) →
    refusal_of session known ended differs p ≡ Some Memory → ⊥
never_memory session known ended differs p is =
    true≢false (sym (subst Other is
    (first_other (refusals session known ended differs p) (all_other session known ended differs p))))
