-- The comparison of a packet with an audit.
use Rattle.std.proofs.Common.{◌≡◌, ℕ, ◌+◌, ◌<◌, ◌≤◌, true, false, List, [], ◌∷◌, refl, sym, ap, ◌∙◌, inl, inr, arith}
use Rattle.std.specs.Prelude.{Option, Some, None}
use Rattle.std.proofs.lemmas.Bool.{cases_lt, cases_order, eqb-false, eqb-true, not-false, not-true}
use Rattle.std.proofs.lemmas.Option.{none-some, same_Some}
use Rattle.std.proofs.lemmas.Bool.Decides.{nat_tests}
use Rattle.mold_wire.specs.Truth.{message_at}
use Rattle.mold_audit.specs.Digest.{digest}
use Rattle.mold_audit.specs.Kept.{Contradicts, differs, kept}
use Rattle.mold_audit.specs.declared.audit.Audit.{Audit}
use Rattle.mold_audit.proofs.NoteLemmas.{kept_past, message_below, message_first, message_next}

-- A digest that differs is kept.
differing :
    (o : Option ℕ) (message : List ℕ) → differs o message ≡ true →
    (delivered : ℕ) × (o ≡ Some delivered) × (delivered ≡ digest message → ⊥)
differing None message is = cc
differing (Some delivered) message is = (delivered, refl, eqb-false delivered (digest message) (not-true _ is))

-- A digest that is kept and doesn't differ is the message's.
agreeing :
    (o : Option ℕ) (message : List ℕ) (delivered : ℕ) → differs o message ≡ false → o ≡ Some delivered →
    delivered ≡ digest message
agreeing None message delivered is noted = absurd (none-some delivered noted)
agreeing (Some other) message delivered is noted =
    sym (same_Some other delivered noted) ∙ eqb-true other (digest message) (not-false _ is)

-- No number of a packet is below its first one.
pub none_below : (a : Audit) (first : ℕ) (messages : List (List ℕ)) (number : ℕ) → number < first →
    Contradicts a first messages number → ⊥
none_below a first messages number below is =
    none-some is.message (sym (message_below first messages number below) ∙ is.brought)

pub none_past : (a : Audit) (first : ℕ) (messages : List (List ℕ)) (number : ℕ) → a.next ≤ number →
    Contradicts a first messages number → ⊥
none_past a first messages number past is =
    none-some is.delivered (sym (kept_past a.slots.items a.next number past) ∙ is.noted)

none_in : (first number : ℕ) (message : List ℕ) → message_at first [] number ≡ Some message → ⊥
none_in first number message is = grind (arith, nat_tests)

pub none_without_messages : (a : Audit) (first number : ℕ) → Contradicts a first [] number → ⊥
none_without_messages a first number is = none_in first number is.message is.brought

-- The first message of a packet contradicts the audit.
pub contradicts_here : (a : Audit) (first : ℕ) (message : List ℕ) (messages : List (List ℕ)) →
    differs (kept a first) message ≡ true → Contradicts a first (message ∷ messages) first
contradicts_here a first message messages is =
    let found = differing (kept a first) message is in
    record {
      message = message;
      brought = message_first first message messages first refl;
      delivered = found.0;
      noted = found.1;
      other = found.2;
    }

-- A later message contradicts the audit.
pub contradicts_later : (a : Audit) (first : ℕ) (message : List ℕ) (messages : List (List ℕ)) (number : ℕ) →
    Contradicts a (first + 1) messages number → Contradicts a first (message ∷ messages) number
contradicts_later a first message messages number is =
    elim (cases_lt number (first + 1)) [
      | inl below ↦ absurd (none_below a (first + 1) messages number below is)
      | inr above ↦ record {
        message = is.message;
        brought = message_next first message messages number (omega arith) ∙ is.brought;
        delivered = is.delivered;
        noted = is.noted;
        other = is.other;
      }
    ]

-- If the first message doesn't contradict the audit, a later one does.
pub contradicts_after : (a : Audit) (first : ℕ) (message : List ℕ) (messages : List (List ℕ)) (number : ℕ) →
    differs (kept a first) message ≡ false → Contradicts a first (message ∷ messages) number →
    Contradicts a (first + 1) messages number
contradicts_after a first message messages number agrees is =
    elim (cases_order number first) [
      | inl same ↦
          let noted = ap (kept a) (sym same) ∙ is.noted in
          let brought = sym (message_first first message messages number same) ∙ is.brought in
          absurd (is.other (agreeing (kept a first) message is.delivered agrees noted
          ∙ ap digest (same_Some message is.message brought)))
      | inr (inl below) ↦ absurd (none_below a first (message ∷ messages) number below is)
      | inr (inr above) ↦ record {
        message = is.message;
        brought = sym (message_next first message messages number above) ∙ is.brought;
        delivered = is.delivered;
        noted = is.noted;
        other = is.other;
      }
    ]
