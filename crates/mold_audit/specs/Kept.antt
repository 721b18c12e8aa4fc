-- The digests that an audit keeps.
use Rattle.std.specs.Prelude.{◌≡◌, ℕ, ◌+◌, ◌<◌, ◌≤◌, ◌%◌, ◌&&◌, Bool, List, [], ◌∷◌, Option, None, Some}
use Rattle.std.specs.Prelude.{if◌then◌else◌, length, nat_eq, nat_le, nat_lt, slice_index, false, not}
use Rattle.std.specs.Option.{option_map, option_or}
use Rattle.mold_wire.specs.Truth.{message_at}
use Rattle.mold_audit.specs.Digest.{digest}
use Rattle.mold_audit.specs.declared.audit.Audit.{Audit}

-- What the slot of this number has. The numbers take the slots in turn.
abbrev pub slot_at : List ℕ → ℕ → ℕ
slot_at slots number = slice_index slots (number % length slots)

-- The digest that a slot has, or none if it has 0. No digest is 0.
abbrev pub digest_in : ℕ → Option ℕ
digest_in slot = if nat_eq slot 0 then None else Some slot

-- Whether the number is one of this many last ones below `next`.
abbrev pub is_recent : ℕ → ℕ → ℕ → Bool
is_recent size next number = nat_lt number next && nat_le next (number + size)

-- The digest that is kept of the message with this number, if `next` is one more than the greatest number noted.
abbrev pub kept_in : List ℕ → ℕ → ℕ → Option ℕ
kept_in slots next number = if is_recent (length slots) next number then digest_in (slot_at slots number) else None

-- How many of the last numbers an audit keeps.
abbrev pub size_of : Audit → ℕ
size_of a = length a.slots.items

-- The digest that the audit keeps of the message with this number, if it keeps one.
abbrev pub kept : Audit → ℕ → Option ℕ
kept a number = kept_in a.slots.items a.next number

-- The digest of the message with this number, if the first of the messages has the number `first`.
abbrev pub digest_at : ℕ → List (List ℕ) → ℕ → Option ℕ
digest_at first messages number = option_map digest (message_at first messages number)

-- One more than the greatest number noted, after these messages were delivered. `next` is that before them. An audit
-- that keeps nothing doesn't note numbers.
abbrev pub next_after : ℕ → ℕ → ℕ → List (List ℕ) → ℕ
next_after size next first [] = next
next_after size next first (message ∷ messages) =
    if nat_eq size 0 then next else first + length (message ∷ messages)

-- These messages were delivered, the first of them with the number `first`, and the audit noted it. Of each of the last
-- numbers it keeps the digest of the message delivered now, or otherwise the one that it kept before. A number that was
-- left out has no digest.
pub record HasNoted (old new : Audit) (first : ℕ) (messages : List (List ℕ)) : Type 0 where
  pub size : size_of new ≡ size_of old
  pub next : new.next ≡ next_after (size_of old) old.next first messages
  pub digests : (number : ℕ) → kept new number ≡ (if is_recent (size_of old) new.next number
      then option_or (digest_at first messages number) (kept old number)
      else None)

-- Whether a digest is kept, and it is not that of the message.
abbrev pub differs : Option ℕ → List ℕ → Bool
differs None message = false
differs (Some delivered) message = not (nat_eq delivered (digest message))

-- Among the messages of a packet, the first of which has the number `first`, the one with this number contradicts the
-- audit: another digest is kept of this number.
pub record Contradicts (a : Audit) (first : ℕ) (messages : List (List ℕ)) (number : ℕ) : Type 0 where
  pub message : List ℕ
  pub brought : message_at first messages number ≡ Some message
  pub delivered : ℕ
  pub noted : kept a number ≡ Some delivered
  pub other : delivered ≡ digest message → ⊥

-- No message of the packet contradicts the audit.
abbrev pub AgreesWith : Audit → ℕ → List (List ℕ) → Type 0
AgreesWith a first messages = (number : ℕ) → Contradicts a first messages number → ⊥

-- This is the least number of the packet with which a message contradicts the audit.
pub record IsContradiction (a : Audit) (first : ℕ) (messages : List (List ℕ)) (number : ℕ) : Type 0 where
  pub contradicts : Contradicts a first messages number
  pub least : (earlier : ℕ) → earlier < number → Contradicts a first messages earlier → ⊥

-- The slots of the numbers from `from` to just below `at` were emptied. Those of lower numbers are the same, as far as
-- these are among the last ones below `to`, as many as there are slots.
pub record AreEmptied (old new : List ℕ) (from at to : ℕ) : Type 0 where
  pub size : length new ≡ length old
  pub empty : (number : ℕ) → from ≤ number → number < at → slot_at new number ≡ 0
  pub same : (number : ℕ) → number < from → to ≤ number + length old → slot_at new number ≡ slot_at old number
