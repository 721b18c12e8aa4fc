-- The reasons why a packet is refused, by what is known of its session, in order of precedence.
use Rattle.std.specs.Prelude.{◌≡◌, ◌≤◌, ◌<◌, ◌^◌, ℕ, Bool, nat_lt, not, ◌==◌, if◌then◌else◌, List, [], ◌∷◌}
use Rattle.std.specs.Prelude.{Option, None, Some}
use Rattle.std.specs.Str.{bytes_eq}
use Rattle.mold_wire.specs.Packet.{top_of}
use Rattle.mold_wire.specs.declared.limits.TheConstants.{MAX_NUMBER}
use Rattle.mold_wire.specs.declared.packet.Packet.{Packet}
use Rattle.mold_wire.specs.declared.packet.Body.{Body}
use Rattle.mold_wire.specs.declared.packet.Body.TheVariants.{Data, Heartbeat, End}
use Rattle.mold_rule.specs.declared.refusal.Refusal.{Refusal}
use Rattle.mold_rule.specs.declared.refusal.Refusal.TheVariants.{WrongSession, SequenceZero, PastLast}
use Rattle.mold_rule.specs.declared.refusal.Refusal.TheVariants.{EndConflict, EndBelow, PastEnd, Conflict}

-- The refusal `refusal`, if `refused` is true.
abbrev pub refuse_if : Bool → Refusal → Option Refusal
refuse_if refused refusal = if refused then Some refusal else None

-- `WrongSession`, if the packet belongs to another session than the known one.
abbrev pub wrong_session : Option (List ℕ) → List ℕ → Option Refusal
wrong_session None name = None
wrong_session (Some session) name = refuse_if (not (bytes_eq name session)) WrongSession

-- `SequenceZero`, if the packet's sequence number is 0.
abbrev pub sequence_zero : Packet → Option Refusal
sequence_zero p = refuse_if (p.sequence == 0) SequenceZero

-- `PastLast`, if the packet's top is above `MAX_NUMBER`. So a packet whose last message has the number
-- `MAX_NUMBER` is refused.
abbrev pub past_last : Packet → Option Refusal
past_last p = refuse_if (nat_lt MAX_NUMBER (top_of p)) PastLast

-- `EndConflict`, if the packet is an end packet and the known end of the session is another number.
abbrev pub end_conflict : Body → ℕ → Option ℕ → Option Refusal
end_conflict (Data messages) sequence ended = None
end_conflict Heartbeat sequence ended = None
end_conflict End sequence None = None
end_conflict End sequence (Some end) = refuse_if (not (sequence == end)) (EndConflict end)

-- `EndBelow`, if the packet is an end packet and its number is below `known`.
abbrev pub end_below : Body → ℕ → ℕ → Option Refusal
end_below (Data messages) sequence known = None
end_below Heartbeat sequence known = None
end_below End sequence known = refuse_if (nat_lt sequence known) (EndBelow known)

-- `PastEnd`, if the packet is a data packet or a heartbeat and its top is above the known end of the session.
abbrev pub past_end : Option ℕ → Body → ℕ → Option Refusal
past_end None body top = None
past_end (Some end) (Data messages) top = refuse_if (nat_lt end top) (PastEnd end)
past_end (Some end) Heartbeat top = refuse_if (nat_lt end top) (PastEnd end)
past_end (Some end) End top = None

-- `Conflict`, if a message of the packet differs from the stored message with the same number.
abbrev pub conflict_at : Option ℕ → Option Refusal
conflict_at None = None
conflict_at (Some number) = Some (Conflict number)

-- The refusals of a packet in order of precedence, each present if it applies. `session` and `ended` are the
-- name and the end of the session, if they are known. `known` is the greatest top of the packets accepted so
-- far. `differs` is the least number at which a message of the packet differs from the stored one.
abbrev pub refusals : Option (List ℕ) → ℕ → Option ℕ → Option ℕ → Packet → List (Option Refusal)
refusals session known ended differs p =
    wrong_session session p.session.0
    ∷ sequence_zero p
    ∷ past_last p
    ∷ end_conflict p.body p.sequence ended
    ∷ end_below p.body p.sequence known
    ∷ past_end ended p.body (top_of p)
    ∷ conflict_at differs
    ∷ []

-- The first refusal of the list that is present.
abbrev pub first_some : List (Option Refusal) → Option Refusal
first_some [] = None
first_some (None ∷ refusals) = first_some refusals
first_some (Some refusal ∷ refusals) = Some refusal

-- The refusal of a packet: the first one that applies, or none.
abbrev pub refusal_of : Option (List ℕ) → ℕ → Option ℕ → Option ℕ → Packet → Option Refusal
refusal_of session known ended differs p = first_some (refusals session known ended differs p)

-- No refusal applies that depends only on the packet's header and on its number of messages.
pub record IsAdmitted (session : Option (List ℕ)) (known : ℕ) (ended : Option ℕ) (p : Packet) : Type 0 where
  -- The packet belongs to the known session.
  pub named : (name : List ℕ) → session ≡ Some name → p.session.0 ≡ name
  -- The sequence number is at least 1, and the top is at most `MAX_NUMBER`.
  pub first : 1 ≤ p.sequence
  pub last : top_of p < 2 ^ 64
  -- An end packet reports the known end, and its number is at least `known`.
  pub same_end : p.body ≡ End → (end : ℕ) → ended ≡ Some end → p.sequence ≡ end
  pub above : p.body ≡ End → known ≤ p.sequence
  -- The packet's top is at most the known end.
  pub within : (end : ℕ) → ended ≡ Some end → top_of p ≤ end
