-- Which messages fit a datagram, and the longest prefix of a list of messages that fits. `IsFront` states
-- what the longest prefix is, and `front` computes it. `laws::front_law` proves that they agree.
use Rattle.std.specs.Prelude.{◌≡◌, ℕ, zero, suc, ◌+◌, ◌-◌, ◌≤◌, List, [], ◌∷◌, ◌++◌, length, sum_by, nat_le}
use Rattle.std.specs.Prelude.{if◌then◌else◌}
use Rattle.mold_wire.specs.declared.header.TheConstants.{HEADER_LENGTH}

-- The length in bytes of a packet with these messages: a header, and two bytes plus the data for each
-- message.
unfoldable pub packet_length : List (List ℕ) → ℕ
packet_length messages = HEADER_LENGTH + sum_by (λ message. 2 + length message) messages

-- A packet with these messages is at most `limit` bytes long.
abbrev pub Fits : ℕ → List (List ℕ) → Type 0
Fits limit messages = packet_length messages ≤ limit

-- `found` is the longest prefix of `messages` that has at most `most` messages and fits the limit.
pub record IsFront (limit : ℕ) (messages : List (List ℕ)) (most : ℕ) (found : List (List ℕ)) : Type 0 where
  -- The messages after the prefix.
  pub behind : List (List ℕ)
  pub parts : messages ≡ found ++ behind
  pub few : length found ≤ most
  pub fits : Fits limit found
  pub longest : (other more : List (List ℕ)) →
      messages ≡ other ++ more → length other ≤ most → Fits limit other → length other ≤ length found

-- The longest prefix of `messages` that has at most `most` messages and fits the limit. It takes messages
-- from the first on until `most` are taken or the next one does not fit.
unfoldable pub front : ℕ → List (List ℕ) → ℕ → List (List ℕ)
front limit messages zero = []
front limit [] (suc most) = []
front limit (message ∷ messages) (suc most) =
    if nat_le (packet_length (message ∷ [])) limit
    then message ∷ front (limit - (2 + length message)) messages most
    else []
