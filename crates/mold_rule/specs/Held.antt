-- Messages by their numbers, and where the messages of a packet differ from stored ones.
use Rattle.std.specs.Prelude.{ℕ, suc, Bool, false, not, List, [], ◌∷◌, Option, None, Some, if◌then◌else◌}
use Rattle.std.specs.FinMap as finite
use Rattle.std.specs.Ordering.{nat_cmp}
use Rattle.std.specs.Str.{bytes_eq}

-- The data of a message.
abbrev pub Message : Type 0
Message = List ℕ

-- Stored messages, by number.
abbrev pub Store : Type 0
Store = finite.FinMap nat_cmp Message

-- The messages paired with consecutive numbers, starting with `number`.
abbrev pub numbered : ℕ → List Message → List (ℕ × Message)
numbered number [] = []
numbered number (message ∷ messages) = (number, message) ∷ numbered (suc number) messages

-- Whether a message is stored and differs from `message`.
abbrev pub differs : Option Message → Message → Bool
differs None message = false
differs (Some held) message = not (bytes_eq held message)

-- The least number at which one of the numbered messages differs from the stored message with that number.
abbrev pub first_conflict : Store → List (ℕ × Message) → Option ℕ
first_conflict store [] = None
first_conflict store (pair ∷ pairs) =
    if differs (finite.get store pair.0) pair.1 then Some pair.0 else first_conflict store pairs
