-- Messages by number: what a receiver stores, and what a packet and a store have together.
use Rattle.std.specs.Prelude.{ℕ, zero, suc, ◌+◌, ◌&&◌, nat_le, nat_lt, List, [], ◌∷◌, ◌++◌, Option, None, Some, length}
use Rattle.std.specs.List.{filter}
use Rattle.std.specs.FinMap as finite
use Rattle.mold_wire.specs.declared.block.TheConstants.{LENGTH_BYTES}
pub use Rattle.mold_rule.specs.Held.{Message, Store, numbered, differs, first_conflict}

-- The bytes of messages and of the length fields of their blocks. Each message has its number.
abbrev pub entry_bytes : List (ℕ × Message) → ℕ
entry_bytes [] = 0
entry_bytes (entry ∷ entries) = LENGTH_BYTES + length entry.1 + entry_bytes entries

-- The bytes of all stored messages and of the length fields of their blocks.
abbrev pub stored_bytes : Store → ℕ
stored_bytes store = entry_bytes (finite.entries store)

-- The messages whose number is at least `next`, each with its number. The first of the messages has the number
-- `number`.
abbrev pub from_next : ℕ → ℕ → List Message → List (ℕ × Message)
from_next next number messages = filter (λ pair. nat_le next pair.0) (numbered number messages)

-- The available messages: the stored ones, and the packet's messages whose number is at least `next`.
abbrev pub available : Store → ℕ → ℕ → List Message → Store
available store next number messages = finite.from_entries (from_next next number messages ++ finite.entries store)

-- The messages with another one before them, if there is one.
abbrev pub behind_some : Option Message → List Message → List Message
behind_some None messages = []
behind_some (Some message) messages = message ∷ messages

-- The messages from `number` on, up to the first number without one, but at most `most`.
unfoldable pub run_from : (ℕ → Option Message) → ℕ → ℕ → List Message
run_from look number zero = []
run_from look number (suc most) = behind_some (look number) (run_from look (suc number) most)

-- The part of the store that is above `next` and in the window that starts there.
abbrev pub cut : Store → ℕ → ℕ → Store
cut store next window = finite.retain_keys store (λ number. nat_lt next number && nat_lt number (next + window))
