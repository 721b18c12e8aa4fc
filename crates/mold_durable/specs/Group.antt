-- The messages that wait to be committed, in the form in which they are written.
use Rattle.std.specs.Prelude.{◌≡◌, ◌⊎◌, ℕ, zero, suc, ◌<◌, Bool, true, false, List, [], ◌∷◌, ◌++◌, length, take, drop}
use Rattle.std.specs.List.{AllByRecursion}
use Rattle.byteorder.specs.Endian.{big_number}
use Rattle.mold_wire.specs.declared.block.TheConstants.{MAX_MESSAGE}
use Rattle.mold_session.specs.Journal.{IsWithin}
use Rattle.mold_session.specs.Records.{records}

-- A group of messages that are committed together.
pub record GroupState : Type 0 where
  -- the messages, in order
  pub messages : List (List ℕ)
  -- whether the closing record follows them
  pub closes : Bool

-- The messages of the first `count` records of the bytes.
unfoldable pub messages_in : ℕ → List ℕ → List (List ℕ)
messages_in zero bytes = []
messages_in (suc count) bytes =
    take (big_number 2 (drop 2 bytes)) (drop 4 bytes)
    ∷ messages_in count (drop (big_number 2 (drop 2 bytes)) (drop 4 bytes))

-- The closing record without its last byte, or nothing if the session is not closed.
abbrev pub closing : Bool → List ℕ
closing true = 1 ∷ 1 ∷ []
closing false = []

-- The bytes that a group keeps after its records. They are the closing record if the group closes the session.
-- Otherwise the first of them is the shut gate after the records.
abbrev pub group_end : Bool → List ℕ
group_end true = 1 ∷ 1 ∷ 0 ∷ []
group_end false = 0 ∷ 1 ∷ 0 ∷ []

-- The first of these bytes, which is the gate after the records.
abbrev pub last_gate_of : Bool → ℕ
last_gate_of true = 1
last_gate_of false = 0

-- The bytes of a group of `count` messages.
pub record IsGroup (count : ℕ) (closes : Bool) (bytes : List ℕ) : Type 0 where
  pub counted : count ≡ length (messages_in count bytes)
  pub each : AllByRecursion (IsWithin MAX_MESSAGE) (messages_in count bytes)
  pub parts : bytes ≡ records (messages_in count bytes) ++ group_end closes

-- The group has a message or closes the session.
abbrev pub HasRecord : GroupState → Type 0
HasRecord group = (0 < length group.messages) ⊎ (group.closes ≡ true)

-- The text is what follows the first gate of the group's records, with the gate that follows them. The first gate is
-- open.
abbrev pub IsTextOf : GroupState → List ℕ → Type 0
IsTextOf group text = 1 ∷ text ≡ records group.messages ++ (closing group.closes ++ 0 ∷ [])
