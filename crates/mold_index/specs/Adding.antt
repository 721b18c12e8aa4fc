-- How a message is appended to an index.
use Rattle.std.specs.Prelude.{◌≡◌, ℕ, ◌+◌, ◌-◌, ◌<◌, ◌≤◌, Bool, true, false, ◌==◌, ◌||◌, ◌&&◌, List, [], ◌∷◌}
use Rattle.std.specs.Prelude.{◌++◌, length, nat_le, nat_lt, slice_get}
use Rattle.std.specs.Prelude.{take}
use Rattle.std.specs.Prelude.{Option, None, Some, if◌then◌else◌}
use Rattle.mold_session.specs.declared.journal.TheConstants.{MAX_MESSAGES}
use Rattle.mold_index.specs.Index.{IndexState}
use Rattle.mold_index.specs.declared.entries.TheConstants.{STRIDE_BYTES, STRIDE_MESSAGES}
use Rattle.mold_index.specs.declared.entry.Entry.{Entry}
use Rattle.mold_index.specs.declared.error.IndexError.{IndexError}
use Rattle.mold_index.specs.declared.error.IndexError.TheVariants.{Full}
use Rattle.mold_index.specs.declared.index.TheConstants.{MAX_END}
use Rattle.mold_index.specs.declared.room.Room.{Room}
use Rattle.mold_index.specs.declared.room.TheConstants.{MOST_BYTES}

-- Whether the index has no room for another message, of `len` bytes.
abbrev pub is_full : IndexState → ℕ → Bool
is_full index len = (index.count == MAX_MESSAGES) || nat_lt MAX_END (index.end + (index.layout.overhead + len))

-- Why a message of `len` bytes can't be appended. If there is no reason, only an allocation can still fail.
abbrev pub push_refusal : IndexState → ℕ → Option IndexError
push_refusal index len = if is_full index len then Some Full else None

-- Whether a message needs an entry: it is the first one, or far from the last entry.
abbrev pub is_due : Option Entry → Entry → Bool
is_due None next = true
is_due (Some last) next =
    nat_le STRIDE_MESSAGES (next.number - last.number) || nat_le STRIDE_BYTES (next.offset - last.offset)

-- The entry for the next message.
abbrev pub next_entry : IndexState → Entry
next_entry index = record { number = index.count + 1; offset = index.end }

-- Whether the next message needs an entry.
abbrev pub needs_entry : IndexState → Bool
needs_entry index = is_due (slice_get index.entries (length index.entries - 1)) (next_entry index)

-- The entries, and one for the next message if it needs one.
abbrev pub with_entry : List Entry → Entry → List Entry
with_entry entries next =
    if is_due (slice_get entries (length entries - 1)) next then entries ++ next ∷ [] else entries

-- Whether the entry is above message `number`.
abbrev pub is_above : ℕ → Option Entry → Bool
is_above number None = false
is_above number (Some entry) = nat_lt number entry.number

-- The entries, without the last one if it is above message `number`.
abbrev pub without_above : ℕ → List Entry → List Entry
without_above number entries =
    if is_above number (slice_get entries (length entries - 1)) then take (length entries - 1) entries else entries

-- The offset of an entry, or `end` if there is no entry.
abbrev pub offset_or : Option Entry → ℕ → ℕ
offset_or None end = end
offset_or (Some entry) end = entry.offset

-- Whether a message is taken without a check that follows `count` messages and begins at offset `end`.
abbrev pub has_room : Room → ℕ → ℕ → Bool
has_room room count end = nat_lt count room.count && nat_lt end room.end

-- Each of these messages needs no entry after the entries, and the file is not full.
pub record IsRoom (entries : List Entry) (room : Room) : Type 0 where
  pub few : room.count ≤ MAX_MESSAGES
  pub below : room.end + MOST_BYTES ≤ MAX_END
  pub near : (count end : ℕ) → count < room.count → end < room.end →
      is_due (slice_get entries (length entries - 1)) (record { number = count + 1; offset = end }) ≡ false
