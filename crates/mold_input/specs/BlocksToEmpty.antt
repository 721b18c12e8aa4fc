-- Message blocks that are read from an input, up to the first empty block.
use Rattle.std.specs.Prelude.{ℕ, ◌<◌, Bool, true, false, List, [], ◌∷◌, length, Ok, Err}
use Rattle.mold_input.specs.Blocks.{block_entries}
use Rattle.mold_input.specs.Entries.{Entry}
use Rattle.mold_input.specs.declared.input_fault.InputFault.TheVariants.{Cut}
use Rattle.mold_input.specs.declared.next.Next.{Next}
use Rattle.mold_input.specs.declared.next.Next.TheVariants.{Message, Fault, End}

-- The entries before the first empty message. An entry that is not a message is the last one. If the entries end
-- without an empty message, `Cut` follows them.
abbrev pub before_empty : List Entry → List Entry
before_empty [] = Err Cut ∷ []
before_empty (Err why ∷ entries) = Err why ∷ []
before_empty (Ok [] ∷ entries) = []
before_empty (Ok (byte ∷ bytes) ∷ entries) = Ok (byte ∷ bytes) ∷ before_empty entries

-- The entries of an input of blocks that ends before its first empty block.
abbrev pub to_empty_entries : List ℕ → List Entry
to_empty_entries bytes = before_empty (block_entries bytes)

-- The message has at least one byte.
abbrev pub IsNotEmpty : List ℕ → Type 0
IsNotEmpty message = 0 < length message

-- What a reader returns last, after it read `next` from the blocks. If `next` is a message, it is an empty one.
abbrev pub last_of : Next → Next
last_of Message = End
last_of (Fault why) = Fault why
last_of End = Fault Cut

-- The unread bytes of a reader. After the reader has ended, an empty block counts as unread, so no entry remains.
abbrev pub unread_to_empty : Bool → List ℕ → List ℕ
unread_to_empty false unread = unread
unread_to_empty true unread = 0 ∷ 0 ∷ unread
