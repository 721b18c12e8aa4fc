-- What `mold dump --follow` prints for a list of messages that follows others.
use Rattle.std.specs.Prelude.{◌≡◌, ℕ, ◌+◌, List, [], ◌∷◌, ◌++◌, Bool, ◌&&◌, if◌then◌else◌, Option, None, Some}
use Rattle.mold_session.specs.declared.error.FileError.TheVariants.{Memory}
use Rattle.mold_show.specs.Dump.{has_unprintable, is_dumped, next_text}
use Rattle.mold_show.specs.declared.dump_fault.DumpFault.{DumpFault}
use Rattle.mold_show.specs.declared.dump_fault.DumpFault.TheVariants.{Empty, File}
use Rattle.mold_show.specs.declared.dump_options.DumpOptions.{DumpOptions}

-- A message that follows `before` others is asked for, and it cannot be printed.
abbrev pub is_refused : DumpOptions → ℕ → List ℕ → Bool
is_refused options before message = is_dumped options before && has_unprintable options.format (message ∷ [])

-- The bytes in the output of messages that follow `before` others, up to the first one that is refused.
unfoldable pub list_text : DumpOptions → ℕ → List (List ℕ) → List ℕ
list_text options before [] = []
list_text options before (message ∷ messages) =
    if is_refused options before message then []
    else next_text options before message ++ list_text options (before + 1) messages

-- The number of the first one that is refused of messages that follow `before` others, if there is one.
unfoldable pub first_refused : DumpOptions → ℕ → List (List ℕ) → Option ℕ
first_refused options before [] = None
first_refused options before (message ∷ messages) =
    if is_refused options before message then Some (before + 1) else first_refused options (before + 1) messages

-- The text begins with `front`.
pub record HasFront (front text : List ℕ) : Type 0 where
  pub more : List ℕ
  pub parts : text ≡ front ++ more

-- What is appended to an empty text for messages that follow `before` others, and why it ends before the last one. If
-- an allocation fails, it is a prefix of the text for all.
abbrev pub ListsUntil : DumpOptions → ℕ → List (List ℕ) → List ℕ → DumpFault → Type 0
ListsUntil options before messages text (Empty number) =
    (text ≡ list_text options before messages) × (first_refused options before messages ≡ Some number)
ListsUntil options before messages text (File error) =
    (error ≡ Memory) × HasFront text (list_text options before messages)
