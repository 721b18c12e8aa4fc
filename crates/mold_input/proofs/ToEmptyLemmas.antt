-- The entries of an input of blocks that ends before its first empty block.
use Rattle.std.proofs.Common.{arith, ◌≡◌, ◌∙◌, ℕ, ◌<◌, List, [], ◌∷◌, ◌++◌, length}
use Rattle.std.proofs.Common.{Option, None, Some, Err, ap, sym, refl}
use Rattle.std.specs.Io.KnownBytes.{prepend_known}
use Rattle.mold_input.specs.Blocks.{block_entries}
use Rattle.mold_input.specs.BlocksToEmpty.{before_empty, last_of, to_empty_entries}
use Rattle.mold_input.specs.Entries.{Entry, GivesNext, known_entries}
use Rattle.mold_input.specs.declared.next.Next.{Next}
use Rattle.mold_input.specs.declared.next.Next.TheVariants.{Message, Fault, End}
use Rattle.mold_input.proofs.BlockLemmas.{first_entries}

-- Before an empty block there are no entries.
pub none_before : (rest : List ℕ) → to_empty_entries (0 ∷ 0 ∷ rest) ≡ []
none_before rest = ap before_empty (first_entries (0 ∷ 0 ∷ rest) (omega arith))

-- A message that is not empty is the next entry.
pub gives_more : (known left : Option (List ℕ)) (message : List ℕ) → 0 < length message →
    GivesNext (known_entries block_entries known) (known_entries block_entries left) Message message →
    GivesNext (known_entries to_empty_entries known) (known_entries to_empty_entries left) Message message
gives_more None left message some gives = tt
gives_more (Some bytes) None message some gives = absurd gives
gives_more (Some bytes) (Some more) [] some gives = absurd (omega arith)
gives_more (Some bytes) (Some more) (byte ∷ message) some gives = ap before_empty gives

-- After anything else no entry remains.
pub gives_last : (known left : Option (List ℕ)) (unread : List ℕ) (next : Next) (message : List ℕ) →
    (next ≡ Message → length message ≡ 0) →
    GivesNext (known_entries block_entries known) (known_entries block_entries (prepend_known unread left)) next
    message →
    GivesNext (known_entries to_empty_entries known)
    (known_entries to_empty_entries (prepend_known (0 ∷ 0 ∷ unread) left)) (last_of next) message
gives_last None left unread next message empty gives = tt
gives_last (Some bytes) None unread next message empty gives = absurd gives
gives_last (Some bytes) (Some more) unread Message [] empty gives = ap before_empty gives
gives_last (Some bytes) (Some more) unread Message (byte ∷ message) empty gives =
    let none = empty refl in absurd (omega (arith, none))
gives_last (Some bytes) (Some more) unread (Fault why) message empty gives =
    ap before_empty gives ∙ ap (λ (es : List Entry). Err why ∷ es) (sym (none_before (unread ++ more)))
gives_last (Some bytes) (Some more) unread End message empty gives =
    ap before_empty gives ∙ ap (λ (es : List Entry). before_empty [] ++ es) (sym (none_before (unread ++ more)))

-- Once the reader has ended, it ends again.
pub gives_none : (left : Option (List ℕ)) (unread message : List ℕ) →
    GivesNext (known_entries to_empty_entries (prepend_known (0 ∷ 0 ∷ unread) left))
    (known_entries to_empty_entries (prepend_known (0 ∷ 0 ∷ unread) left)) End message
gives_none None unread message = tt
gives_none (Some more) unread message = none_before (unread ++ more)

-- The last entry that a reader returns is not a message.
pub is_no_message : (next : Next) → last_of next ≡ Message → ⊥
is_no_message Message is = cc
is_no_message (Fault why) is = cc
is_no_message End is = cc
