-- A block that is joined from several reads.
use Rattle.std.proofs.Common.{arith, ◌≡◌, ◌∙◌, ℕ, ◌+◌, ◌-◌, ◌<◌, ◌≤◌, nat_lt, List, [], ◌∷◌, ◌++◌}
use Rattle.std.proofs.Common.{length, length-append, length-drop, length-take-le, take, drop, Option, None, Some, Ok, Err}
use Rattle.std.proofs.Common.{ap, sym, append_assoc, append-nil, inl, inr, take-append-drop, take_all}
use Rattle.std.proofs.lemmas.Bool.{cond-true, cond-false, cases_lt}
use Rattle.std.proofs.lemmas.List.{drop_all, nil_from_length}
use Rattle.std.specs.Io.KnownBytes.{Consumes, IsAtEnd, Keeps, prepend_known}
use Rattle.std.proofs.KnownBytes.{Consumes-kept, Consumes-nil, Consumes-trans}
use Rattle.byteorder.specs.Endian.{big_number}
use Rattle.mold_input.specs.Blocks.{IsPartOfBlock, block_entries, missing_of}
use Rattle.mold_input.specs.Entries.{GivesNext, known_entries}
use Rattle.mold_input.specs.declared.input_fault.InputFault.TheVariants.{Cut}
use Rattle.mold_input.specs.declared.next.Next.TheVariants.{Message, Fault, End}
use Rattle.mold_input.proofs.BlockLemmas.{less, not_less, number_front, front_entries, cut_entries, no_entries}
use Rattle.mold_input.proofs.BlockLemmas.{after_first}

-- The joined bytes were taken from the input, and are at most one block.
pub record Joining (known left : Option (List ℕ)) (joined : List ℕ) : Type 0 where
  pub read : Consumes known left joined
  pub part : IsPartOfBlock joined

-- ---- how much is missing

missing_short : (joined : List ℕ) → length joined < 2 → missing_of joined ≡ 2 - length joined
missing_short joined short = cond-true (nat_lt (length joined) 2) _ _ (less _ _ short)

missing_long : (joined : List ℕ) → 2 ≤ length joined → missing_of joined ≡ 2 + big_number 2 joined - length joined
missing_long joined long = cond-false (nat_lt (length joined) 2) _ _ (not_less _ _ long)

-- If nothing is missing, the joined bytes are a whole block.
pub record IsBlock (joined : List ℕ) : Type 0 where
  pub long : 2 ≤ length joined
  pub whole : length joined ≡ 2 + big_number 2 joined

pub nothing_missing : (joined : List ℕ) → IsPartOfBlock joined → missing_of joined ≡ 0 → IsBlock joined
nothing_missing joined part none = elim (cases_lt (length joined) 2) [
  | inl short ↦ absurd (omega (arith, short, none, missing_short joined short))
  | inr long ↦ record { long = long; whole = omega (arith, part long, none, missing_long joined long) }
]

-- If bytes are missing, the block is cut.
some_missing : (joined : List ℕ) → 0 < missing_of joined → length joined < 2 + big_number 2 joined
some_missing joined some = elim (cases_lt (length joined) 2) [
  | inl short ↦ omega (arith, short)
  | inr long ↦ omega (arith, long, some, missing_long joined long)
]

-- No more bytes were added than were missing.
part_more : (joined added : List ℕ) → IsPartOfBlock joined → length added ≤ missing_of joined →
    IsPartOfBlock (joined ++ added)
part_more joined added part few all = elim (cases_lt (length joined) 2) [
  | inl short ↦
      omega (arith, few, missing_short joined short, length-append joined added)
  | inr long ↦
      omega (
        arith,
        few,
        part long,
        missing_long joined long,
        length-append joined added,
        number_front joined added long,
      )
]

-- ---- the input

taken : (count : ℕ) (piece : List ℕ) (left : Option (List ℕ)) →
    Consumes (prepend_known piece left) (prepend_known (drop count piece) left) (take count piece)
taken count piece None = tt
taken count piece (Some bytes) =
    ap (λ (t : List ℕ). t ++ bytes) (sym (take-append-drop count piece))
    ∙ append_assoc (take count piece) (drop count piece) bytes

pub joining_none : (known : Option (List ℕ)) → Joining known known []
joining_none known = record { read = Consumes-nil known; part = λ long. absurd (omega (arith, long)) }

pub joining_same : (known left now : Option (List ℕ)) (joined : List ℕ) → Joining known left joined →
    Keeps left now → Joining known now joined
joining_same known left now joined joining kept =
    record { read = Consumes-kept known left now joined joining.read kept; part = joining.part }

pub joining_more : (known left : Option (List ℕ)) (joined piece : List ℕ) (count : ℕ) →
    Joining known (prepend_known piece left) joined → count ≤ missing_of joined → count ≤ length piece →
    Joining known (prepend_known (drop count piece) left) (joined ++ take count piece)
joining_more known left joined piece count joining few within = record {
  read =
      Consumes-trans known (prepend_known piece left) (prepend_known (drop count piece) left) joined (take count piece)
      joining.read (taken count piece left);
  part =
      part_more joined (take count piece) joining.part (omega (arith, few, length-take-le count piece within));
}

-- ---- the next entry

block_first : (joined more : List ℕ) → IsBlock joined →
    block_entries (joined ++ more) ≡ Ok (drop 2 joined) ∷ block_entries more
block_first joined more block =
    front_entries joined more (omega (arith, block.whole))
    ∙ ap (λ (m : List ℕ). Ok m ∷ block_entries (after_first joined ++ more))
    (take_all (big_number 2 joined) (drop 2 joined) (omega (arith, block.whole, length-drop 2 joined)))
    ∙ ap (λ (t : List ℕ). Ok (drop 2 joined) ∷ block_entries (t ++ more))
    (drop_all (2 + big_number 2 joined) joined (omega (arith, block.whole)))

-- A whole block was joined.
pub gives_joined : (known left : Option (List ℕ)) (joined : List ℕ) → Joining known left joined →
    missing_of joined ≡ 0 →
    GivesNext (known_entries block_entries known) (known_entries block_entries left) Message (drop 2 joined)
gives_joined None left joined joining none = tt
gives_joined (Some bytes) None joined joining none = absurd joining.read
gives_joined (Some bytes) (Some more) joined joining none =
    ap block_entries joining.read ∙ block_first joined more (nothing_missing joined joining.part none)

-- The input ends, and nothing was joined.
pub gives_end : (known left : Option (List ℕ)) (joined message : List ℕ) → Joining known left joined →
    length joined ≡ 0 → IsAtEnd left →
    GivesNext (known_entries block_entries known) (known_entries block_entries left) End message
gives_end None left joined message joining none end = tt
gives_end (Some bytes) None joined message joining none end = absurd joining.read
gives_end (Some bytes) (Some more) joined message joining none end =
    ap block_entries
    (joining.read ∙ ap (λ (t : List ℕ). t ++ more) (nil_from_length joined none) ∙ end)
    ∙ no_entries

-- The input ends within the joined block.
pub gives_cut : (known left : Option (List ℕ)) (joined message : List ℕ) → Joining known left joined →
    0 < length joined → 0 < missing_of joined → IsAtEnd left →
    GivesNext (known_entries block_entries known) (known_entries block_entries left) (Fault Cut) message
gives_cut None left joined message joining some lacks end = tt
gives_cut (Some bytes) None joined message joining some lacks end = absurd joining.read
gives_cut (Some bytes) (Some more) joined message joining some lacks end =
    ap block_entries
    (joining.read ∙ ap (λ (t : List ℕ). joined ++ t) end ∙ append-nil joined)
    ∙ cut_entries joined some (some_missing joined lacks)
    ∙ ap (λ es. Err Cut ∷ es) (sym (ap block_entries end ∙ no_entries))
