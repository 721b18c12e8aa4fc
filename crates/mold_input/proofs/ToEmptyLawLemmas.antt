-- The entries of blocks that an empty block follows, and the bytes that have these entries.
use Rattle.std.proofs.Common.{arith, ◌≡◌, ◌∙◌, ℕ, ◌+◌, List, [], ◌∷◌, ◌++◌, length}
use Rattle.std.proofs.Common.{map, Ok, Err, ap, refl, sym, append_assoc, append-nil, inl, inr}
use Rattle.std.specs.List.{AllByRecursion}
use Rattle.std.proofs.lemmas.Bool.{cases_lt}
use Rattle.byteorder.specs.Endian.{big_number}
use Rattle.mold_wire.specs.Block.{IsBytes, IsMessage, block, blocks}
use Rattle.mold_input.specs.Blocks.{IsCut, block_entries}
use Rattle.mold_input.specs.BlocksToEmpty.{IsNotEmpty, before_empty, to_empty_entries}
use Rattle.mold_input.specs.Entries.{Entry}
use Rattle.mold_input.specs.declared.input_fault.InputFault.TheVariants.{Cut}
use Rattle.mold_input.proofs.BlockLemmas.{IsWhole, first_message, after_first, first_entries, cut_entries, no_entries}
use Rattle.mold_input.proofs.LawLemmas.{IsBytes-drop, blocks_read, first_is, message_length, small}
use Rattle.mold_input.proofs.ToEmptyLemmas.{none_before}

-- Messages that are not empty are entries before the first empty one.
all_before : (messages : List (List ℕ)) (entries : List Entry) → AllByRecursion IsNotEmpty messages →
    before_empty (map Ok messages ++ entries) ≡ map Ok messages ++ before_empty entries
all_before [] entries each = refl
all_before ([] ∷ messages) entries each = let some = each.0 in absurd (omega (arith, some))
all_before ((byte ∷ bytes) ∷ messages) entries each =
    ap (λ (es : List Entry). Ok (byte ∷ bytes) ∷ es) (all_before messages entries each.1)

read_before : (messages : List (List ℕ)) (rest : List ℕ) → AllByRecursion IsMessage messages →
    AllByRecursion IsNotEmpty messages →
    to_empty_entries (blocks messages ++ rest) ≡ map Ok messages ++ to_empty_entries rest
read_before messages rest each some =
    ap before_empty (blocks_read messages rest each) ∙ all_before messages (block_entries rest) some

pub to_empty_read : (messages : List (List ℕ)) (rest : List ℕ) → AllByRecursion IsMessage messages →
    AllByRecursion IsNotEmpty messages →
    to_empty_entries (blocks messages ++ block [] ++ rest) ≡ map Ok messages
to_empty_read messages rest each some =
    ap to_empty_entries (append_assoc (blocks messages) (block []) rest)
    ∙ read_before messages (block [] ++ rest) each some
    ∙ ap (λ (es : List Entry). map Ok messages ++ es) (none_before rest)
    ∙ append-nil (map Ok messages)

cut_before : (rest : List ℕ) → IsCut rest → to_empty_entries rest ≡ Err Cut ∷ []
cut_before [] cut = ap before_empty no_entries
cut_before (byte ∷ bytes) cut = ap before_empty (cut_entries (byte ∷ bytes) (omega arith) cut)

pub to_empty_cut : (messages : List (List ℕ)) (rest : List ℕ) → AllByRecursion IsMessage messages →
    AllByRecursion IsNotEmpty messages → IsCut rest →
    to_empty_entries (blocks messages ++ rest) ≡ map Ok messages ++ Err Cut ∷ []
to_empty_cut messages rest each some cut =
    read_before messages rest each some ∙ ap (λ (es : List Entry). map Ok messages ++ es) (cut_before rest cut)

-- ---- bytes that read as messages start with the blocks of these messages and an empty block

-- What follows from the entries of bytes.
pub record StartWithBlocksOf (messages : List (List ℕ)) (bytes : List ℕ) : Type 0 where
  pub rest : List ℕ
  pub is : bytes ≡ blocks messages ++ block [] ++ rest
  pub each : AllByRecursion IsMessage messages
  pub some : AllByRecursion IsNotEmpty messages

-- The input ends within its first block, so its first entry is not a message.
none_cut : (bytes : List ℕ) → IsCut bytes → (messages : List (List ℕ)) → to_empty_entries bytes ≡ map Ok messages → ⊥
none_cut bytes cut [] is = let e = sym (cut_before bytes cut) ∙ is in cc
none_cut bytes cut (message ∷ messages) is = let e = sym (cut_before bytes cut) ∙ is in cc

-- If no entry is before the first empty message, the first entry is that message.
first_is_empty : (message : List ℕ) (entries : List Entry) → before_empty (Ok message ∷ entries) ≡ [] → message ≡ []
first_is_empty [] entries is = refl
first_is_empty (byte ∷ bytes) entries is = absurd (cc)

-- The first entry before the first empty message, and the entries after it.
record FirstIs (message other : List ℕ) (entries others : List Entry) : Type 0 where
  pub same : message ≡ other
  pub some : IsNotEmpty other
  pub rest : before_empty entries ≡ others

first_is_same : (message other : List ℕ) (entries others : List Entry) →
    before_empty (Ok message ∷ entries) ≡ Ok other ∷ others → FirstIs message other entries others
first_is_same [] other entries others is = absurd (cc)
first_is_same (byte ∷ bytes) other entries others is =
    let same : byte ∷ bytes ≡ other = cc in
    record { same = same; some = omega (arith, ap (λ (m : List ℕ). length m) same); rest = cc }

-- A message that is not empty precedes the others.
goes_on : (first : List ℕ) (messages : List (List ℕ)) (bytes after : List ℕ) → bytes ≡ block first ++ after →
    IsMessage first → IsNotEmpty first → StartWithBlocksOf messages after → StartWithBlocksOf (first ∷ messages) bytes
goes_on first messages bytes after is short some others = record {
  rest = others.rest;
  is =
      is
      ∙ ap (λ (t : List ℕ). block first ++ t) others.is
      ∙ sym (append_assoc (block first) (blocks messages ++ block []) others.rest)
      ∙ ap (λ (t : List ℕ). t ++ others.rest) (sym (append_assoc (block first) (blocks messages) (block [])));
  each = (short, others.each);
  some = (some, others.some);
}

module _ (bytes : List ℕ) (fits : IsBytes bytes) (whole : IsWhole bytes) where
  first_read : to_empty_entries bytes ≡ before_empty (Ok (first_message bytes) ∷ block_entries (after_first bytes))
  first_read = ap before_empty (first_entries bytes whole)

  ends : to_empty_entries bytes ≡ [] → StartWithBlocksOf [] bytes
  ends none =
      let empty = first_is_empty (first_message bytes) (block_entries (after_first bytes)) (sym first_read ∙ none) in
      record {
        rest = after_first bytes;
        is = first_is bytes fits whole ∙ ap (λ (m : List ℕ). block m ++ after_first bytes) empty;
        each = tt;
        some = tt;
      }

pub start_with_blocks : (messages : List (List ℕ)) (bytes : List ℕ) → IsBytes bytes →
    to_empty_entries bytes ≡ map Ok messages → StartWithBlocksOf messages bytes
start_with_blocks [] bytes fits is = elim (cases_lt (length bytes) (2 + big_number 2 bytes)) [
  | inl cut ↦ absurd (none_cut bytes cut [] is)
  | inr whole ↦ ends bytes fits whole is
]
start_with_blocks (message ∷ messages) bytes fits is = elim (cases_lt (length bytes) (2 + big_number 2 bytes)) [
  | inl cut ↦ absurd (none_cut bytes cut (message ∷ messages) is)
  | inr whole ↦
      let first =
      first_is_same (first_message bytes) message (block_entries (after_first bytes)) (map Ok messages)
      (sym (first_read bytes fits whole) ∙ is) in
      goes_on message messages bytes (after_first bytes)
      (first_is bytes fits whole ∙ ap (λ (m : List ℕ). block m ++ after_first bytes) first.same)
      (omega (
        arith,
        small bytes fits whole,
        message_length bytes fits whole,
        ap (λ (m : List ℕ). length m) first.same,
      ))
      first.some
      (start_with_blocks messages (after_first bytes) (IsBytes-drop (2 + big_number 2 bytes) bytes fits) first.rest)
]
