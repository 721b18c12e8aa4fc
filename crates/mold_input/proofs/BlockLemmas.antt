-- The entries of an input of blocks, one block at a time.
use Rattle.std.proofs.Common.{arith, ◌≡◌, ◌∙◌, ℕ, zero, suc, ◌+◌, ◌<◌, ◌≤◌, true, false, nat_lt, List, [], ◌∷◌, ◌++◌}
use Rattle.std.proofs.Common.{length, length-append, length-drop, take, drop, Option, None, Some, Ok, Err, ap, refl}
use Rattle.std.specs.Prelude.{if◌then◌else◌}
use Rattle.std.proofs.lemmas.Bool.{cond-true, cond-false}
use Rattle.std.proofs.lemmas.Bool.Decides.{nat_tests}
use Rattle.std.proofs.lemmas.List.{take-append-le, drop-append-le}
use Rattle.std.specs.Io.KnownBytes.{prepend_known}
use Rattle.byteorder.specs.Endian.{big_number}
use Rattle.mold_input.specs.Blocks.{IsCut, block_entries, entries_in}
use Rattle.mold_input.specs.Entries.{Entry, GivesNext, known_entries}
use Rattle.mold_input.specs.declared.input_fault.InputFault.TheVariants.{Cut}
use Rattle.mold_input.specs.declared.next.Next.TheVariants.{Message}

pub less : (a b : ℕ) → a < b → nat_lt a b ≡ true
less a b lt = grind (arith, nat_tests)

pub not_less : (a b : ℕ) → b ≤ a → nat_lt a b ≡ false
not_less a b le = grind (arith, nat_tests)

-- The first block is whole.
abbrev pub IsWhole : List ℕ → Type 0
IsWhole bytes = 2 + big_number 2 bytes ≤ length bytes

-- The message of the first block.
abbrev pub first_message : List ℕ → List ℕ
first_message bytes = take (big_number 2 bytes) (drop 2 bytes)

-- The bytes after the first block.
abbrev pub after_first : List ℕ → List ℕ
after_first bytes = drop (2 + big_number 2 bytes) bytes

-- ---- the entries do not depend on the greatest number of blocks, if that is at least the number of bytes

same_entries : (most other : ℕ) (bytes : List ℕ) → length bytes ≤ most → length bytes ≤ other →
    entries_in most bytes ≡ entries_in other bytes
unfolding entries_in
same_entries most other [] enough also = refl
same_entries zero other (byte ∷ bytes) enough also = absurd (omega arith)
same_entries (suc most) zero (byte ∷ bytes) enough also = absurd (omega arith)
same_entries (suc most) (suc other) (byte ∷ bytes) enough also =
    let all = byte ∷ bytes in
    ap (λ (es : List Entry). if nat_lt (length all) (2 + big_number 2 all) then Err Cut ∷ []
    else (Ok (first_message all) ∷ es))
    (same_entries most other (after_first all)
    (omega (arith, length-drop (2 + big_number 2 all) all)) (omega (arith, length-drop (2 + big_number 2 all) all)))

-- ---- the first entry

pub no_entries : block_entries [] ≡ []
unfolding block_entries entries_in
no_entries = refl

pub cut_entries : (bytes : List ℕ) → 0 < length bytes → IsCut bytes → block_entries bytes ≡ Err Cut ∷ []
unfolding block_entries entries_in
cut_entries [] some cut = absurd (omega arith)
cut_entries (byte ∷ bytes) some cut =
    cond-true (nat_lt (length (byte ∷ bytes)) (2 + big_number 2 (byte ∷ bytes))) _ _ (less _ _ cut)

pub first_entries : (bytes : List ℕ) → IsWhole bytes →
    block_entries bytes ≡ Ok (first_message bytes) ∷ block_entries (after_first bytes)
unfolding block_entries entries_in
first_entries [] whole = absurd (omega arith)
first_entries (byte ∷ bytes) whole =
    let all = byte ∷ bytes in
    cond-false (nat_lt (length all) (2 + big_number 2 all)) _ _ (not_less _ _ whole)
    ∙ ap (λ (es : List Entry). Ok (first_message all) ∷ es)
    (same_entries (length bytes) (length (after_first all)) (after_first all)
    (omega (arith, length-drop (2 + big_number 2 all) all)) (omega arith))

-- ---- a block at the start of a longer input

-- The length is in the first two bytes.
pub number_front : (front more : List ℕ) → 2 ≤ length front → big_number 2 (front ++ more) ≡ big_number 2 front
number_front [] more long = absurd (omega arith)
number_front (byte ∷ []) more long = absurd (omega arith)
number_front (high ∷ low ∷ front) more long = refl

module _ (front more : List ℕ) (whole : IsWhole front) where
  number : big_number 2 (front ++ more) ≡ big_number 2 front
  number = number_front front more (omega (arith, whole))

  message : first_message (front ++ more) ≡ first_message front
  message =
      ap (λ (n : ℕ). take n (drop 2 (front ++ more))) number
      ∙ ap (take (big_number 2 front)) (drop-append-le 2 front more (omega (arith, whole)))
      ∙ take-append-le (big_number 2 front) (drop 2 front) more (omega (arith, whole, length-drop 2 front))

  behind : after_first (front ++ more) ≡ after_first front ++ more
  behind =
      ap (λ (n : ℕ). drop (2 + n) (front ++ more)) number
      ∙ drop-append-le (2 + big_number 2 front) front more whole

  -- If the first bytes contain a whole block, it is the first entry, whatever follows.
  pub front_entries :
      block_entries (front ++ more) ≡ Ok (first_message front) ∷ block_entries (after_first front ++ more)
  front_entries =
      first_entries (front ++ more) (omega (arith, whole, number, length-append front more))
      ∙ ap (λ (m : List ℕ). Ok m ∷ block_entries (after_first (front ++ more))) message
      ∙ ap (λ (bytes : List ℕ). Ok (first_message front) ∷ block_entries bytes) behind

-- A whole block in the piece is the next entry.
pub gives_read : (known : Option (List ℕ)) (piece : List ℕ) → IsWhole piece →
    GivesNext (known_entries block_entries (prepend_known piece known))
    (known_entries block_entries (prepend_known (after_first piece) known)) Message (first_message piece)
gives_read None piece whole = tt
gives_read (Some bytes) piece whole = front_entries piece bytes whole

-- The same for a block of `len` bytes that was found in the piece.
pub gives_found : (bytes : List ℕ) (known : Option (List ℕ)) (piece : List ℕ) (len : ℕ) → bytes ≡ piece →
    (len ≡ big_number 2 bytes) × (2 + len ≤ length bytes) →
    GivesNext (known_entries block_entries (prepend_known piece known))
    (known_entries block_entries (prepend_known (drop (2 + len) piece) known)) Message (take len (drop 2 piece))
gives_found bytes known piece len same found =
    let number : len ≡ big_number 2 piece = found.0 ∙ ap (big_number 2) same in
    let long : length bytes ≡ length piece = ap (λ (t : List ℕ). length t) same in
    rw number (gives_read known piece (omega (arith, found.1, number, long)))
