-- The entries of the blocks of some messages, and the bytes that have these entries.
use Rattle.std.proofs.Common.{arith, ◌≡◌, ◌∙◌, ℕ, ◌+◌, ◌<◌, ◌≤◌, ◌^◌, zero, suc, List, [], ◌∷◌, ◌++◌, length, length-append}
use Rattle.std.proofs.Common.{length-drop, length-take-le, take, drop, get_or, map, Ok, Err, ap, refl, sym}
use Rattle.std.proofs.Common.{append_assoc, append-nil, inl, inr, take-append-drop}
use Rattle.std.specs.List.{AllByRecursion}
use Rattle.std.proofs.lemmas.Bool.{cases_lt}
use Rattle.std.proofs.lemmas.Nat.{be_bytes_2}
use Rattle.std.proofs.lemmas.List.{drop-drop, get_or-drop, take_at, drop_at}
use Rattle.byteorder.specs.Endian.{big_number}
use Rattle.mold_wire.specs.Block.{IsBytes, IsMessage, be16, block, blocks}
use Rattle.mold_input.specs.Blocks.{IsCut, block_entries}
use Rattle.mold_input.specs.Entries.{Entry}
use Rattle.mold_input.specs.declared.input_fault.InputFault.TheVariants.{Cut}
use Rattle.mold_input.proofs.BlockLemmas.{IsWhole, first_message, after_first, first_entries, cut_entries, no_entries}

-- ---- blocks read as their messages

number_read : (number : ℕ) (rest : List ℕ) → number < 2 ^ 16 → big_number 2 (be16 number ++ rest) ≡ number
number_read number rest fits = omega arith

block_read : (message rest : List ℕ) → IsMessage message →
    block_entries (block message ++ rest) ≡ Ok message ∷ block_entries rest
block_read message rest fits =
    let bytes = block message ++ rest in
    let number : big_number 2 bytes ≡ length message = number_read (length message) (message ++ rest) fits in
    let long : length bytes ≡ 2 + length message + length rest = omega (arith, length-append message rest) in
    let first : first_message bytes ≡ message =
    ap (λ (n : ℕ). take n (message ++ rest)) number ∙ take_at message rest (length message) refl in
    let behind : after_first bytes ≡ rest =
    ap (λ (n : ℕ). drop (2 + n) bytes) number ∙ drop_at (block message) rest (2 + length message) (omega arith) in
    first_entries bytes (omega (arith, number, long))
    ∙ ap (λ (m : List ℕ). Ok m ∷ block_entries (after_first bytes)) first
    ∙ ap (λ (t : List ℕ). Ok message ∷ block_entries t) behind

pub blocks_read : (messages : List (List ℕ)) (rest : List ℕ) → AllByRecursion IsMessage messages →
    block_entries (blocks messages ++ rest) ≡ map Ok messages ++ block_entries rest
blocks_read [] rest each = refl
blocks_read (message ∷ messages) rest each =
    ap block_entries (append_assoc (block message) (blocks messages) rest)
    ∙ block_read message (blocks messages ++ rest) each.0
    ∙ ap (λ (es : List Entry). Ok message ∷ es) (blocks_read messages rest each.1)

pub all_read : (messages : List (List ℕ)) → AllByRecursion IsMessage messages →
    block_entries (blocks messages) ≡ map Ok messages
all_read messages each =
    ap block_entries (sym (append-nil (blocks messages)))
    ∙ blocks_read messages [] each
    ∙ ap (λ (es : List Entry). map Ok messages ++ es) no_entries
    ∙ append-nil (map Ok messages)

pub cut_read : (messages : List (List ℕ)) (rest : List ℕ) → AllByRecursion IsMessage messages → 0 < length rest →
    IsCut rest → block_entries (blocks messages ++ rest) ≡ map Ok messages ++ Err Cut ∷ []
cut_read messages rest each some cut =
    blocks_read messages rest each
    ∙ ap (λ (es : List Entry). map Ok messages ++ es) (cut_entries rest some cut)

-- ---- bytes that read as messages are the blocks of these messages

pub IsBytes-drop : (n : ℕ) (bytes : List ℕ) → IsBytes bytes → IsBytes (drop n bytes)
IsBytes-drop n bytes fits i = rw (get_or-drop n bytes i 0) (fits (n + i))

two_fit : (high low : ℕ) → high < 256 → low < 256 → (i : ℕ) → get_or (high ∷ low ∷ []) i 0 < 256
two_fit high low first second zero = first
two_fit high low first second (suc zero) = second
two_fit high low first second (suc (suc i)) = omega arith

-- The first two bytes are the encoding of the number that they read as.
length_is : (bytes : List ℕ) → IsBytes bytes → 2 ≤ length bytes → be16 (big_number 2 bytes) ≡ take 2 bytes
length_is [] fits long = absurd (omega arith)
length_is (byte ∷ []) fits long = absurd (omega arith)
length_is (high ∷ low ∷ bytes) fits long =
    be_bytes_2 (high ∷ low ∷ []) (big_number 2 (high ∷ low ∷ bytes)) refl (two_fit high low (fits 0) (fits 1))
    (omega arith)

-- What follows from the entries of bytes: they are blocks of short messages.
pub record AreBlocksOf (messages : List (List ℕ)) (bytes : List ℕ) : Type 0 where
  pub is : bytes ≡ blocks messages
  pub each : AllByRecursion IsMessage messages

module _ (bytes : List ℕ) (fits : IsBytes bytes) (whole : IsWhole bytes) where
  pub small : big_number 2 bytes < 2 ^ 16
  small = omega (arith, fits 0, fits 1)

  pub message_length : length (first_message bytes) ≡ big_number 2 bytes
  message_length =
      length-take-le (big_number 2 bytes) (drop 2 bytes) (omega (arith, whole, length-drop 2 bytes))

  pub first_is : bytes ≡ block (first_message bytes) ++ after_first bytes
  first_is =
      sym (take-append-drop 2 bytes)
      ∙ ap (λ (t : List ℕ). t ++ drop 2 bytes) (sym (length_is bytes fits (omega (arith, whole))))
      ∙ ap (λ (n : ℕ). be16 n ++ drop 2 bytes) (sym message_length)
      ∙ ap (λ (t : List ℕ). be16 (length (first_message bytes)) ++ t)
      (sym (take-append-drop (big_number 2 bytes) (drop 2 bytes)))
      ∙ ap (λ (t : List ℕ). be16 (length (first_message bytes)) ++ (first_message bytes ++ t))
      (drop-drop (big_number 2 bytes) 2 bytes)

none_read : (bytes : List ℕ) → block_entries bytes ≡ [] → bytes ≡ []
none_read [] is = refl
none_read (byte ∷ bytes) is = elim (cases_lt (length (byte ∷ bytes)) (2 + big_number 2 (byte ∷ bytes))) [
  | inl cut ↦ let e = sym (cut_entries (byte ∷ bytes) (omega arith) cut) ∙ is in absurd (cc)
  | inr whole ↦ let e = sym (first_entries (byte ∷ bytes) whole) ∙ is in absurd (cc)
]

pub are_blocks : (messages : List (List ℕ)) (bytes : List ℕ) → IsBytes bytes →
    block_entries bytes ≡ map Ok messages → AreBlocksOf messages bytes
are_blocks [] bytes fits is = record { is = none_read bytes is; each = tt }
are_blocks (message ∷ messages) [] fits is = let e = sym no_entries ∙ is in absurd (cc)
are_blocks (message ∷ messages) (byte ∷ bytes) fits is =
    let all = byte ∷ bytes in
    elim (cases_lt (length all) (2 + big_number 2 all)) [
      | inl cut ↦ let e = sym (cut_entries all (omega arith) cut) ∙ is in absurd (cc)
      | inr whole ↦
          let e = sym (first_entries all whole) ∙ is in
          let same : first_message all ≡ message = cc in
          let others : block_entries (after_first all) ≡ map Ok messages = cc in
          let rest = are_blocks messages (after_first all) (IsBytes-drop (2 + big_number 2 all) all fits) others in
          record {
            is =
                first_is all fits whole
                ∙ ap (λ (m : List ℕ). block m ++ after_first all) same
                ∙ ap (λ (t : List ℕ). block message ++ t) rest.is;
            each = (
              omega (
                arith,
                small all fits whole,
                message_length all fits whole,
                ap (λ (m : List ℕ). length m) same,
              ),
              rest.each,
            );
          }
    ]
