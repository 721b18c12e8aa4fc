-- Blocks that come in pieces, up to the first empty block.
use Rattle.std.proofs.Common.{arith, ◌≡◌, ◌⊎◌, ◌∙◌, ℕ, zero, suc, ◌+◌, ◌<◌, ◌≤◌, nat_lt, List, [], ◌∷◌, ◌++◌, length}
use Rattle.std.proofs.Common.{length-append, length-drop, take, drop, Ok, Err, ap, refl, sym, subst, append_assoc}
use Rattle.std.proofs.Common.{append-nil, eqb, cond, inl, inr, Option, None, Some, Bool, true, false, take-append-drop, take-add, length-take-le}
use Rattle.std.proofs.lemmas.Bool.{cond-false, cond-true, cases_lt, eq-eqb, ne_eqb}
use Rattle.std.proofs.lemmas.List.{drop_at, take_at}
use Rattle.std.specs.Io.KnownBytes.{Consumes, IsAtEnd}
use Rattle.byteorder.specs.Endian.{big_number}
use Rattle.mold_input.specs.Blocks.{IsCut, block_entries}
use Rattle.mold_input.specs.BlocksToEmpty.{before_empty, to_empty_entries}
use Rattle.mold_input.specs.Entries.{Entry}
use Rattle.mold_input.specs.declared.input_fault.InputFault.TheVariants.{Cut}
use Rattle.mold_input.proofs.BlockLemmas.{IsWhole, after_first, cut_entries, first_entries, first_message}
use Rattle.mold_input.proofs.BlockLemmas.{less, no_entries, not_less, number_front}
use Rattle.mold_feeder.specs.Pieces.{IsBlockPart}
use Rattle.mold_feeder.specs.ToEmpty.{MarksAfter, StartsEmpty, left_at, marked, marked_in}
use Rattle.mold_feeder.proofs.PieceLemmas.{one_block, one_entry}

-- ---- one block at a time

-- The bytes do not depend on the greatest number of blocks, if that is at least the number of bytes.
same_marked : (most other : ℕ) (bytes : List ℕ) → length bytes ≤ most → length bytes ≤ other →
    marked_in most bytes ≡ marked_in other bytes
unfolding marked_in
same_marked most other [] enough also = refl
same_marked zero other (byte ∷ bytes) enough also = absurd (omega arith)
same_marked (suc most) zero (byte ∷ bytes) enough also = absurd (omega arith)
same_marked (suc most) (suc other) (byte ∷ bytes) enough also =
    let all = byte ∷ bytes in
    ap (λ (rest : List ℕ). cond (nat_lt (length all) (2 + big_number 2 all)) (0 ∷ [])
    (cond (eqb (big_number 2 all) 0) [] (take (2 + big_number 2 all) all ++ rest)))
    (same_marked most other (after_first all)
    (omega (arith, length-drop (2 + big_number 2 all) all)) (omega (arith, length-drop (2 + big_number 2 all) all)))

-- A first block that is whole and not empty.
first_marked : (bytes : List ℕ) → IsWhole bytes → 0 < big_number 2 bytes →
    marked bytes ≡ take (2 + big_number 2 bytes) bytes ++ marked (after_first bytes)
unfolding marked marked_in
first_marked [] whole some = absurd (omega arith)
first_marked (byte ∷ bytes) whole some =
    let all = byte ∷ bytes in
    cond-false (nat_lt (length all) (2 + big_number 2 all)) _ _ (not_less _ _ whole)
    ∙ cond-false (eqb (big_number 2 all) 0) _ _ (ne_eqb (big_number 2 all) 0 (λ none. absurd (omega (arith, none, some))))
    ∙ ap (λ (rest : List ℕ). take (2 + big_number 2 all) all ++ rest)
    (same_marked (length bytes) (length (after_first all)) (after_first all)
    (omega (arith, length-drop (2 + big_number 2 all) all)) (omega arith))

-- The first block is empty.
pub empty_marked : (bytes : List ℕ) → StartsEmpty bytes → marked bytes ≡ []
unfolding marked marked_in
empty_marked [] is = absurd (let long = is.0 in omega (arith, long))
empty_marked (byte ∷ bytes) is =
    let all = byte ∷ bytes in
    cond-false (nat_lt (length all) (2 + big_number 2 all)) _ _ (not_less _ _ (omega (arith, is.0, is.1)))
    ∙ cond-true (eqb (big_number 2 all) 0) _ _ (eq-eqb (big_number 2 all) 0 is.1)

cut_marked : (bytes : List ℕ) → IsCut bytes → marked bytes ≡ 0 ∷ []
unfolding marked marked_in
cut_marked [] cut = refl
cut_marked (byte ∷ bytes) cut =
    cond-true (nat_lt (length (byte ∷ bytes)) (2 + big_number 2 (byte ∷ bytes))) _ _ (less _ _ cut)

-- The bytes are at most a part of a block.
pub part_marked : (bytes : List ℕ) → IsBlockPart bytes → marked bytes ≡ 0 ∷ []
part_marked bytes (inl none) = ap marked none ∙ cut_marked [] (omega arith)
part_marked bytes (inr cut) = cut_marked bytes cut

-- ---- whole blocks that are not empty

pub marks_none : MarksAfter []
marks_none = λ more. refl

module _ (bytes more : List ℕ) (exact : length bytes ≡ 2 + big_number 2 bytes) where
  same_number : big_number 2 (bytes ++ more) ≡ big_number 2 bytes
  same_number = number_front bytes more (omega (arith, exact))

  front_is : take (2 + big_number 2 (bytes ++ more)) (bytes ++ more) ≡ bytes
  front_is =
      ap (λ (n : ℕ). take n (bytes ++ more)) (omega (arith, exact, same_number))
      ∙ take_at bytes more (length bytes) refl

  rest_is : after_first (bytes ++ more) ≡ more
  rest_is =
      ap (λ (n : ℕ). drop n (bytes ++ more)) (omega (arith, exact, same_number))
      ∙ drop_at bytes more (length bytes) refl

marks_one : (bytes : List ℕ) → length bytes ≡ 2 + big_number 2 bytes → 0 < big_number 2 bytes → MarksAfter bytes
marks_one bytes exact some = λ more.
    first_marked (bytes ++ more)
    (omega (arith, exact, same_number bytes more exact, length-append bytes more))
    (omega (arith, some, same_number bytes more exact))
    ∙ ap (λ (t : List ℕ). t ++ marked (after_first (bytes ++ more))) (front_is bytes more exact)
    ∙ ap (λ (t : List ℕ). bytes ++ marked t) (rest_is bytes more exact)

marks_both : (first second : List ℕ) → MarksAfter first → MarksAfter second → MarksAfter (first ++ second)
marks_both first second one other = λ more.
    ap marked (append_assoc first second more)
    ∙ one (second ++ more)
    ∙ ap (λ (t : List ℕ). first ++ t) (other more)
    ∙ sym (append_assoc first second (marked more))

-- One more block that is not empty.
pub marks_next : (bytes rest : List ℕ) (count len : ℕ) → rest ≡ drop count bytes → count ≤ length bytes →
    len ≡ big_number 2 rest → 0 < len → 2 + len ≤ length rest → MarksAfter (take count bytes) →
    MarksAfter (take (count + (2 + len)) bytes)
marks_next bytes rest count len same within number some fits marks =
    let block = take (2 + len) rest in
    let long : length block ≡ 2 + len = length-take-le (2 + len) rest fits in
    let read : big_number 2 rest ≡ big_number 2 block =
    ap (big_number 2) (sym (take-append-drop (2 + len) rest)) ∙ number_front block (drop (2 + len) rest) (omega (arith, long)) in
    subst MarksAfter
    (sym (take-add count (2 + len) bytes ∙ ap (λ (t : List ℕ). take count bytes ++ take (2 + len) t) (sym same)))
    (marks_both (take count bytes) block marks
    (marks_one block (omega (arith, long, number, read)) (omega (arith, some, number, read))))

-- ---- the entries

before_some : (message : List ℕ) (entries : List Entry) → 0 < length message →
    before_empty (Ok message ∷ entries) ≡ Ok message ∷ before_empty entries
before_some [] entries some = absurd (omega (arith, some))
before_some (byte ∷ bytes) entries some = refl

before_none : (message : List ℕ) (entries : List Entry) → length message ≡ 0 → before_empty (Ok message ∷ entries) ≡ []
before_none [] entries none = refl
before_none (byte ∷ bytes) entries none = absurd (omega (arith, none))

message_length : (bytes : List ℕ) → IsWhole bytes → length (first_message bytes) ≡ big_number 2 bytes
message_length bytes whole =
    length-take-le (big_number 2 bytes) (drop 2 bytes) (omega (arith, whole, length-drop 2 bytes))

cut_read : (bytes : List ℕ) → IsCut bytes → before_empty (block_entries bytes) ≡ Err Cut ∷ []
cut_read [] cut = ap before_empty no_entries
cut_read (byte ∷ bytes) cut = ap before_empty (cut_entries (byte ∷ bytes) (omega arith) cut)

zero_read : block_entries (0 ∷ []) ≡ Err Cut ∷ []
zero_read = cut_entries (0 ∷ []) (omega arith) (omega arith)

empty_read : (bytes : List ℕ) → IsWhole bytes → big_number 2 bytes ≡ 0 →
    block_entries (marked bytes) ≡ before_empty (block_entries bytes)
empty_read bytes whole none =
    ap block_entries (empty_marked bytes (omega (arith, whole), none))
    ∙ no_entries
    ∙ sym (ap before_empty (first_entries bytes whole)
    ∙ before_none (first_message bytes) (block_entries (after_first bytes)) (message_length bytes whole ∙ none))

some_read : (first rest : List ℕ) → length first ≡ 2 + big_number 2 first → 0 < big_number 2 first →
    block_entries (marked rest) ≡ before_empty (block_entries rest) →
    block_entries (marked (first ++ rest)) ≡ before_empty (block_entries (first ++ rest))
some_read first rest exact some same =
    ap block_entries (marks_one first exact some rest)
    ∙ one_block first exact (marked rest)
    ∙ ap (λ (es : List Entry). block_entries first ++ es) same
    ∙ ap (λ (es : List Entry). es ++ before_empty (block_entries rest)) (one_entry first exact)
    ∙ sym (ap before_empty (one_block first exact rest
    ∙ ap (λ (es : List Entry). es ++ block_entries rest) (one_entry first exact))
    ∙ before_some (first_message first) (block_entries rest)
    (omega (arith, message_length first (omega (arith, exact)), some)))

entries_cases : (most : ℕ) (bytes : List ℕ) → length bytes ≤ most →
    block_entries (marked bytes) ≡ before_empty (block_entries bytes)
entries_cases zero bytes few =
    let cut : IsCut bytes = omega (arith, few) in
    ap block_entries (cut_marked bytes cut) ∙ zero_read ∙ sym (cut_read bytes cut)
entries_cases (suc most) bytes few =
    let len = 2 + big_number 2 bytes in
    let first = take len bytes in
    let rest = drop len bytes in
    elim (cases_lt (length bytes) len) [
      | inl cut ↦ ap block_entries (cut_marked bytes cut) ∙ zero_read ∙ sym (cut_read bytes cut)
      | inr whole ↦ elim (cases_lt 0 (big_number 2 bytes)) [
        | inl some ↦
            let long : length first ≡ len = length-take-le len bytes whole in
            let read : big_number 2 bytes ≡ big_number 2 first =
            ap (big_number 2) (sym (take-append-drop len bytes)) ∙ number_front first rest (omega (arith, long)) in
            subst (λ (t : List ℕ). block_entries (marked t) ≡ before_empty (block_entries t)) (take-append-drop len bytes)
            (some_read first rest (omega (arith, long, read)) (omega (arith, some, read))
            (entries_cases most rest (omega (arith, few, some, length-drop len bytes))))
        | inr none ↦ empty_read bytes whole (omega (arith, none))
      ]
    ]

-- The entries are those of blocks that end before the first empty one.
pub marked_entries : (bytes : List ℕ) → block_entries (marked bytes) ≡ to_empty_entries bytes
marked_entries bytes = entries_cases (length bytes) bytes (omega arith)

-- ---- what a source of pieces gives

starts_more : (bytes more : List ℕ) → StartsEmpty bytes → StartsEmpty (bytes ++ more)
starts_more bytes more is = (
  omega (arith, is.0, length-append bytes more),
  number_front bytes more is.0 ∙ is.1,
)

module _ (tail piece front behind : List ℕ) (same : tail ++ piece ≡ front ++ behind) (marks : MarksAfter front) where
  given : (all left : List ℕ) → all ≡ piece ++ left → marked (tail ++ all) ≡ front ++ marked (behind ++ left)
  given all left is =
      ap (λ (t : List ℕ). marked (tail ++ t)) is
      ∙ ap marked (sym (append_assoc tail piece left))
      ∙ ap (λ (t : List ℕ). marked (t ++ left)) same
      ∙ ap marked (append_assoc front behind left)
      ∙ marks (behind ++ left)

  -- It gives whole blocks, and may go on.
  pub gives_more : (old mid : Option (List ℕ)) → Consumes old mid piece →
      Consumes (left_at true false tail old) (left_at true false behind mid) front
  gives_more None mid is = tt
  gives_more (Some all) None is = absurd is
  gives_more (Some all) (Some left) is = given all left is

  -- An empty block follows them.
  pub gives_last : (old mid : Option (List ℕ)) → Consumes old mid piece → StartsEmpty behind →
      Consumes (left_at true false tail old) (Some []) front
  gives_last None mid is empty = tt
  gives_last (Some all) None is empty = absurd is
  gives_last (Some all) (Some left) is empty =
      given all left is ∙ ap (λ (t : List ℕ). front ++ t) (empty_marked (behind ++ left) (starts_more behind left empty))

  -- The input ends without an empty block.
  pub gives_cut : (old mid : Option (List ℕ)) → Consumes old mid piece → IsAtEnd mid →
      IsBlockPart behind ⊎ StartsEmpty behind → (StartsEmpty behind → ⊥) →
      Consumes (left_at true false tail old) (Some []) (front ++ 0 ∷ [])
  gives_cut None mid is end next not_empty = tt
  gives_cut (Some all) None is end next not_empty = absurd is
  gives_cut (Some all) (Some left) is end (inr empty) not_empty = absurd (not_empty empty)
  gives_cut (Some all) (Some left) is end (inl part) not_empty =
      given all left is
      ∙ ap (λ (t : List ℕ). front ++ marked (behind ++ t)) end
      ∙ ap (λ (t : List ℕ). front ++ marked t) (append-nil behind)
      ∙ ap (λ (t : List ℕ). front ++ t) (part_marked behind part)
      ∙ sym (append-nil (front ++ 0 ∷ []))

module _ (tail piece : List ℕ) (len : ℕ) (bytes front behind : List ℕ) (kept : bytes ≡ tail ++ piece)
    (first : front ≡ take len (tail ++ piece)) (rest : behind ≡ drop len (tail ++ piece))
    (marks : MarksAfter (take len bytes)) where
  parts_same : tail ++ piece ≡ front ++ behind
  parts_same =
      sym (take-append-drop len (tail ++ piece))
      ∙ ap (λ (t : List ℕ). t ++ drop len (tail ++ piece)) (sym first)
      ∙ ap (λ (t : List ℕ). front ++ t) (sym rest)

  front_marks : MarksAfter front
  front_marks = subst MarksAfter (sym first) (subst (λ (t : List ℕ). MarksAfter (take len t)) kept marks)

  -- The source gave the blocks `front`, and may go on unless an empty block follows.
  pub refilled : (over : Bool) (old mid : Option (List ℕ)) → (over ≡ true → StartsEmpty behind) →
      Consumes old mid piece → Consumes (left_at true false tail old) (left_at true over behind mid) front
  refilled true old mid empty is =
      gives_last tail piece front behind parts_same front_marks old mid is (empty refl)
  refilled false old mid empty is = gives_more tail piece front behind parts_same front_marks old mid is

  -- The source has ended without an empty block.
  pub refilled_cut : (whole : List ℕ) (old mid : Option (List ℕ)) → whole ≡ front ++ 0 ∷ [] → Consumes old mid piece →
      IsAtEnd mid → IsBlockPart (drop len bytes) ⊎ StartsEmpty (drop len bytes) → (StartsEmpty behind → ⊥) →
      Consumes (left_at true false tail old) (Some []) whole
  refilled_cut whole old mid last is end next not_empty =
      subst (λ (t : List ℕ). Consumes (left_at true false tail old) (Some []) t) (sym last)
      (gives_cut tail piece front behind parts_same front_marks old mid is end
      (subst (λ (t : List ℕ). IsBlockPart t ⊎ StartsEmpty t) (sym rest)
      (subst (λ (t : List ℕ). IsBlockPart (drop len t) ⊎ StartsEmpty (drop len t)) kept next)) not_empty)
