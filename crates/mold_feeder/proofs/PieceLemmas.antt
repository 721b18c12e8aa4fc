-- Which bytes of the pieces of an input are whole entries.
use Rattle.std.proofs.Common.{arith, ◌≡◌, ◌∙◌, ℕ, ◌+◌, ◌-◌, ◌<◌, ◌≤◌, Bool, cond, true, false, eqb, List, [], ◌∷◌}
use Rattle.std.proofs.Common.{◌++◌, length, length-append, length-drop, take, drop, get_or, Ok, ap, refl, sym, subst, map}
use Rattle.std.proofs.Common.{append_assoc, append-nil, replicate, zero, suc, inl, inr, min, take-append-drop, take-suc, take-add, length-take-le, get_or-drop, add-one}
use Rattle.std.proofs.Math.Dec.{eqb-suc-zero}
use Rattle.std.proofs.lemmas.Bool.{cases_Bool, cases_eq, cases_lt, cond-false, eqb-true}
use Rattle.std.proofs.lemmas.List.{drop_all, drop_at, drop-drop, length-replicate, map-append, replicate-append-replicate, nil_from_length, take_at}
use Rattle.byteorder.specs.Endian.{big_number}
use Rattle.memchr.specs.Find.{NoneAfter, Passes, is_byte}
use Rattle.mold_devices.specs.Lines.{HasNoEnd, lines_of, onto_first}
use Rattle.mold_input.specs.Blocks.{block_entries}
use Rattle.mold_input.specs.Entries.{Entry, line_entries, line_entry}
use Rattle.mold_input.specs.LongLines.{IsSameStart}
use Rattle.mold_input.proofs.BlockLemmas.{cut_entries, first_entries, first_message, front_entries, no_entries, number_front}
use Rattle.mold_feeder.specs.Pieces.{AreWhole}

-- ---- lines

-- The byte at this index ends a line.
abbrev pub IsEnd : List ℕ → ℕ → Type 0
IsEnd bytes at = eqb (get_or bytes at 0) 10 ≡ true

onto_some : (byte : ℕ) (lines : List (List ℕ)) → 0 < length (onto_first byte lines)
onto_some byte [] = omega arith
onto_some byte (line ∷ lines) = omega arith

some_cases : (end : Bool) (byte : ℕ) (lines : List (List ℕ)) → 0 < length (cond end ([] ∷ lines) (onto_first byte lines))
some_cases true byte lines = omega arith
some_cases false byte lines = onto_some byte lines

-- A line that ends is a line.
some_line : (front : List ℕ) → 0 < length (lines_of (front ++ 10 ∷ []))
some_line [] = omega arith
some_line (byte ∷ front) = some_cases (eqb byte 10) byte (lines_of (front ++ 10 ∷ []))

onto_more : (byte : ℕ) (lines more : List (List ℕ)) → 0 < length lines →
    onto_first byte (lines ++ more) ≡ onto_first byte lines ++ more
onto_more byte [] more some = absurd (omega (arith, some))
onto_more byte (line ∷ lines) more some = refl

more_cases : (end : Bool) (byte : ℕ) (all lines more : List (List ℕ)) → all ≡ lines ++ more → 0 < length lines →
    cond end ([] ∷ all) (onto_first byte all) ≡ cond end ([] ∷ lines) (onto_first byte lines) ++ more
more_cases true byte all lines more same some = ap (λ (ls : List (List ℕ)). [] ∷ ls) same
more_cases false byte all lines more same some = ap (onto_first byte) same ∙ onto_more byte lines more some

lines_more : (front more : List ℕ) → lines_of ((front ++ 10 ∷ []) ++ more) ≡ lines_of (front ++ 10 ∷ []) ++ lines_of more
lines_more [] more = refl
lines_more (byte ∷ front) more =
    more_cases (eqb byte 10) byte (lines_of ((front ++ 10 ∷ []) ++ more)) (lines_of (front ++ 10 ∷ [])) (lines_of more)
    (lines_more front more) (some_line front)

ended_whole : (front : List ℕ) → AreWhole line_entries (front ++ 10 ∷ [])
ended_whole front = λ more.
    ap (map line_entry) (lines_more front more) ∙ map-append line_entry (lines_of (front ++ 10 ∷ [])) (lines_of more)

-- The bytes up to an end of line are whole lines.
pub lines_whole : (front piece : List ℕ) (at : ℕ) → at < length piece → IsEnd piece at →
    AreWhole line_entries (front ++ take (at + 1) piece)
lines_whole front piece at lt is =
    let last : front ++ take (at + 1) piece ≡ (front ++ take at piece) ++ 10 ∷ [] =
    ap (λ (n : ℕ). front ++ take n piece) (add-one at)
    ∙ ap (λ (t : List ℕ). front ++ t) (take-suc piece at 0 lt)
    ∙ ap (λ (b : ℕ). front ++ (take at piece ++ b ∷ [])) (eqb-true (get_or piece at 0) 10 is)
    ∙ sym (append_assoc front (take at piece) (10 ∷ [])) in
    subst (AreWhole line_entries) (sym last) (ended_whole (front ++ take at piece))

-- After the last end of line, no line ends.
pub no_end_after : (piece : List ℕ) (at : ℕ) → NoneAfter (Passes (is_byte 10) piece) 0 (length piece) at →
    HasNoEnd (drop (at + 1) piece)
no_end_after piece at none = λ k lt is.
    none.after (at + 1 + k) (omega arith) (omega (arith, lt, length-drop (at + 1) piece))
    (subst (λ (b : ℕ). eqb b 10 ≡ true) (get_or-drop (at + 1) piece k 0) is)

-- The first bytes of a part and a piece, up to an index of the piece.
pub front_taken : (kept piece : List ℕ) (before at count : ℕ) → before ≡ length kept → count ≡ before + at + 1 →
    take count (kept ++ piece) ≡ kept ++ take (at + 1) piece
front_taken kept piece before at count sized is =
    ap (λ (n : ℕ). take n (kept ++ piece)) (omega (arith, sized, is))
    ∙ take-add (length kept) (at + 1) (kept ++ piece)
    ∙ ap (λ (t : List ℕ). t ++ take (at + 1) (drop (length kept) (kept ++ piece))) (take_at kept piece (length kept) refl)
    ∙ ap (λ (t : List ℕ). kept ++ take (at + 1) t) (drop_at kept piece (length kept) refl)

pub front_dropped : (kept piece : List ℕ) (before at count : ℕ) → before ≡ length kept → count ≡ before + at + 1 →
    drop count (kept ++ piece) ≡ drop (at + 1) piece
front_dropped kept piece before at count sized is =
    ap (λ (n : ℕ). drop n (kept ++ piece)) (omega (arith, sized, is))
    ∙ sym (drop-drop (at + 1) (length kept) (kept ++ piece))
    ∙ ap (λ (t : List ℕ). drop (at + 1) t) (drop_at kept piece (length kept) refl)

-- The bytes before the first line, joined to it.
abbrev onto_front : List ℕ → List (List ℕ) → List (List ℕ)
onto_front front [] = front ∷ []
onto_front front (line ∷ lines) = (front ++ line) ∷ lines

onto_one : (byte : ℕ) (lines : List (List ℕ)) → onto_first byte lines ≡ onto_front (byte ∷ []) lines
onto_one byte [] = refl
onto_one byte (line ∷ lines) = refl

onto_next : (byte : ℕ) (front : List ℕ) (lines : List (List ℕ)) →
    onto_first byte (onto_front front lines) ≡ onto_front (byte ∷ front) lines
onto_next byte front [] = refl
onto_next byte front (line ∷ lines) = refl

not_end : (byte : ℕ) → (eqb byte 10 ≡ true → ⊥) → eqb byte 10 ≡ false
not_end byte none = elim (cases_Bool (eqb byte 10)) [ inl is ↦ absurd (none is) | inr is ↦ is ]

front_lines : (front more : List ℕ) → 0 < length front → HasNoEnd front →
    lines_of (front ++ more) ≡ onto_front front (lines_of more)
front_lines [] more some none = absurd (omega (arith, some))
front_lines (byte ∷ []) more some none =
    cond-false (eqb byte 10) _ _ (not_end byte (none 0 (omega arith))) ∙ onto_one byte (lines_of more)
front_lines (byte ∷ next ∷ front) more some none =
    cond-false (eqb byte 10) _ _ (not_end byte (none 0 (omega arith)))
    ∙ ap (onto_first byte) (front_lines (next ∷ front) more (omega arith) (λ k lt is. none (suc k) (omega (arith, lt)) is))
    ∙ onto_next byte (next ∷ front) (lines_of more)

same_first : (one other : List ℕ) (lines : List (List ℕ)) → IsSameStart line_entry one other →
    map line_entry (onto_front one lines) ≡ map line_entry (onto_front other lines)
same_first one other [] same =
    ap (λ (e : Entry). e ∷ [])
    (ap line_entry (sym (append-nil one)) ∙ same.same [] ∙ ap line_entry (append-nil other))
same_first one other (line ∷ lines) same = ap (λ (e : Entry). e ∷ map line_entry lines) (same.same line)

not_empty : (one other : ℕ) → eqb one 0 ≡ eqb other 0 → 0 < other → 0 < one
not_empty (suc one) other same some = omega arith
not_empty zero (suc other) same some = let no = sym (eqb-suc-zero other) ∙ sym same in absurd (cc)
not_empty zero zero same some = absurd (omega (arith, some))

-- Starts of a line with the same entry, whatever follows.
pub same_entries : (one other more : List ℕ) → IsSameStart line_entry one other → HasNoEnd other →
    line_entries (one ++ more) ≡ line_entries (other ++ more)
same_entries one other more same none = elim (cases_eq (length other) 0) [
  | inl empty ↦
      let first : length one ≡ 0 =
      eqb-true (length one) 0 (same.empty ∙ ap (λ (n : ℕ). eqb n 0) empty) in
      ap (λ (t : List ℕ). line_entries (t ++ more)) (nil_from_length one first ∙ sym (nil_from_length other empty))
  | inr some ↦
      let filled : 0 < length other = omega (arith, some) in
      let also : 0 < length one = not_empty (length one) (length other) same.empty filled in
      ap (map line_entry) (front_lines one more also (same.no_end none))
      ∙ same_first one other (lines_of more) same
      ∙ sym (ap (map line_entry) (front_lines other more filled none))
]

-- The entries of a part and a piece are those of the whole bytes and of the rest.
pub split_at : (entries : List ℕ → List Entry) (whole rest old bytes more : List ℕ) → AreWhole entries whole →
    whole ++ rest ≡ old ++ bytes → entries whole ++ entries (rest ++ more) ≡ entries (old ++ (bytes ++ more))
split_at entries whole rest old bytes more is same =
    sym (is (rest ++ more))
    ∙ ap entries
    (sym (append_assoc whole rest more) ∙ ap (λ (t : List ℕ). t ++ more) same ∙ append_assoc old bytes more)

no_lines : (end : Bool) (byte : ℕ) (lines : List (List ℕ)) →
    map line_entry (cond end ([] ∷ lines) (onto_first byte lines)) ≡ [] → ⊥
no_lines true byte lines is = cc
no_lines false byte [] is = cc
no_lines false byte (line ∷ lines) is = cc

pub lines_empty : (bytes : List ℕ) → line_entries bytes ≡ [] → bytes ≡ []
lines_empty [] is = refl
lines_empty (byte ∷ bytes) is = absurd (no_lines (eqb byte 10) byte (lines_of bytes) is)

-- ---- blocks

pub one_entry : (bytes : List ℕ) → length bytes ≡ 2 + big_number 2 bytes → block_entries bytes ≡ Ok (first_message bytes) ∷ []
one_entry bytes exact =
    first_entries bytes (omega (arith, exact))
    ∙ ap (λ (t : List ℕ). Ok (first_message bytes) ∷ block_entries t)
    (drop_all (2 + big_number 2 bytes) bytes (omega (arith, exact)))
    ∙ ap (λ (es : List Entry). Ok (first_message bytes) ∷ es) no_entries

pub one_block : (bytes : List ℕ) → length bytes ≡ 2 + big_number 2 bytes → AreWhole block_entries bytes
one_block bytes exact = λ more.
    front_entries bytes more (omega (arith, exact))
    ∙ ap (λ (t : List ℕ). Ok (first_message bytes) ∷ block_entries (t ++ more))
    (drop_all (2 + big_number 2 bytes) bytes (omega (arith, exact)))
    ∙ sym (ap (λ (es : List Entry). es ++ block_entries more) (one_entry bytes exact))

-- Whole blocks after whole blocks are whole blocks.
both_whole : (first second : List ℕ) → AreWhole block_entries first → AreWhole block_entries second →
    AreWhole block_entries (first ++ second)
both_whole first second one other = λ more.
    ap block_entries (append_assoc first second more)
    ∙ one (second ++ more)
    ∙ ap (λ (es : List Entry). block_entries first ++ es) (other more)
    ∙ sym (append_assoc (block_entries first) (block_entries second) (block_entries more))
    ∙ ap (λ (es : List Entry). es ++ block_entries more) (sym (one second))

-- One more block after whole blocks.
pub next_block : (bytes rest : List ℕ) (count len : ℕ) → rest ≡ drop count bytes → count ≤ length bytes →
    len ≡ big_number 2 rest → 2 + len ≤ length rest → AreWhole block_entries (take count bytes) →
    AreWhole block_entries (take (count + (2 + len)) bytes)
next_block bytes rest count len same within number fits whole =
    let block = take (2 + len) rest in
    let long : length block ≡ 2 + len = length-take-le (2 + len) rest fits in
    let read : big_number 2 rest ≡ big_number 2 block =
    ap (big_number 2) (sym (take-append-drop (2 + len) rest)) ∙ number_front block (drop (2 + len) rest) (omega (arith, long)) in
    subst (AreWhole block_entries)
    (sym (take-add count (2 + len) bytes ∙ ap (λ (t : List ℕ). take count bytes ++ take (2 + len) t) (sym same)))
    (both_whole (take count bytes) block whole (one_block block (omega (arith, long, number, read))))

pub no_blocks_whole : AreWhole block_entries []
no_blocks_whole = λ more. ap (λ (es : List Entry). es ++ block_entries more) (sym no_entries)

pub blocks_empty : (bytes : List ℕ) → block_entries bytes ≡ [] → bytes ≡ []
blocks_empty [] is = refl
blocks_empty (byte ∷ bytes) is = elim (cases_lt (length (byte ∷ bytes)) (2 + big_number 2 (byte ∷ bytes))) [
  | inl cut ↦ let e = sym (cut_entries (byte ∷ bytes) (omega arith) cut) ∙ is in absurd (cc)
  | inr whole ↦ let e = sym (first_entries (byte ∷ bytes) whole) ∙ is in absurd (cc)
]

-- ---- the source of what has come

zeros_length : (n : ℕ) → length {A = ℕ} (replicate n 48) ≡ n
zeros_length n = length-replicate {A = ℕ} n 48

-- The first digits, and the others.
zeros_split : (n first : ℕ) → first ≤ n → replicate {A = ℕ} n 48 ≡ replicate first 48 ++ replicate (n - first) 48
zeros_split n first le =
    sym (replicate-append-replicate {A = ℕ} first (n - first) 48 ∙ ap (λ (k : ℕ). replicate {A = ℕ} k 48) (omega (arith, le)))

-- What a read gives: digits first, and then bytes.
pub record Given (digits read first count : ℕ) (bytes buffer : List ℕ) : Type 0 where
  pub digit : first ≡ min digits (length buffer)
  pub byte : count ≡ min (length bytes - read) (length buffer - first)

module _ (digits read first count : ℕ) (bytes buffer : List ℕ) (given : Given digits read first count bytes buffer) where
  abbrev pub taken : List ℕ
  taken = take count (drop read bytes)

  taken_length : length taken ≡ count
  taken_length = length-take-le count (drop read bytes) (omega (arith, given.byte, length-drop read bytes))

  -- If bytes are read, all digits are.
  others : first < digits → count ≡ 0
  others more = omega (arith, more, given.digit, given.byte)

  -- The remaining bytes before the read.
  pub read_split : replicate digits 48 ++ drop read bytes
      ≡ (replicate first 48 ++ taken) ++ (replicate (digits - first) 48 ++ drop (read + count) bytes)
  read_split = elim (cases_lt first digits) [
    | inl more ↦
        let none = others more in
        ap (λ (t : List ℕ). t ++ drop read bytes) (zeros_split digits first (omega (arith, more)))
        ∙ append_assoc (replicate first 48) (replicate (digits - first) 48) (drop read bytes)
        ∙ sym (
        ap (λ (t : List ℕ). t ++ (replicate (digits - first) 48 ++ drop (read + count) bytes))
        (ap (λ (n : ℕ). replicate first 48 ++ take n (drop read bytes)) none ∙ append-nil (replicate first 48))
        ∙ ap (λ (n : ℕ). replicate first 48 ++ (replicate (digits - first) 48 ++ drop n bytes))
        (omega (arith, none))
        )
    | inr all ↦
        let same : first ≡ digits = omega (arith, all, given.digit) in
        let nothing : digits - first ≡ 0 = omega (arith, same) in
        let empty : replicate {A = ℕ} (digits - first) 48 ≡ [] = ap (λ (n : ℕ). replicate {A = ℕ} n 48) nothing in
        ap (λ (n : ℕ). replicate n 48 ++ drop read bytes) (sym same)
        ∙ ap (λ (t : List ℕ). replicate first 48 ++ t)
        (sym (take-append-drop count (drop read bytes)) ∙ ap (λ (t : List ℕ). taken ++ t) (drop-drop count read bytes))
        ∙ sym (append_assoc (replicate first 48) taken (drop (read + count) bytes))
        ∙ ap (λ (t : List ℕ). (replicate first 48 ++ taken) ++ (t ++ drop (read + count) bytes)) (sym empty)
  ]

  -- The filled part of the buffer.
  pub buffer_filled : (mid new rest : List ℕ) → mid ≡ replicate first 48 ++ drop first buffer →
      new ≡ take first mid ++ (taken ++ rest) → take (first + count) new ≡ replicate first 48 ++ taken
  buffer_filled mid new rest one two =
      let front : take first mid ≡ replicate first 48 =
      ap (take first) one ∙ take_at (replicate first 48) (drop first buffer) first (zeros_length first) in
      ap (take (first + count)) (
      two
      ∙ ap (λ (t : List ℕ). t ++ (taken ++ rest)) front
      ∙ sym (append_assoc (replicate first 48) taken rest)
      )
      ∙ take_at (replicate first 48 ++ taken) rest (first + count)
      (omega (arith, length-append {A = ℕ} (replicate first 48) taken, zeros_length first, taken_length))

  -- Nothing is read only if nothing remains.
  pub nothing_left : first + count ≡ 0 → 0 < length buffer → replicate (digits - first) 48 ++ drop (read + count) bytes ≡ []
  nothing_left none room =
      let zero_digits : digits - first ≡ 0 = omega (arith, none, room, given.digit) in
      ap (λ (n : ℕ). replicate n 48 ++ drop (read + count) bytes) zero_digits
      ∙ drop_all (read + count) bytes (omega (arith, none, room, given.digit, given.byte))

  -- As many bytes are read as remain or fit.
  pub read_count : first + count ≡ min (length (replicate digits 48 ++ drop read bytes)) (length buffer)
  read_count =
      omega (
        arith,
        given.digit,
        given.byte,
        length-append {A = ℕ} (replicate digits 48) (drop read bytes),
        zeros_length digits,
        length-drop read bytes,
      )

  -- The remaining bytes after the read.
  pub read_left : replicate (digits - first) 48 ++ drop (read + count) bytes
      ≡ drop (length buffer) (replicate digits 48 ++ drop read bytes)
  read_left = elim (cases_lt (first + count) (length buffer)) [
    | inl less ↦
        -- all bytes were read
        let zero_digits : digits - first ≡ 0 = omega (arith, less, given.digit, given.byte) in
        ap (λ (n : ℕ). replicate n 48 ++ drop (read + count) bytes) zero_digits
        ∙ drop_all (read + count) bytes (omega (arith, less, given.digit, given.byte))
        ∙ sym (drop_all (length buffer) (replicate digits 48 ++ drop read bytes)
        (omega (arith, less, read_count, given.digit, given.byte)))
    | inr full ↦
        let sized : length buffer ≡ first + count = omega (arith, full, given.digit, given.byte) in
        sym (
        ap (λ (t : List ℕ). drop (length buffer) t) read_split
        ∙ drop_at (replicate first 48 ++ taken) (replicate (digits - first) 48 ++ drop (read + count) bytes) (length buffer)
        (omega (
          arith,
          sized,
          length-append {A = ℕ} (replicate first 48) taken,
          zeros_length first,
          taken_length,
        ))
        )
  ]
