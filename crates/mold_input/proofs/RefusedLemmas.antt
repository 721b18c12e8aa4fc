-- Lines of packets that can only be refused. If two are refused for the same reason, they hold the same, whatever
-- follows.
use Rattle.std.proofs.Common.{arith, ◌≡◌, ◌∙◌, ℕ, ◌+◌, ◌*◌, ◌/◌, ◌%◌, ◌<◌, ◌≤◌, ◌&&◌, zero, suc, Bool, true, false, eqb}
use Rattle.std.proofs.Common.{List, [], ◌∷◌, ◌++◌, length, length-append, take, drop, Result, Ok, Err, Option, Some}
use Rattle.std.proofs.Common.{◌⊎◌, ap, refl, sym, subst, append_assoc, append-nil, inl, inr, take-append-drop}
use Rattle.std.proofs.Common.{length-take-le, length-drop, unwrap_or}
use Rattle.std.proofs.lemmas.Bool.{and_parts, cases_Bool, cases_eq, cond-false, cond-true}
use Rattle.std.proofs.lemmas.List.{get_or_append_left, take-append-le, take-take, take_at}
use Rattle.std.proofs.lemmas.List.Sums.{AllPass-from_list_all, list_all-from_AllPass}
use Rattle.hex.specs.Hex.{decode_of, decode_pairs, is_hex_digit}
use Rattle.hex.specs.declared.error.FromHexError.{FromHexError}
use Rattle.hex.proofs.HexLemmas.{decode_of-digits, decode_of-even, decode_of-odd, decode_of-ok, decode_of-same}
use Rattle.hex.proofs.HexLemmas.{decode_pairs-digits}
use Rattle.mold_digits.proofs.JoiningLemmas.{decode_pairs-append, joined}
use Rattle.mold_wire.specs.Fault.{IsTrailing}
use Rattle.mold_wire.specs.Reading.{reading}
use Rattle.mold_wire.specs.declared.error.DecodeError.{DecodeError}
use Rattle.mold_wire.specs.declared.error.DecodeError.TheVariants.{Short, BlockCut, Trailing}
use Rattle.mold_wire.specs.declared.packet.Packet.{Packet}
use Rattle.mold_wire.proofs.MeaningLemmas.{refused_is_fault}
use Rattle.mold_wire.proofs.ReadingLemmas.{reading-trailing}
use Rattle.mold_devices.specs.Lines.{HasNoEnd}
use Rattle.mold_devices.proofs.LineLemmas.{HasNoEnd-append}
use Rattle.mold_input.specs.LongLines.{IsSameStart}
use Rattle.mold_input.specs.PacketLines.{bytes_content, content, digits_content, no_packet, not_hex}
use Rattle.mold_input.specs.PacketPart.{IsDecided, IsRefused, IsTooLong, end_in, end_of_digits, even_part, odd_digit}
use Rattle.mold_input.proofs.LongLemmas.{both_digits, digits, digits_more, empty_same}

-- ---- what a line holds, by its digits and its length

content_some : (line : List ℕ) → 0 < length line → content line ≡ digits_content (decode_of line)
unfolding content
content_some [] some = absurd (omega (arith, some))
content_some (byte ∷ bytes) some = refl

bad_result : (line : List ℕ) (r : Result (List ℕ) FromHexError) → decode_of line ≡ r → digits line ≡ false →
    digits_content r ≡ not_hex
bad_result line (Err e) is bad = refl
bad_result line (Ok bytes) is bad =
    let good = list_all-from_AllPass is_hex_digit line (decode_of-ok line bytes is).1 in
    absurd (cc)

some_bad : (line : List ℕ) → digits line ≡ false → 0 < length line
some_bad [] bad = absurd (cc)
some_bad (byte ∷ bytes) bad = omega arith

-- A line with a byte that is not a digit.
pub bad_content : (line : List ℕ) → digits line ≡ false → content line ≡ not_hex
bad_content line bad = content_some line (some_bad line bad) ∙ bad_result line (decode_of line) refl bad

odd_content : (line : List ℕ) → length line % 2 ≡ 1 → content line ≡ not_hex
odd_content line odd = content_some line (omega (arith, odd)) ∙ ap digits_content (decode_of-odd line odd)

-- ---- bytes after a packet

trailing_more : (at : ℕ) (bytes more : List ℕ) → IsTrailing at bytes → IsTrailing at (bytes ++ more)
trailing_more at bytes more is = record {
  packet = is.packet;
  front = is.front;
  more = is.more ++ more;
  whole = is.whole;
  offset = is.offset;
  some = omega (arith, length-append is.more more, is.some);
  parts = ap (λ (t : List ℕ). t ++ more) is.parts ∙ append_assoc is.front is.more more;
}

-- The packet and at least one of the bytes after it.
trailing_prefix : (at : ℕ) (bytes start more : List ℕ) → bytes ≡ start ++ more → at < length start →
    IsTrailing at bytes → IsTrailing at start
trailing_prefix at bytes start more split within is =
    let first : take at start ≡ is.front =
    sym (take-append-le at start more (omega (arith, within)))
    ∙ ap (λ (t : List ℕ). take at t) (sym split ∙ is.parts)
    ∙ take_at is.front is.more at is.offset in
    record {
      packet = is.packet;
      front = is.front;
      more = drop at start;
      whole = is.whole;
      offset = is.offset;
      some = omega (
        arith,
        within,
        length-append is.front (drop at start),
        ap (λ (t : List ℕ). length t) (sym (take-append-drop at start) ∙ ap (λ (t : List ℕ). t ++ drop at start) first),
        is.offset,
      );
      parts = sym (take-append-drop at start) ∙ ap (λ (t : List ℕ). t ++ drop at start) first;
    }

-- ---- digits after digits

pub record Decoded (line bytes : List ℕ) : Type 0 where
  pub more : List ℕ
  pub is : decode_of line ≡ Ok (bytes ++ more)

-- Pairs of digits after a line that decodes.
decoded_more : (line bytes more : List ℕ) → decode_of line ≡ Ok bytes → digits more ≡ true → length more % 2 ≡ 0 →
    Decoded (line ++ more) bytes
decoded_more line bytes more is good even =
    let ok = decode_of-ok line bytes is in
    let whole = ok.0 in
    let next = decode_pairs-digits (0 + length line) more even (AllPass-from_list_all is_hex_digit more good) in
    let first : decode_pairs 0 line ≡ Ok bytes = sym (decode_of-even line whole) ∙ is in
    record {
      more = next.0;
      is =
          decode_of-even (line ++ more) (omega (arith, length-append line more, whole, even))
          ∙ decode_pairs-append 0 line more whole
          ∙ ap (λ (r : Result (List ℕ) FromHexError). joined r (decode_pairs (0 + length line) more)) first
          ∙ ap (λ (r : Result (List ℕ) FromHexError). joined (Ok bytes) r) next.1;
    }

long_some : (at : ℕ) (line : List ℕ) → IsTooLong at line → 0 < length line
long_some at line is =
    let twice = (decode_of-ok line is.bytes is.decoded).2 in
    omega (
      arith,
      twice,
      is.trailing.some,
      ap (λ (t : List ℕ). length t) is.trailing.parts,
      length-append is.trailing.front is.trailing.more,
    )

long_content : (at : ℕ) (line more : List ℕ) → IsTooLong at line → digits more ≡ true → length more % 2 ≡ 0 →
    content (line ++ more) ≡ no_packet (Trailing at)
long_content at line more is good even =
    let decoded = decoded_more line is.bytes more is.decoded good even in
    content_some (line ++ more) (omega (arith, length-append line more, long_some at line is))
    ∙ ap digits_content decoded.is
    ∙ ap (bytes_content (is.bytes ++ decoded.more))
    (reading-trailing at (is.bytes ++ decoded.more) (trailing_more at is.bytes decoded.more is.trailing))

and_false : (first : Bool) → (first && false) ≡ false
and_false true = refl
and_false false = refl

bad_after : (first next : List ℕ) → digits next ≡ false → digits (first ++ next) ≡ false
bad_after first next bad =
    both_digits first next ∙ ap (λ (b : Bool). digits first && b) bad ∙ and_false (digits first)

-- Lines that are too long hold the same, if they have the same packet, and what follows is alike.
same_long : (at : ℕ) (line other more rest : List ℕ) → IsTooLong at line → IsTooLong at other →
    digits more ≡ digits rest → length more % 2 ≡ length rest % 2 → content (line ++ more) ≡ content (other ++ rest)
same_long at line other more rest is too same alike =
    let even = (decode_of-ok line is.bytes is.decoded).0 in
    let other_even = (decode_of-ok other too.bytes too.decoded).0 in
    elim (cases_Bool (digits more)) [
      | inr bad ↦
          bad_content (line ++ more) (bad_after line more bad)
          ∙ sym (bad_content (other ++ rest) (bad_after other rest (sym same ∙ bad)))
      | inl good ↦
          elim (cases_eq (length more % 2) 1) [
            | inl odd ↦
                odd_content (line ++ more) (omega (arith, length-append line more, even, odd))
                ∙ sym (odd_content (other ++ rest) (omega (arith, length-append other rest, other_even, odd, alike)))
            | inr not_odd ↦
                long_content at line more is good (omega (arith, not_odd))
                ∙ sym (long_content at other rest too (sym same ∙ good) (omega (arith, not_odd, alike)))
          ]
    ]

-- ---- lines that are refused for the same reason

-- Both start with a byte that is not a digit, or both are too long for a packet that ends at the same byte.
abbrev pub AreAlike : List ℕ → List ℕ → Type 0
AreAlike line other =
    ((digits line ≡ false) × (digits other ≡ false)) ⊎ ((at : ℕ) × IsTooLong at line × IsTooLong at other)

-- A byte that is not a digit is before or after the others.
bad_before : (first second : List ℕ) → digits first ≡ false → digits (first ++ second) ≡ false
bad_before first second bad = both_digits first second ∙ ap (λ (b : Bool). b && digits second) bad

alike_content : (line other more rest : List ℕ) → AreAlike line other → digits more ≡ digits rest →
    length more % 2 ≡ length rest % 2 → content (line ++ more) ≡ content (other ++ rest)
alike_content line other more rest (inl (bad, other_bad)) same parity =
    bad_content (line ++ more) (bad_before line more bad)
    ∙ sym (bad_content (other ++ rest) (bad_before other rest other_bad))
alike_content line other more rest (inr (at, long, other_long)) same parity =
    same_long at line other more rest long other_long same parity

-- Whatever follows, they hold the same.
alike_more : (line other more rest after : List ℕ) → AreAlike line other → digits more ≡ digits rest →
    length more % 2 ≡ length rest % 2 → content ((line ++ more) ++ after) ≡ content ((other ++ rest) ++ after)
alike_more line other more rest after alike same parity =
    ap content (append_assoc line more after)
    ∙ alike_content line other (more ++ after) (rest ++ after) alike (digits_more more rest after same)
    (omega (arith, length-append more after, length-append rest after, parity))
    ∙ sym (ap content (append_assoc other rest after))

refused_some : (line : List ℕ) → IsRefused line → 0 < length line
refused_some line (inl bad) = some_bad line bad
refused_some line (inr (at, long)) = long_some at line long

alike_self : (line : List ℕ) → IsRefused line → AreAlike line line
alike_self line (inl bad) = inl (bad, bad)
alike_self line (inr (at, long)) = inr (at, long, long)

-- ---- the digit of an odd number

pub record IsOddDigit (number : ℕ) (odd : List ℕ) : Type 0 where
  pub len : length odd ≡ number % 2
  pub digits : digits odd ≡ true
  pub no_end : HasNoEnd odd

zero_no_end : HasNoEnd (48 ∷ [])
zero_no_end zero lt is = absurd (cc)
zero_no_end (suc k) lt is = absurd (omega (arith, lt))

pub odd_digit_is : (number : ℕ) → IsOddDigit number (odd_digit number)
odd_digit_is number = elim (cases_eq (number % 2) 1) [
  | inl odd ↦
      subst (IsOddDigit number) (sym (cond-true (eqb (number % 2) 1) (48 ∷ []) [] (ap (λ (n : ℕ). eqb n 1) odd)))
      (record { len = sym odd; digits = refl; no_end = zero_no_end })
  | inr not_odd ↦
      let even : number % 2 ≡ 0 = omega (arith, not_odd) in
      subst (IsOddDigit number) (sym (cond-false (eqb (number % 2) 1) (48 ∷ []) [] (ap (λ (n : ℕ). eqb n 1) even)))
      (record { len = sym even; digits = refl; no_end = λ k lt is. absurd (omega (arith, lt)) })
]

-- ---- what is kept of a line that is refused

even_is : (base odd : List ℕ) → length base % 2 ≡ 0 → length odd < 2 → even_part (base ++ odd) ≡ base
even_is base odd even few =
    take_at base odd (length (base ++ odd) / 2 * 2) (omega (arith, length-append base odd, even, few))

base_is : (kept : List ℕ) → (is : IsDecided kept) → even_part kept ≡ is.base
base_is kept is = ap even_part is.parts ∙ even_is is.base is.odd is.even is.few

decided_with : (number : ℕ) (base : List ℕ) → length base % 2 ≡ 0 → IsRefused base →
    IsDecided (base ++ odd_digit number)
decided_with number base even refused =
    let odd = odd_digit_is number in
    record {
      base = base;
      odd = odd_digit number;
      parts = refl;
      even = even;
      few = omega (arith, odd.len);
      digits = odd.digits;
      refused = refused;
    }

-- Another digit after the bytes by which the line is refused.
pub decided_odd : (number : ℕ) (kept : List ℕ) → IsDecided kept → IsDecided (even_part kept ++ odd_digit number)
decided_odd number kept is =
    subst (λ (t : List ℕ). IsDecided (t ++ odd_digit number)) (sym (base_is kept is))
    (decided_with number is.base is.even is.refused)

pub decided_even : (kept : List ℕ) → IsDecided kept → IsDecided (even_part kept)
decided_even kept is =
    subst (λ (t : List ℕ). IsDecided t) (append-nil (even_part kept)) (decided_odd 0 kept is)

no_end_prefix : (start more : List ℕ) → HasNoEnd (start ++ more) → HasNoEnd start
no_end_prefix start more none k lt is =
    none k (omega (arith, lt, length-append start more))
    (subst (λ (b : ℕ). eqb b 10 ≡ true) (sym (get_or_append_left start more 0 k lt)) is)

no_end_take : (n : ℕ) (bytes : List ℕ) → HasNoEnd bytes → HasNoEnd (take n bytes)
no_end_take n bytes none =
    no_end_prefix (take n bytes) (drop n bytes) (subst HasNoEnd (sym (take-append-drop n bytes)) none)

-- Digits that are counted take the place of digits that follow a line that is refused.
pub counted_start : (kept more : List ℕ) → IsDecided kept → digits more ≡ true →
    IsSameStart content (even_part kept ++ odd_digit (length kept + length more)) (kept ++ more)
counted_start kept more is good =
    let number = length kept + length more in
    let odd = odd_digit_is number in
    let sized : length kept ≡ length is.base + length is.odd =
    ap (λ (t : List ℕ). length t) is.parts ∙ length-append is.base is.odd in
    let rest : kept ++ more ≡ is.base ++ (is.odd ++ more) =
    ap (λ (t : List ℕ). t ++ more) is.parts ∙ append_assoc is.base is.odd more in
    let good_rest : digits (is.odd ++ more) ≡ true =
    both_digits is.odd more ∙ ap (λ (b : Bool). b && digits more) is.digits ∙ good in
    let some = refused_some is.base is.refused in
    let base = base_is kept is in
    record {
      same = λ after.
          ap (λ (t : List ℕ). content ((t ++ odd_digit number) ++ after)) base
          ∙ alike_more is.base is.base (odd_digit number) (is.odd ++ more) after (alike_self is.base is.refused)
          (odd.digits ∙ sym good_rest)
          (omega (arith, odd.len, length-append is.odd more, sized, is.even))
          ∙ ap (λ (t : List ℕ). content (t ++ after)) (sym rest);
      empty = empty_same (length (even_part kept ++ odd_digit number)) (length (kept ++ more))
          (omega (arith, length-append (even_part kept) (odd_digit number), ap (λ (t : List ℕ). length t) base, some))
          (omega (arith, length-append kept more, sized, some));
      no_end = λ none.
          HasNoEnd-append (even_part kept) (odd_digit number)
          (no_end_take (length kept / 2 * 2) kept (no_end_prefix kept more none)) odd.no_end;
    }

dots_no_end : HasNoEnd (46 ∷ 46 ∷ [])
dots_no_end zero lt is = absurd (cc)
dots_no_end (suc zero) lt is = absurd (cc)
dots_no_end (suc (suc k)) lt is = absurd (omega (arith, lt))

-- Two bytes that are not digits take the place of a line with a byte that is not a digit.
pub dots_start : (kept more : List ℕ) → digits more ≡ false → IsSameStart content (46 ∷ 46 ∷ []) (kept ++ more)
dots_start kept more bad =
    let all : digits (kept ++ more) ≡ false = bad_after kept more bad in
    record {
      same = λ after.
          bad_content ((46 ∷ 46 ∷ []) ++ after) refl
          ∙ sym (bad_content ((kept ++ more) ++ after) (bad_before (kept ++ more) after all));
      empty = empty_same 2 (length (kept ++ more)) (omega arith) (some_bad (kept ++ more) all);
      no_end = λ none. dots_no_end;
    }

pub dots_decided : IsDecided (46 ∷ 46 ∷ [])
dots_decided = decided_with 0 (46 ∷ 46 ∷ []) refl (inl refl)

-- ---- a line that is examined

reading_end : (bytes : List ℕ) (read : Result Packet DecodeError) (at : ℕ) → reading bytes ≡ read →
    end_in read ≡ Some at → reading bytes ≡ Err (Trailing at)
reading_end bytes (Ok packet) at is end = absurd (cc)
reading_end bytes (Err (Short len)) at is end = absurd (cc)
reading_end bytes (Err (BlockCut index)) at is end = absurd (cc)
reading_end bytes (Err (Trailing other)) at is end =
    is ∙ ap (λ (o : Option ℕ). Err (Trailing (unwrap_or o 0))) end

found_end : (line : List ℕ) (r : Result (List ℕ) FromHexError) (at : ℕ) → decode_of line ≡ r →
    end_of_digits r ≡ Some at → IsTooLong at line
found_end line (Err e) at is end = absurd (cc)
found_end line (Ok bytes) at is end = record {
  bytes = bytes;
  decoded = is;
  trailing = refused_is_fault (Trailing at) bytes (decode_of-ok line bytes is).3
      (reading_end bytes (reading bytes) at refl end);
}

-- The digits were found to be too long.
pub too_long : (line : List ℕ) (at : ℕ) → end_of_digits (decode_of line) ≡ Some at → IsTooLong at line
too_long line at end = found_end line (decode_of line) at refl end

first_digits : (first second : List ℕ) → digits (first ++ second) ≡ true → digits first ≡ true
first_digits first second good = (and_parts (digits first) (digits second) (sym (both_digits first second) ∙ good)).0

second_digits : (first second : List ℕ) → digits (first ++ second) ≡ true → digits second ≡ true
second_digits first second good = (and_parts (digits first) (digits second) (sym (both_digits first second) ∙ good)).1

pub long_length : (line : List ℕ) (at : ℕ) → IsTooLong at line → 2 * (at + 1) ≤ length line
long_length line at is =
    let twice = (decode_of-ok line is.bytes is.decoded).2 in
    omega (
      arith,
      twice,
      is.trailing.some,
      is.trailing.offset,
      ap (λ (t : List ℕ). length t) is.trailing.parts,
      length-append is.trailing.front is.trailing.more,
    )

-- The digits of the packet and of one more byte are too long already.
long_prefix : (at : ℕ) (start more : List ℕ) → IsTooLong at (start ++ more) → length start ≡ 2 * (at + 1) →
    digits (start ++ more) ≡ true → length more % 2 ≡ 0 → IsTooLong at start
long_prefix at start more is sized good even =
    let first = first_digits start more good in
    let read = decode_of-digits start (omega (arith, sized)) (AllPass-from_list_all is_hex_digit start first) in
    let twice = (decode_of-ok start read.0 read.1).2 in
    let whole = decoded_more start read.0 more read.1 (second_digits start more good) even in
    record {
      bytes = read.0;
      decoded = read.1;
      trailing = trailing_prefix at is.bytes read.0 whole.more
          (decode_of-same (start ++ more) is.bytes (read.0 ++ whole.more) is.decoded whole.is)
          (omega (arith, sized, twice)) is.trailing;
    }

-- What is kept of a line that is too long.
pub record IsShortened (kept line : List ℕ) : Type 0 where
  pub decided : IsDecided kept
  pub same : IsSameStart content kept line

pub shortened : (line : List ℕ) (at : ℕ) → digits line ≡ true → IsTooLong at (even_part line) →
    IsShortened (take (2 * (at + 1)) line ++ odd_digit (length line)) line
shortened line at good long =
    let even = length line / 2 * 2 in
    let count = 2 * (at + 1) in
    let start = take count line in
    let base = even_part line in
    let rest = drop even line in
    let odd = odd_digit_is (length line) in
    let split : base ++ rest ≡ line = take-append-drop even line in
    let base_length : length base ≡ even = length-take-le even line (omega arith) in
    let fits = long_length base at long in
    let sized : length start ≡ count = length-take-le count line (omega (arith, fits, base_length)) in
    let prefix : take count base ≡ start = take-take count even line (omega (arith, fits, base_length)) in
    let parts : start ++ drop count base ≡ base =
    ap (λ (t : List ℕ). t ++ drop count base) (sym prefix) ∙ take-append-drop count base in
    let base_good : digits base ≡ true = first_digits base rest (ap digits split ∙ good) in
    let rest_good : digits rest ≡ true = second_digits base rest (ap digits split ∙ good) in
    let short : IsTooLong at start =
    long_prefix at start (drop count base) (subst (IsTooLong at) (sym parts) long) sized (ap digits parts ∙ base_good)
    (omega (arith, length-drop count base, base_length)) in
    let line_length : length line ≡ length base + length rest =
    ap (λ (t : List ℕ). length t) (sym split) ∙ length-append base rest in
    record {
      decided = decided_with (length line) start (omega (arith, sized)) (inr (at, short));
      same = record {
        same = λ after.
            alike_more start base (odd_digit (length line)) rest after (inr (at, short, long))
            (odd.digits ∙ sym rest_good)
            (omega (arith, odd.len, line_length, base_length))
            ∙ ap (λ (t : List ℕ). content (t ++ after)) split;
        empty = empty_same (length (start ++ odd_digit (length line))) (length line)
            (omega (arith, length-append start (odd_digit (length line)), sized))
            (omega (arith, line_length, base_length, fits));
        no_end = λ none.
            HasNoEnd-append start (odd_digit (length line)) (no_end_take count line none) odd.no_end;
      };
    }

-- The examination of what is kept found where its packet ends.
pub found_long : (kept read : List ℕ) (len at : ℕ) (end : Option ℕ) → read ≡ kept → len ≡ length kept →
    end ≡ end_of_digits (decode_of (take (len / 2 * 2) read)) → end ≡ Some at → IsTooLong at (even_part kept)
found_long kept read len at end same sized found is =
    too_long (even_part kept) at (
    ap (λ (t : List ℕ). end_of_digits (decode_of (take (length kept / 2 * 2) t))) (sym same)
    ∙ ap (λ (n : ℕ). end_of_digits (decode_of (take (n / 2 * 2) read))) (sym sized)
    ∙ sym found
    ∙ is
    )

pub even_length : (line : List ℕ) → length (even_part line) ≤ length line
even_length line = omega (arith, length-take-le (length line / 2 * 2) line (omega arith))
