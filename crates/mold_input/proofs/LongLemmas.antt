-- Lines of which only a part is kept have the entry of the whole line.
use Rattle.std.proofs.Common.{arith, ◌≡◌, ◌∙◌, ℕ, ◌+◌, ◌*◌, ◌/◌, ◌%◌, ◌<◌, ◌≤◌, ◌&&◌, ◌⊎◌, zero, suc, Bool, true, false, eqb}
use Rattle.std.proofs.Common.{List, [], ◌∷◌, ◌++◌, length, length-append, replicate, get_or, Result, Ok, Err, ap, refl, sym, subst}
use Rattle.std.proofs.Common.{append-nil, inl, inr, nat_lt}
use Rattle.std.specs.Prelude.{MatchResult}
use Rattle.std.specs.List.{list_all}
use Rattle.std.proofs.Math.Dec.{eqb-suc-zero}
use Rattle.std.proofs.lemmas.Bool.{cases_Bool, cases_eq, cond-false, cond-true, eqb-true}
use Rattle.std.proofs.lemmas.List.{get_or-replicate, length-replicate}
use Rattle.std.proofs.lemmas.List.Folds.{list_all-append}
use Rattle.std.proofs.lemmas.List.Sums.{AllPass-from_list_all, list_all-from_AllPass}
use Rattle.hex.specs.Hex.{decode_of, is_hex_digit}
use Rattle.hex.specs.declared.error.FromHexError.{FromHexError}
use Rattle.hex.proofs.HexLemmas.{decode_of-digits, decode_of-odd, decode_of-ok}
use Rattle.mold_devices.specs.Lines.{HasNoEnd}
use Rattle.mold_input.specs.Entries.{bytes_entry, digits_entry, line_entry}
use Rattle.mold_input.specs.LongLines.{IsSameStart}
use Rattle.mold_input.specs.declared.input_fault.InputFault.TheVariants.{NotHex, TooLong}
use Rattle.mold_input.specs.declared.limits.TheConstants.{MAX_LINE}
use Rattle.mold_input.proofs.BlockLemmas.{less, not_less}

-- All bytes are digits.
abbrev pub digits : List ℕ → Bool
digits bytes = list_all is_hex_digit bytes

-- ---- entries of lines by their digits and their length

refused : (line : List ℕ) (r : Result (List ℕ) FromHexError) → decode_of line ≡ r → digits line ≡ false →
    digits_entry r ≡ Err NotHex
refused line (Err e) is bad = refl
refused line (Ok bytes) is bad =
    let good = list_all-from_AllPass is_hex_digit line (decode_of-ok line bytes is).1 in
    absurd (cc)

-- A line with a byte that is not a digit.
pub bad_entry : (line : List ℕ) → digits line ≡ false → line_entry line ≡ Err NotHex
bad_entry line bad = refused line (decode_of line) refl bad

pub odd_entry : (line : List ℕ) → length line % 2 ≡ 1 → line_entry line ≡ Err NotHex
odd_entry line odd = ap digits_entry (decode_of-odd line odd)

long_bytes : (bytes : List ℕ) → MAX_LINE < 2 * length bytes → bytes_entry bytes ≡ Err (TooLong (length bytes))
long_bytes bytes long = cond-true (nat_lt MAX_LINE (2 * length bytes)) _ _ (less _ _ long)

pub short_bytes : (bytes : List ℕ) → 2 * length bytes ≤ MAX_LINE → bytes_entry bytes ≡ Ok bytes
short_bytes bytes short = cond-false (nat_lt MAX_LINE (2 * length bytes)) _ _ (not_less _ _ short)

-- A line of too many digits.
pub long_entry : (line : List ℕ) → digits line ≡ true → length line % 2 ≡ 0 → MAX_LINE < length line →
    line_entry line ≡ Err (TooLong (length line / 2))
long_entry line good even long =
    let read = decode_of-digits line even (AllPass-from_list_all is_hex_digit line good) in
    let twice = (decode_of-ok line read.0 read.1).2 in
    ap digits_entry read.1
    ∙ long_bytes read.0 (omega (arith, twice, long))
    ∙ ap (λ (n : ℕ). Err (TooLong n)) (omega (arith, twice))

-- Lines of too many bytes have the same entry, if both have the same length, and both are digits or neither is.
pub same_long : (line other : List ℕ) → digits line ≡ digits other → length line ≡ length other →
    MAX_LINE < length line → line_entry line ≡ line_entry other
same_long line other same sized long = elim (cases_Bool (digits line)) [
  | inr bad ↦ bad_entry line bad ∙ sym (bad_entry other (sym same ∙ bad))
  | inl good ↦
      elim (cases_eq (length line % 2) 1) [
        | inl odd ↦
            odd_entry line odd ∙ sym (odd_entry other (ap (λ (n : ℕ). n % 2) (sym sized) ∙ odd))
        | inr other_odd ↦
            long_entry line good (omega (arith, other_odd)) long
            ∙ ap (λ (n : ℕ). Err (TooLong (n / 2))) sized
            ∙ sym (long_entry other (sym same ∙ good) (omega (arith, other_odd, sized)) (omega (arith, long, sized)))
      ]
]

-- ---- bytes that are counted and not kept

zeros_digits : (n : ℕ) → digits (replicate n 48) ≡ true
zeros_digits zero = refl
zeros_digits (suc n) = zeros_digits n

zeros_no_end : (n : ℕ) → HasNoEnd (replicate n 48)
zeros_no_end n = λ k lt is.
    let digit = get_or-replicate {A = ℕ} n k 48 0 (omega (arith, lt, length-replicate {A = ℕ} n 48)) in
    absurd (omega (arith, digit, eqb-true (get_or (replicate n 48) k 0) 10 is))

pub both_digits : (front back : List ℕ) → digits (front ++ back) ≡ (digits front && digits back)
both_digits front back = list_all-append is_hex_digit front back

-- Digits after digits.
pub counted_digits : (n : ℕ) (back : List ℕ) → digits back ≡ true → digits (replicate n 48 ++ back) ≡ true
counted_digits n back good =
    both_digits (replicate n 48) back
    ∙ ap (λ (b : Bool). b && digits back) (zeros_digits n)
    ∙ good

-- What follows does not matter for the comparison.
pub digits_more : (one other more : List ℕ) → digits one ≡ digits other → digits (one ++ more) ≡ digits (other ++ more)
digits_more one other more same =
    both_digits one more ∙ ap (λ (b : Bool). b && digits more) same ∙ sym (both_digits other more)

pub same_start : {M : Type 0} (meaning : List ℕ → M) (bytes : List ℕ) → IsSameStart meaning bytes bytes
same_start meaning bytes = record { same = λ more. refl; empty = refl; no_end = λ none. none }

pub empty_same : (one other : ℕ) → 0 < one → 0 < other → eqb one 0 ≡ eqb other 0
empty_same (suc one) (suc other) some more = eqb-suc-zero one ∙ sym (eqb-suc-zero other)
empty_same zero other some more = absurd (omega (arith, some))
empty_same (suc one) zero some more = absurd (omega (arith, more))

-- Digits that are counted take the place of the same number of digits.
pub digits_counted : (n : ℕ) (bytes : List ℕ) → n ≡ length bytes → digits bytes ≡ true → MAX_LINE < n →
    IsSameStart line_entry (replicate n 48 ++ []) bytes
digits_counted n bytes sized good long =
    let zeros : List ℕ = replicate n 48 ++ [] in
    let counted : length zeros ≡ n = omega (arith, length-append {A = ℕ} (replicate n 48) [], length-replicate {A = ℕ} n 48) in
    let same : digits zeros ≡ digits bytes = counted_digits n [] refl ∙ sym good in
    record {
      same = λ more.
          same_long (zeros ++ more) (bytes ++ more) (digits_more zeros bytes more same)
          (omega (arith, length-append zeros more, length-append bytes more, counted, sized))
          (omega (arith, length-append zeros more, counted, long));
      empty = empty_same (length zeros) (length bytes) (omega (arith, counted, long)) (omega (arith, sized, long));
      no_end = λ none. subst HasNoEnd (sym (append-nil (replicate n 48))) (zeros_no_end n);
    }

some_bad : (bytes : List ℕ) → digits bytes ≡ false → 0 < length bytes
some_bad [] bad = absurd (cc)
some_bad (byte ∷ bytes) bad = omega arith

bad_more : (bytes more : List ℕ) → digits bytes ≡ false → digits (bytes ++ more) ≡ false
bad_more bytes more bad = both_digits bytes more ∙ ap (λ (b : Bool). b && digits more) bad

dot_no_end : HasNoEnd (46 ∷ [])
dot_no_end zero lt is = absurd (cc)
dot_no_end (suc k) lt is = absurd (omega (arith, lt))

-- A byte that is not a digit takes the place of bytes that are not all digits.
pub bad_replaced : (bytes : List ℕ) → digits bytes ≡ false → IsSameStart line_entry (46 ∷ []) bytes
bad_replaced bytes bad = record {
  same = λ more. bad_entry (46 ∷ more) refl ∙ sym (bad_entry (bytes ++ more) (bad_more bytes more bad));
  empty = empty_same 1 (length bytes) (omega arith) (some_bad bytes bad);
  no_end = λ none. dot_no_end;
}

-- The bytes of a part, and bytes after them, are not all digits if one of the two is not.
pub part_bad : (n : ℕ) (kept bytes : List ℕ) → (digits kept && digits bytes) ≡ false →
    digits ((replicate n 48 ++ kept) ++ bytes) ≡ false
part_bad n kept bytes bad =
    both_digits (replicate n 48 ++ kept) bytes
    ∙ ap (λ (b : Bool). b && digits bytes)
    (both_digits (replicate n 48) kept ∙ ap (λ (b : Bool). b && digits kept) (zeros_digits n))
    ∙ bad

-- They are all digits if both are.
pub part_good : (n : ℕ) (kept bytes : List ℕ) → digits kept ≡ true → digits bytes ≡ true →
    digits ((replicate n 48 ++ kept) ++ bytes) ≡ true
part_good n kept bytes first second =
    both_digits (replicate n 48 ++ kept) bytes
    ∙ ap (λ (b : Bool). b && digits bytes) (counted_digits n kept first)
    ∙ second

pub part_length : (n : ℕ) (kept : List ℕ) → length (replicate n 48 ++ kept) ≡ n + length kept
part_length n kept = omega (arith, length-append {A = ℕ} (replicate n 48) kept, length-replicate {A = ℕ} n 48)

-- Of two tests of bytes, one failed.
pub not_both : (first second : Bool) → (first ≡ true → second ≡ false) → (first && second) ≡ false
not_both true second failed = failed refl
not_both false second failed = refl

-- A part that is not all digits, or that has an odd number of them, is refused.
pub part_refused : (n : ℕ) (kept : List ℕ) → (digits kept ≡ false) ⊎ (length (replicate n 48 ++ kept) % 2 ≡ 1) →
    line_entry (replicate n 48 ++ kept) ≡ Err NotHex
part_refused n kept (inl bad) =
    bad_entry (replicate n 48 ++ kept)
    (both_digits (replicate n 48) kept ∙ ap (λ (b : Bool). b && digits kept) (zeros_digits n) ∙ bad)
part_refused n kept (inr odd) = odd_entry (replicate n 48 ++ kept) odd

-- The entry of a line that was decoded to `out`.
decoded : (r : Result (List ℕ) FromHexError) (out : List ℕ) (good : Bool) → good ≡ true →
    MatchResult r (λ read. (good ≡ true) × (out ≡ read)) (λ _. good ≡ false) → r ≡ Ok out
decoded (Ok read) out good is (_, same) = ap Ok (sym same)
decoded (Err e) out good is bad = absurd (cc)

pub decoded_short : (line out : List ℕ) (good : Bool) → good ≡ true → length line ≤ MAX_LINE →
    MatchResult (decode_of line) (λ read. (good ≡ true) × (out ≡ read)) (λ _. good ≡ false) → line_entry line ≡ Ok out
decoded_short line out good is short read =
    let ok = decoded (decode_of line) out good is read in
    let twice = (decode_of-ok line out ok).2 in
    ap digits_entry ok ∙ short_bytes out (omega (arith, twice, short))

pub decoded_long : (line out : List ℕ) (good : Bool) → good ≡ true → MAX_LINE < length line →
    MatchResult (decode_of line) (λ read. (good ≡ true) × (out ≡ read)) (λ _. good ≡ false) →
    line_entry line ≡ Err (TooLong (length out))
decoded_long line out good is long read =
    let ok = decoded (decode_of line) out good is read in
    let twice = (decode_of-ok line out ok).2 in
    ap digits_entry ok ∙ long_bytes out (omega (arith, twice, long))
