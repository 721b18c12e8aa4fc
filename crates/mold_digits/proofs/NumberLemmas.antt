-- The number that digits encode, digit by digit.
use Rattle.std.proofs.Common.{◌≡◌, ℕ, zero, suc, ◌+◌, ◌-◌, ◌*◌, ◌^◌, ◌<◌, ◌≤◌, Bool, true, false, cond, List, [], ◌∷◌}
use Rattle.std.proofs.Common.{length, take, get_or, refl, sym, ap, ◌∙◌, arith, inl, inr, Option, None, Some, take-suc}
use Rattle.std.proofs.Common.{add-one}
use Rattle.std.specs.Prelude.{◌&&◌, nat_le, Result, Ok, Err}
use Rattle.std.specs.Char.{is_ascii_digit, digit_value, IsAsciiDigit}
use Rattle.std.specs.List.{list_all}
use Rattle.std.specs.Result.{OkIff, result_ok}
use Rattle.std.specs.Str.Parse.{digits_value}
use Rattle.std.proofs.lemmas.Bool.{cases_lt, cond-true, cond-false, le-leb, lt-leb, le-ltb, lt-ltb}
use Rattle.std.proofs.Math.Dec.{ltb}
use Rattle.std.proofs.Math.Nat.{pow-succ'}
use Rattle.std.proofs.lemmas.List.{take_all}
use Rattle.std.proofs.lemmas.List.Folds.{list_all-append}
use Rattle.std.proofs.lemmas.Int.Digits.{digits_value_more}
use Rattle.mold_digits.specs.Numbers.{is_sized, decimal_of}

-- What a word encodes, by three tests of it.
abbrev spelled_by : List ℕ → Bool → Bool → Bool → Option ℕ
spelled_by word sized digits small = cond {A = Option ℕ} ((sized && digits) && small) (Some (digits_value 10 word)) None

spelled_is : (word : List ℕ) →
    decimal_of word ≡ spelled_by word (is_sized word) (list_all is_ascii_digit word) (nat_le (digits_value 10 word) 18446744073709551615)
unfolding decimal_of
spelled_is word = refl

and-false : (b : Bool) → b && false ≡ false
and-false true = refl
and-false false = refl

no_digits : (word : List ℕ) (sized small : Bool) → spelled_by word sized false small ≡ None
no_digits word true small = refl
no_digits word false small = refl

-- A word of another length encodes no number.
pub no_size : (word : List ℕ) → is_sized word ≡ false → None ≡ decimal_of word
no_size word e =
    let digits = list_all is_ascii_digit word in
    let small = nat_le (digits_value 10 word) 18446744073709551615 in
    sym (spelled_is word ∙ ap (λ (b : Bool). spelled_by word b digits small) e)

some_bad : (word : List ℕ) (i : ℕ) → i < length word → is_ascii_digit (get_or word i 0) ≡ false →
    list_all is_ascii_digit word ≡ false
some_bad [] i lt e = absurd (omega arith)
some_bad (d ∷ ds) zero lt e = ap (λ (b : Bool). b && list_all is_ascii_digit ds) e
some_bad (d ∷ ds) (suc i) lt e =
    ap (λ (b : Bool). is_ascii_digit d && b) (some_bad ds i (omega arith) e) ∙ and-false (is_ascii_digit d)

-- A word with a byte that is not a digit encodes no number.
pub no_digit : (word : List ℕ) (i : ℕ) → i < length word → is_ascii_digit (get_or word i 0) ≡ false →
    None ≡ decimal_of word
no_digit word i lt e =
    let small = nat_le (digits_value 10 word) 18446744073709551615 in
    sym
    (spelled_is word
    ∙ ap (λ (b : Bool). spelled_by word (is_sized word) b small) (some_bad word i lt e)
    ∙ no_digits word (is_sized word) small)

-- The number of the digits so far.
pub record IsNumberSoFar (word : List ℕ) (i number : ℕ) : Type 0 where
  pub value : number ≡ digits_value 10 (take i word)
  pub less : number < 10 ^ i
  pub digits : list_all is_ascii_digit (take i word) ≡ true

digit_is : (c : ℕ) → IsAsciiDigit c → digit_value c ≡ c - 48
digit_is c is =
    cond-false (ltb c 48) _ _ (le-ltb c 48 is.0) ∙ cond-true (ltb c 58) _ _ (lt-ltb c 58 (omega (arith, is.1)))

all_more : (word : List ℕ) (i : ℕ) → i < length word → list_all is_ascii_digit (take i word) ≡ true →
    is_ascii_digit (get_or word i 0) ≡ true → list_all is_ascii_digit (take (i + 1) word) ≡ true
all_more word i lt before is =
    ap (λ (n : ℕ). list_all is_ascii_digit (take n word)) (add-one i)
    ∙ ap (list_all is_ascii_digit) (take-suc word i 0 lt)
    ∙ list_all-append is_ascii_digit (take i word) (get_or word i 0 ∷ [])
    ∙ ap (λ (b : Bool). b && (is_ascii_digit (get_or word i 0) && true)) before
    ∙ ap (λ (b : Bool). b && true) is

-- One more digit.
pub digit_more : (word : List ℕ) (i number value : ℕ) → i < length word → IsNumberSoFar word i number →
    IsAsciiDigit (get_or word i 0) → is_ascii_digit (get_or word i 0) ≡ true → value ≡ get_or word i 0 - 48 →
    IsNumberSoFar word (i + 1) (number * 10 + value)
digit_more word i number value lt before is test e =
    let one = digit_is (get_or word i 0) is in
    let more = digits_value_more 10 word i lt in
    let power : 10 ^ (i + 1) ≡ 10 * 10 ^ i = ap (λ (n : ℕ). 10 ^ n) (add-one i) ∙ pow-succ' 10 i in
    record {
      value = omega (arith, before.value, one, more, e);
      less = omega (arith, before.less, power, e, is.1);
      digits = all_more word i lt before.digits test;
    }

small_is : (n : ℕ) → {E : Type 0} (result : Result ℕ E) → OkIff result (n < 18446744073709551616) n →
    result_ok result ≡ cond (nat_le n 18446744073709551615) (Some n) None
small_is n (Ok m) is = ap Some is.1 ∙ sym (ap (λ (b : Bool). cond {A = Option ℕ} b (Some n) None) (le-leb n 18446744073709551615 (omega arith)))
small_is n (Err e) not = elim (cases_lt n 18446744073709551616) [
  | inl less ↦ absurd (not less)
  | inr large ↦
      sym (ap (λ (b : Bool). cond {A = Option ℕ} b (Some n) None) (lt-leb n 18446744073709551615 (omega (arith, large))))
]

-- The number of all digits.
pub digits_done : (word : List ℕ) (i number : ℕ) {E : Type 0} (result : Result ℕ E) → is_sized word ≡ true → length word ≤ i →
    IsNumberSoFar word i number → OkIff result (number < 18446744073709551616) number →
    result_ok result ≡ decimal_of word
digits_done word i number result sized all is ok =
    let whole = take_all i word all in
    let digits = ap (list_all is_ascii_digit) (sym whole) ∙ is.digits in
    let value : number ≡ digits_value 10 word = is.value ∙ ap (digits_value 10) whole in
    let small = nat_le (digits_value 10 word) 18446744073709551615 in
    small_is number result ok
    ∙ ap (λ (n : ℕ). cond {A = Option ℕ} (nat_le n 18446744073709551615) (Some n) None) value
    ∙ sym
    (spelled_is word
    ∙ ap (λ (b : Bool). spelled_by word b (list_all is_ascii_digit word) small) sized
    ∙ ap (λ (b : Bool). spelled_by word true b small) digits)
