-- Decimal numbers of three to eight digits.
use Rattle.std.proofs.Common.{◌≡◌, ◌∙◌, ℕ, ◌+◌, ◌/◌, ◌%◌, ◌^◌, ◌<◌, ◌≤◌, List, [], ◌∷◌, ◌++◌, ap, append_assoc, arith, decimal}
use Rattle.std.proofs.lemmas.Fmt.{decimal_digit, decimal_step}
use Rattle.mold_digits.specs.Decimals.{last_four}

-- The last two digits follow the digits before them.
two_behind : (n : ℕ) → 100 ≤ n → n < 2 ^ 64 → decimal n ≡ decimal (n / 100) ++ (48 + n / 10 % 10) ∷ (48 + n % 10) ∷ []
two_behind n high small =
    decimal_step n (omega arith) small
    ∙ ap (λ (ds : List ℕ). ds ++ (48 + n % 10) ∷ []) (decimal_step (n / 10) (omega arith) (omega arith))
    ∙ append_assoc (decimal (n / 10 / 10)) ((48 + n / 10 % 10) ∷ []) ((48 + n % 10) ∷ [])
    ∙ ap (λ (k : ℕ). decimal k ++ (48 + n / 10 % 10) ∷ (48 + n % 10) ∷ []) (omega arith)

-- The last four digits follow the digits before them.
four_behind : (n : ℕ) → 10000 ≤ n → n < 2 ^ 64 → decimal n ≡ decimal (n / 10000) ++ last_four n
four_behind n high small =
    let hundreds : n / 100 / 10 ≡ n / 1000 = omega arith in
    let rest : n / 100 / 100 ≡ n / 10000 = omega arith in
    two_behind n (omega arith) small
    ∙ ap (λ (ds : List ℕ). ds ++ (48 + n / 10 % 10) ∷ (48 + n % 10) ∷ [])
    (two_behind (n / 100) (omega arith) (omega arith)
    ∙ ap (λ (k : ℕ). decimal (n / 100 / 100) ++ (48 + k % 10) ∷ (48 + n / 100 % 10) ∷ []) hundreds
    ∙ ap (λ (k : ℕ). decimal k ++ (48 + n / 1000 % 10) ∷ (48 + n / 100 % 10) ∷ []) rest)
    ∙ append_assoc (decimal (n / 10000)) ((48 + n / 1000 % 10) ∷ (48 + n / 100 % 10) ∷ [])
    ((48 + n / 10 % 10) ∷ (48 + n % 10) ∷ [])

one_digit : (n : ℕ) → n < 10 → decimal n ≡ (48 + n) ∷ []
one_digit n small = decimal_digit n small

pub two_digits : (n : ℕ) → 10 ≤ n → n < 100 → decimal n ≡ (48 + n / 10) ∷ (48 + n % 10) ∷ []
two_digits n high small =
    decimal_step n high (omega arith)
    ∙ ap (λ (ds : List ℕ). ds ++ (48 + n % 10) ∷ []) (one_digit (n / 10) (omega arith))

pub three_digits : (n : ℕ) → 100 ≤ n → n < 1000 →
    decimal n ≡ (48 + n / 100) ∷ (48 + n / 10 % 10) ∷ (48 + n % 10) ∷ []
three_digits n high small =
    two_behind n high (omega arith)
    ∙ ap (λ (ds : List ℕ). ds ++ (48 + n / 10 % 10) ∷ (48 + n % 10) ∷ []) (one_digit (n / 100) (omega arith))

pub four_digits : (n : ℕ) → 1000 ≤ n → n < 10000 → decimal n ≡ last_four n
four_digits n high small =
    let thousands : n / 100 / 10 ≡ n / 1000 % 10 = omega arith in
    two_behind n (omega arith) (omega arith)
    ∙ ap (λ (ds : List ℕ). ds ++ (48 + n / 10 % 10) ∷ (48 + n % 10) ∷ [])
    (two_digits (n / 100) (omega arith) (omega arith)
    ∙ ap (λ (k : ℕ). (48 + k) ∷ (48 + n / 100 % 10) ∷ []) thousands)

-- The digits before the last four.
pub behind_digits : (n : ℕ) (front : List ℕ) → 10000 ≤ n → n < 100000000 → decimal (n / 10000) ≡ front →
    decimal n ≡ front ++ last_four n
behind_digits n front high small is =
    four_behind n high (omega arith) ∙ ap (λ (ds : List ℕ). ds ++ last_four n) is

pub five_digits : (n : ℕ) → 10000 ≤ n → n < 100000000 → n / 10000 < 10 → decimal n ≡ (48 + n / 10000) ∷ last_four n
five_digits n high small front = behind_digits n _ high small (one_digit (n / 10000) front)

pub six_digits : (n : ℕ) → n < 100000000 → 10 ≤ n / 10000 → n / 10000 < 100 →
    decimal n ≡ (48 + n / 10000 / 10) ∷ (48 + n / 10000 % 10) ∷ last_four n
six_digits n small least most = behind_digits n _ (omega arith) small (two_digits (n / 10000) least most)

pub seven_digits : (n : ℕ) → n < 100000000 → 100 ≤ n / 10000 → n / 10000 < 1000 →
    decimal n ≡ (48 + n / 10000 / 100) ∷ (48 + n / 10000 / 10 % 10) ∷ (48 + n / 10000 % 10) ∷ last_four n
seven_digits n small least most = behind_digits n _ (omega arith) small (three_digits (n / 10000) least most)

pub eight_digits : (n : ℕ) → n < 100000000 → 1000 ≤ n / 10000 → decimal n ≡ last_four (n / 10000) ++ last_four n
eight_digits n small least = behind_digits n _ (omega arith) small (four_digits (n / 10000) least (omega arith))
