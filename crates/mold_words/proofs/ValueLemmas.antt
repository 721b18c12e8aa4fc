-- Lemmas about the values of options.
use Rattle.std.proofs.Common.{arith, ◌≡◌, ◌∙◌, ◌&&◌, ◌⊎◌, ℕ, zero, suc, ◌-◌, ◌<◌, ◌≤◌, Bool, true, false}
use Rattle.std.proofs.Common.{◌++◌, length, drop, replicate, Some, None}
use Rattle.std.proofs.Common.{inl, inr, refl}
use Rattle.std.specs.List.{list_all}
use Rattle.std.proofs.lemmas.Bool.Decides.{nat_tests}
use Rattle.std.proofs.lemmas.List.{drop-replicate}
use Rattle.std.proofs.lemmas.List.Folds.{list_all-append}
use Rattle.clap.specs.Words.{Text}
use Rattle.mold_digits.specs.Numbers.{decimal_of}
use Rattle.mold_words.specs.Values.{is_character, is_session, session_of, is_sized, is_within, number_of}

both : (a b : Bool) → (a && b) ≡ true → (a ≡ true) × (b ≡ true)
both true b is = (refl, is)
both false b is = absurd (cc)

-- ---- sessions

pub no_session : (text : Text) → is_session text ≡ false → None ≡ session_of text
unfolding session_of
no_session text none = rw none refl

-- the spaces after the characters are the rest of ten spaces
pub spaced : (text : Text) → is_session text ≡ true →
    Some (text ++ drop (length text) (replicate 10 32)) ≡ session_of text
unfolding session_of
spaced text is = rw (is, drop-replicate) refl

spaces : (n : ℕ) → list_all is_character (replicate n 32) ≡ true
spaces zero = refl
spaces (suc n) = spaces n

pub named : (text : Text) → is_session text ≡ true →
    list_all is_character (text ++ drop (length text) (replicate 10 32)) ≡ true
named text is =
    let characters = (both (is_sized 10 text) _ is).1 in
    list_all-append is_character text (drop (length text) (replicate 10 32))
    ∙ rw (characters, drop-replicate) (spaces (10 - length text))

-- ---- numbers

pub no_number : (least most : ℕ) (text : Text) → decimal_of text ≡ None → None ≡ number_of least most text
unfolding number_of
no_number least most text none = rw none refl

not_within : (least most n : ℕ) → (n < least) ⊎ (most < n) → is_within least most n ≡ false
not_within least most n out = grind (arith, nat_tests)

pub out_of_range : (least most n : ℕ) (text : Text) → decimal_of text ≡ Some n →
    (n < least) ⊎ ((least ≤ n) × (most < n)) → None ≡ number_of least most text
unfolding number_of
out_of_range least most n text read out =
    rw (read, not_within least most n (elim out [ inl x ↦ inl x | inr x ↦ inr x.1 ])) refl

within : (least most n : ℕ) → least ≤ n → n ≤ most → is_within least most n ≡ true
within least most n above below = grind (arith, nat_tests)

pub number_in_range : (least most n : ℕ) (text : Text) → decimal_of text ≡ Some n → least ≤ n → n ≤ most →
    Some n ≡ number_of least most text
unfolding number_of
number_in_range least most n text read above below = rw (read, within least most n above below) refl
