-- The places where a line is split into words.
use Rattle.std.proofs.Common.{◌≡◌, ℕ, zero, suc, ◌+◌, ◌<◌, true, false, eqb, List, [], ◌∷◌, length, take, drop, refl, sym, ap, ◌∙◌, inl, inr, arith, add-one}
use Rattle.std.proofs.Common.{◌≤◌, Option, None, Some}
use Rattle.std.proofs.lemmas.Bool.{cond-true, cond-false, cases_Bool, false≢true}
use Rattle.std.proofs.lemmas.Grind.{common_steps}
use Rattle.std.proofs.lemmas.List.Quantifiers.{position-Some}
use Rattle.std.proofs.lemmas.List.Sums.{fails_before_first}
use Rattle.std.specs.List.{position, position_or_len}
use Rattle.memchr.specs.Find.{IsFirstByte, NoneBefore, Nowhere, Passes, is_byte}
use Rattle.mold_devices.specs.Lines.{onto_first}
use Rattle.mold_sim.specs.Script.{words_of}

-- The byte with this index is a space.
abbrev pub IsSpace : List ℕ → ℕ → Type 0
IsSpace = Passes (is_byte 32)

no_space : (byte : ℕ) → (eqb byte 32 ≡ true → ⊥) → eqb byte 32 ≡ false
no_space byte none = elim (cases_Bool (eqb byte 32)) [ inl is ↦ absurd (none is) | inr is ↦ is ]

first_at : (line : List ℕ) (found : Option ℕ) → position (λ byte. eqb byte 32) line ≡ found →
    IsFirstByte (is_byte 32) line found
first_at line None is =
    let all : length line ≤ position_or_len (λ byte. eqb byte 32) line = grind (arith, common_steps) in
    λ k low high space.
    false≢true (sym (fails_before_first (λ byte. eqb byte 32) line k 0 (omega arith)) ∙ space)
first_at line (Some at) is =
    let found = position-Some (λ byte. eqb byte 32) line at 0 is in (
      record {
        low = omega arith;
        high = found.0;
        before = λ k low high space. false≢true (sym (found.2 k high) ∙ space);
      },
      found.1,
    )

-- The position of the first space is that of the first byte that is one.
pub first_position : (line : List ℕ) → IsFirstByte (is_byte 32) line (position (λ byte. eqb byte 32) line)
first_position line = first_at line (position (λ byte. eqb byte 32) line) refl

-- A line without a space is one word.
pub one_word : (line : List ℕ) → Nowhere (IsSpace line) 0 (length line) → words_of line ≡ line ∷ []
one_word [] none = refl
one_word (byte ∷ bytes) none =
    cond-false (eqb byte 32) _ _ (no_space byte (none 0 (omega arith) (omega arith)))
    ∙ ap (onto_first byte) (one_word bytes (λ k low high is. none (suc k) (omega arith) (omega arith) is))

first_cut : (line : List ℕ) (at : ℕ) → at < length line → IsSpace line at → Nowhere (IsSpace line) 0 at →
    words_of line ≡ take at line ∷ words_of (drop (suc at) line)
first_cut [] at lt is none = absurd (omega arith)
first_cut (byte ∷ bytes) zero lt is none = cond-true (eqb byte 32) _ _ is
first_cut (byte ∷ bytes) (suc at) lt is none =
    cond-false (eqb byte 32) _ _ (no_space byte (none 0 (omega arith) (omega arith)))
    ∙ ap (onto_first byte)
    (first_cut bytes at (omega arith) is (λ k low high space. none (suc k) (omega arith) (omega arith) space))

-- The first space ends the first word.
pub first_word : (line : List ℕ) (at : ℕ) → NoneBefore (IsSpace line) 0 (length line) at → IsSpace line at →
    words_of line ≡ take at line ∷ words_of (drop (at + 1) line)
first_word line at none is =
    first_cut line at none.high is none.before
    ∙ ap (λ (n : ℕ). take at line ∷ words_of (drop n line)) (sym (add-one at))

onto_some : (byte : ℕ) (words : List (List ℕ)) → 0 < length (onto_first byte words)
onto_some byte [] = omega arith
onto_some byte (word ∷ words) = omega arith

some_word : (line : List ℕ) → 0 < length (words_of line)
some_word [] = omega arith
some_word (byte ∷ bytes) = elim (cases_Bool (eqb byte 32)) [
  | inl is ↦ rw (cond-true (eqb byte 32) _ _ is) (omega arith)
  | inr is ↦ rw (cond-false (eqb byte 32) _ _ is) (onto_some byte (words_of bytes))
]

-- A line with four spaces has more than four words.
pub five_words : (line one two three four first second third fourth : List ℕ) →
    words_of line ≡ first ∷ words_of one → words_of one ≡ second ∷ words_of two →
    words_of two ≡ third ∷ words_of three → words_of three ≡ fourth ∷ words_of four → 4 < length (words_of line)
five_words line one two three four first second third fourth p q r s =
    rw (p, q, r, s) (let some = some_word four in omega arith)
