-- What a read of a scripted file returns.
use Rattle.std.proofs.Common.{◌≡◌, ◌⊎◌, inl, inr, ℕ, ◌+◌, ◌<◌, List, length, set, sym, subst, arith}
use Rattle.std.proofs.lemmas.Bool.{cases_lt}
use Rattle.std.proofs.lemmas.List.{get_or-set_other, get_or-set_same}
use Rattle.std.specs.Prelude.{slice_index}
use Rattle.mold_durable.specs.ScriptedFile.{IsByteAt}

-- The first `count` bytes were copied from offset `at` on.
abbrev pub AreCopied : List ℕ → List ℕ → ℕ → ℕ → List ℕ → Type 0
AreCopied earlier later at count buffer =
    (index : ℕ) → index < count →
    IsByteAt earlier (at + index) (slice_index buffer index) ⊎ IsByteAt later (at + index) (slice_index buffer index)

pub copied_none : (earlier later : List ℕ) (at : ℕ) (buffer : List ℕ) → AreCopied earlier later at 0 buffer
copied_none earlier later at buffer = λ index within. absurd (omega (arith, within))

pub copied_more : (earlier later : List ℕ) (at count byte : ℕ) (buffer : List ℕ) → count < length buffer →
    IsByteAt earlier (at + count) byte ⊎ IsByteAt later (at + count) byte → AreCopied earlier later at count buffer →
    AreCopied earlier later at (count + 1) (set buffer count byte)
copied_more earlier later at count byte buffer inside is so_far = λ index within.
    elim (cases_lt index count) [
      | inl less ↦
          subst (λ (n : ℕ). IsByteAt earlier (at + index) n ⊎ IsByteAt later (at + index) n)
          (sym (get_or-set_other buffer count index byte 0 (λ same. absurd (omega (arith, less, same)))))
          (so_far index less)
      | inr more ↦
          let here : count ≡ index = omega (arith, within, more) in
          subst (λ (i : ℕ). IsByteAt earlier (at + i) (slice_index (set buffer count byte) i)
          ⊎ IsByteAt later (at + i) (slice_index (set buffer count byte) i)) here
          (subst (λ (n : ℕ). IsByteAt earlier (at + count) n ⊎ IsByteAt later (at + count) n)
          (sym (get_or-set_same buffer count byte 0 inside)) is)
    ]
