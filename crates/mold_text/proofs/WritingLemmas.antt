-- Text that is written in parts.
use Rattle.std.proofs.Common.{◌≡◌, ℕ, ◌+◌, ◌<◌, List, [], ◌∷◌, ◌++◌, length, length-append, take, set}
use Rattle.std.proofs.Common.{append_assoc, refl, ap, ◌∙◌, arith}
use Rattle.std.proofs.lemmas.List.{length-set, take_more_set}
use Rattle.mold_digits.specs.Writing.{IsWritten}

-- A byte at an offset.
pub written_one :
    (old new : List ℕ) (at x : ℕ) → at < length old → new ≡ set old at x → IsWritten old new at (at + 1) (x ∷ [])
written_one old new at x within is = record {
  stops = refl;
  front = ap (take (at + 1)) is ∙ take_more_set old at x within;
  size = ap (λ (t : List ℕ). length t) is ∙ length-set old at x;
}

-- One text followed by another.
pub written_twice :
    (old mid new : List ℕ) (at stop end : ℕ) (text more : List ℕ) → IsWritten old mid at stop text →
    IsWritten mid new stop end more → IsWritten old new at end (text ++ more)
written_twice old mid new at stop end text more first second = record {
  stops = omega (arith, first.stops, second.stops, length-append text more);
  front = second.front
      ∙ ap (λ (t : List ℕ). t ++ more) first.front
      ∙ append_assoc (take at old) text more;
  size = second.size ∙ first.size;
}
