-- The bytes before a text stay, even if writing stops in the middle.
use Rattle.std.proofs.Common.{◌≡◌, ℕ, ◌≤◌, List, length, take, sym, ap, ◌∙◌, arith}
use Rattle.std.proofs.lemmas.List.{take-take, length-take}

-- The bytes before the earlier text stay when more text is written.
pub kept_through : (old mid new : List ℕ) → take (length old) mid ≡ old → take (length mid) new ≡ mid →
    take (length old) new ≡ old
kept_through old mid new before kept =
    let within : length old ≤ length mid = omega (arith, ap length before, length-take (length old) mid) in
    sym (take-take (length old) (length mid) new within) ∙ ap (take (length old)) kept ∙ before
