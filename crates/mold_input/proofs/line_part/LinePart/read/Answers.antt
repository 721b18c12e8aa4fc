use Rattle.std.proofs.Common.{arith, ◌≡◌, ◌∙◌, ◌/◌, ap, sym, List, ℕ, Err, length, replicate, ◌++◌, inl, inr, true}
use Rattle.mold_input.specs.Entries.{line_entry}
use Rattle.mold_input.specs.LongLines.{bytes_of}
use Rattle.mold_input.specs.declared.input_fault.InputFault.TheVariants.{TooLong}
use Rattle.mold_input.proofs.LongLemmas.{counted_digits, digits, long_entry, part_length, part_refused}
use Rattle.mold_input.proofs.line_part.LinePart.read.Goals as goal
use Rattle.mold_input.proofs.line_part.LinePart.read.Goals.{else-len-eq0-via-then-len-eq0+else-are_digits, else-len-eq0-via-else-len-eq0}

pub returns-then-are_digits : goal.returns-then-are_digits
returns-then-are_digits c =
    let n = c.self.inside.counted in
    let kept = c.self.inside.kept.items in
    let shown : bytes_of c.args.self.now ≡ replicate n 48 ++ kept = ap bytes_of (sym c.self.view_is) in
    let len : c.in-Some.len ≡ length (replicate n 48 ++ kept) =
    omega (arith, c.in-Some.ensures, ap (λ (t : List ℕ). length t) shown) in
    let good : digits kept ≡ true =
    ap digits (sym c.as_slice-then-len-eq0.ensures.value) ∙ sym c.are_digits.ensures ∙ c.if-are_digits.true in
    ap line_entry shown
    ∙ long_entry (replicate n 48 ++ kept) (counted_digits n kept good) (omega (arith, len, c.if-len-eq0.true))
    (omega (arith, part_length n kept, c.self.invariant (omega (arith, c.if-self-eq0.false))))
    ∙ ap (λ (k : ℕ). Err (TooLong (k / 2))) (sym len)

pub returns : goal.returns
returns c =
    let n = c.self.inside.counted in
    let kept = c.self.inside.kept.items in
    let shown : bytes_of c.args.self.now ≡ replicate n 48 ++ kept = ap bytes_of (sym c.self.view_is) in
    let len : c.in-Some.len ≡ length (replicate n 48 ++ kept) =
    omega (arith, c.in-Some.ensures, ap (λ (t : List ℕ). length t) shown) in
    ap line_entry shown
    ∙ part_refused n kept (elim c.else-len-eq0.branch [
      | else-len-eq0-via-then-len-eq0+else-are_digits w ↦
          inl (ap digits (sym w.as_slice-then-len-eq0.ensures.value) ∙ sym w.are_digits.ensures ∙ w.if-are_digits.false)
      | else-len-eq0-via-else-len-eq0 w ↦ inr (omega (arith, len, w.if-len-eq0.false))
    ])
