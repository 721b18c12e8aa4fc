use Rattle.std.proofs.Common.{arith, ◌∙◌, ap, ℕ, Err}
use Rattle.mold_input.specs.declared.input_fault.InputFault.TheVariants.{TooLong}
use Rattle.mold_input.proofs.LongLemmas.{decoded_long, decoded_short}
use Rattle.mold_input.proofs.line_part.read_line.Goals as goal

pub returns-else-line-gt-MAX_LINE : goal.returns-else-line-gt-MAX_LINE
returns-else-line-gt-MAX_LINE c =
    decoded_short c.args.line.now _ _ c.if-not-branch.false (omega (arith, c.if-line-gt-MAX_LINE.false))
    c.in_ok-decode.ensures.value

pub returns-then-line-gt-MAX_LINE : goal.returns-then-line-gt-MAX_LINE
returns-then-line-gt-MAX_LINE c =
    decoded_long c.args.line.now _ _ c.if-not-branch.false (omega (arith, c.if-line-gt-MAX_LINE.true))
    c.in_ok-decode.ensures.value
    ∙ ap (λ (n : ℕ). Err (TooLong n)) (omega (arith, c.len.ensures))
