use Rattle.std.proofs.Common.{◌≡◌, ◌∙◌, Some, None, sym, ap}
use Rattle.mold_digits.specs.Numbers.{decimal_of}
use Rattle.mold_words.proofs.ValueLemmas.{no_number, out_of_range, number_in_range}
use Rattle.mold_words.proofs.values.number_of.Goals as goal

pub returns-in_err-number-clause-value : goal.returns-in_err-number-clause-value
returns-in_err-number-clause-value c =
    let none : decimal_of c.args.text.now ≡ None =
    ap decimal_of (sym c.as_bytes.ensures.value) ∙ sym c.in_err-number.ensures in
    c.from_residual.ensures ∙ no_number c.args.least c.args.most c.args.text.now none

pub returns-then-number-least-clause-value : goal.returns-then-number-least-clause-value
returns-then-number-least-clause-value c =
    let read : decimal_of c.args.text.now ≡ Some c.in_ok-number.number =
    ap decimal_of (sym c.as_bytes.ensures.value) ∙ sym c.in_ok-number.ensures in
    out_of_range c.args.least c.args.most c.in_ok-number.number c.args.text.now read c.then-number-least.either

pub returns-clause-value : goal.returns-clause-value
returns-clause-value c =
    let read : decimal_of c.args.text.now ≡ Some c.in_ok-number.number =
    ap decimal_of (sym c.as_bytes.ensures.value) ∙ sym c.in_ok-number.ensures in
    number_in_range c.args.least c.args.most c.in_ok-number.number c.args.text.now read c.if-number-least.false
    c.if-number-most.false
