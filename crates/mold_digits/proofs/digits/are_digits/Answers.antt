use Rattle.std.proofs.Common.{arith, ◌∙◌, ap, List, ℕ}
use Rattle.std.proofs.lemmas.List.{take_all}
use Rattle.std.specs.List.{list_all}
use Rattle.hex.specs.Hex.{is_hex_digit}
use Rattle.mold_digits.proofs.DigitLemmas.{tested_more}
use Rattle.mold_digits.proofs.digits.are_digits.Goals as goal

pub bytes-preserved : goal.bytes-preserved
bytes-preserved c = tested_more _ c.bytes.i c.bytes.seen _ (omega arith) c.digit_value-seen.ensures c.bytes.invariant

pub returns : goal.returns
returns c = c.bytes.invariant ∙ ap (λ (t : List ℕ). list_all is_hex_digit t) (take_all c.bytes.i _ (omega arith))
