use Rattle.std.proofs.Common.{◌∙◌, Some, ap, sym}
use Rattle.mold_words.proofs.IpLemmas.{given_written, written_given}
use Rattle.mold_words.proofs.laws.ipv6_text_law.Goals as goal

pub returns : goal.returns
returns c = λ text bytes. (
  given_written text bytes,
  λ written. written_given text written.0 written.1 ∙ ap Some (sym written.2),
)
