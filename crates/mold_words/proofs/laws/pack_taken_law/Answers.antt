use Rattle.std.proofs.Common.{refl}
use Rattle.clap.proofs.OnLiterals.{clap_on_literals}
use Rattle.mold_words.specs.Words.{mold_app}
use Rattle.mold_digits.specs.Numbers.{decimal_of}
use Rattle.mold_words.specs.Values.{session_of, number_of}
use Rattle.mold_words.specs.Orders.{has_no_address, format_in, order_of, order_at, pack_of}
use Rattle.mold_words.proofs.laws.pack_taken_law.Goals as goal

pub returns : goal.returns
unfolding clap_on_literals mold_app order_of has_no_address order_at pack_of format_in session_of number_of decimal_of
returns c = record {
  usual = (refl, refl);
  limit = (refl, refl);
  small = refl;
  blocks = (refl, refl);
  to_empty = (refl, refl);
  no_blocks = refl;
  journal = (refl, refl);
  journal_of_blocks = (refl, refl);
  journal_to_empty = (refl, refl);
}
