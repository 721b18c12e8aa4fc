use Rattle.std.proofs.Common.{refl}
use Rattle.clap.proofs.OnLiterals.{clap_on_literals}
use Rattle.mold_words.specs.Words.{mold_app}
use Rattle.mold_digits.specs.Numbers.{decimal_of}
use Rattle.mold_words.specs.Values.{number_of}
use Rattle.mold_words.specs.Orders.{has_no_address, format_in, order_of, order_at, dump_of}
use Rattle.mold_words.proofs.laws.dump_taken_law.Goals as goal

pub returns : goal.returns
unfolding clap_on_literals mold_app order_of has_no_address order_at dump_of format_in number_of decimal_of
returns c = record {
  usual = (refl, refl);
  given = (refl, refl);
  zero = refl;
  above = refl;
  blocks = (refl, refl);
  to_empty = (refl, refl);
  follow = (refl, refl);
  no_blocks = refl;
}
