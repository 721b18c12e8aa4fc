use Rattle.std.proofs.Common.{refl}
use Rattle.clap.proofs.OnLiterals.{clap_on_literals}
use Rattle.mold_words.specs.Words.{mold_app}
use Rattle.mold_words.specs.Orders.{format_in, has_no_address, limits_in, loop_of, local_in, order_at, port_order_at, order_of}
use Rattle.mold_digits.specs.Numbers.{decimal_of}
use Rattle.mold_words.specs.Values.{number_of, session_of}
use Rattle.mold_words.proofs.laws.loop_taken_law.Goals as goal

pub returns : goal.returns
unfolding clap_on_literals mold_app order_of has_no_address order_at port_order_at loop_of local_in limits_in format_in number_of decimal_of session_of
returns c = record { usual = (refl, refl); report = (refl, refl); blocks = (refl, refl); to_empty = (refl, refl); no_blocks = refl }
