use Rattle.std.proofs.Common.{refl}
use Rattle.clap.proofs.OnLiterals.{clap_on_literals}
use Rattle.mold_words.specs.Words.{mold_app}
use Rattle.mold_words.specs.Orders.{has_no_address, limits_in, order_of, order_at, sim_of, local_in}
use Rattle.mold_digits.specs.Numbers.{decimal_of}
use Rattle.mold_words.specs.Values.{number_of, session_of}
use Rattle.mold_words.proofs.laws.sim_taken_law.Goals as goal

pub returns : goal.returns
unfolding clap_on_literals mold_app order_of has_no_address order_at sim_of local_in limits_in number_of decimal_of session_of
returns c = record { usual = (refl, refl); given = (refl, refl); above = refl }
