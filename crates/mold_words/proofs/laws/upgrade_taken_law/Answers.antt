use Rattle.std.proofs.Common.{refl}
use Rattle.clap.proofs.OnLiterals.{clap_on_literals}
use Rattle.mold_words.specs.Words.{mold_app}
use Rattle.mold_words.specs.Orders.{has_no_address, order_of, order_at, upgrade_of}
use Rattle.mold_words.proofs.laws.upgrade_taken_law.Goals as goal

pub returns : goal.returns
unfolding clap_on_literals mold_app order_of has_no_address order_at upgrade_of
returns c = record { kept = (refl, refl); closed = (refl, refl); same = refl }
