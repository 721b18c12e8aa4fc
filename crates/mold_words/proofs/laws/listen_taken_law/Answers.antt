use Rattle.std.proofs.Common.{refl}
use Rattle.clap.proofs.OnLiterals.{clap_on_literals}
use Rattle.mold_words.specs.Addresses.{address_of, host_of, plain_number}
use Rattle.mold_words.specs.Words.{mold_app}
use Rattle.mold_words.specs.Orders.{format_in, has_no_address, listen_in, listen_of, order_at, port_order_at, order_of}
use Rattle.mold_digits.specs.Numbers.{decimal_of}
use Rattle.mold_words.specs.Values.{number_of, session_of}
use Rattle.mold_words.proofs.laws.listen_taken_law.Goals as goal

pub returns : goal.returns
unfolding clap_on_literals mold_app order_of has_no_address order_at port_order_at listen_of listen_in format_in address_of host_of plain_number number_of decimal_of session_of
returns c = record { usual = (refl, refl); live = (refl, refl); report = (refl, refl); blocks = (refl, refl); to_empty = (refl, refl); no_blocks = refl }
