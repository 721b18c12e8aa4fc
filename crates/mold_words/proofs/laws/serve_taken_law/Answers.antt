use Rattle.std.proofs.Common.{refl}
use Rattle.clap.proofs.OnLiterals.{clap_on_literals}
use Rattle.mold_words.specs.Addresses.{address_of, host_of, plain_number}
use Rattle.mold_words.specs.Words.{mold_app}
use Rattle.mold_words.specs.Orders.{bound_in, has_no_address, order_at, port_order_at, order_of, serve_of}
use Rattle.mold_digits.specs.Numbers.{decimal_of}
use Rattle.mold_words.specs.Values.{number_of, session_of}
use Rattle.mold_words.proofs.laws.serve_taken_law.Goals as goal

pub returns : goal.returns
unfolding clap_on_literals mold_app order_of has_no_address order_at port_order_at serve_of bound_in address_of host_of plain_number number_of decimal_of session_of
returns c = record { usual = (refl, refl); live = (refl, refl); follow = (refl, refl); bounded = (refl, refl) }
