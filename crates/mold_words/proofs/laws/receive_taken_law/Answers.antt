use Rattle.std.proofs.Common.{refl}
use Rattle.clap.proofs.OnLiterals.{clap_on_literals}
use Rattle.mold_words.specs.Addresses.{address_of, host_of, plain_number}
use Rattle.mold_words.specs.LinePorts.{descriptor_of, line_address_of, line_port_of}
use Rattle.mold_words.specs.Words.{mold_app}
use Rattle.mold_words.specs.Orders.{format_in, has_no_address, learned_in, lines_in, order_at, order_of, port_order_at, receive_in, receiver_in, session_start_in}
use Rattle.mold_words.specs.Orders.{receive_of, receives_no_address, requests_in, servers_in, start_in}
use Rattle.mold_digits.specs.Numbers.{decimal_of}
use Rattle.mold_words.specs.Values.{number_of, session_of, values_of}
use Rattle.mold_words.proofs.laws.receive_taken_law.Goals as goal

pub returns : goal.returns
unfolding clap_on_literals mold_app order_of has_no_address receives_no_address order_at port_order_at receive_of receive_in session_start_in receiver_in format_in learned_in start_in lines_in servers_in values_of requests_in line_port_of line_address_of descriptor_of address_of host_of plain_number number_of decimal_of session_of
returns c = record {
  usual = (refl, refl);
  given = (refl, refl);
  to_empty = (refl, refl);
  no_blocks = refl;
  no_session = refl;
  both_sessions = refl;
  both_numbers = refl;
  group = refl;
  source = refl;
  ceiling = refl;
  store = refl;
  servers = refl;
}
