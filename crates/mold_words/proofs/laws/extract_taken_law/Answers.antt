use Rattle.std.proofs.Common.{refl}
use Rattle.clap.proofs.OnLiterals.{clap_on_literals}
use Rattle.std.specs.Net.Reader.{read_ipv4, read_ipv6, read_number, read_octet, read_segment, read_segments}
use Rattle.mold_digits.specs.Numbers.{decimal_of}
use Rattle.mold_words.specs.Addresses.{host_of, plain_number}
use Rattle.mold_words.specs.CaptureOptions.{captures_of}
use Rattle.mold_words.specs.IpAddresses.{ip_of, ipv6_of}
use Rattle.mold_words.specs.Words.{mold_app}
use Rattle.mold_words.specs.Orders.{captures_in, has_no_address, extract_of, form_in, input_in, order_of, order_at}
use Rattle.mold_words.specs.Values.{number_of, session_of, values_of}
use Rattle.mold_words.proofs.laws.extract_taken_law.Goals as goal

pub returns : goal.returns
unfolding clap_on_literals mold_app order_of has_no_address order_at extract_of form_in input_in captures_in captures_of values_of ip_of host_of plain_number ipv6_of read_ipv6 read_segments read_segment read_ipv4 read_octet read_number number_of decimal_of session_of
returns c = record {
  blocks = (refl, refl);
  lines = (refl, refl);
  captures = (refl, refl);
  no_form = refl;
  both_forms = refl;
  zero = refl;
  above = refl;
  no_input = refl;
  no_file = refl;
  journal = refl;
}
