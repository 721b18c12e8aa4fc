use Rattle.std.proofs.Common.{refl}
use Rattle.clap.proofs.OnLiterals.{clap_on_literals}
use Rattle.mold_words.specs.Addresses.{address_of, host_of, plain_number}
use Rattle.mold_words.specs.Words.{mold_app}
use Rattle.mold_words.specs.Orders.{feed_of, format_in, published_in, feed_times_in, has_no_address, order_at, port_order_at, order_of, sent_lines_in}
use Rattle.mold_digits.specs.Numbers.{decimal_of}
use Rattle.mold_words.specs.Values.{number_of, session_of}
use Rattle.mold_words.proofs.laws.feed_taken_law.Goals as goal

pub returns : goal.returns
unfolding clap_on_literals mold_app order_of has_no_address order_at port_order_at feed_of published_in format_in sent_lines_in feed_times_in address_of host_of plain_number number_of decimal_of session_of
returns c = record { usual = (refl, refl); served = (refl, refl); given = (refl, refl); no_blocks = refl; no_line = refl }
