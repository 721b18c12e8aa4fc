use Rattle.std.proofs.Common.{refl}
use Rattle.clap.proofs.OnLiterals.{clap_on_literals}
use Rattle.mold_words.specs.Words.{mold_app}
use Rattle.mold_words.specs.CaptureOptions.{captures_of}
use Rattle.mold_words.specs.Orders.{captures_in, has_no_address, order_of, order_at, show_of}
use Rattle.mold_words.specs.Values.{session_of, values_of}
use Rattle.mold_words.proofs.laws.show_taken_law.Goals as goal

pub returns : goal.returns
unfolding clap_on_literals mold_app order_of has_no_address order_at show_of captures_in captures_of values_of session_of
returns c = record {
  plain = (refl, refl);
  request = (refl, refl);
  no_command = (refl, refl);
  captures = (refl, refl);
  request_of_captures = refl;
  filter = refl;
}
