use Rattle.std.proofs.Common.{refl}
use Rattle.clap.proofs.OnLiterals.{clap_on_literals}
use Rattle.mold_words.specs.Words.{mold_app}
use Rattle.mold_words.proofs.laws.asked_law.Goals as goal

pub returns : goal.returns
unfolding clap_on_literals mold_app
returns c = record {
  help = refl;
  show_help = refl;
  version = refl;
  short_version = refl;
  unknown = refl;
}
