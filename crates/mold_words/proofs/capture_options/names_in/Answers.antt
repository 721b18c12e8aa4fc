use Rattle.std.proofs.Common.{inr, refl}
use Rattle.mold_words.specs.CaptureOptions.{captures_of}
use Rattle.mold_words.proofs.capture_options.names_in.Goals as goal

pub returns-in-None-clause-value : goal.returns-in-None-clause-value
unfolding captures_of
returns-in-None-clause-value c = inr (rw (← c.texts_in.ensures, c.in-None.is) refl, refl)
