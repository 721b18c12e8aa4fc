use Rattle.std.proofs.Common.{refl}
use Rattle.mold_words.specs.Values.{values_of}
use Rattle.mold_words.proofs.capture_options.groups_in.Goals as goal

pub returns-in-None : goal.returns-in-None
unfolding values_of
returns-in-None c = rw (← c.texts_in.ensures, c.in-None.is, c.new.ensures.items) refl
