use Rattle.std.proofs.Common.{refl}
use Rattle.mold_words.specs.Orders.{servers_in}
use Rattle.mold_words.specs.Values.{values_of}
use Rattle.mold_words.proofs.receive_options.servers_in.Goals as goal

pub returns-in-None-clause-value : goal.returns-in-None-clause-value
unfolding servers_in values_of
returns-in-None-clause-value c = rw (← c.texts_in.ensures, c.in-None.is, c.new.ensures.items) refl
