use Rattle.mold_wire.specs.Reading.{reading}
use Rattle.mold_receiver.proofs.RefusalLemmas.{never_memory}
use Rattle.mold_receiver.proofs.laws.no_memory_law.Goals as goal

pub returns : goal.returns
returns c v bytes is = never_memory c.cause_law.ensures v (reading bytes) is
