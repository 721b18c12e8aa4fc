use Rattle.std.proofs.Common.{refl}
use Rattle.mold_wire.specs.Block.{messages_at}
use Rattle.mold_wire.proofs.messages.Messages.none.Goals as goal

pub invariant_of-result : goal.invariant_of-result
unfolding messages_at
invariant_of-result c = record { spelled = refl; number = refl; each = tt }

pub returns : goal.returns
unfolding messages_at
returns c = refl
