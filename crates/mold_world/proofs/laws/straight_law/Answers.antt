use Rattle.mold_world.proofs.StraightLemmas.{StraightLaws, straight}
use Rattle.mold_world.proofs.laws.straight_law.Goals.{After-sending_law}
use Rattle.mold_world.proofs.laws.straight_law.Goals as goal

laws : After-sending_law → StraightLaws
laws c = record {
  run = c.run_law.ensures.run;
  spelled = c.sending_law.ensures.spelled;
  datagram = c.sending_law.ensures.datagram;
  take = c.honest_take_law.ensures;
  taken = c.taken_law.ensures;
  through = c.through_law.ensures;
  read = c.reading_law.ensures.read;
}

pub returns : goal.returns
returns c = straight (laws c)
