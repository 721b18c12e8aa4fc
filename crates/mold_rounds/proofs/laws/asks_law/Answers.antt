use Rattle.mold_rounds.proofs.AsksLemmas.{PacksFronts, asks_few, asks_more, asks_none, brings, carried_any}
use Rattle.mold_rounds.proofs.laws.asks_law.Goals.{After-packing_law}
use Rattle.mold_rounds.proofs.laws.asks_law.Goals as goal

packs_fronts : After-packing_law → PacksFronts
packs_fronts c = record {
  front_is = c.front_law.ensures.front;
  part = c.first_part_law.ensures;
  first = c.packing_law.ensures.first;
}

pub returns : goal.returns
returns c = record {
  none = asks_none;
  more = asks_more (packs_fronts c);
  some = brings (packs_fronts c);
  few = asks_few;
  any = carried_any;
}
