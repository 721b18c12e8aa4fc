use Rattle.std.proofs.Common.{◌-◌, sym, ◌∙◌}
use Rattle.mold_receiver.specs.Wanted.{lacks}
use Rattle.mold_receiver.proofs.MissingLemmas.{missing_is}
use Rattle.mold_receiver.proofs.laws.missing_law.Goals as goal

pub returns-clause-lacking : goal.returns-clause-lacking
returns-clause-lacking c v well =
    missing_is (record {
      parts = c.lacking_law.ensures.parts;
      all = c.lacking_law.ensures.all;
      none = c.lacking_law.ensures.none;
      same = c.lacking_law.ensures.same;
    }) v well

pub returns-clause-gaps : goal.returns-clause-gaps
returns-clause-gaps c v well =
    returns-clause-lacking c v well ∙ sym (c.ranges_size_law.ensures (lacks v.store) v.next (v.known - v.next))
