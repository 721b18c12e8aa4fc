use Rattle.std.proofs.Common.{arith}
use Rattle.mold_receiver.specs.Receive.{data_packet}
use Rattle.mold_receiver.specs.Wanted.{gap_end}
use Rattle.mold_receiver.proofs.GapLemmas.{in_gap, taken_in_gap}
use Rattle.mold_receiver.proofs.LawLemmas.{gap_is, wanted_is}
use Rattle.mold_receiver.proofs.laws.round_law.Goals as goal

pub returns-clause-gap : goal.returns-clause-gap
returns-clause-gap c v end messages bytes well gap fits spelled =
    taken_in_gap (record {
      parts = c.lacking_law.ensures.parts;
      all = c.lacking_law.ensures.all;
      none = c.lacking_law.ensures.none;
      same = c.lacking_law.ensures.same;
    }) v messages end bytes
    (in_gap c.refusal_law.ensures.none v messages end well gap fits)
    (c.reading_law.ensures.read (data_packet v.session v.next messages) bytes spelled)

pub returns-clause-wanted : goal.returns-clause-wanted
returns-clause-wanted c v r messages bytes well wants few spelled =
    let asked = wanted_is v r wants in
    let gap = gap_is v r well wants in
    returns-clause-gap c v (gap_end v) messages bytes well gap (omega (arith, few, asked, gap.after)) spelled
