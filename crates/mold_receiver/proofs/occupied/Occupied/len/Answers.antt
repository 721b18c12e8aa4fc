use Rattle.std.proofs.Common.{List, Bool, length, sym, ap, ◌∙◌}
use Rattle.mold_receiver.proofs.OccupiedRingLemmas.{flags_long}
use Rattle.mold_receiver.proofs.occupied.Occupied.len.Goals as goal

pub returns : goal.returns
returns c =
    sym (flags_long c.self.inside.levels.bits.items c.self.inside.head c.self.inside.count)
    ∙ ap (λ (t : List Bool). length t) c.self.view_is
