use Rattle.std.proofs.Common.{ap, ◌∙◌}
use Rattle.std.proofs.lemmas.Iterator.Consumers.{nth_from_yields_List, YieldsList-from_first}
use Rattle.std.specs.List.{slice_get}
use Rattle.mold_wire.proofs.blocks.Blocks.get.Goals as goal

pub returns : goal.returns
returns c =
    nth_from_yields_List c.nth.result c.nth.new.self c.from.result c.nth.ensures.ran
    (YieldsList-from_first (λ y. y.now) (λ s. s) c.args.self.now c.iter.ensures)
    ∙ ap (slice_get c.args.self.now) c.from.ensures
