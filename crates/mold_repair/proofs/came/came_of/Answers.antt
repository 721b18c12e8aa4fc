use Rattle.std.proofs.Common.{◌+◌, ◌∙◌, ap}
use Rattle.mold_receiver.specs.View.{View}
use Rattle.mold_repair.specs.Came.{came_below}
use Rattle.mold_repair.proofs.came.came_of.Goals as goal
use Rattle.mold_wire.specs.Reading.{reading}

pub returns : goal.returns
returns c =
    let view = c.receiver-receiver.ensures in
    let next = c.next.ensures ∙ ap (λ (v : View). v.next) view in
    let window = c.window.ensures.window ∙ ap (λ (v : View). v.window) view in
    c.came_below.ensures ∙ (λ i. came_below (next i + window i) (reading c.args.datagram.now))
