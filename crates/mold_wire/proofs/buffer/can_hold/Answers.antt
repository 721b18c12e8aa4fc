use Rattle.std.proofs.Common.{length, arith}
use Rattle.std.proofs.lemmas.Bool.{le-leb}
use Rattle.mold_wire.specs.Buffer.{over, CanHold}
use Rattle.mold_wire.proofs.PackerLemmas.{can_hold_begun}
use Rattle.mold_wire.proofs.buffer.can_hold.Goals as goal

pub returns-else-not-is_open-clause-held : goal.returns-else-not-is_open-clause-held
returns-else-not-is_open-clause-held c items begun long holds =
    let fields = over items c.args.used c.args.count c.args.is_open in
    let found : CanHold (length items) c.args.used c.args.count c.args.is_open = can_hold_begun fields begun holds in
    le-leb _ _ (omega (arith, found.laid c.if-not-is_open.false, c.least_length.ensures))
