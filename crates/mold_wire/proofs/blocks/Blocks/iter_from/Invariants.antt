use Rattle.std.specs.Prelude.{◌≡◌, drop}
use Rattle.mold_wire.proofs.blocks.Blocks.iter_from.Given as goal

abbrev pub invariant-loop-index : goal.invariant-loop-index
invariant-loop-index l = l.rest ≡ drop l._index l.self
