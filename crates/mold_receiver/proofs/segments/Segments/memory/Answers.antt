use Rattle.std.proofs.Common.{ap, arith}
use Rattle.mold_receiver.specs.Segments.{memory_of}
use Rattle.mold_receiver.proofs.segments.Segments.memory.Goals as goal

pub returns : goal.returns
returns c =
    omega (
      arith,
      c.loop-segment.invariant.fits,
      c.loop-segment.invariant.sum,
      ap memory_of c.in-None.ensures.steps.0,
    )
