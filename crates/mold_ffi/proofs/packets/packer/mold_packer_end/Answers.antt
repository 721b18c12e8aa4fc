use Rattle.std.proofs.Common.{refl, arith}
use Rattle.mold_ffi.proofs.packets.packer.mold_packer_end.Goals as goal

pub returns-clause-ended : goal.returns-clause-ended
returns-clause-ended c is_limit = (
  refl,
  record { holds = c.end_in-packer.ensures.held 0; limit = omega arith; behind = c.end_in-packer.ensures.behind },
  refl,
)
