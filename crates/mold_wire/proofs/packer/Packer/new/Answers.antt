use Rattle.std.proofs.Common.{arith}
use Rattle.mold_wire.specs.Packer.{IsLimit}
use Rattle.mold_wire.proofs.PackerLemmas.{made}
use Rattle.mold_wire.proofs.packer.Packer.new.Goals as goal

pub invariant_of-result : goal.invariant_of-result
invariant_of-result c =
    let is_limit : IsLimit c.args.limit = (omega arith, omega arith) in
    (made _ c.args.limit (omega (arith, c.in-Ok.ensures.len, c.into_boxed_slice.ensures.len)) is_limit).holds

pub returns-clause-made : goal.returns-clause-made
returns-clause-made c =
    let is_limit : IsLimit c.args.limit = (omega arith, omega arith) in
    (made _ c.args.limit (omega (arith, c.in-Ok.ensures.len, c.into_boxed_slice.ensures.len)) is_limit).seen
