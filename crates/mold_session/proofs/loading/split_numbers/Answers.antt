use Rattle.std.proofs.Common.{arith}
use Rattle.mold_session.proofs.HeadLemmas.{byte_and_number}
use Rattle.mold_session.proofs.loading.split_numbers.Goals as goal

pub returns : goal.returns
returns c = record {
  parts = byte_and_number c.args.bytes.now c.split_at.result.0.now c.split_at.result.1.now c.read_u64.result c.requires
      (λ i. omega (arith, c.type_inv.bytes i)) c.split_at.ensures.front c.split_at.ensures.back c.read_u64.ensures;
  fits = omega (arith, c.read_u64.type_inv);
}
