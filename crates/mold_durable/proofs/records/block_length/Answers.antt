use Rattle.std.proofs.Common.{refl, inl, ◌∙◌, arith}
use Rattle.mold_session.specs.FileFault.{cut_message}
use Rattle.mold_durable.proofs.ReadingLemmas.{block_cut, block_parts}
use Rattle.mold_durable.proofs.records.block_length.Goals as goal

pub returns-then-body-lt-LENGTH_BYTES-clause-refused : goal.returns-then-body-lt-LENGTH_BYTES-clause-refused
returns-then-body-lt-LENGTH_BYTES-clause-refused c = (
  refl,
  cut_message c.args.body.now (omega (arith, c.requires, c.if-count-eq-MAX_MESSAGES.false)) refl
      (inl (omega (arith, c.if-body-lt-LENGTH_BYTES.true))),
)

pub returns-then-rest-len-clause-refused : goal.returns-then-rest-len-clause-refused
returns-then-rest-len-clause-refused c = (
  refl,
  block_cut c.args.most c.args.count c.from-len.result c.args.body.now c.split_at.result.0.now c.split_at.result.1.now
      (omega (arith, c.requires, c.if-count-eq-MAX_MESSAGES.false)) c.split_at.ensures.front c.split_at.ensures.back
      (c.from-len.ensures ∙ c.read_u16.ensures) (omega (arith, c.if-body-lt-LENGTH_BYTES.false))
      (omega (arith, c.if-len-from.false, c.from.ensures)) (omega (arith, c.if-rest-len.true)),
)

pub returns-clause-block : goal.returns-clause-block
returns-clause-block c =
    block_parts c.args.most c.from-len.result c.args.body.now c.split_at.result.0.now c.split_at.result.1.now
    (λ i. omega (arith, c.type_inv.body i)) c.split_at.ensures.front c.split_at.ensures.back
    (c.from-len.ensures ∙ c.read_u16.ensures) (omega (arith, c.if-body-lt-LENGTH_BYTES.false))
    (omega (arith, c.if-len-from.false, c.from.ensures)) (omega (arith, c.if-rest-len.false))
