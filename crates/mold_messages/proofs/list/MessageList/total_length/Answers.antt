use Rattle.std.proofs.Common.{length, ap, arith}
use Rattle.mold_messages.specs.Listed.{Listed, byte_count}
use Rattle.mold_messages.proofs.PlaceLemmas.{length-pieces, joined_all}
use Rattle.mold_messages.proofs.list.MessageList.total_length.Goals as goal

pub returns-clause-value : goal.returns-clause-value
returns-clause-value c =
    let f = c.self.inside in
    omega (
      arith,
      joined_all f.ends.items f.bytes.items c.self.invariant,
      ap (λ (l : Listed). byte_count l.messages) c.self.view_is,
    )

pub returns-clause-few : goal.returns-clause-few
returns-clause-few c =
    let f = c.self.inside in
    omega (
      arith,
      c.as_slice-ends.type_inv,
      c.as_slice-ends.ensures.len,
      length-pieces 0 0 f.ends.items f.bytes.items,
      ap (λ (l : Listed). length l.messages) c.self.view_is,
    )
