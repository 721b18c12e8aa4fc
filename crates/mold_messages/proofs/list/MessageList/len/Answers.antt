use Rattle.std.proofs.Common.{length, ap, arith}
use Rattle.mold_messages.specs.Listed.{Listed}
use Rattle.mold_messages.proofs.PlaceLemmas.{length-pieces}
use Rattle.mold_messages.proofs.list.MessageList.len.Goals as goal

pub returns : goal.returns
returns c =
    let f = c.self.inside in
    omega (arith, length-pieces 0 0 f.ends.items f.bytes.items, ap (λ (l : Listed). length l.messages) c.self.view_is)
