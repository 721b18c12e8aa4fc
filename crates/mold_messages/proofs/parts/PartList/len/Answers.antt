use Rattle.std.proofs.Common.{length, ap, arith}
use Rattle.mold_messages.specs.Parts.{Marked}
use Rattle.mold_messages.specs.declared.parts.TheConstants.{SPACING}
use Rattle.mold_messages.proofs.PlaceLemmas.{length-pieces}
use Rattle.mold_messages.proofs.parts.PartList.len.Goals as goal

pub returns : goal.returns
returns c =
    let f = c.self.inside in
    omega (
      arith,
      length-pieces SPACING 0 f.ends.items f.bytes.items,
      ap (λ (m : Marked). length m.messages) c.self.view_is,
    )
