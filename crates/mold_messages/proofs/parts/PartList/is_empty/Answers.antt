use Rattle.std.proofs.Common.{◌≡◌, ℕ, ◌==◌, length, ap, arith, ◌∙◌}
use Rattle.mold_messages.specs.Parts.{Marked}
use Rattle.mold_messages.specs.declared.parts.TheConstants.{SPACING}
use Rattle.mold_messages.proofs.PlaceLemmas.{length-pieces}
use Rattle.mold_messages.proofs.parts.PartList.is_empty.Goals as goal

pub returns : goal.returns
returns c =
    let f = c.self.inside in
    let same : f.ends.len ≡ length c.args.self.now.messages =
    omega (
      arith,
      length-pieces SPACING 0 f.ends.items f.bytes.items,
      ap (λ (m : Marked). length m.messages) c.self.view_is,
    )
    in
    c.is_empty.ensures ∙ ap (λ (n : ℕ). n == 0) same
