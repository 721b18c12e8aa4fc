use Rattle.std.proofs.Common.{◌+◌, ℕ, take, ap, ◌∙◌, arith}
use Rattle.std.proofs.Common.{◌/◌, ◌%◌, min}
use Rattle.mold_capture.specs.declared.offsets.TheConstants.{BLOCK}
use Rattle.mold_capture.proofs.OffsetLemmas.{IsCut, offsets_cut}
use Rattle.mold_capture.proofs.offsets.Offsets.truncate.Goals as goal

cut : (c : goal.After-truncate-2) →
    IsCut c.self.inside.bases.items c.self.inside.parts.items c.args.keep c.truncate-2.new.self.items
    c.truncate.new.self.items
cut c = record {
  are = c.self.invariant;
  parts_cut = c.truncate.ensures.items;
  bases_cut =
      c.truncate-2.ensures.items
      ∙ ap (λ (n : ℕ). take n c.self.inside.bases.items)
      (c.div_ceil.ensures ∙ ap (λ (n : ℕ). n / BLOCK + min 1 (n % BLOCK)) (omega (arith, c.len.ensures)));
}

pub returns : goal.returns
returns c =
    let f = c.self.inside in
    offsets_cut f.bases.items f.parts.items c.args.keep c.truncate-2.new.self.items c.truncate.new.self.items (cut c)
    ∙ ap (take c.args.keep) c.self.view_is
