use Rattle.std.proofs.Common.{◌≡◌, ℕ, List, length, take, ap, ◌∙◌, arith}
use Rattle.mold_messages.specs.Offsets.{start_at}
use Rattle.mold_messages.specs.Parts.{end_of}
use Rattle.mold_messages.proofs.PartLemmas.{marked_cut}
use Rattle.mold_messages.proofs.parts.PartList.cut.Goals as goal

pub returns : goal.returns
returns c =
    let f = c.self.inside in
    let all : c.len.result ≡ length f.ends.items = omega (arith, c.len.ensures) in
    let last : c.offset_of-end.result ≡ end_of f.ends.items =
    c.offset_of-end.ensures
    ∙ ap (λ (t : List ℕ). start_at 0 t c.len.result) c.deref.ensures.value
    ∙ ap (start_at 0 f.ends.items) all in
    marked_cut f.ends.items f.bytes.items c.truncate.new.self.items c.args.self.now c.self.view_is c.self.invariant
    (c.truncate.ensures.items ∙ ap (λ (n : ℕ). take n f.bytes.items) last)
