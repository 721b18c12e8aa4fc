use Rattle.std.proofs.Common.{◌≡◌, ◌+◌, ℕ, List, get_or, sym, ap, ◌∙◌, arith}
use Rattle.std.proofs.Common.{◌/◌}
use Rattle.std.proofs.lemmas.List.{get_or_read}
use Rattle.mold_capture.specs.Offsets.{offset}
use Rattle.mold_capture.specs.declared.offsets.TheConstants.{BLOCK}
use Rattle.mold_capture.proofs.OffsetLemmas.{part_within, get_or-offsets, block_within}
use Rattle.mold_capture.proofs.offsets.Offsets.get.Goals.{After-index-2}
use Rattle.mold_capture.proofs.offsets.Offsets.get.Goals as goal

pub index-requires : goal.index-requires
index-requires c =
    let f = c.self.inside in
    let less = part_within f.bases.items f.parts.items c.args.self.now c.args.i c.self.view_is c.requires in
    omega (arith, block_within f.bases.items f.parts.items c.self.invariant c.args.i less)

pub index-requires-2 : goal.index-requires-2
index-requires-2 c =
    let f = c.self.inside in
    omega (arith, part_within f.bases.items f.parts.items c.args.self.now c.args.i c.self.view_is c.requires)

-- The base and the distance are the elements of the lists.
read : (c : After-index-2) → c.index.result.now + c.index-2.result.now ≡ offset c.self.inside.bases.items c.self.inside.parts.items c.args.i
read c =
    let f = c.self.inside in
    let less = part_within f.bases.items f.parts.items c.args.self.now c.args.i c.self.view_is c.requires in
    let base = get_or_read f.bases.items (c.args.i / BLOCK) c.index.result.now
    (block_within f.bases.items f.parts.items c.self.invariant c.args.i less) c.index.ensures 0 in
    let part = get_or_read f.parts.items c.args.i c.index-2.result.now less c.index-2.ensures 0 in
    λ j. base j + part j

pub overflow_add-result : goal.overflow_add-result
overflow_add-result c =
    let f = c.self.inside in
    let less = part_within f.bases.items f.parts.items c.args.self.now c.args.i c.self.view_is c.requires in
    omega (arith, c.self.invariant.bound c.args.i less, read (goal.at.overflow_add-result c).After-index-2)

pub returns : goal.returns
returns c =
    let f = c.self.inside in
    let less = part_within f.bases.items f.parts.items c.args.self.now c.args.i c.self.view_is c.requires in
    read (goal.at.returns c).After-index-2
    ∙ sym (get_or-offsets f.bases.items f.parts.items c.args.i less)
    ∙ ap (λ (t : List ℕ). get_or t c.args.i 0) c.self.view_is
