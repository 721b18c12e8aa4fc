use Rattle.std.proofs.Common.{◌+◌, ◌≤◌, ◌++◌, ◌∷◌, [], List, ℕ, length, ap, subst, sym, ◌∙◌}
use Rattle.mold_messages.specs.Parts.{Marked, end_of}
use Rattle.mold_messages.specs.declared.parts.TheConstants.{SPACING}
use Rattle.mold_messages.proofs.PartLemmas.{marked_push, within_push}
use Rattle.mold_messages.proofs.parts.PartList.mark.Goals as goal

pub invariant_of-self-2 : goal.invariant_of-self-2
invariant_of-self-2 c =
    let f = c.self.inside in
    let more = c.push_reserved.ensures.items in
    let apart : end_of f.ends.items + SPACING ≤ c.args.end =
    subst (λ (m : Marked). m.end + SPACING ≤ c.args.end) (sym c.self.view_is) c.requires.apart in
    let fits : c.args.end ≤ length f.bytes.items =
    subst (λ (m : Marked). c.args.end ≤ length m.bytes) (sym c.self.view_is) c.requires.within in
    within_push f.ends.items c.push_reserved.new.self.items (length f.bytes.items) c.args.end c.self.invariant apart fits
    (more ∙ ap (λ (t : List ℕ). t ++ c.args.end ∷ []) c.in_default.ensures.items)

pub returns-clause-added : goal.returns-clause-added
returns-clause-added c =
    let f = c.self.inside in
    let more = c.push_reserved.ensures.items in
    marked_push f.ends.items c.push_reserved.new.self.items f.bytes.items c.args.end c.args.self.now c.self.view_is
    (more ∙ ap (λ (t : List ℕ). t ++ c.args.end ∷ []) c.in_default.ensures.items)
