use Rattle.std.proofs.Common.{◌≤◌, length, ap, sym, ◌∙◌}
use Rattle.std.proofs.lemmas.List.{length-take-le}
use Rattle.mold_messages.specs.Parts.{Marked, end_of}
use Rattle.mold_messages.proofs.PartLemmas.{parts_fewer, within_fewer}
use Rattle.mold_messages.proofs.parts.PartList.truncate.Goals as goal

pub invariant_of-self : goal.invariant_of-self
invariant_of-self c =
    let f = c.self.inside in
    within_fewer f.ends.items (length f.bytes.items) c.args.keep c.truncate.new.self.items c.self.invariant
    c.truncate.ensures.items

pub returns-clause-messages : goal.returns-clause-messages
returns-clause-messages c =
    let f = c.self.inside in
    ap (λ (m : Marked). m.messages) c.cut.ensures
    ∙ parts_fewer f.ends.items f.bytes.items c.args.keep c.truncate.new.self.items c.args.self.now c.self.view_is
    c.truncate.ensures.items

pub returns-clause-whole : goal.returns-clause-whole
returns-clause-whole c =
    let f = c.self.inside in
    let ends = c.truncate.new.self.items in
    let fits : end_of ends ≤ length f.bytes.items =
    (within_fewer f.ends.items (length f.bytes.items) c.args.keep ends c.self.invariant c.truncate.ensures.items).1 in
    ap (λ (m : Marked). m.end) c.cut.ensures
    ∙ sym (length-take-le (end_of ends) f.bytes.items fits)
    ∙ sym (ap (λ (m : Marked). length m.bytes) c.cut.ensures)
