use Rattle.std.proofs.Common.{◌≤◌, List, ℕ, length, length-append, ap, subst, arith}
use Rattle.mold_messages.specs.Parts.{Marked}
use Rattle.mold_messages.proofs.PartLemmas.{marked_append}
use Rattle.mold_messages.proofs.parts.PartList.append.Goals as goal

pub returns-in_err-extend_from_slice-clause-behind : goal.returns-in_err-extend_from_slice-clause-behind
returns-in_err-extend_from_slice-clause-behind c =
    subst (λ (m : Marked). m.end ≤ length m.bytes) c.self.view_is c.self.invariant.1

pub invariant_of-self-2 : goal.invariant_of-self-2
invariant_of-self-2 c =
    let f = c.self.inside in
    let long = ap (λ (t : List ℕ). length t) c.in_ok-extend_from_slice.ensures.items in
    (c.self.invariant.0, omega (arith, long, length-append f.bytes.items c.args.bytes.now, c.self.invariant.1))

pub returns-clause-behind : goal.returns-clause-behind
returns-clause-behind c = subst (λ (m : Marked). m.end ≤ length m.bytes) c.self.view_is c.self.invariant.1

pub returns-clause-added : goal.returns-clause-added
returns-clause-added c =
    let f = c.self.inside in
    marked_append f.ends.items f.bytes.items c.args.bytes.now c.extend_from_slice.new.self.items c.args.self.now
    c.self.view_is c.self.invariant c.in_ok-extend_from_slice.ensures.items
