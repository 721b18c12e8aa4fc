use Rattle.std.proofs.Common.{ℕ, List, length, sym, ap, ◌∙◌, arith}
use Rattle.mold_capture.specs.Ends.{end_of}
use Rattle.mold_capture.proofs.EndLemmas.{length-ends, end_same, end_later}
use Rattle.mold_capture.proofs.ends.Ends.end_of.Goals as goal

pub get-requires : goal.get-requires
get-requires c =
    let f = c.self.inside in
    omega (arith, length-ends f.same f.width f.later, ap (λ (t : List ℕ). length t) c.self.view_is)

pub returns-then-count-self : goal.returns-then-count-self
returns-then-count-self c =
    let f = c.self.inside in
    sym (end_same f.same f.width f.later c.args.count c.if-count-self.true)
    ∙ ap (λ (t : List ℕ). end_of t c.args.count) c.self.view_is

pub returns-else-count-self : goal.returns-else-count-self
returns-else-count-self c =
    let f = c.self.inside in
    c.get.ensures
    ∙ sym (end_later f.same f.width f.later c.args.count c.if-count-self.false)
    ∙ ap (λ (t : List ℕ). end_of t c.args.count) c.self.view_is
