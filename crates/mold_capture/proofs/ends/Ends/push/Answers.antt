use Rattle.std.proofs.Common.{◌≡◌, ◌+◌, ◌++◌, [], ◌∷◌, ℕ, List, length, ap, ◌∙◌, arith}
use Rattle.std.proofs.lemmas.Result.{on_ok_weaker}
use Rattle.mold_capture.specs.Ends.{end_of}
use Rattle.mold_capture.proofs.EndLemmas.{length-ends, last_same, last_later, times_width, ends_same, ends_push, at_most}
use Rattle.mold_capture.proofs.ends.Ends.push.Goals as goal

pub overflow_add-self : goal.overflow_add-self
overflow_add-self c =
    let f = c.self.inside in
    omega (arith, length-ends f.same f.width f.later, ap (λ (t : List ℕ). length t) c.self.view_is, c.if-len.false)

pub invariant_of-self : goal.invariant_of-self
invariant_of-self c =
    let f = c.self.inside in
    let is = c.is_same.ensures c.if-is_same.true in
    let none : length f.later ≡ 0 = omega (arith, is.0, c.len.ensures) in
    let count = length-ends f.same f.width f.later in
    let long = ap (λ (t : List ℕ). length t) c.self.view_is in (
      omega (arith, none, count, long, c.if-len.false),
      omega (
        arith,
        last_same f.same f.width f.later c.args.self.now c.self.view_is none,
        times_width f.same f.width c.args.size is.1,
        c.requires.within,
      ),
    )

pub returns-then-is_same-clause-added : goal.returns-then-is_same-clause-added
returns-then-is_same-clause-added c =
    let f = c.self.inside in
    let is = c.is_same.ensures c.if-is_same.true in
    ends_same f.same f.width c.args.size f.later c.args.self.now c.self.view_is (omega (arith, is.0, c.len.ensures)) is.1

pub push-requires-clause-after : goal.push-requires-clause-after
push-requires-clause-after c = λ some.
    let f = c.self.inside in
    c.end_of-last.ensures
    ∙ ap (end_of c.args.self.now) c.len-len.ensures
    ∙ last_later f.same f.width f.later c.args.self.now c.self.view_is some

pub invariant_of-self-2 : goal.invariant_of-self-2
invariant_of-self-2 c =
    let f = c.self.inside in
    let few = at_most c.push.result f.later c.push.new.self (c.end_of-last.result + c.args.size) c.push.ensures.added
    c.push.ensures.same in (
      omega (
        arith,
        few,
        length-ends f.same f.width f.later,
        ap (λ (t : List ℕ). length t) c.self.view_is,
        c.if-len.false,
      ),
      c.self.invariant.1,
    )

pub returns-clause-added : goal.returns-clause-added
returns-clause-added c =
    let f = c.self.inside in
    let now = c.args.self.now in
    let last = c.end_of-last.ensures ∙ ap (end_of now) c.len-len.ensures in
    on_ok_weaker c.push.result
    (λ added.
    ends_push f.same f.width f.later c.push.new.self (c.end_of-last.result + c.args.size) added
    ∙ (λ i. c.self.view_is i ++ (last i + c.args.size) ∷ []))
    c.push.ensures.added
