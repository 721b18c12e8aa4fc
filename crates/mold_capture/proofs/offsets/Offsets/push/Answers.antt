use Rattle.std.proofs.Common.{◌≡◌, ◌<◌, ◌-◌, ◌++◌, [], ◌∷◌, ℕ, List, length, get_or, sym, ap, subst, ◌∙◌, arith}
use Rattle.std.proofs.Common.{◌/◌}
use Rattle.mold_capture.specs.Offsets.{HasBase, offsets}
use Rattle.mold_capture.specs.declared.offsets.TheConstants.{BLOCK}
use Rattle.mold_capture.proofs.OffsetLemmas.{IsNext, length-offsets, next_fits, offsets_push, are_push}
use Rattle.mold_capture.proofs.offsets.Offsets.push.Goals.{In_ok-base}
use Rattle.mold_capture.proofs.offsets.Offsets.push.Goals as goal

next : (c : In_ok-base) →
    IsNext c.self.inside.bases.items c.self.inside.parts.items c.args.last c.args.offset c.in_ok-base.base
    c.base_of.new.bases.items
next c =
    let f = c.self.inside in
    let all = offsets f.bases.items f.parts.items in
    let long = length-offsets f.bases.items f.parts.items in
    let after : 0 < length all → c.args.last ≡ get_or all (length all - 1) 0 =
    subst (λ (t : List ℕ). 0 < length t → c.args.last ≡ get_or t (length t - 1) 0) (sym c.self.view_is) c.requires.after in
    let index : c.len.result ≡ length f.parts.items = omega arith in
    record {
      are = c.self.invariant;
      after = λ some. after (omega (arith, some, long)) ∙ ap (λ (n : ℕ). get_or all (n - 1) 0) long;
      ordered = c.requires.ordered;
      near = c.requires.near;
      bound = omega arith;
      based =
          subst (λ (n : ℕ). HasBase f.bases.items (n / BLOCK) c.args.last c.in_ok-base.base c.base_of.new.bases.items) index
          c.in_ok-base.ensures.base;
    }

pub overflow_sub-offset : goal.overflow_sub-offset
overflow_sub-offset c = (next_fits _ _ _ _ _ _ (next (goal.at.overflow_sub-offset c).In_ok-base)).0

pub overflow_cast-offset : goal.overflow_cast-offset
overflow_cast-offset c = omega (arith, (next_fits _ _ _ _ _ _ (next (goal.at.overflow_cast-offset c).In_ok-base)).1)

pub invariant_of-self-2 : goal.invariant_of-self-2
invariant_of-self-2 c =
    are_push _ _ _ _ _ _ _ (next (goal.at.invariant_of-self-2 c).In_ok-base)
    (c.push_reserved.ensures.items
    ∙ ap (λ (t : List ℕ). t ++ (c.args.offset - c.in_ok-base.base) ∷ []) c.in_ok-reserve.ensures.items)

pub returns-clause-added : goal.returns-clause-added
returns-clause-added c =
    offsets_push _ _ _ _ _ _ _ (next (goal.at.returns-clause-added c).In_ok-base)
    (c.push_reserved.ensures.items
    ∙ ap (λ (t : List ℕ). t ++ (c.args.offset - c.in_ok-base.base) ∷ []) c.in_ok-reserve.ensures.items)
    ∙ ap (λ (t : List ℕ). t ++ c.args.offset ∷ []) c.self.view_is
