use Rattle.std.proofs.Common.{◌+◌, ap, sym, ◌∙◌, inl, inr, arith}
use Rattle.std.proofs.lemmas.Bool.{cases_lt}
use Rattle.std.specs.Prelude.{None, Some, IfNone, Option}
use Rattle.std.specs.FinMap as finite
use Rattle.mold_capture.specs.Seen.{Pairs}
use Rattle.mold_capture.proofs.GrowLemmas.{free_pairs}
use Rattle.mold_capture.proofs.RunLemmas.{IsRest, free_from, length-rest, carried_rest}
use Rattle.mold_capture.proofs.carried.Carried.run_from.Goals as goal

any_none : {X P : Type 0} (o : Option X) → P → IfNone o P
any_none None holds = holds
any_none (Some x) holds = tt

pub returns-in_err-first-clause-none : goal.returns-in_err-first-clause-none
returns-in_err-first-clause-none c =
    let f = c.self.inside in
    any_none c.from_residual.result
    (λ k low. ap (λ (p : Pairs). finite.get p k) (sym c.self.view_is)
    ∙ free_from f.runs f.kept c.self.invariant c.args.number c.in_err-first.ensures.none k low)

rest : (c : goal.After-new) →
    IsRest c.self.inside.runs c.self.inside.kept c.in_ok-first.first c.in_ok-first.run' c.saturating_sub-skip.result
    c.new.result
rest c =
    let some = c.self.invariant.some c.in_ok-first.first c.in_ok-first.run' c.in_ok-first.ensures.there in
    record {
      are = c.self.invariant;
      there = c.in_ok-first.ensures.there;
      within =
          elim (cases_lt c.in_ok-first.first c.args.number) [
            | inl below ↦
                omega (arith, c.saturating_sub-skip.ensures, below, (c.in_ok-first.ensures.within below).1)
            | inr above ↦ omega (arith, c.saturating_sub-skip.ensures, above, some)
          ];
      is = c.new.ensures;
    }

pub returns-clause-some : goal.returns-clause-some
returns-clause-some c =
    let it = rest c in omega (arith, length-rest _ _ _ _ _ _ it, it.within)

pub returns-clause-before : goal.returns-clause-before
returns-clause-before c = λ k low high.
    let f = c.self.inside in
    ap (λ (p : Pairs). finite.get p k) (sym c.self.view_is)
    ∙ free_pairs f.runs f.kept c.self.invariant c.args.number c.in_ok-first.first c.in_ok-first.ensures.before k low
    (omega (arith, low, high, c.saturating_sub-skip.ensures))

pub returns-clause-carried : goal.returns-clause-carried
returns-clause-carried c = λ i within.
    ap (λ (p : Pairs). finite.get p (c.in_ok-first.first + c.saturating_sub-skip.result + i)) (sym c.self.view_is)
    ∙ carried_rest _ _ _ _ _ _ (rest c) i within
