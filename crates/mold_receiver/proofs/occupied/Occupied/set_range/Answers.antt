use Rattle.std.proofs.Common.{◌≡◌, ◌+◌, ◌++◌, ℕ, true, take, drop, replicate, subst, sym, ap, ◌∙◌, arith}
use Rattle.std.proofs.Common.{add-one}
use Rattle.mold_receiver.proofs.OccupiedRingLemmas.{set_one}
use Rattle.mold_receiver.proofs.occupied.Occupied.set_range.Goals as goal

pub returns-then-count-eq1 : goal.returns-then-count-eq1
returns-then-count-eq1 c =
    let old = c.args.self.now in
    let slot = c.args.slot in
    subst (λ (n : ℕ). c.set.new.self ≡ take slot old ++ replicate n true ++ drop (slot + n) old)
    (sym c.if-count-eq1.true)
    (c.set.ensures ∙ set_one old slot true (omega (arith, c.requires, c.if-count-eq1.true))
    ∙ ap (λ (n : ℕ). take slot old ++ replicate 1 true ++ drop n old) (sym (add-one slot)))
