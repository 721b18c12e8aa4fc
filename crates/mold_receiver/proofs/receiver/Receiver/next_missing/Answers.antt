use Rattle.std.proofs.Common.{◌≡◌, ◌+◌, ◌-◌, ℕ, max, subst, arith}
use Rattle.mold_receiver.specs.Slots.{IsFirstEmpty}
use Rattle.mold_receiver.specs.View.{View}
use Rattle.mold_receiver.specs.Wanted.{HasNoGap, IsNextGap}
use Rattle.mold_receiver.proofs.GivingUpLemmas.{next_gap, no_gap}
use Rattle.mold_receiver.proofs.receiver.Receiver.next_missing.Goals as goal

pub returns-then-first-end-clause-none : goal.returns-then-first-end-clause-none
returns-then-first-end-clause-none c =
    let a = c.self.inside in
    let from : ℕ = max c.args.from a.next in
    let start : c.saturating_sub-start.result ≡ from - a.next = omega (arith, c.saturating_sub-start.ensures) in
    let first = subst (λ (n : ℕ). IsFirstEmpty a.slots n c.first_empty-first.result) start c.first_empty-first.ensures in
    subst (λ (w : View). HasNoGap w (max c.args.from w.next)) c.self.view_is
    (no_gap a.room a.session a.next a.known a.ended a.slots from c.first_empty-first.result (omega arith) first
    (omega (arith, c.if-first-end.true)))

pub returns-clause-some : goal.returns-clause-some
returns-clause-some c =
    let a = c.self.inside in
    let from : ℕ = max c.args.from a.next in
    let start : c.saturating_sub-start.result ≡ from - a.next = omega (arith, c.saturating_sub-start.ensures) in
    let first = subst (λ (n : ℕ). IsFirstEmpty a.slots n c.first_empty-first.result) start c.first_empty-first.ensures in
    subst (λ (w : View). IsNextGap w (max c.args.from w.next) (record {
      first = a.next + c.first_empty-first.result;
      end = a.next + c.next_held-after.result;
    })) c.self.view_is
    (next_gap a.room a.session a.next a.known a.ended a.slots from c.first_empty-first.result c.next_held-after.result
    c.self.invariant.ahead (omega arith) first (omega (arith, c.if-first-end.false)) c.next_held-after.ensures)
