use Rattle.std.proofs.Common.{◌+◌, ◌≤◌, subst, sym, arith}
use Rattle.mold_receiver.specs.View.{View}
use Rattle.mold_receiver.specs.Wanted.{IsFirstAbsent}
use Rattle.mold_receiver.proofs.GivingUpLemmas.{absent_low, first_absent_is}
use Rattle.mold_receiver.proofs.receiver.Receiver.first_absent.Goals as goal

pub overflow_add-result : goal.overflow_add-result
overflow_add-result c =
    let a = c.self.inside in
    let low = subst (λ (w : View). w.next ≤ c.args.from) (sym c.self.view_is) c.requires in
    omega (
      arith,
      absent_low a.room a.session a.next a.known a.ended a.slots c.args.from c.first_empty-first.result c.self.invariant low
          c.first_empty-first.ensures,
      c.self.invariant.last,
    )

pub returns : goal.returns
returns c =
    let a = c.self.inside in
    let low = subst (λ (w : View). w.next ≤ c.args.from) (sym c.self.view_is) c.requires in
    subst (λ (w : View). IsFirstAbsent w c.args.from (a.next + c.first_empty-first.result)) c.self.view_is
    (first_absent_is a.room a.session a.next a.known a.ended a.slots c.args.from c.first_empty-first.result low
    c.first_empty-first.ensures)
