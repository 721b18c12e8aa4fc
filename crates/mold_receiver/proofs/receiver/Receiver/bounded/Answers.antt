use Rattle.std.proofs.Common.{List, subst, sym, arith, None, refl}
use Rattle.std.proofs.lemmas.List.{length-replicate}
use Rattle.mold_receiver.specs.Slots.{Slot}
use Rattle.mold_receiver.specs.View.{IsWellFormed, view_over}
use Rattle.mold_receiver.proofs.ViewLemmas.{empty_store, fresh_well}
use Rattle.mold_receiver.proofs.receiver.Receiver.bounded.Goals as goal

pub invariant_of-result : goal.invariant_of-result
invariant_of-result c =
    subst (λ (slots : List Slot). IsWellFormed (view_over c.args.store c.args.session c.args.next c.args.next None slots))
    (sym c.in-Ok.ensures)
    (fresh_well c.args.store c.args.session c.args.next c.args.window (omega (arith, c.if-next-eq0.false))
    (omega (arith, c.ranges.next.fits)) (c.if-not-is_room.ensures.0 refl))

pub returns-in-Ok-clause-made : goal.returns-in-Ok-clause-made
returns-in-Ok-clause-made c =
    let size = length-replicate {A = Slot} c.args.window None in
    rw c.in-Ok.ensures
    (λ i. record {
      session = c.args.session;
      next = c.args.next;
      known = c.args.next;
      ended = None;
      store =
          empty_store c.args.next c.args.window i;
      window = size i;
      room = c.args.store;
    })
