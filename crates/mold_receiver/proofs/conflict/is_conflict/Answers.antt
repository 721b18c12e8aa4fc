use Rattle.std.proofs.Common.{sym, ap, ◌∙◌, Option}
use Rattle.mold_receiver.specs.Store.{Message, differs}
use Rattle.mold_receiver.proofs.SlotLemmas.{conflict_is}
use Rattle.mold_receiver.proofs.conflict.is_conflict.Goals as goal

pub returns-in-Some : goal.returns-in-Some
returns-in-Some c =
    c.ne.ensures ∙ ap (λ (o : Option Message). differs o c.args.message.now) c.in-Some.ensures
    ∙ sym (conflict_is c.args.slots.now c.args.next c.args.number c.args.message.now c.if-number-next.false)

pub returns-in-None : goal.returns-in-None
returns-in-None c =
    ap (λ (o : Option Message). differs o c.args.message.now) c.in-None.ensures
    ∙ sym (conflict_is c.args.slots.now c.args.next c.args.number c.args.message.now c.if-number-next.false)
