use Rattle.std.proofs.Common.{sym, ◌∙◌, arith}
use Rattle.mold_wire.specs.Packet.{messages_of}
use Rattle.mold_receiver.specs.Slots.{store_of}
use Rattle.mold_receiver.specs.Store.{from_next}
use Rattle.mold_receiver.proofs.ViewLemmas.{none_held}
use Rattle.mold_receiver.proofs.NothingLemmas.{below_no_conflict, clear_no_conflict, empty_no_conflict}
use Rattle.mold_receiver.proofs.conflict.conflict_of.Goals as goal

pub returns-then-top-next : goal.returns-then-top-next
returns-then-top-next c =
    let p = c.args.packet.now in
    sym (below_no_conflict (store_of c.args.next c.args.slots.now) c.args.next p.sequence (messages_of p.body)
    (omega (arith, c.requires, c.if-top-next.true)))

pub returns-then-held-eq0 : goal.returns-then-held-eq0
returns-then-held-eq0 c =
    let p = c.args.packet.now in
    sym (empty_no_conflict (store_of c.args.next c.args.slots.now)
    (from_next c.args.next p.sequence (messages_of p.body))
    (none_held c.args.next c.args.slots.now (sym c.held.ensures.count ∙ c.if-held-eq0.true)))

pub returns-then-is_clear : goal.returns-then-is_clear
returns-then-is_clear c =
    let p = c.args.packet.now in
    sym (clear_no_conflict c.args.slots.now c.args.next p.sequence c.args.top (messages_of p.body)
    (omega (arith, c.requires)) (rw c.max.ensures at c.is_clear.ensures.0 c.if-is_clear.true))
