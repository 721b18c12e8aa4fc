use Rattle.std.proofs.Common.{IfOk, sym, subst}
use Rattle.mold_wire.specs.declared.packet.Body.{Body}
use Rattle.mold_receiver.specs.Receive.{HasTakenPacket}
use Rattle.mold_receiver.proofs.receiver.Receiver.take_packet.Goals as goal

pub returns-then-self-packet-clause-taken : goal.returns-then-self-packet-clause-taken
returns-then-self-packet-clause-taken c =
    let v = c.args.self.now in
    let p = c.args.packet.now in
    subst (λ (b : Body). IfOk c.keep_or_drop.result (λ taken. HasTakenPacket v (record p { body = b }) c.keep_or_drop.new.self taken))
    (sym c.in-Data.is) c.keep_or_drop.ensures.taken

pub returns-clause-taken : goal.returns-clause-taken
returns-clause-taken c =
    let v = c.args.self.now in
    let p = c.args.packet.now in
    subst (λ (b : Body). IfOk c.hand.result (λ taken. HasTakenPacket v (record p { body = b }) c.hand.new.self taken))
    (sym c.in-Data.is) c.hand.ensures.taken
