use Rattle.std.proofs.Common.{◌<◌, List, length, subst, sym, ap, arith}
use Rattle.std.specs.Prelude.{Result, Ok, Err, OnErr}
use Rattle.mold_wire.specs.declared.packet.Body.{Body}
use Rattle.mold_wire.specs.declared.packet.Body.TheVariants.{Data}
use Rattle.mold_wire.specs.declared.packet.Packet.{Packet}
use Rattle.mold_receiver.specs.Own.{NeedsRoom}
use Rattle.mold_receiver.specs.Receive.{TakesMemory}
use Rattle.mold_receiver.specs.Store.{Message}
use Rattle.mold_receiver.specs.View.{View}
use Rattle.mold_receiver.proofs.OwnLemmas.{own_above}
use Rattle.mold_receiver.proofs.receiver.Receiver.hear_packet.Goals as goal

on_err : {T E : Type 0} {P : Type 0} (r : Result T E) → P → OnErr r P
on_err (Ok x) p = tt
on_err (Err e) p = p

-- A packet above `next` has no own messages.
above_needs : (v : View) (p : Packet) → v.next < p.sequence → TakesMemory v p → NeedsRoom v p
above_needs v p above some =
    omega (arith, some, ap (λ (t : List Message). length t) (own_above v p above))

pub returns-in_err-keep_or_drop-clause-needed : goal.returns-in_err-keep_or_drop-clause-needed
returns-in_err-keep_or_drop-clause-needed c =
    let v = c.args.self.now in
    let p = c.args.packet.now in
    let above = subst (λ (v : View). v.next < p.sequence) c.self.view_is c.if-packet-self.true in
    let needed = rw c.in_err-keep_or_drop.was at c.keep_or_drop.ensures.needed in
    on_err c.from_residual.result
    (subst (λ (b : Body). NeedsRoom v (record p { body = b })) (sym c.in-Data.is)
    (above_needs v (record p { body = Data c.in-Data.blocks }) above needed))

pub returns-in_err-taken-clause-needed : goal.returns-in_err-taken-clause-needed
returns-in_err-taken-clause-needed c =
    let v = c.args.self.now in
    let p = c.args.packet.now in
    let needed = rw c.in_err-taken.was at c.hand_own.ensures.needed in
    on_err c.from_residual-in_err-taken.result
    (subst (λ (b : Body). NeedsRoom v (record p { body = b })) (sym c.in-Data.is) needed)
