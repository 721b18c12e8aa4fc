use Rattle.std.proofs.Common.{length, IsOk, subst}
use Rattle.std.proofs.Common.{arith}
use Rattle.std.proofs.lemmas.Result.{on_ok_weaker}
use Rattle.mold_messages.specs.Listed.{Listed, HasRoom}
use Rattle.mold_messages.specs.Offsets.{IsRising}
use Rattle.mold_messages.proofs.PlaceLemmas.{length-pieces, joined_all}
use Rattle.mold_messages.proofs.list.MessageList.reserve.Goals as goal

pub returns-in_err-reserve-clause-succeeds : goal.returns-in_err-reserve-clause-succeeds
returns-in_err-reserve-clause-succeeds c =
    let f = c.self.inside in
    subst (λ (l : Listed). HasRoom l c.args.messages c.args.bytes → IsOk c.from_residual.result) c.self.view_is
    (λ room. absurd
    (omega (arith, room.messages, c.in_err-reserve.ensures.full, length-pieces 0 0 f.ends.items f.bytes.items)))

pub returns-clause-room : goal.returns-clause-room
returns-clause-room c =
    let f = c.self.inside in
    let rising : IsRising 0 0 c.reserve.new.self.items (length c.reserve-2.new.self.items) =
    rw (c.in_ok-reserve.ensures.items, c.reserve-2.ensures.items) c.self.invariant
    in
    on_ok_weaker c.reserve-2.result
    (λ room. record {
      messages = omega (
        arith,
        c.in_ok-reserve.ensures.ok,
        length-pieces 0 0 c.reserve.new.self.items
            c.reserve-2.new.self.items,
      );
      bytes = omega (arith, room, joined_all c.reserve.new.self.items c.reserve-2.new.self.items rising);
    })
    c.reserve-2.ensures.ok

pub returns-clause-succeeds : goal.returns-clause-succeeds
returns-clause-succeeds c =
    let f = c.self.inside in
    subst (λ (l : Listed). HasRoom l c.args.messages c.args.bytes → IsOk c.reserve-2.result) c.self.view_is
    (λ room. c.reserve-2.ensures.succeeds
    (omega (arith, room.bytes, joined_all f.ends.items f.bytes.items c.self.invariant)))
