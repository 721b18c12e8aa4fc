use Rattle.std.proofs.Common.{ap}
use Rattle.std.specs.Borrow.{Bor}
use Rattle.mold_send.proofs.SendingLemmas.{lines_twice, sends_on_both}
use Rattle.mold_send.proofs.sending.TwoLines.send_both.Goals as goal

pub returns-clause-sends : goal.returns-clause-sends
returns-clause-sends g c modeled =
    sends_on_both c.args.self.now.a.now c.args.self.now.b.now c.send_one.new.self.b.now c.args.datagram.now _ _ _
    (c.send_one.ensures.sends modeled) (c.send_one-2.ensures.sends modeled) (ap (λ (p : Bor _). p.now) c.send_one.ensures.same.b)

pub returns-clause-same : goal.returns-clause-same
returns-clause-same g c = lines_twice c.send_one.ensures.same c.send_one-2.ensures.same
