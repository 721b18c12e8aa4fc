use Rattle.std.proofs.Common.{◌∙◌, ap, sym}
use Rattle.mold_receiver.specs.Arbiter.{Arbitration}
use Rattle.mold_repair.specs.declared.options.RepairOptions.{RepairOptions}
use Rattle.mold_repair.proofs.RoomLemmas.{turn_last, turn_sent, turn_smaller, turned}
use Rattle.mold_repair.proofs.repairer.Repairer.send_all.Goals as goal

pub loop-smaller : goal.loop-smaller
loop-smaller c =
    let old = c.loop.self in
    turn_smaller old.options.give_up old.arbiter.view old.pacer c.send.new.self.pacer c.send.result
    (sym c.is_some.ensures ∙ c.loop-test.true) c.send.ensures.sent

pub loop-preserved : goal.loop-preserved
loop-preserved c =
    let begin = c.args.self.now in
    let old = c.loop.self in
    let is = c.loop.invariant in
    let new = c.send.new.self in
    let did = turned begin.options.give_up old.options.give_up begin.arbiter.view old.arbiter.view old.pacer new.pacer
    c.send.result (ap (λ (o : RepairOptions). o.give_up) is.options)
    (ap (λ (a : Arbitration). a.view) is.arbiter) c.send.ensures.sent in
    let more = turn_sent begin.options.give_up begin.arbiter.view begin.pacer old.pacer new.pacer is.sent c.send.result
    (sym c.is_some.ensures ∙ c.loop-test.true) is.requested did in
    record {
      sent = more.0;
      requested = more.1;
      arbiter = c.send.ensures.arbiter ∙ is.arbiter;
      options = c.send.ensures.options ∙ is.options;
      counts = c.send.ensures.counts ∙ is.counts;
      delays = c.send.ensures.delays ∙ is.delays;
      audit = c.send.ensures.audit ∙ is.audit;
    }

pub returns-clause-sent : goal.returns-clause-sent
returns-clause-sent c =
    let begin = c.args.self.now in
    let old = c.loop.self in
    let is = c.loop.invariant in
    let new = c.send.new.self in
    let did = turned begin.options.give_up old.options.give_up begin.arbiter.view old.arbiter.view old.pacer new.pacer
    c.send.result (ap (λ (o : RepairOptions). o.give_up) is.options)
    (ap (λ (a : Arbitration). a.view) is.arbiter) c.send.ensures.sent in
    turn_last begin.options.give_up begin.arbiter.view begin.pacer old.pacer new.pacer is.sent c.send.result
    (sym c.is_some.ensures ∙ c.loop-test.false) is.requested did
