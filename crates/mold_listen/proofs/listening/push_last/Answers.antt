use Rattle.std.proofs.Common.{◌≡◌, ◌∙◌, true, false}
use Rattle.mold_listen.specs.Listening.{progress, is_finished}
use Rattle.mold_listen.proofs.TurnLemmas.{finished_is, finished_last, finished_status, open_last, open_status}
use Rattle.mold_listen.proofs.listening.push_last.Goals as goal

pub returns-then-finished : goal.returns-then-finished
returns-then-finished c =
    let over : is_finished (progress c.args.arbiter.now c.args.outgoing.now) ≡ true =
    finished_is c.finished.result c.receiver-receiver.result.now c.args.arbiter.now.view c.finished.ensures
    c.receiver-receiver.ensures ∙ c.if-finished.true in
    record {
      status = finished_status (progress c.args.arbiter.now c.args.outgoing.now) over;
      line =
          finished_last c.args.arbiter.now c.args.outgoing.now c.push_finished.new.outgoing c.receiver-receiver.result.now
          c.next.result over c.receiver-receiver.ensures c.next.ensures c.in_ok-push_finished.ensures.line;
      prints = c.in_ok-push_finished.ensures.prints;
      keeps = c.in_ok-push_finished.ensures.keeps;
    }

pub returns : goal.returns
returns c =
    let over : is_finished (progress c.args.arbiter.now c.args.outgoing.now) ≡ false =
    finished_is c.finished.result c.receiver-receiver.result.now c.args.arbiter.now.view c.finished.ensures
    c.receiver-receiver.ensures ∙ c.if-finished.false in
    record {
      status = open_status (progress c.args.arbiter.now c.args.outgoing.now) over;
      line =
          open_last c.args.arbiter.now c.args.outgoing.now c.push_open.new.outgoing c.receiver-receiver.result.now
          c.next-2.result c.known.result over c.receiver-receiver.ensures c.next-2.ensures c.known.ensures
          c.in_ok-push_open.ensures.line;
      prints = c.in_ok-push_open.ensures.prints;
      keeps = c.in_ok-push_open.ensures.keeps;
    }
