use Rattle.std.proofs.Common.{arith, ◌≡◌, ◌∙◌, ◌-◌, ◌+◌, ℕ, ap, refl}
use Rattle.mold_ports.specs.Ports.{Port}
use Rattle.mold_listen.specs.Listening.{asking, receive_responses}
use Rattle.mold_loop.specs.LocalFeed.{asking_state}
use Rattle.mold_listen.proofs.ListenLemmas.{asking_is, stepped}
use Rattle.mold_loop.proofs.LocalFeedLemmas.{repairs_at_first, repairs_twice}
use Rattle.mold_loop.proofs.RepairLemmas.{all_received, one_received}
use Rattle.mold_turns.proofs.OutgoingLemmas.{keeps_both, keeps_same}
use Rattle.mold_turns.proofs.RunLemmas.{begins_trans, begins_whole}
use Rattle.mold_loop.proofs.local_feed.LocalFeed.take_answers.Goals as goal

pub loop-answer-init : goal.loop-answer-init
loop-answer-init g c = record {
  received = λ t.
      ap (λ (n : ℕ). receive_responses n (asking_state g.D.Datagrams.port c.args.self.now))
      (let e : c.args.count - 0 ≡ c.args.count = omega arith in e);
  sent = λ t. refl;
  server = refl;
  only = repairs_at_first c.args.self.now;
  keeps = keeps_same _;
  prints = begins_whole _;
}

pub loop-answer-preserved : goal.loop-answer-preserved
loop-answer-preserved g c = record {
  received = λ t.
      let before = asking_state g.D.Datagrams.port c.loop-answer.self in
      let after = asking (g.D.Datagrams.port c.receive_once.new.port) c.receive_once.new.listener.arbiter
      c.receive_once.new.listener.printer.outgoing in
      let is : after ≡ stepped before =
      asking_is _ _ _ (stepped before) (c.receive_once.ensures.port t) (c.in_ok-receive_once.ensures.received t) in
      one_received (c.args.count - c.loop-answer._answer) (c.args.count - (c.loop-answer._answer + 1)) before after _
      (omega (arith, c.loop-answer-test.true)) is (c.loop-answer.invariant.received t);
  sent = λ t. ap (λ (p : Port _). p.sent) (c.receive_once.ensures.port t) ∙ c.loop-answer.invariant.sent t;
  server = c.loop-answer.invariant.server;
  only =
      repairs_twice c.loop-answer.invariant.only (record {
        same = record { ports = refl; options = refl; buffer = c.receive_once.auto.buffer; listener = refl };
        publisher = refl;
        a = refl;
        b = refl;
      });
  keeps = keeps_both c.loop-answer.invariant.keeps c.receive_once.ensures.keeps;
  prints = begins_trans c.loop-answer.invariant.prints c.receive_once.ensures.prints;
}

pub returns-in_err-receive_once-clause-prints : goal.returns-in_err-receive_once-clause-prints
returns-in_err-receive_once-clause-prints g c = begins_trans c.loop-answer.invariant.prints c.receive_once.ensures.prints

pub returns-in_err-receive_once-clause-keeps : goal.returns-in_err-receive_once-clause-keeps
returns-in_err-receive_once-clause-keeps g c = keeps_both c.loop-answer.invariant.keeps c.receive_once.ensures.keeps

pub returns-in_err-receive_once-clause-sent : goal.returns-in_err-receive_once-clause-sent
returns-in_err-receive_once-clause-sent g c = λ t.
    ap (λ (p : Port _). p.sent) (c.receive_once.ensures.port t) ∙ c.loop-answer.invariant.sent t

pub returns-in_err-receive_once-clause-only : goal.returns-in_err-receive_once-clause-only
returns-in_err-receive_once-clause-only g c =
    repairs_twice c.loop-answer.invariant.only (record {
      same = record { ports = refl; options = refl; buffer = c.receive_once.auto.buffer; listener = refl };
      publisher = refl;
      a = refl;
      b = refl;
    })

pub returns : goal.returns
returns g c = record {
  sent = c.loop-answer.invariant.sent;
  received = λ t.
      all_received (c.args.count - c.loop-answer._answer) _ _
      (omega (arith, c.loop-answer-test.false)) (c.loop-answer.invariant.received t);
  server = c.loop-answer.invariant.server;
  only = c.loop-answer.invariant.only;
  keeps = c.loop-answer.invariant.keeps;
  prints = c.loop-answer.invariant.prints;
}
