use Rattle.std.proofs.Common.{arith, ◌≡◌, ◌∙◌, ◌-◌, ◌+◌, ℕ, ap, sym, refl}
use Rattle.mold_ports.specs.Ports.{Port}
use Rattle.mold_listen.specs.Listening.{asking, asking_state, receive_responses, receives}
use Rattle.mold_turns.proofs.OutgoingLemmas.{keeps_both, keeps_same}
use Rattle.mold_turns.proofs.RunLemmas.{begins_trans, begins_whole}
use Rattle.mold_listen.proofs.ListenLemmas.{answer_received, after_responses, asking_is, none_received, stepped}
use Rattle.mold_listen.proofs.TurnLemmas.{same_at_first}
use Rattle.mold_listen.proofs.feed_listener.FeedListener.receive_responses.Goals as goal

pub loop-init : goal.loop-init
loop-init g c = record {
  received = λ t.
      ap (λ (n : ℕ). receive_responses (receives n (g.D.Datagrams.port c.args.self.now.requests.now).comes)
      (asking_state g.D.Datagrams.port c.args.self.now))
      (let e : c.args.most - 0 ≡ c.args.most = omega arith in e);
  sent = λ t. refl;
  a = refl;
  b = refl;
  same = same_at_first c.args.self.now;
  prints = begins_whole _;
  keeps = keeps_same _;
}

pub loop-preserved : goal.loop-preserved
loop-preserved g c = record {
  received = λ t.
      let before = asking_state g.D.Datagrams.port c.loop.self in
      let after = asking (g.D.Datagrams.port c.receive_on.new.port) c.receive_on.new.arbiter c.receive_on.new.printer.outgoing in
      let is : after ≡ stepped before =
      asking_is _ _ _ (stepped before) (c.receive_on.ensures.port t) (c.in_ok-receive_on.ensures.received t) in
      answer_received (c.args.most - c.loop.counter) (c.args.most - (c.loop.counter + 1)) before after _
      (omega (arith, c.loop-test.true)) (sym (c.in_ok-receive_on.ensures.came t) ∙ c.if-not-branch.false) is
      (c.loop.invariant.received t);
  sent = λ t. ap (λ (p : Port _). p.sent) (c.receive_on.ensures.port t) ∙ c.loop.invariant.sent t;
  a = c.loop.invariant.a;
  b = c.loop.invariant.b;
  same =
      let same = c.loop.invariant.same in
      record { a = same.a; b = same.b; requests = same.requests; arbiter = same.arbiter; printer = same.printer };
  prints = begins_trans c.loop.invariant.prints c.receive_on.ensures.prints;
  keeps = keeps_both c.loop.invariant.keeps c.receive_on.ensures.keeps;
}

pub returns-in_err-receive_on-clause-prints : goal.returns-in_err-receive_on-clause-prints
returns-in_err-receive_on-clause-prints g c = begins_trans c.loop.invariant.prints c.receive_on.ensures.prints

pub returns-after-loop-clause-prints : goal.returns-after-loop-clause-prints
returns-after-loop-clause-prints g c = c.loop.invariant.prints

pub returns-then-not-branch-clause-prints : goal.returns-then-not-branch-clause-prints
returns-then-not-branch-clause-prints g c = begins_trans c.loop.invariant.prints c.receive_on.ensures.prints

pub returns-in_err-receive_on-clause-sent : goal.returns-in_err-receive_on-clause-sent
returns-in_err-receive_on-clause-sent g c = λ t.
    ap (λ (p : Port _). p.sent) (c.receive_on.ensures.port t) ∙ c.loop.invariant.sent t

pub returns-in_err-receive_on-clause-a : goal.returns-in_err-receive_on-clause-a
returns-in_err-receive_on-clause-a g c = c.loop.invariant.a

pub returns-in_err-receive_on-clause-b : goal.returns-in_err-receive_on-clause-b
returns-in_err-receive_on-clause-b g c = c.loop.invariant.b

pub returns-in_err-receive_on-clause-same : goal.returns-in_err-receive_on-clause-same
returns-in_err-receive_on-clause-same g c =
    let same = c.loop.invariant.same in
    record { a = same.a; b = same.b; requests = same.requests; arbiter = same.arbiter; printer = same.printer }

pub returns-after-loop-clause-sent : goal.returns-after-loop-clause-sent
returns-after-loop-clause-sent g c = c.loop.invariant.sent

pub returns-after-loop-clause-received : goal.returns-after-loop-clause-received
returns-after-loop-clause-received g c = λ t.
    none_received (c.args.most - c.loop.counter) _ (omega (arith, c.loop-test.false)) ∙ c.loop.invariant.received t

pub returns-after-loop-clause-a : goal.returns-after-loop-clause-a
returns-after-loop-clause-a g c = c.loop.invariant.a

pub returns-after-loop-clause-b : goal.returns-after-loop-clause-b
returns-after-loop-clause-b g c = c.loop.invariant.b

pub returns-after-loop-clause-same : goal.returns-after-loop-clause-same
returns-after-loop-clause-same g c = c.loop.invariant.same

pub returns-then-not-branch-clause-sent : goal.returns-then-not-branch-clause-sent
returns-then-not-branch-clause-sent g c = λ t.
    ap (λ (p : Port _). p.sent) (c.receive_on.ensures.port t) ∙ c.loop.invariant.sent t

pub returns-then-not-branch-clause-received : goal.returns-then-not-branch-clause-received
returns-then-not-branch-clause-received g c = λ t.
    let before = asking_state g.D.Datagrams.port c.loop.self in
    let after = asking (g.D.Datagrams.port c.receive_on.new.port) c.receive_on.new.arbiter c.receive_on.new.printer.outgoing in
    let is : after ≡ stepped before =
    asking_is _ _ _ (stepped before) (c.receive_on.ensures.port t) (c.in_ok-receive_on.ensures.received t) in
    after_responses (c.args.most - c.loop.counter) (c.args.most - (c.loop.counter + 1)) before after _
    (omega (arith, c.loop-test.true)) (sym (c.in_ok-receive_on.ensures.came t) ∙ c.if-not-branch.true) is
    (c.loop.invariant.received t)

pub returns-then-not-branch-clause-a : goal.returns-then-not-branch-clause-a
returns-then-not-branch-clause-a g c = c.loop.invariant.a

pub returns-then-not-branch-clause-b : goal.returns-then-not-branch-clause-b
returns-then-not-branch-clause-b g c = c.loop.invariant.b

pub returns-then-not-branch-clause-same : goal.returns-then-not-branch-clause-same
returns-then-not-branch-clause-same g c =
    let same = c.loop.invariant.same in
    record { a = same.a; b = same.b; requests = same.requests; arbiter = same.arbiter; printer = same.printer }

pub returns-in_err-receive_on-clause-keeps : goal.returns-in_err-receive_on-clause-keeps
returns-in_err-receive_on-clause-keeps g c = keeps_both c.loop.invariant.keeps c.receive_on.ensures.keeps

pub returns-after-loop-clause-keeps : goal.returns-after-loop-clause-keeps
returns-after-loop-clause-keeps g c = c.loop.invariant.keeps

pub returns-then-not-branch-clause-keeps : goal.returns-then-not-branch-clause-keeps
returns-then-not-branch-clause-keeps g c = keeps_both c.loop.invariant.keeps c.receive_on.ensures.keeps
