use Rattle.std.proofs.Common.{ℕ, List, ◌+◌, arith}
use Rattle.mold_session.proofs.PassingLemmas.{one_passed}
use Rattle.mold_session.proofs.checking.whole_messages.Goals as goal

pub passed-preserved : goal.passed-preserved
passed-preserved g c = record {
  passed =
      one_passed g.T.LengthTaker.takes c.args.version c.args.most c.passed.count c.in-Some.len c.args.bytes.now
      c.passed.rest.now c.in-Some.behind.now c.args.taker.now c.passed.taker c.take.new.self c.passed.invariant.passed
      c.in-Some.ensures
      (λ earlier lengths is. rw c.if-not-take.false at (c.take.ensures.taken earlier lengths is));
  few = omega (arith, c.passed-test.true);
}
