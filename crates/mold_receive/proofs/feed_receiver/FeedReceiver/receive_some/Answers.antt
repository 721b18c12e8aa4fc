use Rattle.std.proofs.Common.{refl, ◌∙◌}
use Rattle.mold_receive.proofs.CallLemmas.{failed_more, if_some_map, on_err_of, received_yet, stopped_more}
use Rattle.mold_receive.proofs.CallLemmas.{written_more, written_none}
use Rattle.mold_receive.proofs.feed_receiver.FeedReceiver.receive_some.Goals as goal

pub loop-init : goal.loop-init
loop-init g c =
    record { written = written_none _ _ _ _ _ _ _ (received_yet _ _ _ _ _); format = refl; going = c.requires.going }

pub loop-preserved : goal.loop-preserved
loop-preserved g c = record {
  written = written_more _ _ _ _ _ _ _ _ _ _ _ c.loop.invariant.written c.loop.invariant.format
      c.in_ok-receive_one.ensures.written;
  format = c.receive_one.ensures.format ∙ c.loop.invariant.format;
  going = c.in_ok-receive_one.ensures.going;
}

pub returns-in_err-receive_one-clause-failed : goal.returns-in_err-receive_one-clause-failed
returns-in_err-receive_one-clause-failed g c =
    on_err_of c.from_residual.result
    (failed_more _ _ _ _ _ _ _ _ _ _ c.loop.invariant.written c.loop.invariant.format
    c.in_err-receive_one.ensures.failed)

pub returns-then-not-branch-clause-written : goal.returns-then-not-branch-clause-written
returns-then-not-branch-clause-written g c =
    written_more _ _ _ _ _ _ _ _ _ _ _ c.loop.invariant.written c.loop.invariant.format
    c.in_ok-receive_one.ensures.written

pub returns-in_err-receive_one-clause-cut : goal.returns-in_err-receive_one-clause-cut
returns-in_err-receive_one-clause-cut g c =
    on_err_of c.from_residual.result
    (if_some_map c.receive_one.new.stopped
    (λ number is.
    stopped_more _ _ _ _ _ _ _ _ _ _ _ _ number c.loop.invariant.written c.loop.invariant.format is)
    c.in_err-receive_one.ensures.cut)
