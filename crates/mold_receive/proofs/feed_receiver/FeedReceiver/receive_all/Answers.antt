use Rattle.std.proofs.Common.{refl, ◌∙◌}
use Rattle.mold_receive.proofs.CallLemmas.{failed_more, if_some_map, on_err_of, received_yet, stopped_more}
use Rattle.mold_receive.proofs.CallLemmas.{written_more, written_none}
use Rattle.mold_receive.proofs.feed_receiver.FeedReceiver.receive_all.Goals as goal

pub loop-port-init : goal.loop-port-init
loop-port-init g c =
    record { written = written_none _ _ _ _ _ _ _ (received_yet _ _ _ _ _); format = refl; going = c.requires.going }

pub loop-port-preserved : goal.loop-port-preserved
loop-port-preserved g c = record {
  written = written_more _ _ _ _ _ _ _ _ _ _ _ c.loop-port.invariant.written c.loop-port.invariant.format
      c.in_ok-receive_some.ensures.written;
  format = c.receive_some.ensures.format ∙ c.loop-port.invariant.format;
  going = c.in_ok-receive_some.ensures.going;
}

pub returns-in_err-receive_some-clause-failed : goal.returns-in_err-receive_some-clause-failed
returns-in_err-receive_some-clause-failed g c =
    on_err_of c.from_residual.result
    (failed_more _ _ _ _ _ _ _ _ _ _ c.loop-port.invariant.written c.loop-port.invariant.format
    c.in_err-receive_some.ensures.failed)

pub returns-in_err-receive_some-clause-cut : goal.returns-in_err-receive_some-clause-cut
returns-in_err-receive_some-clause-cut g c =
    on_err_of c.from_residual.result
    (if_some_map c.receive_some.new.stopped
    (λ number is.
    stopped_more _ _ _ _ _ _ _ _ _ _ _ _ number c.loop-port.invariant.written c.loop-port.invariant.format is)
    c.in_err-receive_some.ensures.cut)
