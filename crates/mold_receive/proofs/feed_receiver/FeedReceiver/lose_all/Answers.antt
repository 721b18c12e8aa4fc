use Rattle.std.proofs.Common.{refl, ◌∙◌}
use Rattle.mold_receive.proofs.CallLemmas.{failed_more, if_some_map, on_err_of, received_yet, stopped_more}
use Rattle.mold_receive.proofs.CallLemmas.{written_more, written_none}
use Rattle.mold_receive.proofs.feed_receiver.FeedReceiver.lose_all.Goals as goal

pub loop-init : goal.loop-init
loop-init g c =
    record { written = λ lines servers. written_none _ _ _ _ _ _ _ (received_yet _ _ _ _ _); format = refl; going = c.requires.going }

pub loop-preserved : goal.loop-preserved
loop-preserved g c = record {
  written = λ lines servers. written_more _ _ _ _ _ _ _ _ _ _ _ (c.loop.invariant.written lines servers) c.loop.invariant.format
      (c.in_ok-lose_one.ensures.written lines servers);
  format = c.lose_one.ensures.format ∙ c.loop.invariant.format;
  going = c.in_ok-lose_one.ensures.going;
}

pub returns-in_err-lose_one-clause-failed : goal.returns-in_err-lose_one-clause-failed
returns-in_err-lose_one-clause-failed g c =
    on_err_of c.from_residual.result
    (λ lines servers. failed_more _ _ _ _ _ _ _ _ _ _ (c.loop.invariant.written lines servers) c.loop.invariant.format
    (c.in_err-lose_one.ensures.failed lines servers))

pub returns-then-not-branch-clause-written : goal.returns-then-not-branch-clause-written
returns-then-not-branch-clause-written g c = λ lines servers.
    written_more _ _ _ _ _ _ _ _ _ _ _ (c.loop.invariant.written lines servers) c.loop.invariant.format
    (c.in_ok-lose_one.ensures.written lines servers)

pub returns-in_err-lose_one-clause-cut : goal.returns-in_err-lose_one-clause-cut
returns-in_err-lose_one-clause-cut g c =
    on_err_of c.from_residual.result
    (if_some_map c.lose_one.new.stopped
    (λ number is. λ lines servers.
    stopped_more _ _ _ _ _ _ _ _ _ _ _ _ number (c.loop.invariant.written lines servers) c.loop.invariant.format
    (is lines servers))
    c.in_err-lose_one.ensures.cut)
