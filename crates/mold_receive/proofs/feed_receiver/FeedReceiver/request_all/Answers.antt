use Rattle.std.proofs.Common.{refl, ◌∙◌}
use Rattle.mold_receive.proofs.CallLemmas.{asked_more, asked_yet}
use Rattle.mold_receive.proofs.feed_receiver.FeedReceiver.request_all.Goals as goal

pub loop-init : goal.loop-init
loop-init g c = record { asked = asked_yet _ _ _ _ _; text = refl; format = refl }

pub loop-preserved : goal.loop-preserved
loop-preserved g c = record {
  asked = asked_more _ _ _ _ _ _ _ _ c.loop.invariant.asked c.loop.invariant.format
      c.request_one.ensures.asked;
  text = c.request_one.ensures.text ∙ c.loop.invariant.text;
  format = c.request_one.ensures.format ∙ c.loop.invariant.format;
}

pub returns-then-not-request_one-clause-asked : goal.returns-then-not-request_one-clause-asked
returns-then-not-request_one-clause-asked g c =
    asked_more _ _ _ _ _ _ _ _ c.loop.invariant.asked c.loop.invariant.format c.request_one.ensures.asked
