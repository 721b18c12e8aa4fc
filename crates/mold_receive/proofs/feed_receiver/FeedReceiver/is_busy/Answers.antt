use Rattle.std.proofs.Common.{refl}
use Rattle.mold_receive.proofs.CallLemmas.{asked_none}
use Rattle.mold_receive.proofs.feed_receiver.FeedReceiver.is_busy.Goals as goal

pub returns-clause-asked : goal.returns-clause-asked
returns-clause-asked g c = λ lines servers.
    asked_none lines servers _ _ _ _ refl c.wait.ensures.given c.wait.ensures.sent refl
