use Rattle.mold_session.proofs.CheckingLemmas.{one_counted}
use Rattle.mold_session.proofs.checking.count_messages.Goals as goal

pub messages-preserved : goal.messages-preserved
messages-preserved c =
    one_counted c.args.most c.messages.count c.args.bytes.now c.messages.rest.now c.in-Ok.behind.now c.messages.invariant
    c.in-Ok.ensures.few c.in-Ok.ensures.skipped
