use Rattle.mold_durable_publisher.proofs.ServingLemmas.{none_served}
use Rattle.mold_feeder.proofs.requests.Requests.answer.Goals as goal

pub returns-then-is_err-clause-served : goal.returns-then-is_err-clause-served
returns-then-is_err-clause-served g c =
    c.offer_all-offered.ensures.stays c.args.publisher.now
    (none_served g.S.Storage.shows g.S.Storage.may_leave g.S.Storage.moment g.S.Storage.left_since
    g.met.S.Storage.only_now c.args.publisher.now)

pub returns-else-is_err-clause-served : goal.returns-else-is_err-clause-served
returns-else-is_err-clause-served g c =
    c.offer_all-offered.ensures.stays c.args.publisher.now
    (none_served g.S.Storage.shows g.S.Storage.may_leave g.S.Storage.moment g.S.Storage.left_since
    g.met.S.Storage.only_now c.args.publisher.now)
