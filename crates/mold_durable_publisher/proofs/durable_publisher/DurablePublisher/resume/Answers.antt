use Rattle.std.proofs.Common.{rules}
use Rattle.mold_durable_publisher.proofs.PublishingLemmas.{resumed_from}
use Rattle.mold_durable_publisher.proofs.durable_publisher.DurablePublisher.resume.Goals as goal

pub returns-in-Ok-clause-resumed : goal.returns-in-Ok-clause-resumed
returns-in-Ok-clause-resumed g c = λ life intact lives stored same.
    resumed_from g.S.Storage.shows g.S.Storage.may_leave c.args.stored.journal c.args.durable c.args.stored.index
    c.args.limit c.in-Ok.publisher life c.in-Ok.ensures.made (c.is_same_journal.ensures.0 (search rules)) lives stored
    same
