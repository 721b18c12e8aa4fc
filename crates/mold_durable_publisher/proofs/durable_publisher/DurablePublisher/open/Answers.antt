use Rattle.std.proofs.Common.{ap}
use Rattle.mold_session.specs.Journal.{JournalState}
use Rattle.mold_durable.specs.DurableJournal.{DurableState}
use Rattle.mold_durable.specs.Life.{after}
use Rattle.mold_durable.specs.Life.Moment.{Crash}
use Rattle.mold_durable_publisher.proofs.durable_publisher.DurablePublisher.open.Goals as goal

pub returns-in-Ok-resume-clause-resumed : goal.returns-in-Ok-resume-clause-resumed
returns-in-Ok-resume-clause-resumed g c = λ life bytes shown file.
    let taken = c.in-Ok.ensures.taken life bytes shown file in
    c.in-Ok-resume.ensures.resumed (after life Crash)
    (ap (λ (d : DurableState g.row.S.Denot). d.broken) c.in-Ok.ensures.fresh)
    (c.in-Ok.ensures.found life bytes shown file)
    taken.is
    (ap (λ (j : JournalState). j.messages) taken.counts)

pub returns-in-Err-clause-accepted : goal.returns-in-Err-clause-accepted
returns-in-Err-clause-accepted g c = λ life bytes shown file limited each.
    c.in-Err.ensures.accepted life bytes shown file each
