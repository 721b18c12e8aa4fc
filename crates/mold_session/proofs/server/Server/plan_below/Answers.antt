use Rattle.std.proofs.Common.{refl}
use Rattle.mold_session.proofs.ServingLemmas.{plan_of}
use Rattle.mold_session.proofs.server.Server.plan_below.Goals as goal

pub returns-clause-session : goal.returns-clause-session
returns-clause-session c =
    (plan_of c.args.journal.now c.plan_from.result (c.plan_from.ensures.plan c.args.journal.now refl)).0

pub returns-clause-to : goal.returns-clause-to
returns-clause-to c =
    (plan_of c.args.journal.now c.plan_from.result (c.plan_from.ensures.plan c.args.journal.now refl)).1

pub returns-clause-journal : goal.returns-clause-journal
returns-clause-journal c = c.plan_from.ensures.journal c.args.journal.now refl
