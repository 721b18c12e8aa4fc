use Rattle.std.proofs.Common.{ap, sym, ◌∙◌, List, ℕ, ◌∷◌, ◌++◌, []}
use Rattle.mold_session.specs.Answer.{PlanState, next_packet, planned}
use Rattle.mold_session.specs.Journal.{JournalState}
use Rattle.mold_session.specs.Server.{ServerState}
use Rattle.mold_world.proofs.burst.send_next.Goals as goal

pub returns-in_ok-push-in-Some-clause-sent : goal.returns-in_ok-push-in-Some-clause-sent
returns-in_ok-push-in-Some-clause-sent c =
    let journal : JournalState = c.args.journal.now in
    let server : ServerState = c.args.server.now in
    let plan : PlanState = c.args.plan.now in
    let lent = c.in-Some.ensures in
    let fit = c.answer_not_empty_law.ensures.fit journal server lent.journal lent.server c.requires.longest in
    let sends =
    c.planned_law.ensures.next journal.messages server.limit plan fit lent.plan c.requires.to lent.more in (
      next_packet journal.messages server.limit plan,
      sends.sent
          ∙ ap (λ (t : PlanState). next_packet journal.messages server.limit plan
          ∷ planned journal.messages server.limit t) (sym lent.moved),
      c.in_ok-push-in-Some.ensures.added
          ∙ ap (λ (t : List ℕ). c.args.sent.now.messages ++ t ∷ []) lent.spelled.spelled,
    )
