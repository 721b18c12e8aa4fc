use Rattle.mold_session.proofs.AnswerLemmas.{none_of, next_of, planned_few, planned_grown}
use Rattle.mold_session.proofs.laws.planned_law.Goals as goal

pub returns : goal.returns
returns c = record {
  spent = none_of;
  next = λ published limit plan each is last more.
      next_of published limit plan c.front_law.ensures.front c.front_law.ensures.some
      (λ limit message. (c.packet_length_law.ensures.alone limit message).0) each is last more;
  few = planned_few;
  grown = planned_grown;
}
