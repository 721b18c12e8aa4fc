use Rattle.std.proofs.Common.{ap, ◌∙◌}
use Rattle.mold_wire.specs.Request.{request_reading}
use Rattle.mold_session.specs.Server.{judged, plan_of}
use Rattle.mold_session.proofs.AnswerLemmas.{plan_is, plan_within, planned_answer, planned_below}
use Rattle.mold_session.proofs.RequestCheckLemmas.{judged_from, judged_to}
use Rattle.mold_session.proofs.laws.answered_law.Goals as goal

pub returns : goal.returns
returns c = record {
  asked = λ journal request bytes spelled is.
      ap (judged journal) (c.reading_law.ensures.request_read request bytes spelled) ∙ judged_to journal request is;
  answerable = λ journal request bytes asks.
      (judged_from journal (request_reading bytes) request asks).answerable;
  planned = λ journal burst request bytes asks. ap (plan_of journal burst) asks;
  plan = λ journal burst request is. plan_is journal burst request is.first is.last;
  within = plan_within;
  answer = λ journal limit burst request is. planned_answer journal limit burst request is.first is.last;
  below = λ journal below limit burst request is. planned_below journal below limit burst request is.first is.last;
}
