use Rattle.mold_session.proofs.StateLemmas.{may_publish, resumes, stays_closed, stays_published, stays_retracted, stays_sent}
use Rattle.mold_session.proofs.laws.publisher_law.Goals as goal

pub returns : goal.returns
returns c = record {
  may = may_publish;
  published = stays_published;
  sent = λ publisher packet. stays_sent publisher packet c.front_law.ensures.front;
  closed = stays_closed;
  retracted = stays_retracted;
  resumed = resumes;
}
