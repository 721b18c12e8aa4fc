use Rattle.std.proofs.Common.{arith}
use Rattle.mold_session.proofs.AnswerLemmas.{answer_first}
use Rattle.mold_session.proofs.FrontLemmas.{fit_alone}
use Rattle.mold_session.proofs.laws.answer_not_empty_law.Goals as goal

pub returns : goal.returns
returns c = record {
  first = λ published session limit number count burst each first last some packets.
      answer_first published session limit number count burst c.front_law.ensures.front c.front_law.ensures.some
      (λ limit message. (c.packet_length_law.ensures.alone limit message).0) each first last some packets;
  fit = λ journal server journaled is within.
      fit_alone journal.max_message server.limit journal.messages (omega (arith, within, is.longest)) journaled.each;
}
