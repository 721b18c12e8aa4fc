use Rattle.std.proofs.Common.{refl}
use Rattle.mold_session.proofs.SendingLemmas.{WireLaws, datagram_says, datagram_spelled, end_says, heartbeat_says, planned_says}
use Rattle.mold_session.proofs.laws.sending_law.Goals.{After-true_packet_law}
use Rattle.mold_session.proofs.laws.sending_law.Goals as goal

wire_laws : After-true_packet_law → WireLaws
wire_laws c = record {
  front_is = c.front_law.ensures.front;
  some = c.front_law.ensures.some;
  alone = λ limit message. (c.packet_length_law.ensures.alone limit message).0;
  piece = c.true_packet_law.ensures.piece;
  most = c.spelling_length_law.ensures.most;
  spelled = c.one_spelling_law.ensures.packet_spelled;
}

pub returns : goal.returns
returns c = record {
  spelled = datagram_spelled (wire_laws c);
  datagram = datagram_says (wire_laws c);
  heartbeat = heartbeat_says (wire_laws c);
  end = end_says (wire_laws c);
  planned = λ journal limit plan index packet may is last session found.
      planned_says (wire_laws c) journal limit plan.left plan refl may is last session index packet found;
}
