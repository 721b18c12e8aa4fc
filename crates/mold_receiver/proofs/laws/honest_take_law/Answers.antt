use Rattle.mold_receiver.proofs.HonestLemmas.{takes_honestly, true_first}
use Rattle.mold_receiver.proofs.laws.honest_take_law.Goals as goal

pub returns : goal.returns
returns c v packet bytes published closed honest spelled same is_true =
    takes_honestly c.refusal_law.ensures.none v packet bytes published closed (c.reading_law.ensures.read packet bytes spelled) honest
    (record {
      first = true_first packet.body packet.sequence published closed is_true.said;
      top = c.true_packet_law.ensures.top packet published closed spelled.is_packet is_true;
      carried = λ number m carries. c.true_packet_law.ensures.carried packet published closed number m is_true carries;
    })
    same is_true
