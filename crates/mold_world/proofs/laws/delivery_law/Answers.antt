use Rattle.mold_world.proofs.DeliveryLemmas.{event_received, sent_taken, strange_unmoved}
use Rattle.mold_world.proofs.laws.delivery_law.Goals as goal

pub returns-clause-sent : goal.returns-clause-sent
returns-clause-sent c = sent_taken c.honest_take_law.ensures

pub returns-clause-strange : goal.returns-clause-strange
returns-clause-strange c = strange_unmoved c.reading_law.ensures.spelled

pub returns-clause-received : goal.returns-clause-received
returns-clause-received c w new happening report is same =
    event_received c.honest_take_law.ensures w happening (report, new) is same
