use Rattle.mold_session.proofs.AnswerLemmas.{taken_part}
use Rattle.mold_session.proofs.laws.first_part_law.Goals as goal

pub returns : goal.returns
returns c = λ limit count messages room.
    taken_part limit messages count c.front_law.ensures.front c.front_law.ensures.only room
