use Rattle.mold_wire.proofs.FrontLemmas.{front_only, front_some, front_stops, front_whole, front-more}
use Rattle.mold_wire.proofs.laws.front_law.Goals as goal

pub returns-clause-only : goal.returns-clause-only
returns-clause-only c limit messages most found is = front_only limit messages most found is

pub returns-clause-stops : goal.returns-clause-stops
returns-clause-stops c limit messages most found behind parts few fits stops =
    front_stops limit messages most found behind parts few fits stops

pub returns-clause-some : goal.returns-clause-some
returns-clause-some c limit message messages found most is some fits =
    front_some limit message messages found most is some fits

pub returns-clause-whole : goal.returns-clause-whole
returns-clause-whole c limit messages most few fits = front_whole limit messages most few fits

pub returns-clause-more : goal.returns-clause-more
returns-clause-more c limit message messages most fits = front-more limit message messages most fits
