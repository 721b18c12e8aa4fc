use Rattle.std.proofs.Common.{sym, subst}
use Rattle.memchr.specs.Find.{IsFirstByte, is_byte}
use Rattle.mold_sim.proofs.WordLemmas.{first_position}
use Rattle.mold_sim.proofs.event_words.first_space.Goals as goal

pub returns-then-line-lt-SHORT : goal.returns-then-line-lt-SHORT
returns-then-line-lt-SHORT c =
    subst (IsFirstByte (is_byte 32) c.args.line.now) (sym c.space_in_short.ensures) (first_position c.args.line.now)
