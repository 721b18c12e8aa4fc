use Rattle.std.proofs.Common.{arith}
use Rattle.mold_capture_commands.proofs.PairLemmas.{first_is, last_is}
use Rattle.mold_capture_commands.proofs.pair_tally.last_number.Goals as goal

pub returns-clause-first : goal.returns-clause-first
returns-clause-first c = first_is c.args.sequence c.args.blocks.now c.len.ensures.range.0

pub returns-clause-last : goal.returns-clause-last
returns-clause-last c =
    last_is c.args.sequence _ c.args.blocks.now c.len.ensures.range.0
    (omega (arith, c.from.ensures, c.from-2.ensures, c.len.ensures.length, c.len.ensures.range.0))
