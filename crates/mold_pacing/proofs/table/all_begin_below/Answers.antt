use Rattle.std.proofs.Common.{arith}
use Rattle.mold_pacing.proofs.TableLemmas.{below_last}
use Rattle.mold_pacing.proofs.table.all_begin_below.Goals as goal

pub returns : goal.returns
returns c = below_last c.args.flights.now c.args.number c.requires.sorted (omega (arith, c.if-count-eq0.false))
