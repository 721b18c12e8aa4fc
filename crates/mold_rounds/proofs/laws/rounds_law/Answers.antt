use Rattle.std.proofs.Common.{arith}
use Rattle.mold_receiver.specs.Wanted.{gaps}
use Rattle.mold_rounds.proofs.AsksLemmas.{sum_few}
use Rattle.mold_rounds.proofs.laws.rounds_law.Goals as goal

pub returns : goal.returns
returns c = record {
  few = λ v published limit burst well.
      omega (arith, sum_few limit burst published (gaps v), c.missing_law.ensures.gaps v well);
}
