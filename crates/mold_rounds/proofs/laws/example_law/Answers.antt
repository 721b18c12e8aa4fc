use Rattle.std.specs.Prelude.{[], ◌∷◌}
use Rattle.mold_rounds.proofs.ExampleLemmas.{bursts_of_three, bursts_of_two, missing_of, one_gap, three_gaps, two_gaps}
use Rattle.mold_rounds.proofs.laws.example_law.Goals as goal
use Rattle.mold_rounds.specs.Examples.{twenty}

pub returns : goal.returns
returns c = record {
  two_gaps = two_gaps;
  one_gap = one_gap;
  bursts_of_two = bursts_of_two;
  bursts_of_three = bursts_of_three;
  three_gaps = three_gaps;
  missing = (
    missing_of 8 ((3, twenty 3) ∷ []) tt,
    missing_of 1 [] tt,
    missing_of 8 ((2, twenty 2) ∷ (4, twenty 4) ∷ []) tt,
  );
}
