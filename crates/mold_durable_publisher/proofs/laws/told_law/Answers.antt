use Rattle.mold_durable_publisher.proofs.ToldLemmas.{life_begins, life_goes_on, told_around, told_file, told_later}
use Rattle.mold_durable_publisher.proofs.ToldLemmas.{true_later, true_moment}
use Rattle.mold_durable_publisher.proofs.laws.told_law.Goals as goal

pub returns : goal.returns
returns c =
    let keeps = c.true_stays_law.ensures.message in
    record {
      later = true_later keeps;
      file = told_file;
      later_file = told_later keeps;
      moment = true_moment keeps;
      around = told_around keeps;
      begins = life_begins;
      goes_on = life_goes_on;
    }
