use Rattle.std.proofs.Common.{◌≤◌, ◌<◌, ◌==◌, arith, Bool, true, false, ℕ, cond}
use Rattle.std.proofs.lemmas.Bool.Decides.{nat_tests}
use Rattle.mold_repair.proofs.options.RepairOptions.pacer.Goals as goal

cond_within : (b : Bool) (m n most : ℕ) → m ≤ most → n ≤ most → cond b m n ≤ most
cond_within true m n most left right = left
cond_within false m n most left right = right

pub invariant_of-result : goal.invariant_of-result
invariant_of-result c =
    let o = c.args.self.now in
    let patience : o.patience ≤ 1000000000 = grind (arith, nat_tests, c.requires) in
    let timeout : 0 < o.timeout = grind (arith, nat_tests, c.requires) in
    let ceiling : o.timeout ≤ o.ceiling = grind (arith, nat_tests, c.requires) in
    let high : o.ceiling ≤ 4611686018427387903 = grind (arith, nat_tests, c.requires) in
    let settles : 0 < o.settle = grind (arith, nat_tests, c.requires) in
    let settle : o.settle ≤ 4611686018427387903 = grind (arith, nat_tests, c.requires) in
    let interval : o.interval ≤ 4611686018427387903 = grind (arith, nat_tests, c.requires) in
    let some : 0 < o.places = grind (arith, nat_tests, c.requires) in
    let few : o.places ≤ 4096 = grind (arith, nat_tests, c.requires) in
    let first = cond_within (o.patience == 0) 1000000 o.patience 1000000000 (omega arith) patience in
    record {
      times = (
        omega (arith, c.first_patience.ensures, first),
        omega (arith, settle),
        omega (arith, interval),
        omega (arith, c.tolerance.ensures),
      );
      settles = settles;
      waits = (timeout, ceiling, omega (arith, high));
      asks = (omega (arith, c.from.ensures), some, few, omega (arith, c.max.ensures));
    }
