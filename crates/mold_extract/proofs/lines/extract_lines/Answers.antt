use Rattle.std.proofs.Common.{arith}
use Rattle.mold_extract.proofs.RunLemmas.{few_between}
use Rattle.mold_extract.proofs.lines.extract_lines.Goals as goal

pub print_entries-requires : goal.print_entries-requires
print_entries-requires g c =
    few_between c.args.checker.now.pairs c.first.result c.below.result c.new-carried.result
    (omega (arith, c.below.ensures)) c.new-carried.ensures
