use Rattle.std.proofs.Common.{◌∙◌, List, ap, position, sym}
use Rattle.std.specs.Map.{keys_of}
use Rattle.mold_capture_commands.specs.Pairs.{same_pair}
use Rattle.mold_capture_commands.specs.SessionState.{lines_more}
use Rattle.mold_capture_commands.specs.declared.pair.Pair.{Pair}
use Rattle.mold_capture_commands.specs.declared.pair_tally.PairTally.{PairTally}
use Rattle.mold_capture_commands.proofs.LineLemmas.{more_at}
use Rattle.mold_capture_commands.proofs.pair_lines.PairLines.add.Goals as goal

pub returns-in-Some : goal.returns-in-Some
returns-in-Some c =
    let there = ap (λ (l : List (Pair × PairTally)). position (same_pair c.args.pair) (keys_of l)) c.self.view_is
    ∙ sym c.find.ensures ∙ c.in-Some.is in
    more_at c.self.inside.map.entries c.add_at.new.self c.args.pair c.args.read.now c.in-Some.index there c.add_at.ensures
    ∙ ap (λ (l : List (Pair × PairTally)). lines_more l c.args.pair c.args.read.now) c.self.view_is
