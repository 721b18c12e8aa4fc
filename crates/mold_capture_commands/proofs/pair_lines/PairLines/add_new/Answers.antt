use Rattle.std.proofs.Common.{◌∙◌, List, ap, sym}
use Rattle.indexmap.specs.IndexMap.{insert_entry}
use Rattle.mold_capture_commands.specs.Pairs.{same_pair}
use Rattle.mold_capture_commands.specs.SessionState.{tally_more}
use Rattle.mold_capture_commands.specs.declared.pair.Pair.{Pair}
use Rattle.mold_capture_commands.specs.declared.pair_tally.PairTally.{PairTally}
use Rattle.mold_capture_commands.proofs.EqLemmas.{pair_eq}
use Rattle.mold_capture_commands.proofs.LineLemmas.{more_new}
use Rattle.mold_capture_commands.proofs.pair_lines.PairLines.add_new.Goals as goal

pub returns : goal.returns
returns c =
    let lines = c.args.self.now in
    let pair = c.args.pair in
    let read = c.args.read.now in
    c.in_ok-insert.ensures.entries
    ∙ (λ i. insert_entry (λ one other. pair_eq one other i) c.self.inside.map.entries pair c.add.new.self)
    ∙ ap (λ (l : List (Pair × PairTally)). insert_entry same_pair l pair c.add.new.self) c.self.view_is
    ∙ ap (insert_entry same_pair lines pair)
    (c.add.ensures ∙ ap (λ (tally : PairTally). tally_more tally read) c.new-tally.ensures)
    ∙ sym (more_new lines pair read c.requires)
