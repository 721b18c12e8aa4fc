use Rattle.std.proofs.Common.{◌∙◌, ◌++◌, ap, List, [], ℕ}
use Rattle.mold_input.specs.LongLines.{bytes_of}
use Rattle.mold_feeder.specs.Input.{entries_after}
use Rattle.mold_feeder.specs.ToEmpty.{source_left}
use Rattle.mold_feeder.proofs.InputLemmas.{split_rest}
use Rattle.mold_feeder.proofs.piece_input.PieceInput.add_piece.Goals as goal

pub returns-clause-split : goal.returns-clause-split
returns-clause-split g c =
    let entries = g.M.MessageReader.entries in
    let old = bytes_of c.args.self.now.part in
    let part = bytes_of c.add.new.part in
    let whole = bytes_of c.in_ok-whole.whole in
    let left = source_left g.K.Source.left c.args.self.now.source in
    ap (λ (t : List ℕ). entries_after entries (entries t) part left) c.of.ensures
    ∙ split_rest entries whole part old c.bytes.result.now left c.in_ok-whole.ensures.split
    ∙ ap (λ (t : List ℕ). entries_after entries [] (old ++ t) left) c.bytes.ensures
