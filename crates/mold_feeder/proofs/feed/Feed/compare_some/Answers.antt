use Rattle.std.proofs.Common.{◌∙◌, List, Option, ap, subst, sym}
use Rattle.mold_input.specs.Entries.{Entry}
use Rattle.mold_input.specs.LongLines.{bytes_of}
use Rattle.mold_feeder.specs.Input.{bytes_come, entries_after, entries_of_rest}
use Rattle.mold_feeder.specs.Taking.{ComparesCome, left_of, taken_at}
use Rattle.mold_feeder.specs.ToEmpty.{source_left}
use Rattle.mold_feeder.specs.declared.gathered.Gathered.{Gathered}
use Rattle.mold_feeder.specs.declared.piece_input.PieceInput.{PieceInput}
use Rattle.mold_feeder.proofs.TakingLemmas.{rest_compared}
use Rattle.mold_feeder.proofs.feed.Feed.compare_some.Goals as goal

pub returns-clause-compared : goal.returns-clause-compared
returns-clause-compared g c = λ has.
    let entries = g.M.MessageReader.entries in
    let found = c.in_ok-at.compared in
    let before = c.args.self.now.input in
    let behind = entries (bytes_come g.M.InputReader.unread c.compare_ready.new.self.input) in
    let after = c.compare_ready.new.self.input in
    subst (λ (r : Option (List Entry)). ComparesCome c.args.self.now.feeder.publisher.publisher.journal c.args.number
    c.in_ok-at.at (entries_of_rest g.M.InputReader.unread g.K.Source.left g.M.MessageReader.entries c.args.self.now.input) r found)
    (sym (c.in_ok-note.ensures.rest
    ∙ ap (λ (t : Option Gathered). entries_after entries (left_of t behind) (bytes_of after.part)
    (source_left g.K.Source.left after.source)) c.taken_at.ensures
    ∙ ap (λ (i : PieceInput g.row.M.Denot g.row.K.Denot).
    entries_after entries (left_of (taken_at found) behind) (bytes_of i.part) (source_left g.K.Source.left i.source))
    c.compare_ready.ensures.input))
    (rest_compared c.args.self.now.feeder.publisher.publisher.journal c.args.number c.in_ok-at.at entries
    (entries (bytes_come g.M.InputReader.unread before)) behind (bytes_of before.part)
    (source_left g.K.Source.left before.source) found (c.in_ok-at.ensures.compared has))
