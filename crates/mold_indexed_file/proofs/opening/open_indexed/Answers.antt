use Rattle.std.proofs.Common.{inl, inr}
use Rattle.mold_indexed_file.proofs.OpenedLemmas.{opened_all, opened_shows}
use Rattle.mold_indexed_file.proofs.opening.open_indexed.Goals as goal

pub returns-in-Ok-clause-shown : goal.returns-in-Ok-clause-shown
returns-in-Ok-clause-shown g c = λ bytes journal known loaded possible.
    opened_shows g.F.GrowingFile.history g.F.GrowingFile.moment c.in-Ok.indexed c.args.file c.args.max_message
    (g.S.Source.left c.args.source.now) c.in_ok-head.head c.in_ok-head.index bytes journal c.in-Ok.ensures.made
    c.in-Ok.ensures.empty c.in_ok-head.ensures.is known loaded (inl possible)

pub returns-in-Ok-clause-growing : goal.returns-in-Ok-clause-growing
returns-in-Ok-clause-growing g c = λ bytes journal known loaded has.
    opened_shows g.F.GrowingFile.history g.F.GrowingFile.moment c.in-Ok.indexed c.args.file c.args.max_message
    (g.S.Source.left c.args.source.now) c.in_ok-head.head c.in_ok-head.index bytes journal c.in-Ok.ensures.made
    c.in-Ok.ensures.empty c.in_ok-head.ensures.is known loaded (inr has)

pub returns-in-Ok-clause-opened : goal.returns-in-Ok-clause-opened
returns-in-Ok-clause-opened g c =
    opened_all c.in-Ok.indexed c.args.file c.args.max_message (g.S.Source.left c.args.source.now) c.in_ok-head.head
    c.in_ok-head.index c.in-Ok.ensures.made c.in_ok-head.ensures.is
