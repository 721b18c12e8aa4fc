use Rattle.std.proofs.lemmas.Bool.{OnTrue_at}
use Rattle.std.proofs.lemmas.Result.{err_from_is_err_and}
use Rattle.mold_feeder.proofs.ComparisonLemmas.{file_fault}
use Rattle.mold_feeder.proofs.JournalMessagesLemmas.{compared_one}
use Rattle.mold_feeder.proofs.comparison.compare_next.Goals as goal

pub returns-in_err-read_to-clause-fault : goal.returns-in_err-read_to-clause-fault
returns-in_err-read_to-clause-fault g c = λ has within.
    file_fault c.from_residual.result c.in_err-read_to.field-0.0
    (err_from_is_err_and c.from_residual.result c.from_residual.ensures.1)
    (c.in_err-read_to.ensures.refused c.args.publisher.now.publisher.journal.messages has)

pub returns-in-Message-clause-messages : goal.returns-in-Message-clause-messages
returns-in-Message-clause-messages g c = λ has.
    compared_one g.J.Source.left c.read_to.new.self c.args.publisher.now.publisher.journal.messages c.args.number
    c.compare_message.result
    (OnTrue_at c.if-not-branch.false
    (c.in_ok-read_to.ensures.read c.args.publisher.now.publisher.journal.messages has))
