use Rattle.std.proofs.Common.{◌<◌, arith, length}
use Rattle.std.proofs.lemmas.Bool.{OnFalse_at, OnFalse_from, OnTrue_at, OnTrue_from}
use Rattle.std.proofs.lemmas.Result.{err_from_is_err_and}
use Rattle.mold_session.proofs.FileLemmas.{passed_on}
use Rattle.mold_feeder.specs.JournalMessages.{HasMessageRead, IsOfDevice}
use Rattle.mold_feeder.specs.declared.journal_messages.JournalMessages.{JournalMessages}
use Rattle.mold_feeder.proofs.JournalMessagesLemmas.{device_refused, file_ended, is_next, next_read, was_read}
use Rattle.mold_feeder.proofs.journal_messages.JournalMessages.read_to.Goals as goal

pub returns-then-number-count-clause-read : goal.returns-then-number-count-clause-read
returns-then-number-count-clause-read g c = λ messages has.
    was_read g.J.Source.left c.args.self.now messages c.args.number has (omega (arith, c.if-number-count.true, c.count.ensures))

pub returns-in_err-advance-clause-refused : goal.returns-in_err-advance-clause-refused
returns-in_err-advance-clause-refused g c = λ messages has.
    let error = c.in_err-advance.field-0.0 in
    passed_on c.from_residual.result error IsOfDevice
    (err_from_is_err_and c.from_residual.result c.from_residual.ensures.1)
    (device_refused g.J.Source.left c.args.self.now messages c.args.number error has c.in_err-advance.ensures.refused)

pub returns-clause-read : goal.returns-clause-read
returns-clause-read g c = λ messages has.
    let next : JournalMessages g.row.J.Denot = record { reader = c.advance.new.self; source = c.advance.new.source } in
    OnTrue_from c.in_ok-advance.field-0 (HasMessageRead g.J.Source.left next messages c.args.number)
    (λ more.
    next_read g.J.Source.left c.args.self.now next messages c.args.number has
    (is_next g.J.Source.left c.args.self.now messages c.args.number has (omega (arith, c.if-number-count.false, c.count.ensures)))
    (OnTrue_at more c.in_ok-advance.ensures.next))

pub returns-clause-end : goal.returns-clause-end
returns-clause-end g c = λ messages has.
    OnFalse_from c.in_ok-advance.field-0 (length messages < c.args.number)
    (λ over.
    file_ended g.J.Source.left c.args.self.now c.advance.new.self.head messages c.args.number has
    (is_next g.J.Source.left c.args.self.now messages c.args.number has (omega (arith, c.if-number-count.false, c.count.ensures)))
    (OnFalse_at over c.in_ok-advance.ensures.end))
