use Rattle.std.proofs.Common.{◌≡◌, Option}
use Rattle.mold_ffi.specs.Publisher.Exchange.{sent_journal, with_server}
use Rattle.mold_ffi.specs.declared.handle.held.Held.{Held}
use Rattle.mold_ffi.proofs.ServerLemmas.{answers_held}
use Rattle.mold_ffi.proofs.publisher.exchange.Exchange.answer.Goals as goal

pub returns-in-Some-clause-answers : goal.returns-in-Some-clause-answers
returns-in-Some-clause-answers c server some =
    let exchange = c.args.self.now in
    let same : c.in-Some.server ≡ server = cc in
    answers_held (Option Held) server c.in-Some.server (sent_journal exchange.publisher) c.sent_by-sent.result
    c.args.request.now
    c.args.buffer.now c.answer.new.buffer c.args.number.now c.answer.result c.answer.new.number (with_server exchange)
    c.answer.new.server same c.sent_by-sent.ensures c.answer.ensures
