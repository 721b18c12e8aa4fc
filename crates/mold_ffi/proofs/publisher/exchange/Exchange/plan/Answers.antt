use Rattle.std.proofs.Common.{◌≡◌, Option}
use Rattle.mold_ffi.specs.Publisher.Exchange.{sent_journal, with_server}
use Rattle.mold_ffi.specs.declared.handle.held.Held.{Held}
use Rattle.mold_ffi.proofs.ServerLemmas.{plans_held}
use Rattle.mold_ffi.proofs.publisher.exchange.Exchange.plan.Goals as goal

pub returns-in-Some-clause-plans : goal.returns-in-Some-clause-plans
returns-in-Some-clause-plans c server some =
    let exchange = c.args.self.now in
    let same : c.in-Some.server ≡ server = cc in
    plans_held (Option Held) server c.in-Some.server (sent_journal exchange.publisher) c.sent_by-sent.result
    c.args.request.now
    c.args.fields.now c.plan.new.fields c.args.number.now c.plan.result c.plan.new.number (with_server exchange)
    c.plan.new.server same c.sent_by-sent.ensures c.plan.ensures
