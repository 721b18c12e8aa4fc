use Rattle.std.proofs.Common.{◌≡◌}
use Rattle.mold_ffi.specs.Publisher.Exchange.{sent_journal}
use Rattle.mold_ffi.proofs.ServerLemmas.{serves_held}
use Rattle.mold_ffi.proofs.publisher.exchange.Exchange.planned.Goals as goal

pub returns-in-Some-clause-serves : goal.returns-in-Some-clause-serves
returns-in-Some-clause-serves c server some =
    let same : c.in-Some.server ≡ server = cc in
    serves_held server c.in-Some.server (sent_journal c.args.self.now.publisher) c.sent_by-sent.result
    c.args.fields.now c.datagram.new.fields c.args.buffer.now c.datagram.new.buffer c.args.size.now c.datagram.result
    c.datagram.new.size same c.sent_by-sent.ensures c.datagram.ensures.serves
