use Rattle.std.proofs.Common.{ap}
use Rattle.mold_loop.specs.LocalFeed.{lines}
use Rattle.mold_loop.proofs.HeardLemmas.{has_passed}
use Rattle.mold_loop.proofs.local_feed.LocalFeed.pass.Goals as goal

pub returns-clause-passed : goal.returns-clause-passed
returns-clause-passed g c = λ t.
    let known = g.D.Datagrams.port in
    let feed = c.args.self.now in
    has_passed feed.options.now.peers.a feed.options.now.peers.b c.args.routes c.send_on-sent.result c.args.datagram.now
    c.receive_on_lines.result (lines known feed) (lines known c.receive_on_lines.new.self)
    (known c.send_on-sent.new.port) c.send_on-sent.new.listener.printer.outgoing (c.send_on-sent.ensures.comes t)
    (ap known c.receive_on_lines.ensures.publisher) (rw c.send_on-sent.ensures.arbiter at (c.receive_on_lines.ensures.received t))
