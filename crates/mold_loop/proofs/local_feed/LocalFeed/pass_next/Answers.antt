use Rattle.std.proofs.Common.{◌+◌}
use Rattle.mold_session.specs.Publisher.{next_datagram}
use Rattle.mold_loop.proofs.HeardLemmas.{passed_not}
use Rattle.mold_loop.proofs.local_feed.LocalFeed.pass_next.Goals as goal

pub returns-in_default-clause-passed : goal.returns-in_default-clause-passed
returns-in_default-clause-passed g c = λ t.
    passed_not c.args.self.now.options.now.drops (c.args.number.now + 1) c.args.self.now.options.now.peers.a c.args.self.now.options.now.peers.b
    (next_datagram c.args.publisher.now) _ _ c.in_default.ensures.lent
