use Rattle.std.proofs.Common.{[], true, false, refl, sym}
use Rattle.mold_loop.specs.LocalFeed.{rounds}
use Rattle.mold_serve.specs.Serving.{service_of}
use Rattle.mold_loop.proofs.RepairLemmas.{round_made, round_missed}
use Rattle.mold_loop.proofs.local_feed.LocalFeed.round.Goals as goal

pub returns-then-is_err-clause-requested : goal.returns-then-is_err-clause-requested
returns-then-is_err-clause-requested g c = λ t.
    let known = g.D.Datagrams.port in
    let before = rounds known c.args.server.now c.args.self.now in (
      (true, []),
      round_missed c.args.self.now.options.now.peers.server (service_of c.args.journal.now c.args.server.now) c.args.request.now
          before _ (known c.send.new.self) _ _ (sym c.if-is_err.ensures.value) c.encode.ensures.spelled
          (c.send.ensures.sent t) (rw c.count_failure.ensures refl),
    )

pub returns-clause-requested : goal.returns-clause-requested
returns-clause-requested g c = λ t.
    let known = g.D.Datagrams.port in
    let before = rounds known c.args.server.now c.args.self.now in
    let repaired = c.repair.ensures.repaired t in (
      (false, repaired.0),
      round_made c.repair.result c.args.self.now.options.now.peers.server (service_of c.args.journal.now c.args.server.now)
          c.args.request.now repaired.0 before _ (known c.send.new.self) _ _ (sym c.if-is_err.ensures.value)
          c.encode.ensures.spelled (c.send.ensures.sent t) repaired.1,
    )
