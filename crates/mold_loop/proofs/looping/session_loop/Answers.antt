use Rattle.std.proofs.Common.{◌≡◌, refl, rules, sym}
use Rattle.mold_loop.specs.Looping.{lines_at}
use Rattle.mold_loop.specs.Repairing.{rounds_at}
use Rattle.mold_loop.proofs.LocalFeedLemmas.{ends_a, ends_arbiter, ends_b, ends_outgoing, ends_publisher, ends_requests, ends_server, lines_so}
use Rattle.mold_loop.proofs.LocalFeedLemmas.{loop_so, rounds_so, sent_so}
use Rattle.mold_loop.proofs.LoopEndLemmas.{loop_unbegun}
use Rattle.mold_loop.proofs.PassingLemmas.{loop_sends}
use Rattle.mold_loop.proofs.WritingLemmas.{counts_after}
use Rattle.mold_turns.proofs.FaultLemmas.{counts_behind, counts_memory, two_memory}
use Rattle.mold_loop.proofs.looping.session_loop.Goals as goal

pub returns-in_err-buffer-clause-run : goal.returns-in_err-buffer-clause-run
returns-in_err-buffer-clause-run g c modeled =
    let options = c.args.options.now in
    let peers = options.peers in
    let port = g.D.Datagrams.port in
    loop_unbegun options.reporting options.drops peers.a peers.b peers.server options.turns c.args.parts.now.publisher
    c.args.parts.now.server (lines_at port c.args.ports.now c.args.parts.now.listener)
    (rounds_at port c.args.ports.now c.args.parts.now.server c.args.parts.now.listener) _ c.from_residual.result _ _
    c.from_residual.ensures.0

pub returns-clause-run : goal.returns-clause-run
returns-clause-run g c modeled =
    let options = c.args.options.now in
    let peers = options.peers in
    let port = g.D.Datagrams.port in
    let feed = c.run.new.self in
    let ports = sym c.run.ensures.same.ports in
    -- The search takes some seconds, so it is made once. `c.ports-1.given.0` is what the ports end as.
    let ended : c.ports-1.given.0 ≡ feed.ports.now = search rules in
    let listener = sym c.run.ensures.same.listener in
    loop_so options.reporting options.drops peers.a peers.b peers.server options.turns
    c.args.parts.now.publisher c.args.parts.now.server (lines_at port c.args.ports.now c.args.parts.now.listener)
    (rounds_at port c.args.ports.now c.args.parts.now.server c.args.parts.now.listener) _ c.run.result _ _ _ _
    (lines_at port feed.ports.now feed.listener.now) _
    (rounds_at port feed.ports.now c.run.new.server feed.listener.now) _
    (lines_so port feed.ports.now feed.listener.now _ _ _ _ _ (ends_publisher ended) (ends_a ended)
    (ends_b ended) (search (ends_arbiter)) (search (ends_outgoing)))
    (rounds_so port feed.ports.now c.run.new.server feed.listener.now _ _ _ _ (ends_server ended)
    (ends_requests ended) (search (ends_arbiter)) (search (ends_outgoing)))
    (c.run.ensures.run modeled)

pub returns-clause-a : goal.returns-clause-a
returns-clause-a g c modeled =
    sent_so g.D.Datagrams.port c.args.ports.now.a c.run.new.self.ports.now.a _
    (let same = sym c.run.ensures.same.ports in
    let ended : c.ports-1.given.0 ≡ c.run.new.self.ports.now = search rules in ends_a ended) (c.run.ensures.a modeled)

pub returns-clause-b : goal.returns-clause-b
returns-clause-b g c modeled =
    sent_so g.D.Datagrams.port c.args.ports.now.b c.run.new.self.ports.now.b _
    (let same = sym c.run.ensures.same.ports in
    let ended : c.ports-1.given.0 ≡ c.run.new.self.ports.now = search rules in ends_b ended) (c.run.ensures.b modeled)

pub returns-in_err-buffer-clause-sends : goal.returns-in_err-buffer-clause-sends
returns-in_err-buffer-clause-sends g c modeled =
    let options = c.args.options.now in
    let peers = options.peers in
    loop_sends options.reporting options.drops peers.a peers.b peers.server options.turns
    c.args.parts.now.publisher c.args.parts.now.server _ _ _ c.from_residual.result _ _ _ _ _ _
    (returns-in_err-buffer-clause-run g c modeled)

pub returns-clause-sends : goal.returns-clause-sends
returns-clause-sends g c modeled =
    let options = c.args.options.now in
    let peers = options.peers in
    loop_sends options.reporting options.drops peers.a peers.b peers.server options.turns
    c.args.parts.now.publisher c.args.parts.now.server _ _ _ c.run.result _ _ _ _ _ _
    (returns-clause-run g c modeled)

pub returns-in_err-buffer-clause-failures : goal.returns-in_err-buffer-clause-failures
returns-in_err-buffer-clause-failures g c =
    let result = c.from_residual.result in
    counts_after result _ _ _ _ _ _ _ _ refl refl refl (two_memory result _ _ _ _ c.from_residual.ensures.1 refl refl)

pub returns-in_err-buffer-clause-lines : goal.returns-in_err-buffer-clause-lines
returns-in_err-buffer-clause-lines g c = λ plain.
    let result = c.from_residual.result in
    (refl, counts_behind result _ _ _ _ _ refl refl (counts_memory result _ _ c.from_residual.ensures.1 refl))
