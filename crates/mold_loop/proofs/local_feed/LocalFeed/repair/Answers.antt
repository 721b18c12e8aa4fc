use Rattle.std.proofs.Common.{◌∙◌, ℕ, ap, refl, rules, sym}
use Rattle.mold_listen.specs.Listening.{progress}
use Rattle.mold_loop.specs.LocalFeed.{rounds}
use Rattle.mold_turns.specs.Outgoing.{failed_often}
use Rattle.mold_serve.specs.Serving.{responder_of, service_of}
use Rattle.mold_loop.proofs.RepairLemmas.{has_repaired, repair_cut, repaired_so, turn_from}
use Rattle.mold_loop.proofs.local_feed.LocalFeed.repair.Goals as goal

pub returns-in_default-clause-repaired : goal.returns-in_default-clause-repaired
returns-in_default-clause-repaired g c = λ t.
    let turned =
    c.serve_once.ensures.turn c.args.journal.now (record { shown = refl; longest = c.requires.longest }) t in
    let service = service_of c.args.journal.now c.args.server.now in
    let reached = turn_from _ service turned.0 (g.D.Datagrams.port c.args.self.now.ports.now.server) c.args.server.now _
    c.new-tally.ensures turned.1 in (turned.0, repair_cut service turned.0 _ _ refl reached.sent)

pub returns-clause-repaired : goal.returns-clause-repaired
returns-clause-repaired g c = λ t.
    let turned = c.in-Ok.ensures.turn c.args.journal.now (record { shown = refl; longest = c.requires.longest }) t in
    let service = service_of c.args.journal.now c.args.server.now in
    let known = g.D.Datagrams.port in
    let feed = c.args.self.now in
    let reached = turn_from _ service turned.0 (known feed.ports.now.server) c.args.server.now _ c.new-tally.ensures
    turned.1 in
    let responder = responder_of (known c.serve_once.new.port) c.serve_once.new.tally c.serve_once.new.server in
    let mid = progress feed.listener.now.arbiter c.count_failures.new.self in
    let end = rounds known c.serve_once.new.server c.take_answers.new.self in (
      turned.0,
      repaired_so c.take_answers.result _ _ c.serve_once.new.server.answered _ _ _
          refl (has_repaired c.take_answers.result service turned.0
          (rounds known c.args.server.now feed)
          end
          responder mid c.serve_once.new.tally.answered reached.whole
          (ap (progress feed.listener.now.arbiter)
          (c.count_failures.ensures ∙ ap (λ (n : ℕ). failed_often n feed.listener.now.printer.outgoing)
          c.failures-failures.ensures))
          refl (ap known c.take_answers.ensures.server) refl (c.take_answers.ensures.sent t)
          (c.take_answers.ensures.received t)),
    )
