use Rattle.std.proofs.Common.{◌≡◌, rules, subst, sym}
use Rattle.mold_serve.proofs.ServingLemmas.{kept_so, loads_so}
use Rattle.mold_session.specs.Server.{ServerState}
use Rattle.mold_serve.proofs.once.serve_once.Goals as goal

pub returns-clause-turn : goal.returns-clause-turn
returns-clause-turn g c shown may modeled =
    let port = sym c.take_turn.ensures.same.port in
    let tally = sym c.take_turn.ensures.same.tally in
    let server = sym c.take_turn.ensures.same.server in
    let turned = c.take_turn.ensures.turn shown may modeled in
    search rules

pub returns-clause-prints : goal.returns-clause-prints
returns-clause-prints g c =
    let same = sym c.take_turn.ensures.same.tally in
    let prints = c.take_turn.ensures.prints in
    search rules

pub returns-clause-shown : goal.returns-clause-shown
returns-clause-shown g c =
    kept_so g.J.ServedJournal.shows c.args.journal.now c.take_turn.new.self.journal.now _
    (let same = sym c.take_turn.ensures.same.journal in search rules) c.take_turn.ensures.shown

pub returns-clause-failures : goal.returns-clause-failures
returns-clause-failures g c =
    loads_so g.J.ServedJournal.failed c.take_turn.result c.args.journal.now c.take_turn.new.self.journal.now _
    (let same = sym c.take_turn.ensures.same.journal in search rules) c.take_turn.ensures.failures

pub returns-clause-server : goal.returns-clause-server
returns-clause-server g c =
    subst (λ (s : ServerState). s ≡ record c.args.server.now { answered = s.answered })
    (let same = c.take_turn.ensures.same.server in search rules) c.take_turn.ensures.same.limits
