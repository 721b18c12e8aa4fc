use Rattle.std.proofs.Common.{◌≡◌, rules, subst, sym}
use Rattle.mold_serve.proofs.ServingLemmas.{kept_so, loads_so, remains_so}
use Rattle.mold_session.specs.Server.{ServerState}
use Rattle.mold_serve.proofs.once.answer_once.Goals as goal

pub returns-clause-replied : goal.returns-clause-replied
returns-clause-replied g c shown may modeled =
    let port = sym c.answer_request.ensures.same.port in
    let tally = sym c.answer_request.ensures.same.tally in
    let server = sym c.answer_request.ensures.same.server in
    let turned = c.answer_request.ensures.replied shown may modeled in
    search rules

pub returns-clause-prints : goal.returns-clause-prints
returns-clause-prints g c =
    let same = sym c.answer_request.ensures.same.tally in
    let prints = c.answer_request.ensures.prints in
    search rules

pub returns-clause-shown : goal.returns-clause-shown
returns-clause-shown g c =
    kept_so g.J.ServedJournal.shows c.args.journal.now c.answer_request.new.self.journal.now _
    (let same = sym c.answer_request.ensures.same.journal in search rules) c.answer_request.ensures.shown

pub returns-clause-stays : goal.returns-clause-stays
returns-clause-stays g c =
    remains_so g.J.ServedJournal.stays c.args.journal.now c.answer_request.new.self.journal.now _
    (let same = sym c.answer_request.ensures.same.journal in search rules) c.answer_request.ensures.stays

pub returns-clause-failures : goal.returns-clause-failures
returns-clause-failures g c =
    loads_so g.J.ServedJournal.failed c.answer_request.result c.args.journal.now c.answer_request.new.self.journal.now _
    (let same = sym c.answer_request.ensures.same.journal in search rules) c.answer_request.ensures.failures

pub returns-clause-server : goal.returns-clause-server
returns-clause-server g c =
    subst (λ (s : ServerState). s ≡ record c.args.server.now { answered = s.answered })
    (let same = c.answer_request.ensures.same.server in search rules) c.answer_request.ensures.same.limits
