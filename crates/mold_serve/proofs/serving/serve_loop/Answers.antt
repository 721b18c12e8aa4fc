use Rattle.std.proofs.Common.{◌≡◌, ℕ, [], inl, refl, rules, sym, List}
use Rattle.std.proofs.lemmas.Result.{on_err_weaker}
use Rattle.mold_ports.specs.Ports.{Port}
use Rattle.mold_serve.specs.Serving.{IsInNextTurn, ResponderState, served_by, service_of, responder_of}
use Rattle.mold_serve.specs.Tally.{served_line, no_tally}
use Rattle.mold_serve.proofs.ServingLemmas.{failures_so, kept_so, served_so, serving_is, timely_so}
use Rattle.mold_session.specs.Server.{ServerState}
use Rattle.mold_turns.proofs.OutgoingLemmas.{bounded_none}
use Rattle.mold_turns.proofs.RunLemmas.{in_time_none, on_err, ran_none}
use Rattle.mold_serve.proofs.serving.serve_loop.Goals as goal

-- the last line, and that port and server are as at the end
abbrev last : {P : Type 0} → ResponderState P → List ℕ
last responder = served_line responder.tally

abbrev Agrees : {P : Type 0} → Port P → ServerState → ServerState → ResponderState P → Type 0
Agrees port old new responder = (port ≡ responder.port) × (new ≡ served_by old responder)

pub returns-in_err-buffer-clause-run : goal.returns-in_err-buffer-clause-run
returns-in_err-buffer-clause-run g c shown may modeled =
    ran_none (serving_is (service_of shown c.args.server.now)) c.args.turns
    (responder_of (g.D.Datagrams.port c.args.port.now) no_tally c.args.server.now) last (λ responder. 0)
    (Agrees (g.D.Datagrams.port c.args.port.now) c.args.server.now c.args.server.now)
    c.from_residual.result [] _ c.from_residual.ensures.0

pub returns-clause-run : goal.returns-clause-run
returns-clause-run g c shown may modeled =
    served_so g.D.Datagrams.port (service_of shown c.args.server.now) c.args.turns
    (responder_of (g.D.Datagrams.port c.args.port.now) no_tally c.args.server.now)
    c.serve.result _ _ c.args.server.now c.serve.new.self.port.now _ c.serve.new.self.server.now _
    (let same = sym c.serve.ensures.same.port in search rules)
    (let same = sym c.serve.ensures.same.server in search rules)
    (rw c.new-tally.ensures at c.serve.ensures.run shown may modeled)

-- ---- what a fault finds unwritten

pub returns-in_err-buffer-clause-timely : goal.returns-in_err-buffer-clause-timely
returns-in_err-buffer-clause-timely g c =
    on_err c.from_residual.result
    (λ shown may t.
    in_time_none (serving_is (service_of shown c.args.server.now)) (g.K.Sink.live c.args.sink.now)
    (IsInNextTurn (g.D.Datagrams.port c.args.port.now)) (inl refl) (bounded_none (g.K.Sink.live c.args.sink.now)))

pub returns-clause-timely : goal.returns-clause-timely
returns-clause-timely g c =
    on_err_weaker c.serve.result
    (λ timely shown may t.
    timely_so g.D.Datagrams.port (service_of shown c.args.server.now)
    (responder_of (g.D.Datagrams.port c.args.port.now) no_tally c.args.server.now)
    (g.K.Sink.live c.args.sink.now) _ _ c.serve.new.self.port.now _
    (let same = sym c.serve.ensures.same.port in search rules)
    ((rw c.new-tally.ensures at timely) shown may t (bounded_none (g.K.Sink.live c.args.sink.now))))
    c.serve.ensures.timely

-- ---- the journal

pub returns-clause-shown : goal.returns-clause-shown
returns-clause-shown g c =
    kept_so g.J.ServedJournal.shows c.args.journal.now c.serve.new.self.journal.now _
    (let same = sym c.serve.ensures.same.journal in search rules) c.serve.ensures.shown

pub returns-clause-failures : goal.returns-clause-failures
returns-clause-failures g c shown may =
    failures_so g.J.ServedJournal.failed c.serve.result c.args.journal.now c.serve.new.self.journal.now _ _ _
    (let same = sym c.serve.ensures.same.journal in search rules) (c.serve.ensures.failures shown may)
