use Rattle.std.proofs.Common.{arith, ◌≡◌, ◌∙◌, length}
use Rattle.std.proofs.lemmas.Grind.{common_steps}
use Rattle.mold_ports.specs.Ports.{Quiet, Failure}
use Rattle.mold_receiver.specs.Origin.{line_of}
use Rattle.mold_listen.specs.Listening.{progress}
use Rattle.mold_listen.proofs.ListenLemmas.{datagram_next, received_next}
use Rattle.mold_listen.proofs.receiving.receive_on.Goals as goal
use Rattle.mold_wire.specs.declared.limits.TheConstants.{MAX_LIMIT}

pub returns-in_ok-take-in-Ok-Some-clause-received : goal.returns-in_ok-take-in-Ok-Some-clause-received
returns-in_ok-take-in-Ok-Some-clause-received g c = λ t.
    let long : length c.receive.new.buffer ≡ MAX_LIMIT = grind (arith, common_steps) in
    let before = progress c.args.arbiter.now c.args.printer.now.outgoing in
    let next =
    received_next (line_of c.args.origin) (g.D.Datagrams.port c.args.port.now) before (length c.receive.new.buffer) _ long
    (rw c.in-Ok-Some.field-0-is at c.in-Ok-Some.ensures.came t) in
    c.in_ok-take-in-Ok-Some.ensures.taken ∙ next

pub returns-in-Ok-None-clause-came : goal.returns-in-Ok-None-clause-came
returns-in-Ok-None-clause-came g c = λ t.
    datagram_next (length c.receive.new.buffer) (g.D.Datagrams.port c.args.port.now) Quiet
    (rw c.in-Ok-None.field-0-is at c.in-Ok-None.ensures.came t)

pub returns-in-Ok-None-clause-received : goal.returns-in-Ok-None-clause-received
returns-in-Ok-None-clause-received g c = λ t.
    let long : length c.receive.new.buffer ≡ MAX_LIMIT = grind (arith, common_steps) in
    received_next (line_of c.args.origin) (g.D.Datagrams.port c.args.port.now) (progress c.args.arbiter.now c.args.printer.now.outgoing)
    (length c.receive.new.buffer) Quiet long (rw c.in-Ok-None.field-0-is at c.in-Ok-None.ensures.came t)

pub returns-in-Err-clause-came : goal.returns-in-Err-clause-came
returns-in-Err-clause-came g c = λ t.
    datagram_next (length c.receive.new.buffer) (g.D.Datagrams.port c.args.port.now) Failure (c.in-Err.ensures.came t)

pub returns-in-Err-clause-received : goal.returns-in-Err-clause-received
returns-in-Err-clause-received g c = λ t.
    let long : length c.receive.new.buffer ≡ MAX_LIMIT = grind (arith, common_steps) in
    rw c.count_failure.ensures
    (received_next (line_of c.args.origin) (g.D.Datagrams.port c.args.port.now) (progress c.args.arbiter.now c.args.printer.now.outgoing)
    (length c.receive.new.buffer) Failure long (c.in-Err.ensures.came t))
