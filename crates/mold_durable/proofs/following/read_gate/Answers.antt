use Rattle.std.proofs.Common.{arith, nat_eq, slice_index_or}
use Rattle.std.proofs.lemmas.Bool.{eqb-false, eqb-true}
use Rattle.mold_durable.proofs.FollowingLemmas.{has_gate, shows_gate}
use Rattle.mold_durable.proofs.following.read_gate.Goals as goal

pub returns-in-Ok-eq0-clause-accepted : goal.returns-in-Ok-eq0-clause-accepted
returns-in-Ok-eq0-clause-accepted g c = λ writer bytes told shown writes has.
    has_gate writer bytes writes told c.args.at.count c.args.at.end (g.F.GrowingFile.moment c.args.file.now)
    (g.F.GrowingFile.moment c.read_at.new.self) c.args.at.opened has c.read_at.new.buffer c.in-Ok-eq0.field-0
    (c.in-Ok-eq0.ensures.bytes bytes shown) (grind (arith, c.in-Ok-eq0.field-0-test))
    (omega (arith, c.read_at.auto.buffer))

pub returns-in-Ok-clause-gate : goal.returns-in-Ok-clause-gate
returns-in-Ok-clause-gate g c = λ writer bytes told shown writes has.
    shows_gate writer bytes writes told c.args.at.count c.args.at.end (g.F.GrowingFile.moment c.args.file.now)
    (g.F.GrowingFile.moment c.read_at.new.self) c.args.at.opened has c.read_at.new.buffer c.in-Ok.field-0
    (c.in-Ok.ensures.bytes bytes shown) (nat_eq (slice_index_or c.read_at.new.buffer 0 0) 1)
    (grind (arith, c.in-Ok.field-0-test)) (eqb-true (slice_index_or c.read_at.new.buffer 0 0) 1)
    (eqb-false (slice_index_or c.read_at.new.buffer 0 0) 1)
