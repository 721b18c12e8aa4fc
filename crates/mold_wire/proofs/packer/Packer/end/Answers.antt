use Rattle.std.proofs.Common.{arith, false}
use Rattle.mold_wire.specs.Buffer.{fields_of}
use Rattle.mold_wire.specs.Packer.{Ended}
use Rattle.mold_wire.proofs.PackerLemmas.{shows_over}
use Rattle.mold_wire.proofs.packer.Packer.end.Goals as goal

pub invariant_of-self : goal.invariant_of-self
invariant_of-self c =
    (shows_over c.end_in-self-inside.result c.self.inside.count false (Ended c.args.session c.args.sequence) (fields_of c.self.inside)
    c.args.self.now c.self.inside.buffer.items.len c.end_in-self-inside.new.buffer
    (record { holds = c.self.invariant; seen = c.self.view_is }) (omega arith) (omega arith)
    (c.end_in-self-inside.ensures.held c.self.inside.count)).holds

pub returns : goal.returns
returns c =
    (shows_over c.end_in-self-inside.result c.self.inside.count false (Ended c.args.session c.args.sequence) (fields_of c.self.inside)
    c.args.self.now c.self.inside.buffer.items.len c.end_in-self-inside.new.buffer
    (record { holds = c.self.invariant; seen = c.self.view_is }) (omega arith) (omega arith)
    (c.end_in-self-inside.ensures.held c.self.inside.count)).seen
