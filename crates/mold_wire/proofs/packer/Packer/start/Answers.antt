use Rattle.std.proofs.Common.{arith, [], true}
use Rattle.mold_wire.specs.Buffer.{fields_of}
use Rattle.mold_wire.specs.Packer.{Open}
use Rattle.mold_wire.proofs.PackerLemmas.{shows_over}
use Rattle.mold_wire.proofs.packer.Packer.start.Goals as goal

pub invariant_of-self : goal.invariant_of-self
invariant_of-self c =
    (shows_over c.start_in-self-inside.result 0 true (Open c.args.session c.args.sequence []) (fields_of c.self.inside)
    c.args.self.now c.self.inside.buffer.items.len c.start_in-self-inside.new.buffer
    (record { holds = c.self.invariant; seen = c.self.view_is }) (omega arith) (omega arith)
    c.start_in-self-inside.ensures.held).holds

pub returns : goal.returns
returns c =
    (shows_over c.start_in-self-inside.result 0 true (Open c.args.session c.args.sequence []) (fields_of c.self.inside)
    c.args.self.now c.self.inside.buffer.items.len c.start_in-self-inside.new.buffer
    (record { holds = c.self.invariant; seen = c.self.view_is }) (omega arith) (omega arith)
    c.start_in-self-inside.ensures.held).seen
