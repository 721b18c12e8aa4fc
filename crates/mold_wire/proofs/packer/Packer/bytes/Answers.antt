use Rattle.mold_wire.specs.Buffer.{fields_of}
use Rattle.mold_wire.proofs.PackerLemmas.{shown_fits}
use Rattle.mold_wire.proofs.packer.Packer.bytes.Goals as goal

pub returns-clause-fits : goal.returns-clause-fits
returns-clause-fits c =
    shown_fits (fields_of c.self.inside) c.args.self.now (record { holds = c.self.invariant; seen = c.self.view_is })
