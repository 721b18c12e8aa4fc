use Rattle.std.proofs.Common.{◌≡◌}
use Rattle.std.specs.Prelude.{None}
use Rattle.mold_receive.specs.Opening.{HasAwaited}
use Rattle.mold_receive.proofs.opening.Opening.receive_some.Given as goal

abbrev pub invariant-loop : goal.invariant-loop
invariant-loop g l = record {
  awaited : HasAwaited l.fn.options.lines l.fn.self.session g.D.PortSet.modeled
      (g.D.PortSet.state l.fn.self.ports) (g.D.PortSet.state l.self.ports) None;
  session : l.self.session ≡ l.fn.self.session;
}
