use Rattle.std.proofs.Common.{subst, ◌∙◌}
use Rattle.std.specs.Prelude.{None, Option, Some}
use Rattle.mold_receive.specs.Opening.{HasAwaited}
use Rattle.mold_receive.specs.declared.first_packet.FirstPacket.{FirstPacket}
use Rattle.mold_receive.proofs.OpeningLemmas.{awaited_more}
use Rattle.mold_receive.proofs.opening.Opening.receive_all.Goals as goal

pub returns-in-Some-clause-awaited : goal.returns-in-Some-clause-awaited
returns-in-Some-clause-awaited g c =
    awaited_more c.args.options.now.lines _ _ _ _ _ _ (Some c.in-Some.first) c.loop-port.invariant.awaited
    c.loop-port.invariant.session
    (subst (λ (f : Option FirstPacket). HasAwaited c.args.options.now.lines c.loop-port.self.session g.D.PortSet.modeled
    (g.D.PortSet.state c.loop-port.self.ports) (g.D.PortSet.state c.receive_some.new.self.ports) f) c.in-Some.is
    c.in_ok-first.ensures.awaited)

pub loop-port-preserved : goal.loop-port-preserved
loop-port-preserved g c = record {
  awaited = awaited_more c.args.options.now.lines _ _ _ _ _ _ None c.loop-port.invariant.awaited
      c.loop-port.invariant.session
      (subst (λ (f : Option FirstPacket). HasAwaited c.args.options.now.lines c.loop-port.self.session g.D.PortSet.modeled
      (g.D.PortSet.state c.loop-port.self.ports) (g.D.PortSet.state c.receive_some.new.self.ports) f) c.in_default.is
      c.in_ok-first.ensures.awaited);
  session = c.receive_some.ensures.session ∙ c.loop-port.invariant.session;
}
