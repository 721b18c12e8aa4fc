use Rattle.std.proofs.Common.{subst, ◌∙◌}
use Rattle.std.specs.Prelude.{None, Option, Some}
use Rattle.mold_receive.specs.Opening.{HasAwaited}
use Rattle.mold_receive.specs.declared.first_packet.FirstPacket.{FirstPacket}
use Rattle.mold_receive.proofs.OpeningLemmas.{awaited_more}
use Rattle.mold_receive.proofs.opening.Opening.run.Goals as goal

pub returns-in-Some-clause-awaited : goal.returns-in-Some-clause-awaited
returns-in-Some-clause-awaited g c =
    awaited_more c.args.options.now.lines _ _ _ _ _ _ (Some c.in-Some.first) c.loop.invariant.awaited
    c.loop.invariant.session
    (subst (λ (f : Option FirstPacket). HasAwaited c.args.options.now.lines c.loop.self.session g.D.PortSet.modeled
    (g.D.PortSet.state c.loop.self.ports) (g.D.PortSet.state c.turn.new.self.ports) f) c.in-Some.is
    c.in_ok-first.ensures.awaited)

pub loop-preserved : goal.loop-preserved
loop-preserved g c = record {
  awaited = awaited_more c.args.options.now.lines _ _ _ _ _ _ None c.loop.invariant.awaited
      c.loop.invariant.session
      (subst (λ (f : Option FirstPacket). HasAwaited c.args.options.now.lines c.loop.self.session g.D.PortSet.modeled
      (g.D.PortSet.state c.loop.self.ports) (g.D.PortSet.state c.turn.new.self.ports) f) c.in_default.is
      c.in_ok-first.ensures.awaited);
  session = c.turn.ensures.session ∙ c.loop.invariant.session;
}

pub returns-then-until-now-clause-awaited : goal.returns-then-until-now-clause-awaited
returns-then-until-now-clause-awaited g c =
    awaited_more c.args.options.now.lines _ _ _ _ _ _ None c.loop.invariant.awaited c.loop.invariant.session
    (subst (λ (f : Option FirstPacket). HasAwaited c.args.options.now.lines c.loop.self.session g.D.PortSet.modeled
    (g.D.PortSet.state c.loop.self.ports) (g.D.PortSet.state c.turn.new.self.ports) f) c.in_default.is
    c.in_ok-first.ensures.awaited)
