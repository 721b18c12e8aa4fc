use Rattle.std.proofs.Common.{subst, ◌∙◌}
use Rattle.std.specs.Prelude.{None, Some}
use Rattle.mold_receive.specs.Opening.{HasAwaited, first_in}
use Rattle.mold_receive.specs.declared.came.Came.{Came}
use Rattle.mold_receive.proofs.OpeningLemmas.{awaited_more}
use Rattle.mold_receive.proofs.opening.Opening.receive_some.Goals as goal

pub returns-in-Nothing-clause-awaited : goal.returns-in-Nothing-clause-awaited
returns-in-Nothing-clause-awaited g c =
    awaited_more c.args.options.now.lines _ _ _ _ _ _ None c.loop.invariant.awaited c.loop.invariant.session
    (subst (λ (came : Came). HasAwaited c.args.options.now.lines c.loop.self.session g.D.PortSet.modeled
    (g.D.PortSet.state c.loop.self.ports) (g.D.PortSet.state c.receive.new.self.ports) (first_in came)) c.in-Nothing.is
    c.in_ok-receive.ensures.awaited)

pub returns-in-First-clause-awaited : goal.returns-in-First-clause-awaited
returns-in-First-clause-awaited g c =
    awaited_more c.args.options.now.lines _ _ _ _ _ _ (Some c.in-First.first) c.loop.invariant.awaited
    c.loop.invariant.session
    (subst (λ (came : Came). HasAwaited c.args.options.now.lines c.loop.self.session g.D.PortSet.modeled
    (g.D.PortSet.state c.loop.self.ports) (g.D.PortSet.state c.receive.new.self.ports) (first_in came)) c.in-First.is
    c.in_ok-receive.ensures.awaited)

pub loop-preserved : goal.loop-preserved
loop-preserved g c = record {
  awaited =
      awaited_more c.args.options.now.lines _ _ _ _ _ _ None c.loop.invariant.awaited c.loop.invariant.session
      (subst (λ (came : Came). HasAwaited c.args.options.now.lines c.loop.self.session g.D.PortSet.modeled
      (g.D.PortSet.state c.loop.self.ports) (g.D.PortSet.state c.receive.new.self.ports) (first_in came)) c.in-Other.is
      c.in_ok-receive.ensures.awaited);
  session = c.receive.ensures.session ∙ c.loop.invariant.session;
}
