use Rattle.mold_sim.proofs.ReceiverLemmas.{AreShown}
use Rattle.mold_sim.proofs.report.push_receivers.Given as goal

-- The lines of the receivers so far were appended.
abbrev pub invariant-receivers : goal.invariant-receivers
invariant-receivers l = AreShown l.fn.out.items l.out.items l.world.subscribers l.r
