use Rattle.mold_sim.specs.Sim.{sim_status, sim_text}
use Rattle.mold_commands.proofs.command.run_command.Goals as goal

pub returns-in_ok-sim_of-in-Sim-clause-whole : goal.returns-in_ok-sim_of-in-Sim-clause-whole
unfolding sim_text sim_status
returns-in_ok-sim_of-in-Sim-clause-whole g c =
    rw c.in-Sim.is (rw c.in_ok-sim_of-in-Sim.ensures at c.run_lines-in-Sim.ensures.whole)

pub returns-in_ok-sim_of-in-Sim-clause-front : goal.returns-in_ok-sim_of-in-Sim-clause-front
unfolding sim_text
returns-in_ok-sim_of-in-Sim-clause-front g c =
    rw c.in-Sim.is (rw c.in_ok-sim_of-in-Sim.ensures at c.run_lines-in-Sim.ensures.front)
