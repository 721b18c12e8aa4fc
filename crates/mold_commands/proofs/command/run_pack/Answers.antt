use Rattle.mold_show.specs.Pack.{pack_status, pack_text}
use Rattle.mold_commands.proofs.command.run_pack.Goals as goal

pub returns-in_ok-pack_of-in-Lines-clause-whole : goal.returns-in_ok-pack_of-in-Lines-clause-whole
unfolding pack_text pack_status
returns-in_ok-pack_of-in-Lines-clause-whole g c =
    rw c.in-Lines.is (rw c.in_ok-pack_of-in-Lines.ensures at c.run_lines.ensures.whole)

pub returns-in_ok-pack_of-in-Lines-clause-front : goal.returns-in_ok-pack_of-in-Lines-clause-front
unfolding pack_text
returns-in_ok-pack_of-in-Lines-clause-front g c =
    rw c.in-Lines.is (rw c.in_ok-pack_of-in-Lines.ensures at c.run_lines.ensures.front)

pub returns-in_ok-pack_of-in-Blocks-clause-whole : goal.returns-in_ok-pack_of-in-Blocks-clause-whole
unfolding pack_text pack_status
returns-in_ok-pack_of-in-Blocks-clause-whole g c =
    rw c.in-Blocks.is (rw c.in_ok-pack_of-in-Blocks.ensures at c.run_lines-in-Blocks.ensures.whole)

pub returns-in_ok-pack_of-in-Blocks-clause-front : goal.returns-in_ok-pack_of-in-Blocks-clause-front
unfolding pack_text
returns-in_ok-pack_of-in-Blocks-clause-front g c =
    rw c.in-Blocks.is (rw c.in_ok-pack_of-in-Blocks.ensures at c.run_lines-in-Blocks.ensures.front)

pub returns-in_ok-pack_of-in-BlocksToEmpty-clause-whole : goal.returns-in_ok-pack_of-in-BlocksToEmpty-clause-whole
unfolding pack_text pack_status
returns-in_ok-pack_of-in-BlocksToEmpty-clause-whole g c =
    rw c.in-BlocksToEmpty.is (rw c.in_ok-pack_of-in-BlocksToEmpty.ensures at c.run_lines-in-BlocksToEmpty.ensures.whole)

pub returns-in_ok-pack_of-in-BlocksToEmpty-clause-front : goal.returns-in_ok-pack_of-in-BlocksToEmpty-clause-front
unfolding pack_text
returns-in_ok-pack_of-in-BlocksToEmpty-clause-front g c =
    rw c.in-BlocksToEmpty.is (rw c.in_ok-pack_of-in-BlocksToEmpty.ensures at c.run_lines-in-BlocksToEmpty.ensures.front)
