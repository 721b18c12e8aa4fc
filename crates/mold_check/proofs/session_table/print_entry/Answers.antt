use Rattle.mold_check.proofs.session_table.print_entry.Goals as goal

pub returns-in-Some : goal.returns-in-Some
returns-in-Some g c = rw c.in-Some.is c.print_named.ensures

pub returns-in-None : goal.returns-in-None
returns-in-None g c = rw c.in-None.is c.print_none.ensures
