use Rattle.mold_commands.proofs.folder.add_entry.Goals as goal

pub returns : goal.returns
returns g c = (c.in_ok-read_entry.field-0, (c.in_ok-read_entry.ensures, c.in_ok-push.ensures.items))
