use Rattle.mold_index.proofs.room.room_after.Goals as goal

pub returns-in-None : goal.returns-in-None
returns-in-None c = c.none.ensures c.args.entries.now
