use Rattle.mold_receiver.proofs.OccupiedLemmas.{next_none, next_some}
use Rattle.mold_receiver.proofs.occupied.Levels.next_word.Goals as goal

pub returns-in-Some-next_group : goal.returns-in-Some-next_group
returns-in-Some-next_group c =
    next_some c.args.self.now.words.items c.args.self.now.groups.items c.args.from c.requires.groups
    (rw c.deref.ensures.value at c.in-None.ensures) c.in-Some-next_group.k c.first_in_word.result
    c.in-Some-next_group.ensures
    (rw c.deref-in-Some-next_group.ensures.value at c.first_in_word.ensures)

pub returns-in-None-next_group : goal.returns-in-None-next_group
returns-in-None-next_group c =
    next_none c.args.self.now.words.items c.args.self.now.groups.items c.args.from c.requires.groups
    (rw c.deref.ensures.value at c.in-None.ensures) c.in-None-next_group.ensures
