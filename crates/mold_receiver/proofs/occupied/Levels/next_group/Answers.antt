use Rattle.std.proofs.Common.{◌+◌, ◌/◌}
use Rattle.mold_receiver.proofs.OccupiedLemmas.{next_none, next_some, none_on_top}
use Rattle.mold_receiver.proofs.occupied.Levels.next_group.Goals as goal

pub returns-in-Some-next_in_word : goal.returns-in-Some-next_in_word
returns-in-Some-next_in_word c =
    next_some c.args.self.now.groups.items c.args.self.now.top c.args.from c.requires.top
    (rw c.deref.ensures.value at c.in-None.ensures) c.in-Some-next_in_word.k c.first_in_word.result
    c.in-Some-next_in_word.ensures
    (rw c.deref-in-Some-next_in_word.ensures.value at c.first_in_word.ensures)

pub returns-in-None-next_in_word : goal.returns-in-None-next_in_word
returns-in-None-next_in_word c =
    next_none c.args.self.now.groups.items c.args.self.now.top c.args.from c.requires.top
    (rw c.deref.ensures.value at c.in-None.ensures) (none_on_top c.args.self.now.top
    (c.args.from / 64 + 1) c.requires.one c.in-None-next_in_word.ensures)
