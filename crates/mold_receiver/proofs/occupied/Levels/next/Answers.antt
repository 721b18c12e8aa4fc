use Rattle.mold_receiver.proofs.OccupiedLemmas.{next_none, next_some}
use Rattle.mold_receiver.proofs.occupied.Levels.next.Goals as goal

pub returns-in-Some-next_word : goal.returns-in-Some-next_word
returns-in-Some-next_word c =
    next_some c.args.self.now.bits.items c.args.self.now.words.items c.args.from c.requires.words
    (rw c.deref.ensures.value at c.in-None.ensures) c.in-Some-next_word.k c.first_in_word.result
    c.in-Some-next_word.ensures
    (rw c.deref-in-Some-next_word.ensures.value at c.first_in_word.ensures)

pub returns-in-None-next_word : goal.returns-in-None-next_word
returns-in-None-next_word c =
    next_none c.args.self.now.bits.items c.args.self.now.words.items c.args.from c.requires.words
    (rw c.deref.ensures.value at c.in-None.ensures) c.in-None-next_word.ensures
