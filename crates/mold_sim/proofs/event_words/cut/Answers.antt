use Rattle.mold_sim.proofs.WordLemmas.{five_words}
use Rattle.mold_sim.proofs.event_words.cut.Goals as goal

pub returns-in-Some-split_word-3 : goal.returns-in-Some-split_word-3
returns-in-Some-split_word-3 c =
    five_words c.args.line.now c.in-Some.rest.now c.in-Some-split_word.rest.now c.in-Some-split_word-2.rest.now
    c.in-Some-split_word-3.field-0.1.now
    _ _ _ _ c.in-Some.ensures c.in-Some-split_word.ensures c.in-Some-split_word-2.ensures c.in-Some-split_word-3.ensures
