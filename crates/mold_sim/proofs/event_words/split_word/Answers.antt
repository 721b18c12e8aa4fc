use Rattle.std.proofs.Common.{◌∙◌, ◌∷◌, ap, sym, take, List, ℕ, ◌+◌}
use Rattle.std.proofs.lemmas.List.{take_rest}
use Rattle.mold_sim.specs.Script.{words_of}
use Rattle.mold_sim.proofs.WordLemmas.{one_word, first_word}
use Rattle.mold_sim.proofs.event_words.split_word.Goals as goal

pub returns-in_default : goal.returns-in_default
returns-in_default c = one_word c.args.line.now c.in_default.ensures

pub returns : goal.returns
returns c =
    first_word c.args.line.now c.in-Some.at c.in-Some.ensures.0 c.in-Some.ensures.1
    ∙ ap (λ (t : List ℕ). take c.in-Some.at c.args.line.now ∷ words_of t)
    (sym (take_rest c.args.line.now (c.in-Some.at + 1)))
