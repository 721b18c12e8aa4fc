-- The words of a line as a type of the code.
use Rattle.std.specs.Prelude.{ℕ, List, [], ◌∷◌}
use Rattle.mold_sim.specs.declared.event_words.EventWords.{EventWords}
use Rattle.mold_sim.specs.declared.event_words.EventWords.TheVariants.{One, Two, Three, Four}

-- The words as a list.
abbrev pub words_in : EventWords → List (List ℕ)
words_in (One first) = first.now ∷ []
words_in (Two first second) = first.now ∷ second.now ∷ []
words_in (Three first second third) = first.now ∷ second.now ∷ third.now ∷ []
words_in (Four first second third fourth) = first.now ∷ second.now ∷ third.now ∷ fourth.now ∷ []
