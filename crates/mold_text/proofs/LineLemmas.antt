-- Words that are written with spaces between them.
use Rattle.std.proofs.Common.{◌≡◌, ◌∙◌, ℕ, ◌+◌, ◌<◌, List, [], ◌∷◌, ◌++◌, ap, append-nil, append_assoc, get_or}
use Rattle.std.proofs.Common.{false, length, map, set, subst, sym, take}
use Rattle.std.specs.Bool.{◌==◌}
use Rattle.std.specs.List.{flat_map}
use Rattle.std.proofs.lemmas.Grind.{flat_map-append}
use Rattle.std.proofs.lemmas.List.{map-append, take_more}
use Rattle.mold_digits.specs.Writing.{IsWritten}
use Rattle.mold_text.proofs.WritingLemmas.{written_one, written_twice}
use Rattle.mold_text.specs.Line.{after_space, joined, word_text}
use Rattle.mold_text.specs.declared.word.Word.{Word}

-- Joined words followed by other words.
pub joined_more : (words : List Word) (others : List (List ℕ)) → (length words == 0) ≡ false →
    joined (map word_text words) ++ flat_map after_space others ≡ joined (map word_text words ++ others)
unfolding joined
joined_more [] others some = let no : ⊥ = cc in absurd no
joined_more (first ∷ words) others some =
    append_assoc (word_text first) (flat_map after_space (map word_text words)) (flat_map after_space others)
    ∙ ap (λ (t : List ℕ). word_text first ++ t) (sym (flat_map-append after_space (map word_text words) others))

-- One more word is written after the words with spaces.
pub spaced_more : (old mid text new : List ℕ) (words : List Word) (i at end stop : ℕ) (d : Word) → i < length words →
    IsWritten old mid at end (flat_map after_space (map word_text (take i words))) → end < length mid →
    text ≡ set mid end 32 → IsWritten text new (end + 1) stop (word_text (get_or words i d)) →
    IsWritten old new at stop (flat_map after_space (map word_text (take (i + 1) words)))
spaced_more old mid text new words i at end stop d within told room space written =
    let more : flat_map after_space (map word_text (take (i + 1) words))
    ≡ flat_map after_space (map word_text (take i words)) ++ after_space (word_text (get_or words i d)) =
    ap (λ (ws : List Word). flat_map after_space (map word_text ws)) (take_more words i d within)
    ∙ ap (flat_map after_space) (map-append word_text (take i words) (get_or words i d ∷ []))
    ∙ flat_map-append after_space (map word_text (take i words)) (word_text (get_or words i d) ∷ [])
    ∙ ap (λ (t : List ℕ). flat_map after_space (map word_text (take i words)) ++ t)
    (append-nil (after_space (word_text (get_or words i d)))) in
    subst (IsWritten old new at stop) (sym more)
    (written_twice _ _ _ _ _ _ _ _ told
    (written_twice _ _ _ _ _ _ _ _ (written_one mid text end 32 room space) written))
