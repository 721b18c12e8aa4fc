-- Lemmas about the values of a list of texts.
use Rattle.std.proofs.Common.{◌≡◌, ◌∙◌, ℕ, ◌+◌, ◌<◌, List, [], ◌∷◌, ◌++◌, Option, Some, None}
use Rattle.std.proofs.Common.{ap, drop, get_or, length, map, refl, sym, take}
use Rattle.std.specs.Borrow.{Bor}
use Rattle.std.specs.Option.{option_and_then, option_map}
use Rattle.std.proofs.lemmas.List.{drop_more, map-append, take-append-drop, take_more}
use Rattle.clap.specs.Words.{Text}
use Rattle.mold_words.specs.Values.{values_of}

abbrev pub contents : List (Bor Text) → List Text
contents texts = map (λ text. text.now) texts

module _ {A : Type 0} (value_of : Text → Option A) where
  abbrev joined : Option (List A) → Option (List A) → Option (List A)
  joined first second = option_and_then (λ some. option_map (λ others. some ++ others) second) first

  begin : (found : Option (List A)) → found ≡ joined (Some []) found
  begin None = refl
  begin (Some all) = refl

  step : (one : Option A) (first second : Option (List A))
      → option_and_then (λ value. option_map (λ others. value ∷ others) (joined first second)) one
      ≡ joined (option_and_then (λ value. option_map (λ others. value ∷ others) first) one) second
  step None first second = refl
  step (Some value) None second = refl
  step (Some value) (Some some) None = refl
  step (Some value) (Some some) (Some others) = refl

  -- the values of two lists are those of both
  values_of-append : (xs ys : List Text)
      → values_of value_of (xs ++ ys) ≡ joined (values_of value_of xs) (values_of value_of ys)
  unfolding values_of
  values_of-append [] ys = begin (values_of value_of ys)
  values_of-append (x ∷ xs) ys =
      ap (λ found. option_and_then (λ value. option_map (λ others. value ∷ others) found) (value_of x))
      (values_of-append xs ys)
      ∙ step (value_of x) (values_of value_of xs) (values_of value_of ys)

  last : (all : List A) (one : Option A)
      → joined (Some all) (option_and_then (λ value. option_map (λ others. value ∷ others) (Some [])) one)
      ≡ option_map (λ value. all ++ value ∷ []) one
  last all None = refl
  last all (Some value) = refl

  module _ (texts : List (Bor Text)) (i : ℕ) (d : Bor Text) (all : List A) (below : i < length texts)
      (read : values_of value_of (contents (take i texts)) ≡ Some all) where
    -- one more text gives one more value
    pub more : values_of value_of (contents (take (i + 1) texts))
        ≡ option_map (λ value. all ++ value ∷ []) (value_of (get_or texts i d).now)
    unfolding values_of
    more =
        ap (values_of value_of) (ap contents (take_more texts i d below)
        ∙ map-append (λ (text : Bor Text). text.now) (take i texts) (get_or texts i d ∷ []))
        ∙ values_of-append (contents (take i texts)) ((get_or texts i d).now ∷ [])
        ∙ ap (λ found. joined found (values_of value_of ((get_or texts i d).now ∷ []))) read
        ∙ last all (value_of (get_or texts i d).now)

    -- a text without a value gives none
    pub stops : value_of (get_or texts i d).now ≡ None → values_of value_of (contents texts) ≡ None
    unfolding values_of
    stops none =
        let split : texts ≡ take i texts ++ (get_or texts i d ∷ drop (i + 1) texts) =
        sym (take-append-drop i texts) ∙ ap (λ rest. take i texts ++ rest) (drop_more texts i d below) in
        ap (values_of value_of) (ap contents split
        ∙ map-append (λ (text : Bor Text). text.now) (take i texts) (get_or texts i d ∷ drop (i + 1) texts))
        ∙ values_of-append (contents (take i texts)) ((get_or texts i d).now ∷ contents (drop (i + 1) texts))
        ∙ ap (λ found. joined found (values_of value_of ((get_or texts i d).now ∷ contents (drop (i + 1) texts)))) read
        ∙ ap (λ one. joined (Some all) (option_and_then (λ value. option_map (λ others. value ∷ others)
        (values_of value_of (contents (drop (i + 1) texts)))) one)) none
