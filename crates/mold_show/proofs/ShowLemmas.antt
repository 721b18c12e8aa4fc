-- What is printed for one more line, and after the last line.
use Rattle.std.proofs.Common.{◌≡◌, ℕ, Bool, true, false, cond, List, [], ◌++◌, Option, None, Some, refl, sym}
use Rattle.std.proofs.Common.{ap, subst, ◌∙◌, append-nil}
use Rattle.std.specs.Prelude.{◌||◌, ⊤}
use Rattle.std.specs.List.{flat_map, list_any}
use Rattle.mold_devices.specs.Lines.{lines_of}
use Rattle.mold_devices.specs.Turns.{GoesOver, IsTurn}
use Rattle.mold_devices.specs.declared.turn.Turn.TheVariants.{More, Done}
use Rattle.mold_show.specs.Show.{ShowState, line_text, line_refused, show_text, show_refused, show_printing}

or_assoc : (a b c : Bool) → a || (b || c) ≡ (a || b) || c
or_assoc true b c = refl
or_assoc false b c = refl

or-false : (b : Bool) → b || false ≡ b
or-false true = refl
or-false false = refl

-- The first line of `xs` has this text, and `is_refused` states whether it is refused. The lines after it are those of
-- `ys`.
pub record IsFirst (requests is_refused : Bool) (xs ys text : List ℕ) : Type 0 where
  pub text_is : show_text requests xs ≡ text ++ show_text requests ys
  pub refused_is : show_refused requests xs ≡ (is_refused || show_refused requests ys)

-- The same if the input is known.
abbrev pub GivesFirst : Bool → Bool → Option (List ℕ) → Option (List ℕ) → List ℕ → Type 0
GivesFirst requests is_refused None left text = ⊤
GivesFirst requests is_refused (Some xs) None text = ⊥
GivesFirst requests is_refused (Some xs) (Some ys) text = IsFirst requests is_refused xs ys text

-- The input has no lines, if it is known.
abbrev pub GivesNone : Option (List ℕ) → Option (List ℕ) → Type 0
GivesNone None left = ⊤
GivesNone (Some xs) None = ⊥
GivesNone (Some xs) (Some ys) = lines_of xs ≡ []

-- The state of the command after one more line.
abbrev pub shown_more : ShowState → Bool → ShowState
shown_more s is_refused = record { refused = s.refused || is_refused }

more_goes : (requests : Bool) (s : ShowState) (is_refused : Bool) (known left : Option (List ℕ)) (text : List ℕ) →
    GivesFirst requests is_refused known left text →
    GoesOver (show_printing requests s) (show_printing requests (shown_more s is_refused)) known left text More
more_goes requests s is_refused None left text first = tt
more_goes requests s is_refused (Some xs) None text first = absurd first
more_goes requests s is_refused (Some xs) (Some ys) text first = (
  first.text_is,
  ap (λ (b : Bool). cond (s.refused || b) 2 0) first.refused_is
      ∙ ap (λ (b : Bool). cond b 2 0) (or_assoc s.refused is_refused (show_refused requests ys)),
)

-- A turn that shows a line.
pub shown_line : (requests : Bool) (s : ShowState) (is_refused : Bool) {known left : Option (List ℕ)}
    {old new : List ℕ} (text : List ℕ) → GivesFirst requests is_refused known left text → new ≡ old ++ text →
    IsTurn (show_printing requests s) (show_printing requests (shown_more s is_refused)) known left old new More
shown_line requests s is_refused {known} {left} {old} {new} text first written = record {
  added = text;
  written = written;
  goes = more_goes requests s is_refused known left text first;
}

or-true : (b : Bool) → b || true ≡ true
or-true true = refl
or-true false = refl

-- A turn that shows a line that is refused.
pub shown_refused : (requests : Bool) (s : ShowState) {known left : Option (List ℕ)} {old new : List ℕ}
    (text : List ℕ) → GivesFirst requests true known left text → new ≡ old ++ text →
    IsTurn (show_printing requests s) (show_printing requests (record { refused = true })) known left old new More
shown_refused requests s {known} {left} {old} {new} text first written =
    subst (λ (b : Bool).
    IsTurn (show_printing requests s) (show_printing requests (record { refused = b })) known left old new More)
    (or-true s.refused)
    (shown_line requests s true {known = known} {left = left} {old = old} {new = new} text first written)

no_text : (requests : Bool) (xs : List ℕ) → lines_of xs ≡ [] → show_text requests xs ≡ []
unfolding show_text
no_text requests xs none = ap (flat_map (line_text requests)) none

none_refused : (requests : Bool) (xs : List ℕ) → lines_of xs ≡ [] → show_refused requests xs ≡ false
unfolding show_refused
none_refused requests xs none = ap (list_any (line_refused requests)) none

done_goes : (requests : Bool) (s : ShowState) (known left : Option (List ℕ)) (status : ℕ) →
    GivesNone known left → status ≡ cond s.refused 2 0 →
    GoesOver (show_printing requests s) (show_printing requests s) known left [] (Done status)
done_goes requests s None left status none is = tt
done_goes requests s (Some xs) None status none is = absurd none
done_goes requests s (Some xs) (Some ys) status none is = (
  no_text requests xs none,
  ap (λ (b : Bool). cond (s.refused || b) 2 0) (none_refused requests xs none)
      ∙ ap (λ (b : Bool). cond b 2 0) (or-false s.refused)
      ∙ sym is,
)

-- The last turn prints nothing. The status states whether a line was refused.
pub shown_all : (requests : Bool) (s : ShowState) {known left : Option (List ℕ)} {old : List ℕ} {status : ℕ} →
    GivesNone known left → status ≡ cond s.refused 2 0 →
    IsTurn (show_printing requests s) (show_printing requests s) known left old old (Done status)
shown_all requests s {known} {left} {old} {status} none is = record {
  added = [];
  written = sym (append-nil old);
  goes = done_goes requests s known left status none is;
}
