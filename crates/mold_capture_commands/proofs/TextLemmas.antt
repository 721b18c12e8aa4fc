-- The text of a line of which a part was appended as text.
use Rattle.std.proofs.Common.{◌≡◌, ◌++◌, ◌∷◌, List, Option, ℕ, ap, sym, subst, ◌∙◌, append_assoc}
use Rattle.std.proofs.KnownBytes.{Appends-trans}
use Rattle.std.specs.Prelude.{codes}
use Rattle.std.specs.List.{flat_map}
use Rattle.mold_devices.specs.Devices.{AppendsPrefix}
use Rattle.mold_devices.specs.Writing.{Moves}
use Rattle.mold_text.specs.Line.{after_space, joined, line_of}

pub to_line : (text endpoint word : List ℕ) (words : List (List ℕ)) →
    (((text ++ codes "to ") ++ endpoint) ++ codes " ") ++ line_of (word ∷ words)
    ≡ text ++ line_of (codes "to" ∷ endpoint ∷ word ∷ words)
unfolding joined
to_line text endpoint word words =
    let others = word ++ flat_map after_space words in
    let line = others ++ codes "\n" in
    append_assoc ((text ++ codes "to ") ++ endpoint) (codes " ") line
    ∙ append_assoc (text ++ codes "to ") endpoint (codes " " ++ line)
    ∙ append_assoc text (codes "to ") (endpoint ++ (codes " " ++ line))
    ∙ ap (λ (t : List ℕ). text ++ (codes "to " ++ t)) (sym (append_assoc endpoint (codes " " ++ others) (codes "\n")))

-- ---- the lines are written in pieces

-- One more line was appended, and a part of the text was written.
pub moves_more : (old mid new : Option (List ℕ)) (all text line rest left : List ℕ) →
    Moves old mid all (text ++ (line ++ rest)) → Moves mid new (text ++ line) left → Moves old new all (left ++ rest)
moves_more old mid new all text line rest left so moves = record {
  front = so.front ++ moves.front;
  parts =
      so.parts
      ∙ ap (λ (t : List ℕ). so.front ++ t) (sym (append_assoc text line rest)
      ∙ ap (λ (t : List ℕ). t ++ rest) moves.parts
      ∙ append_assoc moves.front left rest)
      ∙ sym (append_assoc so.front moves.front (left ++ rest));
  appended = Appends-trans old mid new so.front moves.front so.appended moves.appended;
}

-- A prefix of the text with one more line was written.
pub moves_front : (old mid new : Option (List ℕ)) (all text line rest : List ℕ) →
    Moves old mid all (text ++ (line ++ rest)) → AppendsPrefix mid new (text ++ line) → AppendsPrefix old new all
moves_front old mid new all text line rest so front = record {
  front = so.front ++ front.front;
  rest = front.rest ++ rest;
  parts =
      so.parts
      ∙ ap (λ (t : List ℕ). so.front ++ t) (sym (append_assoc text line rest)
      ∙ ap (λ (t : List ℕ). t ++ rest) front.parts
      ∙ append_assoc front.front front.rest rest)
      ∙ sym (append_assoc so.front front.front (front.rest ++ rest));
  appended = Appends-trans old mid new so.front front.front so.appended front.appended;
}

-- A prefix of the rest of the text was written.
pub moved_prefix : (old mid new : Option (List ℕ)) (all left more text tail : List ℕ) → Moves old mid all left →
    text ≡ left ++ tail → tail ≡ more → AppendsPrefix mid new text → AppendsPrefix old new (all ++ more)
moved_prefix old mid new all left more text tail moves is same begun =
    let front = subst (AppendsPrefix mid new) (is ∙ ap (λ (t : List ℕ). left ++ t) same) begun in
    record {
      front = moves.front ++ front.front;
      rest = front.rest;
      parts =
          ap (λ (t : List ℕ). t ++ more) moves.parts
          ∙ append_assoc moves.front left more
          ∙ ap (λ (t : List ℕ). moves.front ++ t) front.parts
          ∙ sym (append_assoc moves.front front.front front.rest);
      appended = Appends-trans old mid new moves.front front.front moves.appended front.appended;
    }
