-- A text that is written in pieces.
use Rattle.std.proofs.Common.{◌≡◌, [], ◌++◌, List, Option, ℕ, ap, subst, sym, ◌∙◌, append_assoc, append-nil}
use Rattle.std.proofs.KnownBytes.{Appends-trans}
use Rattle.std.specs.Io.KnownBytes.{Appends}
use Rattle.mold_devices.specs.Devices.{AppendsPrefix}
use Rattle.mold_devices.specs.Writing.{Moves}

-- All of the text was written.
pub moves_sent : (old new : Option (List ℕ)) (text left : List ℕ) → Appends old new text → left ≡ [] → Moves old new text left
moves_sent old new text left sent none = record {
  front = text;
  parts = sym (ap (λ (l : List ℕ). text ++ l) none ∙ append-nil text);
  appended = sent;
}

-- One more part was appended, and a prefix of the text was written.
pub moves_more : (old mid new : Option (List ℕ)) (all text line rest left : List ℕ) →
    Moves old mid all (text ++ (line ++ rest)) → Moves mid new (text ++ line) left → Moves old new all (left ++ rest)
moves_more old mid new all text line rest left so moves = record {
  front = so.front ++ moves.front;
  parts =
      so.parts
      ∙ ap (λ (t : List ℕ). so.front ++ t) (sym (append_assoc text line rest)
      ∙ ap (λ (t : List ℕ). t ++ rest) moves.parts
      ∙ append_assoc moves.front left rest)
      ∙ sym (append_assoc so.front moves.front (left ++ rest));
  appended = Appends-trans old mid new so.front moves.front so.appended moves.appended;
}

-- A prefix of the text with one more part was written.
pub moves_front : (old mid new : Option (List ℕ)) (all text line rest : List ℕ) →
    Moves old mid all (text ++ (line ++ rest)) → AppendsPrefix mid new (text ++ line) → AppendsPrefix old new all
moves_front old mid new all text line rest so front = record {
  front = so.front ++ front.front;
  rest = front.rest ++ rest;
  parts =
      so.parts
      ∙ ap (λ (t : List ℕ). so.front ++ t) (sym (append_assoc text line rest)
      ∙ ap (λ (t : List ℕ). t ++ rest) front.parts
      ∙ append_assoc front.front front.rest rest)
      ∙ sym (append_assoc so.front front.front (front.rest ++ rest));
  appended = Appends-trans old mid new so.front front.front so.appended front.appended;
}

-- A prefix of the rest of the text and of more was written.
pub moved_front : (old mid new : Option (List ℕ)) (text left more all : List ℕ) → Moves old mid text left →
    AppendsPrefix mid new (left ++ more) → text ++ more ≡ all → AppendsPrefix old new all
moved_front old mid new text left more all moves front is = record {
  front = moves.front ++ front.front;
  rest = front.rest;
  parts =
      sym is
      ∙ ap (λ (t : List ℕ). t ++ more) moves.parts
      ∙ append_assoc moves.front left more
      ∙ ap (λ (t : List ℕ). moves.front ++ t) front.parts
      ∙ sym (append_assoc moves.front front.front front.rest);
  appended = Appends-trans old mid new moves.front front.front moves.appended front.appended;
}

-- A prefix of the rest of the text was written.
pub rest_front : (old mid new : Option (List ℕ)) (text left : List ℕ) → Moves old mid text left →
    AppendsPrefix mid new left → AppendsPrefix old new text
rest_front old mid new text left moves front = record {
  front = moves.front ++ front.front;
  rest = front.rest;
  parts =
      moves.parts
      ∙ ap (λ (t : List ℕ). moves.front ++ t) front.parts
      ∙ sym (append_assoc moves.front front.front front.rest);
  appended = Appends-trans old mid new moves.front front.front moves.appended front.appended;
}

-- The text with a line and more was written. The line was appended to the text before.
pub sent_line : (old new : Option (List ℕ)) (text line more now : List ℕ) → now ≡ text ++ line →
    Appends old new (now ++ more) → Appends old new (text ++ (line ++ more))
sent_line old new text line more now is =
    subst (Appends old new) (ap (λ (t : List ℕ). t ++ more) is ∙ append_assoc text line more)

-- The same of a prefix.
pub front_line : (old new : Option (List ℕ)) (text line more now : List ℕ) → now ≡ text ++ line →
    AppendsPrefix old new (now ++ more) → AppendsPrefix old new (text ++ (line ++ more))
front_line old new text line more now is =
    subst (AppendsPrefix old new) (ap (λ (t : List ℕ). t ++ more) is ∙ append_assoc text line more)

-- The rest of the text was written.
pub rest_sent : (old mid new : Option (List ℕ)) (text left : List ℕ) → Moves old mid text left →
    Appends mid new left → Appends old new text
rest_sent old mid new text left moves sent =
    subst (Appends old new) (sym moves.parts) (Appends-trans old mid new moves.front left moves.appended sent)

-- A text that is given in other terms was written.
pub sent_as : (old new : Option (List ℕ)) (text now : List ℕ) → now ≡ text → Appends old new now → Appends old new text
sent_as old new text now is = subst (Appends old new) is

-- The same of a prefix.
pub front_as : (old new : Option (List ℕ)) (text now : List ℕ) → now ≡ text → AppendsPrefix old new now →
    AppendsPrefix old new text
front_as old new text now is = subst (AppendsPrefix old new) is

-- No part of the text is left.
pub moves_end : (old new : Option (List ℕ)) (all text : List ℕ) → Moves old new all (text ++ []) → Moves old new all text
moves_end old new all text = subst (Moves old new all) (append-nil text)

-- What was written is a prefix of the text.
pub moves_written : (old new : Option (List ℕ)) (all left : List ℕ) → Moves old new all left → AppendsPrefix old new all
moves_written old new all left moves =
    record { front = moves.front; rest = left; parts = moves.parts; appended = moves.appended }
