-- What was written of bytes that are kept in a buffer before they are written.
use Rattle.std.proofs.Common.{◌≡◌, ℕ, List, [], ◌++◌, Option, Result, Ok, Err, sym, ap, subst, ◌∙◌, append_assoc, append-nil}
use Rattle.std.specs.Prelude.{OnErr}
use Rattle.std.specs.Io.KnownBytes.{Appends}
use Rattle.std.proofs.KnownBytes.{Appends-trans}
use Rattle.mold_devices.specs.Devices.{AppendsPrefix}
use Rattle.mold_session.specs.Moving.{Moves}

-- What holds in any case holds after an error.
pub on_err : {T E P : Type 0} (result : Result T E) → P → OnErr result P
on_err (Ok value) is = tt
on_err (Err error) is = is

-- A prefix of a text is a prefix of a longer text.
pub front_more : (old new : Option (List ℕ)) (text more : List ℕ) → AppendsPrefix old new text →
    AppendsPrefix old new (text ++ more)
front_more old new text more p = record {
  front = p.front;
  rest = p.rest ++ more;
  parts = ap (λ (t : List ℕ). t ++ more) p.parts ∙ append_assoc p.front p.rest more;
  appended = p.appended;
}

-- A whole text and then a prefix of the next are a prefix of both.
pub front_after : (old mid new : Option (List ℕ)) (text more : List ℕ) → Appends old mid text →
    AppendsPrefix mid new more → AppendsPrefix old new (text ++ more)
front_after old mid new text more p q = record {
  front = text ++ q.front;
  rest = q.rest;
  parts = ap (λ (t : List ℕ). text ++ t) q.parts ∙ sym (append_assoc text q.front q.rest);
  appended = Appends-trans old mid new text q.front p q.appended;
}

-- The kept bytes were written, and then the text.
pub moves_written : (old mid new : Option (List ℕ)) (kept text still : List ℕ) → Appends old mid kept → still ≡ [] →
    Appends mid new text → Moves old new kept text still
moves_written old mid new kept text still p none q = record {
  written = kept ++ text;
  parts = sym (append-nil (kept ++ text)) ∙ ap (λ (t : List ℕ). (kept ++ text) ++ t) (sym none);
  appended = Appends-trans old mid new kept text p q;
}

-- The kept bytes were written, and the text is kept.
pub moves_kept : (old new : Option (List ℕ)) (kept text flushed still : List ℕ) → Appends old new kept →
    flushed ≡ [] → still ≡ flushed ++ text → Moves old new kept text still
moves_kept old new kept text flushed still p none is = record {
  written = kept;
  parts = ap (λ (t : List ℕ). kept ++ t) (sym (is ∙ ap (λ (t : List ℕ). t ++ text) none));
  appended = p;
}

-- One text was put after another.
pub moves_both : (old mid new : Option (List ℕ)) (kept text held more still : List ℕ) → Moves old mid kept text held →
    Moves mid new held more still → Moves old new kept (text ++ more) still
moves_both old mid new kept text held more still p q = record {
  written = p.written ++ q.written;
  parts =
      sym (append_assoc kept text more)
      ∙ ap (λ (t : List ℕ). t ++ more) p.parts
      ∙ append_assoc p.written held more
      ∙ ap (λ (t : List ℕ). p.written ++ t) q.parts
      ∙ sym (append_assoc p.written q.written still);
  appended = Appends-trans old mid new p.written q.written p.appended q.appended;
}

-- A text was put, and then a prefix of the kept bytes was written.
pub moves_front : (old mid new : Option (List ℕ)) (kept text held : List ℕ) → Moves old mid kept text held →
    AppendsPrefix mid new held → AppendsPrefix old new (kept ++ text)
moves_front old mid new kept text held p q = subst (AppendsPrefix old new) (sym p.parts)
    (front_after old mid new p.written held p.appended q)

-- A text was put, and then a prefix of the kept bytes and of a further text was written.
pub moves_front_more : (old mid new : Option (List ℕ)) (kept text held more : List ℕ) → Moves old mid kept text held →
    AppendsPrefix mid new (held ++ more) → AppendsPrefix old new (kept ++ (text ++ more))
moves_front_more old mid new kept text held more p q = subst (AppendsPrefix old new) (
    sym (append_assoc p.written held more)
    ∙ ap (λ (t : List ℕ). t ++ more) (sym p.parts)
    ∙ append_assoc kept text more
    ) (front_after old mid new p.written (held ++ more) p.appended q)
