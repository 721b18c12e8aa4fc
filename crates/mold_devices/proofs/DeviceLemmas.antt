-- A prefix of a text stays a prefix when more text was written or follows.
use Rattle.std.proofs.Common.{ℕ, List, ◌++◌, Option, sym, ap, ◌∙◌, append_assoc}
use Rattle.std.specs.Io.KnownBytes.{Appends}
use Rattle.std.proofs.KnownBytes.{Appends-trans}
use Rattle.mold_devices.specs.Devices.{AppendsPrefix}

-- A prefix of a text is a prefix of a longer text.
pub front_more : (old new : Option (List ℕ)) (text more : List ℕ) → AppendsPrefix old new text →
    AppendsPrefix old new (text ++ more)
front_more old new text more p =
    record {
      front = p.front;
      rest = p.rest ++ more;
      parts = ap (λ l. l ++ more) p.parts ∙ append_assoc p.front p.rest more;
      appended = p.appended;
    }

-- A whole text followed by a prefix of the rest is a prefix of both together.
pub front_after : (old mid new : Option (List ℕ)) (text more : List ℕ) → Appends old mid text →
    AppendsPrefix mid new more → AppendsPrefix old new (text ++ more)
front_after old mid new text more p q = record {
  front = text ++ q.front;
  rest = q.rest;
  parts = ap (λ l. text ++ l) q.parts ∙ sym (append_assoc text q.front q.rest);
  appended = Appends-trans old mid new text q.front p q.appended;
}
