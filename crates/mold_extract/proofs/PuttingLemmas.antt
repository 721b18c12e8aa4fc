-- What was written of the texts of messages while they are put into a buffer one after the other.
use Rattle.std.proofs.Common.{◌≡◌, ℕ, ◌+◌, ◌<◌, ◌^◌, List, [], ◌∷◌, ◌++◌, length, Option, Result, Ok, Err, refl, sym}
use Rattle.std.proofs.Common.{ap, subst, ◌∙◌}
use Rattle.std.proofs.Common.{append_assoc, append-nil, arith}
use Rattle.std.specs.Prelude.{OnErr}
use Rattle.std.specs.List.{flat_map}
use Rattle.std.specs.Io.KnownBytes.{Appends}
use Rattle.std.proofs.KnownBytes.{Appends-nil, Appends-trans}
use Rattle.std.proofs.lemmas.Grind.{flat_map-append}
use Rattle.std.proofs.lemmas.List.{length-append}
use Rattle.mold_devices.specs.Devices.{AppendsPrefix}
use Rattle.mold_devices.specs.Writing.{Moves}
use Rattle.mold_devices.proofs.DeviceLemmas.{front_after, front_more}
use Rattle.mold_wire.specs.Block.{be16, block}

-- What holds in any case holds after an error.
pub on_err : {T E P : Type 0} (result : Result T E) → P → OnErr result P
on_err (Ok value) is = tt
on_err (Err error) is = is

pub moves_none : (held : Option (List ℕ)) (text : List ℕ) → Moves held held text text
moves_none held text = record { front = []; parts = refl; appended = Appends-nil held }

-- The first text was written, then the second one.
pub moves_written : (old mid new : Option (List ℕ)) (text more still : List ℕ) → Appends old mid text → still ≡ [] →
    Appends mid new more → Moves old new (text ++ more) still
moves_written old mid new text more still p none q = record {
  front = text ++ more;
  parts = sym (append-nil (text ++ more)) ∙ ap (λ (t : List ℕ). (text ++ more) ++ t) (sym none);
  appended = Appends-trans old mid new text more p q;
}

-- A part of a text was written, and then a part of the rest and of more text.
pub moves_more : (old mid new : Option (List ℕ)) (text held more still : List ℕ) → Moves old mid text held →
    Moves mid new (held ++ more) still → Moves old new (text ++ more) still
moves_more old mid new text held more still p q = record {
  front = p.front ++ q.front;
  parts =
      ap (λ (t : List ℕ). t ++ more) p.parts
      ∙ append_assoc p.front held more
      ∙ ap (λ (t : List ℕ). p.front ++ t) q.parts
      ∙ sym (append_assoc p.front q.front still);
  appended = Appends-trans old mid new p.front q.front p.appended q.appended;
}

pub moves_front : (old mid new : Option (List ℕ)) (text held more : List ℕ) → Moves old mid text held →
    AppendsPrefix mid new (held ++ more) → AppendsPrefix old new (text ++ more)
moves_front old mid new text held more p q = subst (AppendsPrefix old new) (
    sym (append_assoc p.front held more) ∙ ap (λ (t : List ℕ). t ++ more) (sym p.parts)
    ) (front_after old mid new p.front (held ++ more) p.appended q)

pub moves_all : (old mid new : Option (List ℕ)) (text held : List ℕ) → Moves old mid text held →
    Appends mid new held → Appends old new text
moves_all old mid new text held p q =
    subst (Appends old new) (sym p.parts) (Appends-trans old mid new p.front held p.appended q)

pub moves_begun : (old mid new : Option (List ℕ)) (text held : List ℕ) → Moves old mid text held →
    AppendsPrefix mid new held → AppendsPrefix old new text
moves_begun old mid new text held p q =
    subst (AppendsPrefix old new) (sym p.parts) (front_after old mid new p.front held p.appended q)

-- The block of a message is put as two parts: its length field and its bytes.
block_parts : (kept len message : List ℕ) → len ≡ be16 (length message) →
    (kept ++ len) ++ message ≡ kept ++ block message
block_parts kept len message same =
    append_assoc kept len message ∙ ap (λ (t : List ℕ). kept ++ (t ++ message)) same

pub block_moves : (old mid new : Option (List ℕ)) (kept len held message still : List ℕ) →
    len ≡ be16 (length message) → Moves old mid (kept ++ len) held → Moves mid new (held ++ message) still →
    Moves old new (kept ++ block message) still
block_moves old mid new kept len held message still same p q =
    subst (λ (t : List ℕ). Moves old new t still) (block_parts kept len message same)
    (moves_more old mid new (kept ++ len) held message still p q)

pub block_front : (old mid new : Option (List ℕ)) (kept len held message : List ℕ) → len ≡ be16 (length message) →
    Moves old mid (kept ++ len) held → AppendsPrefix mid new (held ++ message) →
    AppendsPrefix old new (kept ++ block message)
block_front old mid new kept len held message same p q =
    subst (AppendsPrefix old new) (block_parts kept len message same)
    (moves_front old mid new (kept ++ len) held message p q)

pub length_front : (old new : Option (List ℕ)) (kept len message : List ℕ) → len ≡ be16 (length message) →
    AppendsPrefix old new (kept ++ len) → AppendsPrefix old new (kept ++ block message)
length_front old new kept len message same p =
    subst (AppendsPrefix old new) (block_parts kept len message same) (front_more old new (kept ++ len) message p)

-- ---- the texts of a list of messages

abbrev pub Entries : Type 0
Entries = List (ℕ × List ℕ)

-- The texts of the messages in `done` were put after the text `kept`. The messages in `rest` remain, and the bytes
-- `still` are not written yet.
pub record Puts (text : ℕ × List ℕ → List ℕ) (old new : Option (List ℕ)) (kept : List ℕ) (all rest : Entries)
    (still : List ℕ) (count : ℕ) : Type 0 where
  pub done : Entries
  pub parts : all ≡ done ++ rest
  pub moved : Moves old new (kept ++ flat_map text done) still
  pub counted : count ≡ length done

pub puts_none : (text : ℕ × List ℕ → List ℕ) (held : Option (List ℕ)) (kept : List ℕ) (all : Entries) →
    Puts text held held kept all all kept 0
puts_none text held kept all = record {
  done = [];
  parts = refl;
  moved = subst (λ (t : List ℕ). Moves held held t kept) (sym (append-nil kept)) (moves_none held kept);
  counted = refl;
}

one_more : (text : ℕ × List ℕ → List ℕ) (kept : List ℕ) (done : Entries) (entry : ℕ × List ℕ) →
    (kept ++ flat_map text done) ++ text entry ≡ kept ++ flat_map text (done ++ entry ∷ [])
one_more text kept done entry =
    append_assoc kept (flat_map text done) (text entry)
    ∙ ap (λ (t : List ℕ). kept ++ t) (
    ap (λ (t : List ℕ). flat_map text done ++ t) (sym (append-nil (text entry)))
    ∙ sym (flat_map-append text done (entry ∷ []))
    )

pub puts_more : (text : ℕ × List ℕ → List ℕ) (old mid new : Option (List ℕ)) (kept : List ℕ) (all left : Entries)
    (entry : ℕ × List ℕ) (rest : Entries) (held still : List ℕ) (count : ℕ) → left ≡ entry ∷ rest →
    Puts text old mid kept all left held count → Moves mid new (held ++ text entry) still →
    Puts text old new kept all rest still (count + 1)
puts_more text old mid new kept all left entry rest held still count some puts next = record {
  done = puts.done ++ entry ∷ [];
  parts =
      puts.parts
      ∙ ap (λ (t : Entries). puts.done ++ t) some
      ∙ sym (append_assoc puts.done (entry ∷ []) rest);
  moved = subst (λ (t : List ℕ). Moves old new t still) (one_more text kept puts.done entry)
      (moves_more old mid new (kept ++ flat_map text puts.done) held (text entry) still puts.moved next);
  counted = omega (arith, puts.counted, length-append puts.done (entry ∷ []));
}

-- The text of all messages is the text so far and that of the remaining ones.
whole : (text : ℕ × List ℕ → List ℕ) (kept : List ℕ) (all done rest : Entries) → all ≡ done ++ rest →
    (kept ++ flat_map text done) ++ flat_map text rest ≡ kept ++ flat_map text all
whole text kept all done rest parts =
    append_assoc kept (flat_map text done) (flat_map text rest)
    ∙ ap (λ (t : List ℕ). kept ++ t) (sym (flat_map-append text done rest))
    ∙ ap (λ (t : Entries). kept ++ flat_map text t) (sym parts)

pub puts_front_in : (text : ℕ × List ℕ → List ℕ) (old mid new : Option (List ℕ)) (kept : List ℕ) (all left : Entries)
    (entry : ℕ × List ℕ) (rest : Entries) (held : List ℕ) (count : ℕ) → left ≡ entry ∷ rest →
    Puts text old mid kept all left held count → AppendsPrefix mid new (held ++ text entry) →
    AppendsPrefix old new (kept ++ flat_map text all)
puts_front_in text old mid new kept all left entry rest held count some puts p =
    let begun : AppendsPrefix old new ((kept ++ flat_map text puts.done) ++ text entry) =
    moves_front old mid new (kept ++ flat_map text puts.done) held (text entry) puts.moved p
    in
    subst (AppendsPrefix old new) (
    append_assoc (kept ++ flat_map text puts.done) (text entry) (flat_map text rest)
    ∙ ap (λ (t : Entries). (kept ++ flat_map text puts.done) ++ flat_map text t) (sym some)
    ∙ whole text kept all puts.done left puts.parts
    )
    (front_more old new ((kept ++ flat_map text puts.done) ++ text entry) (flat_map text rest) begun)

pub puts_front : (text : ℕ × List ℕ → List ℕ) (old mid new : Option (List ℕ)) (kept : List ℕ) (all rest : Entries)
    (held : List ℕ) (count : ℕ) → Puts text old mid kept all rest held count → AppendsPrefix mid new held →
    AppendsPrefix old new (kept ++ flat_map text all)
puts_front text old mid new kept all rest held count puts p =
    subst (AppendsPrefix old new) (whole text kept all puts.done rest puts.parts)
    (front_more old new (kept ++ flat_map text puts.done) (flat_map text rest)
    (moves_begun old mid new (kept ++ flat_map text puts.done) held puts.moved p))

pub puts_all : (text : ℕ × List ℕ → List ℕ) (old mid new : Option (List ℕ)) (kept : List ℕ) (all rest : Entries)
    (held : List ℕ) (count : ℕ) → Puts text old mid kept all rest held count → rest ≡ [] → Appends mid new held →
    Appends old new (kept ++ flat_map text all)
puts_all text old mid new kept all rest held count puts none p =
    subst (Appends old new) (
    sym (append-nil (kept ++ flat_map text puts.done))
    ∙ ap (λ (t : Entries). (kept ++ flat_map text puts.done) ++ flat_map text t) (sym none)
    ∙ whole text kept all puts.done rest puts.parts
    )
    (moves_all old mid new (kept ++ flat_map text puts.done) held puts.moved p)

pub puts_counted : (text : ℕ × List ℕ → List ℕ) (old new : Option (List ℕ)) (kept : List ℕ) (all rest : Entries)
    (held : List ℕ) (count : ℕ) → Puts text old new kept all rest held count → rest ≡ [] → count ≡ length all
puts_counted text old new kept all rest held count puts none =
    puts.counted
    ∙ ap (λ (t : Entries). length t)
    (sym (append-nil puts.done) ∙ ap (λ (t : Entries). puts.done ++ t) (sym none) ∙ sym puts.parts)

pub next_counts : (text : ℕ × List ℕ → List ℕ) (old new : Option (List ℕ)) (kept : List ℕ) (all left : Entries)
    (entry : ℕ × List ℕ) (rest : Entries) (held : List ℕ) (count : ℕ) → left ≡ entry ∷ rest →
    length all < 2 ^ 64 → Puts text old new kept all left held count → count + 1 < 2 ^ 64
next_counts text old new kept all left entry rest held count some few puts =
    let total : length all ≡ length puts.done + length left =
    ap (λ (t : Entries). length t) puts.parts ∙ length-append puts.done left
    in
    let one : length left ≡ length rest + 1 = ap (λ (t : Entries). length t) some ∙ omega arith in
    omega (arith, total, one, few, puts.counted)
