-- The file of version 3 and its last gate.
use Rattle.std.proofs.Common.{◌≡◌, ℕ, ◌+◌, Bool, true, false, List, [], ◌∷◌, ◌++◌, length}
use Rattle.std.proofs.Common.{refl, sym, ap, ◌∙◌, append_assoc, arith, length-append}
use Rattle.std.proofs.lemmas.List.{append-nil}
use Rattle.mold_wire.specs.declared.block.TheConstants.{MAX_MESSAGE}
use Rattle.mold_wire.specs.declared.session.Session.{Session}
use Rattle.mold_session.specs.Journal.{AreMessages}
use Rattle.mold_durable.specs.DurableJournal.{file_prefix}
use Rattle.mold_durable.specs.Gate.{IsShutAfter, BeginsWith}
use Rattle.mold_durable.specs.Group.{closing}
use Rattle.mold_session.specs.Records.{head_3, records, EndsRecords, SpellsJournal3}
use Rattle.mold_durable.proofs.RecordLemmas.{records-append}

-- The last gate of an open file is shut.
pub file_shut :
    (session : Session) (messages : List (List ℕ)) (bytes : List ℕ) → SpellsJournal3 session messages false bytes →
    IsShutAfter (file_prefix session messages false) bytes
file_shut session messages bytes file = record {
  rest = file.rest;
  parts =
      file.spelled
      ∙ ap (λ (t : List ℕ). head_3 session.0 ++ (t ++ file.rest)) (sym (append-nil (records messages)))
      ∙ sym (append_assoc (head_3 session.0) (records messages ++ []) file.rest);
  shut = file.ends;
}

-- And bytes whose last gate is shut are an open file.
pub shut_file :
    (session : Session) (messages : List (List ℕ)) (bytes : List ℕ) → length session.0 ≡ 10 →
    AreMessages MAX_MESSAGE messages → IsShutAfter (file_prefix session messages false) bytes →
    SpellsJournal3 session messages false bytes
shut_file session messages bytes named listed shut = record {
  named = named;
  listed = listed;
  rest = shut.rest;
  spelled =
      shut.parts
      ∙ append_assoc (head_3 session.0) (records messages ++ []) shut.rest
      ∙ ap (λ (t : List ℕ). head_3 session.0 ++ (t ++ shut.rest)) (append-nil (records messages));
  ends = shut.shut;
}

ends_so : (closes : Bool) (rest : List ℕ) → EndsRecords closes (closing closes ++ 0 ∷ rest)
ends_so true rest = record { byte = 0; rest = rest; parts = refl }
ends_so false rest = record { gate = 0; rest = rest; shut = λ is. cc; parts = refl }

-- Once the gate is open, the messages of the text count.
pub opened_file :
    (session : Session) (messages waiting : List (List ℕ)) (closes : Bool) (text bytes : List ℕ) →
    length session.0 ≡ 10 → AreMessages MAX_MESSAGE (messages ++ waiting) →
    1 ∷ text ≡ records waiting ++ (closing closes ++ 0 ∷ []) →
    BeginsWith (file_prefix session messages false ++ 1 ∷ text) bytes →
    SpellsJournal3 session (messages ++ waiting) closes bytes
opened_file session messages waiting closes text bytes named listed is_text begins =
    let end = closing closes ++ 0 ∷ [] in
    let more = closing closes ++ 0 ∷ begins.rest in
    let tail : (records waiting ++ end) ++ begins.rest ≡ records waiting ++ more =
    append_assoc (records waiting) end begins.rest
    ∙ ap (λ (t : List ℕ). records waiting ++ t) (append_assoc (closing closes) (0 ∷ []) begins.rest)
    in
    record {
      named = named;
      listed = listed;
      rest = more;
      spelled =
          begins.parts
          ∙ append_assoc (file_prefix session messages false) (1 ∷ text) begins.rest
          ∙ ap (λ (t : List ℕ). file_prefix session messages false ++ (t ++ begins.rest)) is_text
          ∙ ap (λ (t : List ℕ). file_prefix session messages false ++ t) tail
          ∙ append_assoc (head_3 session.0) (records messages ++ []) (records waiting ++ more)
          ∙ ap (λ (t : List ℕ). head_3 session.0 ++ (t ++ (records waiting ++ more))) (append-nil (records messages))
          ∙ ap (λ (t : List ℕ). head_3 session.0 ++ t) (
          sym (append_assoc (records messages) (records waiting) more)
          ∙ ap (λ (t : List ℕ). t ++ more) (sym (records-append messages waiting))
          );
      ends = ends_so closes begins.rest;
    }

-- The records end before the last byte of the text, which is the gate.
pub prefix_longer :
    (session : Session) (messages waiting : List (List ℕ)) (closes : Bool) (text : List ℕ) →
    1 ∷ text ≡ records waiting ++ (closing closes ++ 0 ∷ []) →
    length (file_prefix session (messages ++ waiting) closes)
    ≡ length (file_prefix session messages false) + length text
prefix_longer session messages waiting closes text is_text =
    let head = head_3 session.0 in
    let long = ap (λ (t : List ℕ). length t) is_text in
    let both = ap (λ (t : List ℕ). length t) (records-append messages waiting) in
    omega (
      arith,
      long,
      both,
      length-append (records waiting) (closing closes ++ 0 ∷ []),
      length-append (closing closes) (0 ∷ []),
      length-append head (records (messages ++ waiting) ++ closing closes),
      length-append (records (messages ++ waiting)) (closing closes),
      length-append (records messages) (records waiting),
      length-append head (records messages ++ []),
      length-append (records messages) [],
    )
