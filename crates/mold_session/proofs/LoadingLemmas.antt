-- The messages that were read of a file so far.
use Rattle.std.proofs.Common.{◌≡◌, ℕ, ◌+◌, ◌-◌, ◌≤◌, List, [], ◌∷◌, ◌++◌, length, length-append, take, drop}
use Rattle.std.proofs.Common.{take-append-drop, Option, refl, sym, ap, ◌∙◌, arith}
use Rattle.std.proofs.lemmas.List.{length-take-le}
use Rattle.std.specs.Io.KnownBytes.{Consumes, Keeps, prepend_known}
use Rattle.std.proofs.KnownBytes.{Consumes-trans, prepend_known-read}
use Rattle.mold_messages.specs.Listed.{extended}
use Rattle.mold_wire.specs.Block.{blocks}
use Rattle.mold_session.specs.Journal.{AreMessages}
use Rattle.mold_session.specs.Records.{records}

-- The last message of the list has all but `missing` of its `len` bytes.
pub record Taking (known left : Option (List ℕ)) (old new : List (List ℕ)) (missing len : ℕ) : Type 0 where
  pub message : List ℕ
  pub counted : length message + missing ≡ len
  pub added : new ≡ old ++ message ∷ []
  pub consumed : Consumes known left message

-- The blocks of these messages were read.
pub record Reads (most : ℕ) (known left : Option (List ℕ)) (messages : List (List ℕ)) : Type 0 where
  pub listed : AreMessages most messages
  pub consumed : Consumes known left (blocks messages)

extended_last : (old : List (List ℕ)) (message part : List ℕ) →
    extended (old ++ message ∷ []) part ≡ old ++ (message ++ part) ∷ []
extended_last [] message part = refl
extended_last (first ∷ []) message part = refl
extended_last (first ∷ second ∷ old) message part =
    ap (λ (t : List (List ℕ)). first ∷ t) (extended_last (second ∷ old) message part)

-- Some bytes of the piece are appended to the last message.
pub taking_more : (known mid left : Option (List ℕ)) (piece lent rest : List ℕ) (old new newer : List (List ℕ))
    (missing count len : ℕ) → Taking known mid old new missing len → Keeps mid (prepend_known piece left) →
    lent ≡ piece → rest ≡ drop count piece → count ≤ length piece → count ≤ missing →
    newer ≡ extended new (take count lent) → Taking known (prepend_known rest left) old newer (missing - count) len
taking_more known mid left piece lent rest old new newer missing count len taking kept same skipped within few grown =
    let part : List ℕ = take count piece in
    let long : length part ≡ count = length-take-le count piece within in
    let cut : piece ≡ part ++ rest =
    sym (take-append-drop count piece) ∙ ap (λ (t : List ℕ). part ++ t) (sym skipped)
    in
    record {
      message = taking.message ++ part;
      counted = omega (arith, length-append taking.message part, long, taking.counted);
      added =
          grown
          ∙ ap (λ (t : List ℕ). extended new (take count t)) same
          ∙ ap (λ (t : List (List ℕ)). extended t part) taking.added
          ∙ extended_last old taking.message part;
      consumed = Consumes-trans known mid (prepend_known rest left) taking.message part taking.consumed
          (prepend_known-read mid left piece rest part ⊥ kept cut (λ none. absurd none)).0;
    }

-- The records of these messages were read.
pub record ReadsRecords (most : ℕ) (known left : Option (List ℕ)) (messages : List (List ℕ)) : Type 0 where
  pub listed : AreMessages most messages
  pub consumed : Consumes known left (records messages)
