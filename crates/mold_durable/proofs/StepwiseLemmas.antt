-- Why one read is needed for each message.
use Rattle.std.proofs.Common.{◌≡◌, inl, inr, ℕ, suc, zero, ◌+◌, ◌≤◌, ◌<◌, List, [], ◌∷◌, ◌++◌, length, take}
use Rattle.std.proofs.Common.{drop, get_or, refl, sym, ap, subst, ◌∙◌, append_assoc, arith, length-append, length-take}
use Rattle.std.proofs.Common.{take-append-drop}
use Rattle.std.proofs.lemmas.Bool.{cases_eq, false≢true}
use Rattle.std.proofs.lemmas.List.{take-take}
use Rattle.mold_wire.specs.declared.block.TheConstants.{MAX_MESSAGE}
use Rattle.mold_wire.specs.declared.session.Session.{Session}
use Rattle.mold_session.specs.Contents.{IsFront}
use Rattle.mold_session.specs.Journal.{AreMessages, IsWithin}
use Rattle.mold_session.specs.Records.{head_3, record_of, records}
use Rattle.mold_session.proofs.FrontLemmas.{each_take}
use Rattle.mold_durable.specs.Following.{Writes}
use Rattle.mold_durable.specs.GrowingFile.{IsByteAmong, ReadsAmong}
use Rattle.mold_durable.specs.Stepwise.{staged, stepwise_file, stepwise_writer, whole_file}
use Rattle.mold_durable.proofs.HeadLemmas.{length-head_3}
use Rattle.mold_durable.proofs.RecordLemmas.{records-append}

-- ---- bytes that differ at one offset

other_bytes : (front : List ℕ) (one two : ℕ) (rest : List ℕ) (index : ℕ) → (index ≡ length front → ⊥) →
    get_or (front ++ one ∷ rest) index 0 ≡ get_or (front ++ two ∷ rest) index 0
other_bytes [] one two rest zero other = absurd (other refl)
other_bytes [] one two rest (suc index) other = refl
other_bytes (byte ∷ front) one two rest zero other = refl
other_bytes (byte ∷ front) one two rest (suc index) other =
    other_bytes front one two rest index (λ is. other (ap suc is))

-- There is a gate after some records.
gated : (bytes : List ℕ) → bytes ++ 0 ∷ [] ≡ get_or (bytes ++ 0 ∷ []) 0 0 ∷ drop 1 (bytes ++ 0 ∷ [])
gated [] = refl
gated (byte ∷ bytes) = refl

-- ---- the file

module _ (session : Session) (messages : List (List ℕ)) (named : length session.0 ≡ 10) where
  -- The offset of the shut gate.
  abbrev gate_at : ℕ → ℕ
  gate_at moment = 18 + length (records (take moment messages))

  -- What precedes the shut gate.
  abbrev before : ℕ → List ℕ
  before moment = head_3 session.0 ++ records (take moment messages)

  abbrev rest_at : ℕ → List ℕ
  rest_at moment = records (drop moment messages) ++ 0 ∷ []

  before_long : (moment : ℕ) → length (before moment) ≡ gate_at moment
  before_long moment =
      omega (arith, length-append (head_3 session.0) (records (take moment messages)), length-head_3 session.0 named)

  whole_is : (moment : ℕ) →
      whole_file session messages ≡ before moment ++ get_or (rest_at moment) 0 0 ∷ drop 1 (rest_at moment)
  whole_is moment =
      let head = head_3 session.0 in
      let one = take moment messages in
      let two = drop moment messages in
      ap (λ (t : List (List ℕ)). head ++ (records t ++ 0 ∷ [])) (sym (take-append-drop moment messages))
      ∙ ap (λ (t : List ℕ). head ++ (t ++ 0 ∷ [])) (records-append one two)
      ∙ ap (λ (t : List ℕ). head ++ t) (append_assoc (records one) (records two) (0 ∷ []))
      ∙ sym (append_assoc head (records one) (rest_at moment))
      ∙ ap (λ (t : List ℕ). before moment ++ t) (gated (records two))

  file_is : (moment : ℕ) →
      stepwise_file session messages moment ≡ before moment ++ 0 ∷ drop 1 (rest_at moment)
  file_is moment =
      sym (append_assoc (head_3 session.0) (records (take moment messages)) (staged (drop moment messages)))

  same_long : (moment : ℕ) → length (stepwise_file session messages moment) ≡ length (whole_file session messages)
  same_long moment =
      let rest = drop 1 (rest_at moment) in
      let gate = get_or (rest_at moment) 0 0 in
      omega (
        arith,
        ap (λ (t : List ℕ). length t) (whole_is moment),
        ap (λ (t : List ℕ). length t) (file_is moment),
        length-append (before moment) (gate ∷ rest),
        length-append (before moment) (0 ∷ rest),
      )

  -- Only the shut gate differs.
  same_byte : (moment offset : ℕ) → (offset ≡ gate_at moment → ⊥) →
      get_or (whole_file session messages) offset 0 ≡ get_or (stepwise_file session messages moment) offset 0
  same_byte moment offset other =
      let rest = drop 1 (rest_at moment) in
      let gate = get_or (rest_at moment) 0 0 in
      ap (λ (t : List ℕ). get_or t offset 0) (whole_is moment)
      ∙ other_bytes (before moment) gate 0 rest offset (λ is. other (is ∙ before_long moment))
      ∙ ap (λ (t : List ℕ). get_or t offset 0) (sym (file_is moment))

-- One more message moves the shut gate.
gate_later : (moment : ℕ) (messages : List (List ℕ)) → moment < length messages →
    length (records (take moment messages)) < length (records (take (suc moment) messages))
gate_later moment [] within = absurd (omega (arith, within))
gate_later zero (message ∷ messages) within =
    omega (arith, length-append (record_of message) (records (take zero messages)))
gate_later (suc moment) (message ∷ messages) within =
    omega (
      arith,
      gate_later moment messages (omega (arith, within)),
      length-append (record_of message) (records (take moment messages)),
      length-append (record_of message) (records (take (suc moment) messages)),
    )

module _ (session : Session) (messages : List (List ℕ)) (named : length session.0 ≡ 10) (moment : ℕ)
    (within : moment < length messages) where
  byte_among : (one two offset byte : ℕ) →
      IsByteAmong (λ now. whole_file session messages) one two offset byte →
      IsByteAmong (stepwise_file session messages) moment (suc moment) offset byte
  byte_among one two offset byte is =
      elim (cases_eq offset (gate_at session messages named moment)) [
        | inl gate ↦ record {
          moment = suc moment;
          since = omega arith;
          until = omega arith;
          within = omega (arith, is.within, same_long session messages named (suc moment));
          same = is.same ∙ same_byte session messages named (suc moment) offset
              (λ other. omega (arith, gate, other, gate_later moment messages within));
        }
        | inr other ↦ record {
          moment = moment;
          since = omega arith;
          until = omega arith;
          within = omega (arith, is.within, same_long session messages named moment);
          same = is.same ∙ same_byte session messages named moment offset other;
        }
      ]

  pub whole_read : (one two at count : ℕ) (buffer : List ℕ) →
      ReadsAmong (λ now. whole_file session messages) one two at count buffer →
      ReadsAmong (stepwise_file session messages) moment (moment + 1) at count buffer
  whole_read one two at count buffer reads =
      let later : suc moment ≡ moment + 1 = omega arith in
      subst (λ (n : ℕ). ReadsAmong (stepwise_file session messages) moment n at count buffer) later (record {
        each = λ index less. byte_among one two (at + index) (get_or buffer index 0) (reads.each index less);
        all = record {
          moment = moment;
          since = omega arith;
          until = omega arith;
          all = omega (arith, reads.all.all, same_long session messages named moment);
        };
      })

-- ---- the writer

pub stepwise_writes : (session : Session) (messages : List (List ℕ)) → length session.0 ≡ 10 →
    AreMessages MAX_MESSAGE messages →
    Writes (stepwise_writer session messages) (stepwise_file session messages)
stepwise_writes session messages named listed = record {
  file = λ moment. record {
    named = named;
    listed = record {
      few = omega (arith, listed.few, length-take moment messages);
      each = each_take (IsWithin MAX_MESSAGE) moment messages listed.each;
    };
    rest = staged (drop moment messages);
    spelled = refl;
    ends = record {
      gate = 0;
      rest = drop 1 (records (drop moment messages) ++ 0 ∷ []);
      shut = λ is. absurd (omega (arith, is));
      parts = refl;
    };
  };
  grows = λ earlier later ordered. record {
    extra = drop earlier (take later messages);
    longer =
        sym (take-append-drop earlier (take later messages))
        ∙ ap (λ (t : List (List ℕ)). t ++ drop earlier (take later messages))
        (take-take earlier later messages ordered);
  };
  ends = λ earlier later ordered flag. absurd (false≢true flag);
}

pub few_told : (moment : ℕ) (messages told : List (List ℕ)) → IsFront told (take moment messages) →
    length told ≤ moment
few_told moment messages told front =
    omega (
      arith,
      length-take moment messages,
      ap (λ (t : List (List ℕ)). length t) front.longer,
      length-append told front.extra,
    )
