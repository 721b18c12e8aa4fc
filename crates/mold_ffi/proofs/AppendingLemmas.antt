-- A file to which records are appended.
use Rattle.std.proofs.Common.{◌≡◌, ℕ, suc, ◌+◌, ◌-◌, ◌<◌, ◌≤◌, Bool, true, false, List, [], ◌∷◌, ◌++◌, length, take}
use Rattle.std.proofs.Common.{drop, refl, sym, ap, ◌∙◌, append_assoc, length-append, length-drop, length-take}
use Rattle.std.proofs.Common.{take-append-drop, arith}
use Rattle.std.specs.List.{AllByRecursion}
use Rattle.std.proofs.lemmas.List.{take_at, drop_at}
use Rattle.mold_wire.specs.declared.session.Session.{Session}
use Rattle.mold_session.proofs.HeadLemmas.{length-magic_3}
use Rattle.mold_session.specs.Journal.{IsJournal, IsWithin, JournalState}
use Rattle.mold_session.specs.Records.{EndsRecords, SpellsJournal3, head_3, magic_3, record_of, records}
use Rattle.mold_ffi.specs.Publisher.Appending.{written_at}
use Rattle.mold_ffi.specs.Publisher.Records.{empty_file, records_end, records_from}
use Rattle.mold_ffi.specs.Publisher.Resuming.{end_offset}

records-append : (messages more : List (List ℕ)) → records (messages ++ more) ≡ records messages ++ records more
records-append [] more = refl
records-append (message ∷ messages) more =
    ap (λ (t : List ℕ). record_of message ++ t) (records-append messages more)
    ∙ sym (append_assoc (record_of message) (records messages) (records more))

each_within :
    (most limit : ℕ) (messages : List (List ℕ)) → most ≤ limit → AllByRecursion (IsWithin most) messages →
    AllByRecursion (IsWithin limit) messages
each_within most limit [] le each = tt
each_within most limit (message ∷ messages) le each =
    (omega (arith, le, each.0), each_within most limit messages le each.1)

-- The records of a prefix of the messages, and of the messages after it.
parted : (count : ℕ) (messages : List (List ℕ)) →
    records messages ≡ records (take count messages) ++ records (drop count messages)
parted count messages =
    ap records (sym (take-append-drop count messages)) ∙ records-append (take count messages) (drop count messages)

-- The bytes before the end of the records.
before_end : Session → List (List ℕ) → List ℕ
before_end session messages = head_3 session.0 ++ records messages

before_long : (session : Session) (messages : List (List ℕ)) → length session.0 ≡ 10 →
    length (before_end session messages) ≡ end_offset messages
unfolding before_end
before_long session messages ten =
    omega (
      arith,
      length-append (head_3 session.0) (records messages),
      length-append magic_3 session.0,
      length-magic_3,
      ten,
    )

pub empty_spelled : (session : Session) → length session.0 ≡ 10 → SpellsJournal3 session [] false (empty_file session)
empty_spelled session ten = record {
  named = ten;
  listed = record { few = omega arith; each = tt };
  rest = 0 ∷ [];
  spelled = refl;
  ends = record { gate = 0; rest = []; shut = λ same. absurd (omega (arith, same)); parts = refl };
}

-- Any bytes may be after the shut gate.
pub waiting_spelled :
    (session : Session) (messages : List (List ℕ)) (file more : List ℕ) → SpellsJournal3 session messages false file →
    SpellsJournal3 session messages false (take (end_offset messages + 1) file ++ more)
unfolding before_end
waiting_spelled session messages file more spelled =
    let front = before_end session messages in
    let gate = spelled.ends.gate in
    let parts : file ≡ (front ++ gate ∷ []) ++ spelled.ends.rest =
    spelled.spelled
    ∙ ap (λ (t : List ℕ). head_3 session.0 ++ (records messages ++ t)) spelled.ends.parts
    ∙ sym (append_assoc (head_3 session.0) (records messages) (gate ∷ spelled.ends.rest))
    ∙ sym (append_assoc front (gate ∷ []) spelled.ends.rest)
    in
    let long : length (front ++ gate ∷ []) ≡ end_offset messages + 1 =
    omega (arith, length-append front (gate ∷ []), before_long session messages spelled.named)
    in
    record {
      named = spelled.named;
      listed = spelled.listed;
      rest = gate ∷ more;
      spelled =
          ap (λ (t : List ℕ). take (end_offset messages + 1) t ++ more) parts
          ∙ ap (λ (t : List ℕ). t ++ more)
          (take_at (front ++ gate ∷ []) spelled.ends.rest (end_offset messages + 1) long)
          ∙ append_assoc front (gate ∷ []) more
          ∙ append_assoc (head_3 session.0) (records messages) (gate ∷ more);
      ends = record { gate = gate; rest = more; shut = spelled.ends.shut; parts = refl };
    }

-- The gate may have any value other than 1.
pub torn_spelled :
    (session : Session) (messages : List (List ℕ)) (file more : List ℕ) (gate : ℕ) → (gate ≡ 1 → ⊥) →
    SpellsJournal3 session messages false file →
    SpellsJournal3 session messages false (take (end_offset messages) file ++ gate ∷ more)
unfolding before_end
torn_spelled session messages file more gate shut spelled =
    let front = before_end session messages in
    let parts : file ≡ front ++ spelled.rest =
    spelled.spelled ∙ sym (append_assoc (head_3 session.0) (records messages) spelled.rest)
    in
    let start : take (end_offset messages) file ≡ front =
    ap (take (end_offset messages)) parts
    ∙ take_at front spelled.rest (end_offset messages) (before_long session messages spelled.named)
    in
    record {
      named = spelled.named;
      listed = spelled.listed;
      rest = gate ∷ more;
      spelled =
          ap (λ (t : List ℕ). t ++ gate ∷ more) start
          ∙ append_assoc (head_3 session.0) (records messages) (gate ∷ more);
      ends = record { gate = gate; rest = more; shut = shut; parts = refl };
    }

end_ends : (closed : Bool) (more : List ℕ) → EndsRecords closed (records_end closed ++ more)
end_ends true more = record { byte = 0; rest = more; parts = refl }
end_ends false more = record { gate = 0; rest = more; shut = λ same. absurd (omega (arith, same)); parts = refl }

-- The file after the records were written over its shut gate.
pub grown_spelled :
    (journal : JournalState) (from : ℕ) (file : List ℕ) → IsJournal journal → journal.max_message ≤ 65535 →
    SpellsJournal3 journal.session (take (from - 1) journal.messages) false file →
    SpellsJournal3 journal.session journal.messages journal.closed
    (written_at (end_offset (take (from - 1) journal.messages)) (records_from journal from) file)
unfolding before_end
grown_spelled journal from file is bound spelled =
    let count = from - 1 in
    let had = take count journal.messages in
    let more = drop count journal.messages in
    let front = before_end journal.session had in
    let at = end_offset had in
    let end = records_end journal.closed in
    let after = drop (length (records_from journal from)) (drop at file) in
    let parts : file ≡ front ++ spelled.rest =
    spelled.spelled ∙ sym (append_assoc (head_3 journal.session.0) (records had) spelled.rest)
    in
    let start : take at file ≡ front =
    ap (take at) parts ∙ take_at front spelled.rest at (before_long journal.session had spelled.named)
    in
    record {
      named = spelled.named;
      listed = record { few = is.few; each = each_within journal.max_message 65535 journal.messages bound is.each };
      rest = end ++ after;
      spelled =
          ap (λ (t : List ℕ). t ++ (records_from journal from ++ after)) start
          ∙ append_assoc (head_3 journal.session.0) (records had) ((records more ++ end) ++ after)
          ∙ ap (λ (t : List ℕ). head_3 journal.session.0 ++ (records had ++ t)) (append_assoc (records more) end after)
          ∙ ap (λ (t : List ℕ). head_3 journal.session.0 ++ t)
          (sym (append_assoc (records had) (records more) (end ++ after)))
          ∙ ap (λ (t : List ℕ). head_3 journal.session.0 ++ (t ++ (end ++ after)))
          (sym (parted count journal.messages));
      ends = end_ends journal.closed after;
    }

-- The gate is written after the bytes that follow it.
gate_last :
    (front rest text : List ℕ) (old gate at : ℕ) → length front ≡ at →
    written_at at (gate ∷ []) (written_at (at + 1) text (front ++ old ∷ rest))
    ≡ written_at at (gate ∷ text) (front ++ old ∷ rest)
gate_last front rest text old gate at long =
    let file = front ++ old ∷ rest in
    let split : file ≡ (front ++ old ∷ []) ++ rest = sym (append_assoc front (old ∷ []) rest) in
    let longer : length (front ++ old ∷ []) ≡ at + 1 = omega (arith, long, length-append front (old ∷ [])) in
    let after = drop (length text) rest in
    let half : written_at (at + 1) text file ≡ front ++ old ∷ (text ++ after) =
    ap (written_at (at + 1) text) split
    ∙ ap (λ (t : List ℕ). t ++ (text ++ drop (length text) (drop (at + 1) ((front ++ old ∷ []) ++ rest))))
    (take_at (front ++ old ∷ []) rest (at + 1) longer)
    ∙ ap (λ (t : List ℕ). (front ++ old ∷ []) ++ (text ++ drop (length text) t))
    (drop_at (front ++ old ∷ []) rest (at + 1) longer)
    ∙ append_assoc front (old ∷ []) (text ++ after)
    in
    ap (written_at at (gate ∷ [])) half
    ∙ ap (λ (t : List ℕ). t ++ gate ∷ drop 1 (drop at (front ++ old ∷ (text ++ after))))
    (take_at front (old ∷ (text ++ after)) at long)
    ∙ ap (λ (t : List ℕ). front ++ gate ∷ drop 1 t) (drop_at front (old ∷ (text ++ after)) at long)
    ∙ ap (λ (t : List ℕ). t ++ gate ∷ (text ++ after)) (sym (take_at front (old ∷ rest) at long))
    ∙ ap (λ (t : List ℕ). take at file ++ gate ∷ (text ++ drop (suc (length text)) t))
    (sym (drop_at front (old ∷ rest) at long))

cut_at :
    (file rest text : List ℕ) (at : ℕ) → at < length file → drop at file ≡ rest → 1 ≤ length text →
    written_at at (take 1 text) (written_at (at + 1) (drop 1 text) file) ≡ written_at at text file
cut_at file [] text at within is some =
    absurd (omega (arith, within, ap (λ (t : List ℕ). length t) is, length-drop at file))
cut_at file (old ∷ rest) [] at within is some = absurd (omega (arith, some))
cut_at file (old ∷ rest) (gate ∷ text) at within is some =
    let parts : file ≡ take at file ++ old ∷ rest =
    sym (take-append-drop at file) ∙ ap (λ (t : List ℕ). take at file ++ t) is
    in
    let long : length (take at file) ≡ at = omega (arith, within, length-take at file) in
    ap (λ (t : List ℕ). written_at at (gate ∷ []) (written_at (at + 1) text t)) parts
    ∙ gate_last (take at file) rest text old gate at long
    ∙ ap (written_at at (gate ∷ text)) (sym parts)

pub order_same :
    (at : ℕ) (text file : List ℕ) → at < length file → 1 ≤ length text →
    written_at at (take 1 text) (written_at (at + 1) (drop 1 text) file) ≡ written_at at text file
order_same at text file within some = cut_at file (drop at file) text at within refl some

-- The new end of the records is where the last byte was written.
pub end_moved :
    (journal : JournalState) (from : ℕ) → journal.closed ≡ false →
    end_offset (take (from - 1) journal.messages) + length (records_from journal from) ≡ end_offset journal.messages + 1
end_moved journal from is_open =
    let count = from - 1 in
    omega (
      arith,
      ap (λ (t : List ℕ). length t) (parted count journal.messages),
      length-append (records (take count journal.messages)) (records (drop count journal.messages)),
      length-append (records (drop count journal.messages)) (records_end journal.closed),
      ap (λ (b : Bool). length (records_end b)) is_open,
    )
