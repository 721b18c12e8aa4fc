-- Which bytes a file begins with, and what a read of them returns.
use Rattle.std.proofs.Common.{◌≡◌, ℕ, ◌+◌, ◌-◌, ◌≤◌, List, [], ◌++◌, length, length-append, take, drop, get_or}
use Rattle.std.proofs.Common.{sym, ap, subst, ◌∙◌, append_assoc, append-nil, arith}
use Rattle.std.proofs.lemmas.Grind.{flat_map-append, same_number_lists}
use Rattle.std.proofs.lemmas.List.{get_or-drop, get_or-take, get_or_append_left, length-drop, length-map}
use Rattle.std.proofs.lemmas.List.{length-take-le}
use Rattle.std.proofs.lemmas.List.{take-append-le, take_all}
use Rattle.mold_session.specs.Contents.{IsFront}
use Rattle.mold_session.specs.File.{SpellsJournal, SpellsJournal2}
use Rattle.mold_session.specs.Journal.{JournalState}
use Rattle.mold_session.specs.Loading.{head_spelling, message_spelling, messages_spelling}
use Rattle.mold_session.specs.Records.{head_3, records, SpellsJournal3}
use Rattle.mold_session.specs.declared.file_version.FileVersion.{FileVersion}
use Rattle.mold_session.specs.declared.file_version.FileVersion.TheVariants.{One, Two, Three}
use Rattle.mold_durable.specs.Following.{Writer, Writes}
use Rattle.mold_durable.specs.GrowingFile.{ReadsAmong}
use Rattle.mold_index.proofs.LayoutLemmas.{length-before}
use Rattle.mold_index.specs.Layouts.{BeginsWith, layout_of, lengths_of}
use Rattle.mold_index.specs.Piece.{IsPiece}
use Rattle.mold_index.specs.declared.piece.Piece.{Piece}
use Rattle.mold_indexed_file.specs.Read.{IsRead}
use Rattle.mold_indexed_file.specs.Shown.{HasSince, start_of}

-- ---- which journals a file has

begins_alone : (start bytes : List ℕ) → bytes ≡ start → BeginsWith start bytes
begins_alone start bytes same = record { rest = []; parts = same ∙ sym (append-nil start) }

pub has_first : (journal : JournalState) (bytes : List ℕ) (since : ℕ) →
    SpellsJournal journal.session journal.messages bytes → HasSince (λ moment. bytes) since One journal
has_first journal bytes since spells = record {
  begins = λ moment later. begins_alone (start_of One journal) bytes spells.spelled;
}

pub has_second : (journal : JournalState) (bytes : List ℕ) (since : ℕ) →
    SpellsJournal2 journal.session journal.messages journal.closed bytes →
    HasSince (λ moment. bytes) since (Two (length journal.messages)) journal
has_second journal bytes since spells = record {
  begins = λ moment later. begins_alone (start_of (Two (length journal.messages)) journal) bytes spells.spelled;
}

pub has_third : (journal : JournalState) (bytes : List ℕ) (since : ℕ) →
    SpellsJournal3 journal.session journal.messages journal.closed bytes → HasSince (λ moment. bytes) since Three
    journal
has_third journal bytes since spells = record {
  begins = λ moment later. record {
    rest = spells.rest;
    parts =
        spells.spelled ∙ sym (append_assoc (head_3 journal.session.0) (records journal.messages) spells.rest);
  };
}

-- The messages begin with the first of them.
spelling_parts : (version : FileVersion) (front all extra : List (List ℕ)) → all ≡ front ++ extra →
    messages_spelling version all ≡ messages_spelling version front ++ messages_spelling version extra
spelling_parts version front all extra longer =
    ap (messages_spelling version) longer ∙ flat_map-append (message_spelling version) front extra

pub has_prefix : (bytes : ℕ → List ℕ) (since : ℕ) (version : FileVersion) (journal front : JournalState) →
    HasSince bytes since version journal → front.session ≡ journal.session → front.closed ≡ journal.closed →
    IsFront front.messages journal.messages → HasSince bytes since version front
has_prefix bytes since version journal front has named same longer = record {
  begins = λ moment later.
      let was = has.begins moment later in
      let head = head_spelling journal.session.0 journal.closed version in
      let extra = messages_spelling version longer.extra in
      let whole : bytes moment ≡ (head ++ messages_spelling version front.messages) ++ (extra ++ was.rest) =
      was.parts
      ∙ ap (λ (t : List ℕ). (head ++ t) ++ was.rest)
      (spelling_parts version front.messages journal.messages longer.extra longer.longer)
      ∙ ap (λ (t : List ℕ). t ++ was.rest) (sym (append_assoc head (messages_spelling version front.messages) extra))
      ∙ append_assoc (head ++ messages_spelling version front.messages) extra was.rest in
      record {
        rest = extra ++ was.rest;
        parts = rw named rw same whole;
      };
}

pub has_growing : (writer : Writer) (bytes : ℕ → List ℕ) (since : ℕ) (journal : JournalState) → Writes writer bytes →
    journal.session ≡ writer.session → IsFront journal.messages (writer.messages since) →
    HasSince bytes since Three journal
has_growing writer bytes since journal writes named front = record {
  begins = λ moment later.
      let spells = writes.file moment in
      let more = writes.grows since moment later in
      let head = head_3 writer.session.0 in
      let extra = records front.extra ++ (records more.extra ++ spells.rest) in
      let all : writer.messages moment ≡ journal.messages ++ (front.extra ++ more.extra) =
      more.longer
      ∙ ap (λ (t : List (List ℕ)). t ++ more.extra) front.longer
      ∙ append_assoc journal.messages front.extra more.extra in
      let those = spelling_parts Three journal.messages (writer.messages moment) (front.extra ++ more.extra) all in
      let whole : bytes moment
      ≡ (head ++ records journal.messages) ++ (records (front.extra ++ more.extra) ++ spells.rest) =
      spells.spelled
      ∙ ap (λ (t : List ℕ). head ++ (t ++ spells.rest)) those
      ∙ ap (λ (t : List ℕ). head ++ t)
      (append_assoc (records journal.messages) (records (front.extra ++ more.extra)) spells.rest)
      ∙ sym (append_assoc head (records journal.messages) (records (front.extra ++ more.extra) ++ spells.rest)) in
      record {
        rest = records (front.extra ++ more.extra) ++ spells.rest;
        parts = rw named whole;
      };
}

-- ---- reads

-- The file has the whole piece.
pub piece_within : (version : FileVersion) (journal : JournalState) (from to most : ℕ) (piece : Piece) →
    length journal.session.0 ≡ 10 → IsPiece (layout_of version) (lengths_of journal.messages) from to most piece →
    piece.entry.offset + piece.len ≤ length (start_of version journal)
piece_within version journal from to most piece named is =
    let messages = journal.messages in
    let end = length (lengths_of messages) + 1 in
    let all : take (end - 1) messages ≡ messages =
    take_all (end - 1) messages (omega (arith, length-map messages (λ (m : List ℕ). length m))) in
    omega (
      arith,
      is.within,
      length-before journal.session.0 journal.closed version messages end named,
      ap (λ (t : List (List ℕ)). length (head_spelling journal.session.0 journal.closed version
          ++ messages_spelling version t)) all,
    )

-- What a read returns, of which the buffer has the bytes after it too.
pub read_is : (history : ℕ → List ℕ) (start end count : ℕ) (piece : Piece) (read rest : List ℕ) →
    length read ≡ piece.len → count ≤ length read → ReadsAmong history start end piece.entry.offset count read →
    IsRead history start end piece (take count (read ++ rest))
read_is history start end count piece read rest long few reads =
    let same : take count (read ++ rest) ≡ take count read = take-append-le count read rest few in
    let taken : length (take count read) ≡ count = length-take-le count read few in
    let is : IsRead history start end piece (take count read) =
    record {
      few = omega (arith, few, long, taken);
      each = λ index within.
          let byte = reads.each index (omega (arith, within, taken)) in
          record {
            moment = byte.moment;
            since = byte.since;
            until = byte.until;
            within = byte.within;
            same = get_or-take count read index 0 (omega (arith, within, taken)) ∙ byte.same;
          };
      all = record {
        moment = reads.all.moment;
        since = reads.all.since;
        until = reads.all.until;
        all = omega (arith, reads.all.all, long, taken);
      };
    } in
    subst (IsRead history start end piece) (sym same) is

-- A read of a piece returns all of its bytes.
pub read_whole : (history : ℕ → List ℕ) (since start end : ℕ) (version : FileVersion) (journal : JournalState)
    (piece : Piece) (read : List ℕ) → HasSince history since version journal → since ≤ start →
    piece.entry.offset + piece.len ≤ length (start_of version journal) → IsRead history start end piece read →
    read ≡ take piece.len (drop piece.entry.offset (start_of version journal))
read_whole history since start end version journal piece read has order inside is =
    let those = start_of version journal in
    let at = piece.entry.offset in
    let then = has.begins is.all.moment (omega (arith, order, is.all.since)) in
    let long : length read ≡ piece.len =
    omega (
      arith,
      is.few,
      is.all.all,
      inside,
      ap (λ (t : List ℕ). length t) then.parts,
      length-append those then.rest,
    ) in
    let taken : length (take piece.len (drop at those)) ≡ piece.len =
    length-take-le piece.len (drop at those) (omega (arith, inside, length-drop at those)) in
    same_number_lists read (take piece.len (drop at those)) (long ∙ sym taken)
    (λ k within.
    let byte = is.each k within in
    let was = has.begins byte.moment (omega (arith, order, byte.since)) in
    byte.same
    ∙ ap (λ (t : List ℕ). get_or t (at + k) 0) was.parts
    ∙ get_or_append_left those was.rest 0 (at + k) (omega (arith, within, long, inside))
    ∙ sym (get_or-drop at those k 0)
    ∙ sym (get_or-take piece.len (drop at those) k 0 (omega (arith, within, long))))
