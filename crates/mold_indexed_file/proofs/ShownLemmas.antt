-- What is packed from a file that has a journal.
use Rattle.std.proofs.Common.{◌≡◌, ◌⊎◌, inl, inr, ℕ, ◌-◌, ◌<◌, ◌≤◌, List, [], ◌∷◌, ◌++◌, length, take, drop, ap, subst}
use Rattle.std.specs.Prelude.{Result, Ok, Err, OnOk}
use Rattle.std.proofs.Common.{refl, sym, ◌∙◌, append_assoc, arith}
use Rattle.std.proofs.lemmas.Bool.{cases_lt}
use Rattle.std.proofs.lemmas.Grind.{flat_map-append}
use Rattle.std.proofs.lemmas.List.{drop-append-le, length-drop, length-take, length-take-le, map-append, take-append-le}
use Rattle.mold_wire.specs.Packer.{PackerState}
use Rattle.mold_wire.specs.Packing.{packet_length}
use Rattle.mold_wire.specs.declared.session.Session.{Session}
use Rattle.mold_session.proofs.FrontLemmas.{Alone, OnlyFront, SomeFront}
use Rattle.mold_session.proofs.PackingLemmas.{OneMore, Stops}
use Rattle.mold_session.specs.Answer.{IsPlan, PlanState}
use Rattle.mold_session.specs.Journal.{IsJournal, JournalState, appended}
use Rattle.mold_session.specs.Loading.{head_spelling, message_spelling, messages_spelling}
use Rattle.mold_session.specs.Serving.{HasPackedNext, MayPack}
use Rattle.mold_durable.specs.GrowingFile.{Passes}
use Rattle.mold_index.specs.Index.{Indexes}
use Rattle.mold_index.specs.Layouts.{layout_of, lengths_of}
use Rattle.mold_index.specs.Piece.{IsPiece}
use Rattle.mold_index.specs.declared.entry.Entry.{Entry}
use Rattle.mold_index.specs.declared.piece.Piece.{Piece}
use Rattle.mold_index.specs.declared.layout.Layout.{Layout}
use Rattle.mold_indexed_file.specs.Buffer.{BufferState, most_bytes}
use Rattle.mold_indexed_file.specs.Packed.{HasPackedFrom, Lacks}
use Rattle.mold_indexed_file.specs.Read.{HasReadFor, IsKept, IsRead}
use Rattle.mold_indexed_file.specs.Shown.{IndexedState, IsInFile, IsPartOf, Shows, start_of}
use Rattle.mold_indexed_file.proofs.FileLemmas.{piece_within, read_whole}
use Rattle.mold_indexed_file.proofs.FoundLemmas.{IsPieceOf, lacks_none}
use Rattle.mold_indexed_file.proofs.NextLemmas.{packed_from}

-- The buffer has the bytes of the piece.
piece_bytes : {F : Type 0} (history : F → (ℕ → List ℕ) → Type 0) (moment : F → ℕ) (indexed : IndexedState F)
    (journal : JournalState) {from to most : ℕ} (piece : Piece) (buffer : BufferState) (end : ℕ) →
    (shows : Shows history moment indexed journal) → length journal.session.0 ≡ 10 →
    IsPiece (layout_of indexed.version) (lengths_of journal.messages) from to most piece →
    buffer.entry ≡ piece.entry →
    IsKept piece indexed.buffer buffer ⊎ IsRead shows.has.bytes (moment indexed.file) end piece buffer.bytes →
    buffer.bytes ≡ take piece.len (drop piece.entry.offset (start_of indexed.version journal))
piece_bytes history moment indexed journal piece buffer end shows named is begins (inl kept) =
    let those = start_of indexed.version journal in
    let part : buffer.bytes ≡ take (length buffer.bytes) (drop buffer.entry.offset those) =
    subst (IsPartOf those) (sym kept.same) shows.part in
    part
    ∙ ap (λ (n : ℕ). take n (drop buffer.entry.offset those)) kept.whole
    ∙ ap (λ (e : Entry). take piece.len (drop e.offset those)) begins
piece_bytes history moment indexed journal piece buffer end shows named is begins (inr read) =
    read_whole shows.has.bytes (moment indexed.file) (moment indexed.file) end indexed.version journal piece
    buffer.bytes
    shows.has.has (omega arith) (piece_within indexed.version journal _ _ _ piece named is) read

-- The buffer has the piece of the journal's file for the plan's next packet.
pub piece_of : {F : Type 0} (history : F → (ℕ → List ℕ) → Type 0) (moment : F → ℕ) (indexed : IndexedState F)
    (journal : JournalState) (limit : ℕ) (plan : PlanState) (end : ℕ) (buffer : BufferState) →
    length indexed.session.0 ≡ 10 → indexed.index.layout ≡ layout_of indexed.version → IsPlan plan →
    MayPack journal limit plan → (shows : Shows history moment indexed journal) →
    (reads : HasReadFor indexed.index plan.from plan.to (most_bytes indexed.version limit indexed.max_message)
    shows.has.bytes (moment indexed.file) end indexed.buffer buffer) →
    IsPieceOf indexed.version journal limit plan.from plan.to reads.piece buffer.bytes
piece_of history moment indexed journal limit plan end buffer ten laid planned may shows reads =
    let version = indexed.version in
    let named : length journal.session.0 ≡ 10 =
    sym (ap (λ (s : Session). length s.0) shows.named) ∙ ten in
    let at_layout : IsPiece (layout_of version) (lengths_of journal.messages) plan.from plan.to
    (most_bytes version limit indexed.max_message) reads.piece =
    subst (λ (l : Layout). IsPiece l (lengths_of journal.messages) plan.from plan.to
    (most_bytes version limit indexed.max_message) reads.piece) laid
    (reads.is (lengths_of journal.messages) shows.indexes) in
    let is : IsPiece (layout_of version) (lengths_of journal.messages) plan.from plan.to
    (most_bytes version limit journal.max_message) reads.piece =
    subst (λ (n : ℕ). IsPiece (layout_of version) (lengths_of journal.messages) plan.from plan.to
    (most_bytes version limit n) reads.piece) shows.limited at_layout in
    record {
      named = named;
      each = shows.journaled.each;
      short = omega (arith, may.room, may.limited.1);
      first = planned.0;
      last = may.planned.to;
      limited = omega (arith, may.limited.0);
      is = is;
      parts = piece_bytes history moment indexed journal reads.piece buffer end shows named is reads.begins reads.read;
    }

pub shown_next : {F : Type 0} (history : F → (ℕ → List ℕ) → Type 0) (moment : F → ℕ) (indexed : IndexedState F)
    (journal : JournalState) (plan : PlanState) (old new : PackerState) (count end : ℕ) (buffer : BufferState) →
    OneMore → Stops → OnlyFront → SomeFront → Alone → length indexed.session.0 ≡ 10 →
    indexed.index.layout ≡ layout_of indexed.version → IsPlan plan → MayPack journal old.limit plan →
    (shows : Shows history moment indexed journal) →
    HasReadFor indexed.index plan.from plan.to (most_bytes indexed.version old.limit indexed.max_message)
    shows.has.bytes (moment indexed.file) end indexed.buffer buffer → new.limit ≡ old.limit →
    HasPackedFrom (message_spelling indexed.version) (plan.from - buffer.entry.number) (plan.to - plan.from)
    buffer.bytes
    plan.session plan.from new count → HasPackedNext old new journal plan count
shown_next history moment indexed journal plan old new count end buffer one_more stops only some alone ten laid planned
    may
    shows reads same all =
    packed_from indexed.version journal plan reads.piece buffer.bytes old new count one_more stops only some alone
    planned
    shows.journaled may same
    (piece_of history moment indexed journal old.limit plan end buffer ten laid planned may shows reads)
    (rw reads.begins at all)

-- The packet of a plan with remaining messages has one.
pub shown_some : {F : Type 0} (history : F → (ℕ → List ℕ) → Type 0) (moment : F → ℕ) (indexed : IndexedState F)
    (journal : JournalState) (plan : PlanState) (old new : PackerState) (end : ℕ) (buffer : BufferState) →
    OneMore → Stops → OnlyFront → SomeFront → Alone → plan.from < plan.to → length indexed.session.0 ≡ 10 →
    indexed.index.layout ≡ layout_of indexed.version → IsPlan plan → MayPack journal old.limit plan →
    (shows : Shows history moment indexed journal) →
    HasReadFor indexed.index plan.from plan.to (most_bytes indexed.version old.limit indexed.max_message)
    shows.has.bytes (moment indexed.file) end indexed.buffer buffer → new.limit ≡ old.limit →
    HasPackedFrom (message_spelling indexed.version) (plan.from - buffer.entry.number) (plan.to - plan.from)
    buffer.bytes
    plan.session plan.from new 0 → ⊥
shown_some history moment indexed journal plan old new end buffer one_more stops only front alone some ten laid planned
    may shows reads same all =
    let next = shown_next history moment indexed journal plan old new 0 end buffer one_more stops only front alone ten
    laid planned may shows reads same all in
    omega (arith, next.some some)

pub shown_lacks : {F : Type 0} (history : F → (ℕ → List ℕ) → Type 0) (moment : F → ℕ) (indexed : IndexedState F)
    (journal : JournalState) (plan : PlanState) (old new : PackerState) (index end : ℕ) (buffer : BufferState) →
    packet_length [] ≡ 20 → plan.from < plan.to → length indexed.session.0 ≡ 10 →
    indexed.index.layout ≡ layout_of indexed.version → IsPlan plan → MayPack journal old.limit plan →
    (shows : Shows history moment indexed journal) →
    HasReadFor indexed.index plan.from plan.to (most_bytes indexed.version old.limit indexed.max_message)
    shows.has.bytes (moment indexed.file) end indexed.buffer buffer → new.limit ≡ old.limit →
    Lacks (message_spelling indexed.version) (plan.from - buffer.entry.number) (plan.to - plan.from) buffer.bytes
    plan.session plan.from new index → ⊥
shown_lacks history moment indexed journal plan old new index end buffer none some ten laid planned may shows reads same
    lacks =
    lacks_none indexed.version journal old.limit plan.from plan.to reads.piece buffer.bytes plan.session new index none
    some same (piece_of history moment indexed journal old.limit plan end buffer ten laid planned may shows reads)
    (rw reads.begins at lacks)

-- ---- what stays

no_elements : (xs : List ℕ) → length xs ≡ 0 → xs ≡ []
no_elements [] none = refl
no_elements (x ∷ xs) none = absurd (omega (arith, none))

-- A piece that was read is a part of the journal's bytes.
pub part_read : {F : Type 0} (history : F → (ℕ → List ℕ) → Type 0) (moment : F → ℕ) (indexed : IndexedState F)
    (journal : JournalState) (from to most : ℕ) (piece : Piece) (buffer : BufferState) (end : ℕ) →
    length indexed.session.0 ≡ 10 → indexed.index.layout ≡ layout_of indexed.version →
    (shows : Shows history moment indexed journal) →
    ((lengths : List ℕ) → Indexes indexed.index lengths → IsPiece indexed.index.layout lengths from to most piece) →
    buffer.entry ≡ piece.entry → IsRead shows.has.bytes (moment indexed.file) end piece buffer.bytes →
    IsPartOf (start_of indexed.version journal) buffer
part_read history moment indexed journal from to most piece buffer end ten laid shows is begins read =
    let those = start_of indexed.version journal in
    let named : length journal.session.0 ≡ 10 = sym (ap (λ (s : Session). length s.0) shows.named) ∙ ten in
    let at : IsPiece (layout_of indexed.version) (lengths_of journal.messages) from to most piece =
    subst (λ (l : Layout). IsPiece l (lengths_of journal.messages) from to most piece) laid
    (is (lengths_of journal.messages) shows.indexes) in
    let within = piece_within indexed.version journal from to most piece named at in
    let whole = read_whole shows.has.bytes (moment indexed.file) (moment indexed.file) end indexed.version journal piece
    buffer.bytes shows.has.has (omega arith) within read in
    let long : length buffer.bytes ≡ piece.len =
    ap (λ (t : List ℕ). length t) whole
    ∙ length-take-le piece.len (drop piece.entry.offset those)
    (omega (arith, within, length-drop piece.entry.offset those)) in
    whole
    ∙ ap (λ (n : ℕ). take n (drop piece.entry.offset those)) (sym long)
    ∙ ap (λ (e : Entry). take (length buffer.bytes) (drop e.offset those)) (sym begins)

pub part_none : (those : List ℕ) (buffer : BufferState) → buffer.bytes ≡ [] → IsPartOf those buffer
part_none those buffer none =
    none ∙ ap (λ (t : List ℕ). take (length t) (drop buffer.entry.offset those)) (sym none)

-- A part of some bytes is a part of those bytes and of what follows them.
pub part_longer : (those more : List ℕ) (buffer : BufferState) → IsPartOf those buffer → IsPartOf (those ++ more) buffer
part_longer those more buffer part =
    let at = buffer.entry.offset in
    let few : length buffer.bytes ≤ length (drop at those) =
    omega (arith, ap (λ (t : List ℕ). length t) part, length-take (length buffer.bytes) (drop at those)) in
    elim (cases_lt (length those) at) [
      | inl past ↦
          part_none (those ++ more) buffer
          (no_elements buffer.bytes (omega (arith, few, past, length-drop at those)))
      | inr within ↦
          part
          ∙ sym (take-append-le (length buffer.bytes) (drop at those) more few)
          ∙ ap (λ (t : List ℕ). take (length buffer.bytes) t) (sym (drop-append-le at those more within))
    ]

-- A call that reads the file changes nothing of what is shown.
pub still_shows : {F : Type 0} (history : F → (ℕ → List ℕ) → Type 0) (moment synced : F → ℕ) (old new : IndexedState F)
    (journal : JournalState) → Passes history moment synced old.file new.file → new.session ≡ old.session →
    new.version ≡ old.version → new.max_message ≡ old.max_message → new.index ≡ old.index →
    Shows history moment old journal → IsPartOf (start_of old.version journal) new.buffer →
    Shows history moment new journal
still_shows history moment synced old new journal passes session version most index shows part = record {
  named = session ∙ shows.named;
  limited = most ∙ shows.limited;
  journaled = shows.journaled;
  indexes = rw index shows.indexes;
  has = record {
    bytes = shows.has.bytes;
    possible = passes.kept shows.has.bytes shows.has.possible;
    has = record {
      begins = λ at later. rw version (shows.has.has.begins at (omega (arith, later, passes.later)));
    };
  };
  part = rw version part;
}

-- The index has the length of one more message.
pub shows_more : {F : Type 0} (history : F → (ℕ → List ℕ) → Type 0) (moment : F → ℕ) (old new : IndexedState F)
    (journal : JournalState) (message : List ℕ) → new ≡ record old { index = new.index } →
    Shows history moment old journal → IsJournal (appended journal message) →
    IsInFile history moment old.file old.version (appended journal message) →
    Indexes new.index (lengths_of journal.messages ++ length message ∷ []) →
    Shows history moment new (appended journal message)
shows_more {F = F} history moment old new journal message same shows journaled has indexes =
    let those = head_spelling journal.session.0 journal.closed old.version in
    let all : start_of old.version (appended journal message)
    ≡ start_of old.version journal ++ messages_spelling old.version (message ∷ []) =
    ap (λ (t : List ℕ). those ++ t) (flat_map-append (message_spelling old.version) journal.messages (message ∷ []))
    ∙ sym (append_assoc those (messages_spelling old.version journal.messages)
    (messages_spelling old.version (message ∷ []))) in
    let made : Shows history moment (record old { index = new.index }) (appended journal message) =
    record {
      named = shows.named;
      limited = shows.limited;
      journaled = journaled;
      indexes = subst (Indexes new.index)
          (sym (map-append (λ (m : List ℕ). length m) journal.messages (message ∷ []))) indexes;
      has = has;
      part = subst (λ (t : List ℕ). IsPartOf t old.buffer) (sym all)
          (part_longer (start_of old.version journal) (messages_spelling old.version (message ∷ [])) old.buffer
          shows.part);
    } in
    subst (λ (s : IndexedState F). Shows history moment s (appended journal message)) (sym same) made

pub on_ok : {E A B : Type 0} (result : Result (Unit {0}) E) → (A → B) → OnOk result A → OnOk result B
on_ok (Ok done) then was = then was
on_ok (Err error) then was = tt
