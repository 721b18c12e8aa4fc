-- What a storage shows through an index, and what a read of a storage returns.
use Rattle.std.proofs.Common.{◌≡◌, ℕ, List, length, drop, sym, ap}
use Rattle.std.specs.List.{AllByRecursion}
use Rattle.std.proofs.Common.{length-append, [], ◌∷◌, ◌++◌, get_or, subst, ◌∙◌, append_assoc, arith}
use Rattle.std.proofs.lemmas.Grind.{flat_map-append}
use Rattle.std.proofs.lemmas.List.{get_or-drop, get_or-take, map-append}
use Rattle.mold_session.specs.Journal.{IsJournal, IsWithin as IsWithinLength, JournalState, appended}
use Rattle.mold_session.specs.Loading.{head_spelling, message_spelling, messages_spelling}
use Rattle.mold_session.specs.declared.file_version.FileVersion.TheVariants.{Three}
use Rattle.mold_durable.specs.GrowingFile.{ReadsAmong}
use Rattle.mold_durable.specs.Storage.{AreSame, IsPartAt}
use Rattle.mold_index.specs.Index.{IndexState, Indexes}
use Rattle.mold_index.specs.Layouts.{lengths_of}
use Rattle.mold_indexed_file.specs.Buffer.{BufferState}
use Rattle.mold_indexed_file.specs.Shown.{IndexedState, IsPartOf, Shows, start_of}
use Rattle.mold_indexed_file.proofs.ShownLemmas.{part_longer, part_none}
use Rattle.mold_indexed_file.specs.Stored.{IsOfJournal, ShowsStored, StoredState}

-- ---- reads

-- A part of some bytes is what a read of a file returns that has these bytes at every moment.
pub reads_still : (at count : ℕ) (bytes buffer : List ℕ) → IsPartAt at bytes count buffer →
    ReadsAmong (λ moment. bytes) 0 0 at count buffer
reads_still at count bytes buffer part = record {
  each = λ index within. record {
    moment = 0;
    since = omega arith;
    until = omega arith;
    within = omega (arith, within, part.counted);
    same =
        sym (get_or-take count buffer index 0 within)
        ∙ ap (λ (t : List ℕ). get_or t index 0) part.part
        ∙ get_or-take count (drop at bytes) index 0 within
        ∙ get_or-drop at bytes index 0;
  };
  all = record { moment = 0; since = omega arith; until = omega arith; all = omega (arith, part.counted) };
}

-- ---- what is shown

-- An indexed file with the state of the index. Of its file, nothing is used.
abbrev pub indexed_of : StoredState → IndexedState (Unit {0})
indexed_of stored = record {
  file = tt;
  session = stored.session;
  version = Three;
  max_message = stored.max_message;
  index = stored.index;
  buffer = stored.buffer;
}

-- Each history is possible.
abbrev pub any_history : Unit {0} → (ℕ → List ℕ) → Type 0
any_history file history = Unit {0}

abbrev pub at_once : Unit {0} → ℕ
at_once file = 0

-- What a storage shows through the index, an indexed file shows that has the same bytes at every moment.
abbrev pub as_shows : (shows : List ℕ → Type 0) (stored : StoredState) (journal : JournalState) →
    ShowsStored shows stored journal → Shows any_history at_once (indexed_of stored) journal
as_shows shows stored journal shown = record {
  named = shown.is.named;
  limited = shown.is.limited;
  journaled = shown.is.journaled;
  indexes = shown.is.indexes;
  has = record {
    bytes = λ moment. shown.has.bytes;
    possible = tt;
    has = record { begins = λ at later. shown.has.begins };
  };
  part = shown.is.part;
}

-- A read of the storage changes nothing of what is shown.
pub still_stored : (before after : List ℕ → Type 0) (stored : StoredState) (buffer : BufferState)
    (journal : JournalState) → AreSame before after → ShowsStored before stored journal →
    IsPartOf (start_of Three journal) buffer → ShowsStored after (record stored { buffer = buffer }) journal
still_stored before after stored buffer journal same shown part = record {
  is = record {
    named = shown.is.named;
    limited = shown.is.limited;
    journaled = shown.is.journaled;
    indexes = shown.is.indexes;
    part = part;
  };
  has = record {
    bytes = shown.has.bytes;
    shown = same.1 shown.has.bytes shown.has.shown;
    begins = shown.has.begins;
  };
}

-- The index has the length of one more message.
pub of_more : (stored : StoredState) (index : IndexState) (journal : JournalState) (message : List ℕ) →
    IsOfJournal stored journal → IsJournal (appended journal message) →
    Indexes index (lengths_of journal.messages ++ length message ∷ []) →
    IsOfJournal (record stored { index = index }) (appended journal message)
of_more stored index journal message is journaled indexes =
    let those = head_spelling journal.session.0 journal.closed Three in
    let all : start_of Three (appended journal message)
    ≡ start_of Three journal ++ messages_spelling Three (message ∷ []) =
    ap (λ (t : List ℕ). those ++ t) (flat_map-append (message_spelling Three) journal.messages (message ∷ []))
    ∙ sym (append_assoc those (messages_spelling Three journal.messages)
    (messages_spelling Three (message ∷ []))) in
    record {
      named = is.named;
      limited = is.limited;
      journaled = journaled;
      indexes = subst (Indexes index)
          (sym (map-append (λ (m : List ℕ). length m) journal.messages (message ∷ []))) indexes;
      part = subst (λ (t : List ℕ). IsPartOf t stored.buffer) (sym all)
          (part_longer (start_of Three journal) (messages_spelling Three (message ∷ [])) stored.buffer is.part);
    }

-- ---- the last message

pub lengths_more : (messages : List (List ℕ)) (message : List ℕ) →
    lengths_of (messages ++ message ∷ []) ≡ lengths_of messages ++ length message ∷ []
lengths_more messages message = map-append (λ (m : List ℕ). length m) messages (message ∷ [])

each_before : (P : List ℕ → Type 0) (front behind : List (List ℕ)) → AllByRecursion P (front ++ behind) →
    AllByRecursion P front
each_before P [] behind each = tt
each_before P (x ∷ front) behind each = (each.0, each_before P front behind each.1)

-- The index without the journal's last message, and without a piece.
pub of_fewer : (stored : StoredState) (index : IndexState) (buffer : BufferState) (journal : JournalState)
    (message : List ℕ) → IsOfJournal stored (appended journal message) → Indexes index (lengths_of journal.messages) →
    buffer.bytes ≡ [] → IsOfJournal (record stored { index = index; buffer = buffer }) journal
of_fewer stored index buffer journal message is indexes none = record {
  named = is.named;
  limited = is.limited;
  journaled = record {
    few = omega (arith, is.journaled.few, length-append journal.messages (message ∷ []));
    each = each_before (IsWithinLength journal.max_message) journal.messages (message ∷ []) is.journaled.each;
  };
  indexes = indexes;
  part = part_none (start_of Three journal) buffer none;
}
