-- The index of a publisher's messages.
use Rattle.std.proofs.Common.{ℕ, List, [], ◌∷◌, ◌++◌, length, sym, subst}
use Rattle.mold_session.specs.Journal.{IsJournal, JournalState, appended}
use Rattle.mold_session.specs.declared.file_version.FileVersion.TheVariants.{Three}
use Rattle.mold_index.specs.Index.{IndexState, Indexes}
use Rattle.mold_index.specs.Layouts.{lengths_of}
use Rattle.mold_indexed_file.specs.Shown.{IsPartOf, start_of}
use Rattle.mold_indexed_file.specs.Stored.{IsOfJournal, StoredState}
use Rattle.mold_indexed_file.proofs.StoredLemmas.{lengths_more, of_more}
use Rattle.mold_durable_publisher.specs.DurablePublisher.{HasIndex}

-- The length of the message was added to the index.
abbrev pub AddsLength : IndexState → IndexState → List ℕ → Type 0
AddsLength old new message =
    (lengths : List ℕ) → Indexes old lengths → Indexes new (lengths ++ length message ∷ [])

pub of_index : (index : StoredState) (journal : JournalState) → IsOfJournal index journal → HasIndex index journal
of_index index journal is =
    record { named = is.named; limited = is.limited; journaled = is.journaled; indexes = is.indexes }

pub is_of_journal : (index : StoredState) (journal : JournalState) → HasIndex index journal →
    IsPartOf (start_of Three journal) index.buffer → IsOfJournal index journal
is_of_journal index journal is part = record {
  named = is.named;
  limited = is.limited;
  journaled = is.journaled;
  indexes = is.indexes;
  part = part;
}

pub index_more : (old : StoredState) (index : IndexState) (journal : JournalState) (message : List ℕ) →
    HasIndex old journal → IsJournal (appended journal message) → AddsLength old.index index message →
    HasIndex (record old { index = index }) (appended journal message)
index_more old index journal message is journaled adds = record {
  named = is.named;
  limited = is.limited;
  journaled = journaled;
  indexes = subst (Indexes index) (sym (lengths_more journal.messages message))
      (adds (lengths_of journal.messages) is.indexes);
}

pub part_more : (old : StoredState) (index : IndexState) (journal : JournalState) (message : List ℕ) →
    HasIndex old journal → IsPartOf (start_of Three journal) old.buffer → IsJournal (appended journal message) →
    AddsLength old.index index message → IsPartOf (start_of Three (appended journal message)) old.buffer
part_more old index journal message is part journaled adds =
    (of_more old index journal message (is_of_journal old journal is part) journaled
    (adds (lengths_of journal.messages) is.indexes)).part
