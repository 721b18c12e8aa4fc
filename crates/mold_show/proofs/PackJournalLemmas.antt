-- What `mold pack --journal` makes of its input.
use Rattle.std.proofs.Common.{arith, ◌≡◌, ◌∙◌, ℕ, ◌+◌, ◌-◌, true, List, [], ◌∷◌, length, Option, None, Some, Result, Ok, Err}
use Rattle.std.proofs.Common.{ap, refl, subst, sym}
use Rattle.std.specs.Prelude.{IfSome}
use Rattle.std.specs.Io.KnownBytes.{prepend_known}
use Rattle.std.proofs.KnownBytes.{prepend_known-nil}
use Rattle.mold_input.specs.Entries.{Entry, GivesNext, InputEntries, known_input, with_kind}
use Rattle.mold_input.specs.declared.input_fault.InputFault.{InputFault}
use Rattle.mold_input.specs.declared.input_kind.InputKind.{InputKind}
use Rattle.mold_input.specs.declared.next.Next.TheVariants as next
use Rattle.mold_session.specs.File.{AppendsFile}
use Rattle.mold_session.specs.Journal.{JournalState, appended}
use Rattle.mold_publish.specs.Publishing.{InputPublished, entries_published, entry_outcome}
use Rattle.mold_publish.specs.Publishing.{fault_refusal, input_published, published_from}
use Rattle.mold_publish.specs.declared.filling.Filled.TheVariants.{Full}
use Rattle.mold_publish.specs.declared.message_refusal.MessageRefusal.{MessageRefusal}
use Rattle.mold_show.specs.PackJournal.{AppendsEntry, SavesInput}
use Rattle.mold_show.specs.declared.save_outcome.SaveOutcome.TheVariants.{Saved, Refused}

-- The messages of the input `known` before its rest `left` were appended.
abbrev pub SoFar : JournalState → JournalState → Option InputEntries → Option InputEntries → Type 0
SoFar old new known left = InputPublished old new known left Full

-- The messages of the input were appended, up to the end or to an entry that is refused.
abbrev pub IsAppended : JournalState → JournalState → Option InputEntries → Option MessageRefusal → Type 0
IsAppended old new known refused =
    IfSome known (λ input. input_published old input ≡ record { journal = new; refused = refused })

none_appended : (journal : JournalState) (known : Option InputEntries) → SoFar journal journal known known
none_appended journal None = tt
none_appended journal (Some input) = refl

pub begun : (kind : InputKind) (entries : List ℕ → List Entry) (journal : JournalState) (known : Option (List ℕ))
    (unread : List ℕ) → unread ≡ [] →
    SoFar journal journal (known_input kind entries known) (known_input kind entries (prepend_known unread known))
begun kind entries journal known unread empty =
    subst (λ (left : Option (List ℕ)). SoFar journal journal (known_input kind entries known) (known_input kind entries left))
    (sym (ap (λ (bytes : List ℕ). prepend_known bytes known) empty ∙ prepend_known-nil known))
    (none_appended journal (known_input kind entries known))

module _ (kind : InputKind) where
  first_taken : (journal : JournalState) (entry : Entry) (entries : List Entry) (message : List ℕ) →
      entry_outcome kind journal entry ≡ Ok message →
      entries_published kind journal (entry ∷ entries) ≡ entries_published kind (appended journal message) entries
  unfolding entries_published
  first_taken journal entry entries message is =
      ap (λ (r : Result (List ℕ) MessageRefusal).
      published_from journal r (λ next. entries_published kind next entries)) is

  first_refused : (journal : JournalState) (entry : Entry) (entries : List Entry) (refusal : MessageRefusal) →
      entry_outcome kind journal entry ≡ Err refusal →
      entries_published kind journal (entry ∷ entries) ≡ record { journal = journal; refused = Some refusal }
  unfolding entries_published
  first_refused journal entry entries refusal is =
      ap (λ (r : Result (List ℕ) MessageRefusal).
      published_from journal r (λ next. entries_published kind next entries)) is

  none_left : (journal : JournalState) →
      entries_published kind journal [] ≡ record { journal = journal; refused = None }
  unfolding entries_published
  none_left journal = refl

  -- one more message
  pub one_more_appended : (old before after : JournalState) (known left behind : Option (List Entry))
      (found message : List ℕ) → SoFar old before (with_kind kind known) (with_kind kind left) →
      GivesNext left behind next.Message found → message ≡ found →
      AppendsEntry before after (entry_outcome kind before (Ok message)) None →
      SoFar old after (with_kind kind known) (with_kind kind behind)
  one_more_appended old before after None left behind found message so_far gives is taken = tt
  one_more_appended old before after (Some all) None behind found message so_far gives is taken = absurd so_far
  one_more_appended old before after (Some all) (Some xs) None found message so_far gives is taken = absurd gives
  one_more_appended old before after (Some all) (Some xs) (Some ys) found message so_far gives is taken =
      so_far
      ∙ ap (entries_published kind before) gives
      ∙ first_taken before (Ok found) ys taken.0
      (ap (λ (m : List ℕ). entry_outcome kind before (Ok m)) (sym is) ∙ taken.1.0)
      ∙ ap (λ (j : JournalState). entries_published kind j ys) (sym taken.1.1)

  -- no entry remains
  pub all_appended : (old now : JournalState) (known left behind : Option (List Entry)) (found : List ℕ) →
      SoFar old now (with_kind kind known) (with_kind kind left) → GivesNext left behind next.End found →
      IsAppended old now (with_kind kind known) None
  all_appended old now None left behind found so_far gives = tt
  all_appended old now (Some all) None behind found so_far gives = absurd so_far
  all_appended old now (Some all) (Some xs) None found so_far gives = absurd gives
  all_appended old now (Some all) (Some xs) (Some ys) found so_far gives =
      so_far ∙ ap (λ (es : List Entry). entries_published kind now es) gives ∙ none_left now

  -- an entry is not a message
  pub not_appended : (old now : JournalState) (known left behind : Option (List Entry)) (found : List ℕ)
      (why : InputFault) → SoFar old now (with_kind kind known) (with_kind kind left) →
      GivesNext left behind (next.Fault why) found →
      IsAppended old now (with_kind kind known) (Some (record { kind = kind; why = fault_refusal why now.closed }))
  not_appended old now None left behind found why so_far gives = tt
  not_appended old now (Some all) None behind found why so_far gives = absurd so_far
  not_appended old now (Some all) (Some xs) None found why so_far gives = absurd gives
  not_appended old now (Some all) (Some xs) (Some ys) found why so_far gives =
      so_far ∙ ap (entries_published kind now) gives ∙ first_refused now (Err why) ys _ refl

  -- a message is refused
  pub refused_appended : (old before after : JournalState) (known left behind : Option (List Entry))
      (found message : List ℕ) (refusal : MessageRefusal) →
      SoFar old before (with_kind kind known) (with_kind kind left) → GivesNext left behind next.Message found →
      message ≡ found → AppendsEntry before after (entry_outcome kind before (Ok message)) (Some refusal) →
      IsAppended old after (with_kind kind known) (Some refusal)
  refused_appended old before after None left behind found message refusal so_far gives is refused = tt
  refused_appended old before after (Some all) None behind found message refusal so_far gives is refused = absurd so_far
  refused_appended old before after (Some all) (Some xs) None found message refusal so_far gives is refused =
      absurd gives
  refused_appended old before after (Some all) (Some xs) (Some ys) found message refusal so_far gives is refused =
      so_far
      ∙ ap (entries_published kind before) gives
      ∙ first_refused before (Ok found) ys refusal
      (ap (λ (m : List ℕ). entry_outcome kind before (Ok m)) (sym is) ∙ refused.0)
      ∙ ap (λ (j : JournalState). record { journal = j; refused = Some refusal }) (sym refused.1)

-- An entry is refused, and nothing is saved.
pub saved_nothing : {J : Type 0} (start journal : JournalState) (known : Option InputEntries)
    (held : J → Option (List ℕ)) (file : J) (number : ℕ) (refusal : MessageRefusal) →
    IsAppended start journal known (Some refusal) → number ≡ length journal.messages + 1 →
    SavesInput start known held file file (Refused number refusal)
saved_nothing start journal known held file number refusal appended numbered = record {
  published = record { journal = journal; refused = Some refusal };
  input = appended;
  ends = ap (λ (n : ℕ). Refused n refusal) numbered;
  saved = refl;
}

-- No entry is refused, and the journal is saved after it was closed.
pub saved_all : {J : Type 0} (start journal after : JournalState) (known : Option InputEntries)
    (held : J → Option (List ℕ)) (old new : J) (next : ℕ) → IsAppended start journal known None →
    after ≡ record journal { closed = true } → next ≡ length after.messages + 1 →
    AppendsFile (held old) (held new) journal.session journal.messages true →
    SavesInput start known held old new (Saved (next - 1))
saved_all start journal after known held old new next appended shut counted saved =
    let many = ap (λ (j : JournalState). length j.messages) shut in
    let same : next - 1 ≡ length journal.messages = omega (arith, counted, many) in
    record {
      published = record { journal = journal; refused = None };
      input = appended;
      ends = ap (λ (n : ℕ). Saved n) same;
      saved = saved;
    }
