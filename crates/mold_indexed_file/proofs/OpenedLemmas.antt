-- An opened file shows the journal of its bytes.
use Rattle.std.proofs.Common.{◌≡◌, ◌⊎◌, inl, inr, ℕ, Bool, false, List, [], length, sym, ap, subst, ◌∙◌}
use Rattle.std.specs.Prelude.{IfSome, Option, Some}
use Rattle.mold_wire.specs.declared.session.Session.{Session}
use Rattle.mold_session.specs.File.{SpellsJournal, SpellsJournal2}
use Rattle.mold_session.specs.Journal.{JournalState}
use Rattle.mold_session.specs.Loading.{SpellsFile, stated_count}
use Rattle.mold_session.specs.Records.{SpellsJournal3}
use Rattle.mold_session.specs.declared.file_version.FileVersion.{FileVersion}
use Rattle.mold_session.specs.declared.file_version.FileVersion.TheVariants.{One, Two, Three}
use Rattle.mold_session.specs.declared.loading.FileHead.{FileHead}
use Rattle.mold_session.proofs.RecordLawLemmas.{one_file}
use Rattle.mold_index.specs.Index.{IndexState, Indexes}
use Rattle.mold_index.specs.Layouts.{lengths_of}
use Rattle.mold_indexed_file.specs.Opened.{IsIndexOf, IsLoaded, IsOpened}
use Rattle.mold_indexed_file.specs.Shown.{HasSince, IndexedState, IsInFile, Shows, start_of}
use Rattle.mold_indexed_file.proofs.FileLemmas.{has_first, has_second, has_third}
use Rattle.mold_indexed_file.proofs.OpeningLemmas.{in_known}
use Rattle.mold_indexed_file.proofs.ShownLemmas.{part_none}

-- The bytes are the file of the journal in one of the versions.
record IsSpelled (bytes : List ℕ) (journal : JournalState) : Type 0 where
  pub version : FileVersion
  pub spelled : SpellsFile (record { session = journal.session; closed = journal.closed; version = version })
      journal.messages version bytes

in_version : (bytes : List ℕ) (journal : JournalState) →
    ((journal.closed ≡ false) × SpellsJournal journal.session journal.messages bytes)
    ⊎ (SpellsJournal2 journal.session journal.messages journal.closed bytes
    ⊎ SpellsJournal3 journal.session journal.messages journal.closed bytes) → IsSpelled bytes journal
in_version bytes journal (inl spelled) = record { version = One; spelled = spelled }
in_version bytes journal (inr (inl spelled)) = record { version = Two (length journal.messages); spelled = spelled }
in_version bytes journal (inr (inr spelled)) = record { version = Three; spelled = spelled }

-- A file has its journal, at all moments.
has_file : (version : FileVersion) (journal : JournalState) (bytes : List ℕ) (since : ℕ) →
    stated_count version (length journal.messages) ≡ length journal.messages →
    SpellsFile (record { session = journal.session; closed = journal.closed; version = version }) journal.messages
    version bytes → HasSince (λ moment. bytes) since version journal
has_file One journal bytes since stated spelled = has_first journal bytes since spelled.1
has_file (Two count) journal bytes since stated spelled =
    subst (λ (n : ℕ). HasSince (λ moment. bytes) since (Two n) journal) (sym stated)
    (has_second journal bytes since spelled)
has_file Three journal bytes since stated spelled = has_third journal bytes since spelled

-- The file shows its journal if one of its histories has it.
in_file_shows : {F : Type 0} (history : F → (ℕ → List ℕ) → Type 0) (moment : F → ℕ) (indexed : IndexedState F)
    (most : ℕ) (bytes : List ℕ) (journal : JournalState) → indexed.max_message ≡ most → indexed.buffer.bytes ≡ [] →
    IsOpened most bytes indexed → IsLoaded most bytes journal →
    IsInFile history moment indexed.file indexed.version journal → Shows history moment indexed journal
in_file_shows history moment indexed most bytes journal limited none opened loaded has =
    let is = opened.is in
    let version = indexed.version in
    let spelled = in_version bytes journal loaded.spelled in
    let same = one_file (record { session = indexed.session; closed = opened.closed; version = version })
    (record { session = journal.session; closed = journal.closed; version = spelled.version }) is.messages
    journal.messages bytes is.spelled spelled.spelled in
    record {
      named = same.0;
      limited = limited ∙ sym loaded.limited;
      journaled = loaded.journaled;
      indexes = subst (λ (m : List (List ℕ)). Indexes indexed.index (lengths_of m)) same.1 is.indexes;
      has = has;
      part = part_none (start_of version journal) indexed.buffer none;
    }

-- A file that never changes has its journal.
finished : {F : Type 0} (history : F → (ℕ → List ℕ) → Type 0) (moment : F → ℕ) (indexed : IndexedState F)
    (most : ℕ) (bytes : List ℕ) (journal : JournalState) → IsOpened most bytes indexed → IsLoaded most bytes journal →
    history indexed.file (λ moment. bytes) → IsInFile history moment indexed.file indexed.version journal
finished history moment indexed most bytes journal opened loaded possible =
    let is = opened.is in
    let version = indexed.version in
    let made : Session → Bool → FileHead = λ session closed. record {
      session = session;
      closed = closed;
      version = version;
    } in
    let spelled = in_version bytes journal loaded.spelled in
    let same = one_file (made indexed.session opened.closed)
    (record { session = journal.session; closed = journal.closed; version = spelled.version }) is.messages
    journal.messages bytes is.spelled spelled.spelled in
    let of_messages : SpellsFile (made indexed.session opened.closed) journal.messages version bytes =
    subst (λ (m : List (List ℕ)). SpellsFile (made indexed.session opened.closed) m version bytes) same.1 is.spelled in
    let of_session : SpellsFile (made journal.session opened.closed) journal.messages version bytes =
    subst (λ (s : Session). SpellsFile (made s opened.closed) journal.messages version bytes) same.0 of_messages in
    let of_journal : SpellsFile (made journal.session journal.closed) journal.messages version bytes =
    subst (λ (c : Bool). SpellsFile (made journal.session c) journal.messages version bytes) same.2 of_session in
    let stated : stated_count version (length journal.messages) ≡ length journal.messages =
    subst (λ (m : List (List ℕ)). stated_count version (length m) ≡ length m) same.1 is.stated in
    record {
      bytes = λ moment. bytes;
      possible = possible;
      has = has_file version journal bytes (moment indexed.file) stated of_journal;
    }

-- The file has the session, the version and the index of what was read.
opened_of : {F : Type 0} (indexed : IndexedState F) (file : F) (most : ℕ) (bytes : List ℕ) (head : FileHead)
    (index : IndexState) →
    indexed ≡ record {
      file = file;
      session = head.session;
      version = head.version;
      max_message = most;
      index = index;
      buffer = indexed.buffer;
    } →
    IsIndexOf most bytes head index → IsOpened most bytes indexed
opened_of {F = F} indexed file most bytes head index made is = record {
  closed = head.closed;
  is = subst
      (λ (s : IndexedState F).
      IsIndexOf most bytes (record { session = s.session; closed = head.closed; version = s.version }) s.index)
      (sym made) is;
}

pub opened_all : {F : Type 0} (indexed : IndexedState F) (file : F) (most : ℕ) (known : Option (List ℕ))
    (head : FileHead) (index : IndexState) →
    indexed ≡ record {
      file = file;
      session = head.session;
      version = head.version;
      max_message = most;
      index = index;
      buffer = indexed.buffer;
    } →
    IfSome known (λ bytes. IsIndexOf most bytes head index) → IfSome known (λ bytes. IsOpened most bytes indexed)
opened_all indexed file most known head index made is =
    in_known known (λ bytes. IsIndexOf most bytes head index) (λ bytes. IsOpened most bytes indexed)
    (λ bytes. opened_of indexed file most bytes head index made) is

pub opened_shows : {F : Type 0} (history : F → (ℕ → List ℕ) → Type 0) (moment : F → ℕ) (indexed : IndexedState F)
    (file : F) (most : ℕ) (known : Option (List ℕ)) (head : FileHead) (index : IndexState) (bytes : List ℕ)
    (journal : JournalState) →
    indexed ≡ record {
      file = file;
      session = head.session;
      version = head.version;
      max_message = most;
      index = index;
      buffer = indexed.buffer;
    } →
    indexed.buffer.bytes ≡ [] → IfSome known (λ those. IsIndexOf most those head index) → known ≡ Some bytes →
    IsLoaded most bytes journal →
    (history file (λ moment. bytes)) ⊎ IsInFile history moment file indexed.version journal →
    Shows history moment indexed journal
opened_shows {F = F} history moment indexed file most known head index bytes journal made none is same loaded has =
    let opened : IsOpened most bytes indexed =
    subst (λ (k : Option (List ℕ)). IfSome k (λ those. IsOpened most those indexed)) same
    (opened_all indexed file most known head index made is) in
    let limited : indexed.max_message ≡ most = ap (λ (s : IndexedState F). s.max_message) made in
    let at : file ≡ indexed.file = sym (ap (λ (s : IndexedState F). s.file) made) in
    in_file_shows history moment indexed most bytes journal limited none opened loaded
    (elim has [
      | inl possible ↦
          finished history moment indexed most bytes journal opened loaded
          (subst (λ (f : F). history f (λ moment. bytes)) at possible)
      | inr there ↦ subst (λ (f : F). IsInFile history moment f indexed.version journal) at there
    ])
