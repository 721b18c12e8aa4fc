-- What `mold pack --journal` saves and prints for its input.
use Rattle.std.specs.Prelude.{◌≡◌, ℕ, ◌+◌, true, List, [], ◌∷◌, codes, decimal, length, Option, None, Some}
use Rattle.std.specs.Prelude.{Result, Ok, Err, IfErr, IfOk, IfSome}
use Rattle.std.specs.Io.KnownBytes.{Appends}
use Rattle.mold_devices.specs.Devices.{AppendsPrefix, one_more}
use Rattle.mold_devices.specs.declared.fault.CommandFault.{CommandFault}
use Rattle.mold_devices.specs.declared.fault.CommandFault.TheVariants.{Read, Write, Memory}
use Rattle.mold_input.specs.Entries.{InputEntries}
use Rattle.mold_session.specs.File.{AppendsFile, AppendsFilePrefix}
use Rattle.mold_session.specs.Journal.{JournalState, appended}
use Rattle.mold_publish.specs.Publishing.{PublishedInput, input_published, refused_text}
use Rattle.mold_publish.specs.declared.message_refusal.MessageRefusal.{MessageRefusal}
use Rattle.mold_text.specs.Line.{line_of}
use Rattle.mold_show.specs.declared.save_outcome.SaveOutcome.{SaveOutcome}
use Rattle.mold_show.specs.declared.save_outcome.SaveOutcome.TheVariants.{Saved, Refused}

-- The line that reports an outcome: the number of saved messages, or why an entry is refused.
abbrev pub outcome_line : SaveOutcome → List ℕ
outcome_line (Saved messages) = line_of (codes "saved" ∷ decimal messages ∷ [])
outcome_line (Refused number refusal) = refused_text number refusal

-- The status of an outcome: 0 if the journal was saved, 2 if an entry is refused.
abbrev pub outcome_status : SaveOutcome → ℕ
outcome_status (Saved messages) = 0
outcome_status (Refused number refusal) = 2

-- The outcome for a journal with the messages before the first refused entry, if an entry is refused.
abbrev pub outcome_of : JournalState → Option MessageRefusal → SaveOutcome
outcome_of journal None = Saved (length journal.messages)
outcome_of journal (Some refusal) = Refused (length journal.messages + 1) refusal

-- The file of the journal, closed, was written to the sink. If an entry is refused, the sink is unchanged.
abbrev pub SavesUnless : {J : Type 0} → (J → Option (List ℕ)) → J → J → JournalState → Option MessageRefusal → Type 0
SavesUnless held old new journal None = AppendsFile (held old) (held new) journal.session journal.messages true
SavesUnless held old new journal (Some refusal) = new ≡ old

-- An input was published in the journal `start`, and the journal is saved unless an entry is refused. The input is
-- `known`, if that is known.
pub record SavesInput {J : Type 0} (start : JournalState) (known : Option InputEntries) (held : J → Option (List ℕ))
    (old new : J) (outcome : SaveOutcome) : Type 0 where
  pub published : PublishedInput
  pub input : IfSome known (λ entries. input_published start entries ≡ published)
  pub ends : outcome ≡ outcome_of published.journal published.refused
  pub saved : SavesUnless held old new published.journal published.refused

-- No entry of the input is refused, and a prefix of the file of the journal, closed, was written.
pub record BeginsFile {J : Type 0} (start : JournalState) (known : Option InputEntries) (held : J → Option (List ℕ))
    (old new : J) : Type 0 where
  pub journal : JournalState
  pub input :
      IfSome known (λ entries. input_published start entries ≡ record { journal = journal; refused = None })
  pub begun : AppendsFilePrefix (held old) (held new) journal.session journal.messages true

-- What a fault leaves of the file. After `Write`, a prefix of it is written. Any other fault leaves the sink unchanged.
abbrev pub FailsToSave : {J : Type 0} → JournalState → Option InputEntries → (J → Option (List ℕ)) → J → J →
    CommandFault → Type 0
FailsToSave start known held old new Write = BeginsFile start known held old new
FailsToSave start known held old new _ = new ≡ old

-- Which count of failures a fault raises by one: the source's with `Read`, the sink's with `Write`, none with `Memory`.
abbrev pub CountsSaveFault : ℕ → ℕ → ℕ → ℕ → CommandFault → Type 0
CountsSaveFault source_old source_new sink_old sink_new Read =
    (source_new ≡ one_more source_old) × (sink_new ≡ sink_old)
CountsSaveFault source_old source_new sink_old sink_new Write =
    (source_new ≡ source_old) × (sink_new ≡ one_more sink_old)
CountsSaveFault source_old source_new sink_old sink_new Memory =
    (source_new ≡ source_old) × (sink_new ≡ sink_old)

-- Which count of failures rises: none after a success.
abbrev pub CountsSaving : {T : Type 0} → ℕ → ℕ → ℕ → ℕ → Result T CommandFault → Type 0
CountsSaving source_old source_new sink_old sink_new (Ok _) = (source_new ≡ source_old) × (sink_new ≡ sink_old)
CountsSaving source_old source_new sink_old sink_new (Err fault) =
    CountsSaveFault source_old source_new sink_old sink_new fault

-- The journal of an input is read and saved with this outcome, or reading or saving fails. `known` is the input.
-- `read_before` and `read_after` are the source's counts of failures. `old` and `new` are the sink of the file.
pub record EndsSaving {J : Type 0} (start : JournalState) (known : Option InputEntries) (read_before read_after : ℕ)
    (held : J → Option (List ℕ)) (failed : J → ℕ) (old new : J) (outcome : Result SaveOutcome CommandFault) :
    Type 0 where
  pub whole : IfOk outcome (SavesInput start known held old new)
  pub fails : IfErr outcome (FailsToSave start known held old new)
  pub counts : CountsSaving read_before read_after (failed old) (failed new) outcome

-- How the command ends that prints the line of an outcome. On success the line is written and its status returned. After
-- `Write` the sink has failed, and a prefix of the line is written. After `Memory` nothing is written.
abbrev pub PrintsLine : {K : Type 0} → (K → Option (List ℕ)) → (K → ℕ) → K → K → SaveOutcome → Result ℕ CommandFault →
    Type 0
PrintsLine held failed old new outcome (Ok status) =
    (status ≡ outcome_status outcome) × Appends (held old) (held new) (outcome_line outcome)
    × (failed new ≡ failed old)
PrintsLine held failed old new outcome (Err Write) =
    AppendsPrefix (held old) (held new) (outcome_line outcome) × (failed new ≡ one_more (failed old))
PrintsLine held failed old new outcome (Err Memory) = new ≡ old
PrintsLine held failed old new outcome (Err Read) = ⊥

-- How the command ends after reading and saving ended like this. A fault is returned, and nothing is printed.
abbrev pub PrintsSaved : {K : Type 0} → (K → Option (List ℕ)) → (K → ℕ) → K → K → Result SaveOutcome CommandFault →
    Result ℕ CommandFault → Type 0
PrintsSaved held failed old new (Ok outcome) result = PrintsLine held failed old new outcome result
PrintsSaved held failed old new (Err fault) result = (result ≡ Err fault) × (new ≡ old)

-- A message was appended as an entry of this outcome, or the entry is refused for this reason and the journal is
-- unchanged.
abbrev pub AppendsEntry : JournalState → JournalState → Result (List ℕ) MessageRefusal → Option MessageRefusal → Type 0
AppendsEntry old new outcome None = (message : List ℕ) × ((outcome ≡ Ok message) × (new ≡ appended old message))
AppendsEntry old new outcome (Some refusal) = (outcome ≡ Err refusal) × (new ≡ old)
