-- The files of version 3: bytes are the file of at most one journal, and such a file has no fault.
use Rattle.std.proofs.Common.{◌≡◌, ℕ, ◌≤◌, Bool, List, ◌++◌, length, take, refl, sym, subst, ◌∙◌, append_assoc}
use Rattle.std.proofs.Common.{inl, inr, arith}
use Rattle.std.specs.List.{AllByRecursion}
use Rattle.mold_wire.specs.Block.{blocks}
use Rattle.mold_wire.specs.declared.session.Session.{Session}
use Rattle.mold_session.specs.File.{SpellsJournal, SpellsJournal2}
use Rattle.mold_session.specs.FileFault.{IsBody3, FaultInBlocks, FaultInRecords, JournalFault}
use Rattle.mold_session.specs.Journal.{IsWithin}
use Rattle.mold_session.specs.Loading.{SpellsFile}
use Rattle.mold_session.specs.Records.{magic_3, records, EndsRecords, SpellsJournal3}
use Rattle.mold_session.specs.declared.error.FileError.{FileError}
use Rattle.mold_session.specs.declared.error.FileError.TheVariants.{TooLong, Memory, BadMagic, Short, BlockCut, Read, Write, Full, CountDiffers, BadFlag, Damaged}
use Rattle.mold_session.specs.declared.file_version.FileVersion.{FileVersion}
use Rattle.mold_session.specs.declared.file_version.FileVersion.TheVariants.{One, Two, Three}
use Rattle.mold_session.specs.declared.loading.FileHead.{FileHead}
use Rattle.mold_session.proofs.FileLawLemmas.{as_session, one_journal, one_journal_2, one_version, session_at}
use Rattle.mold_session.proofs.HeadLemmas.{length-magic_3, magic_1_or_3, magic_2_or_3, behind_1, behind_2, behind_3}
use Rattle.mold_session.proofs.RecordLemmas.{SameRecords, last_ends, no_record_fault, one_end, same_records}

-- The bytes after the head.
pub body_3 : (session : Session) (messages : List (List ℕ)) (closed : Bool) (bytes : List ℕ)
    (spelled : SpellsJournal3 session messages closed bytes) → IsBody3 bytes (records messages ++ spelled.rest)
body_3 session messages closed bytes spelled =
    behind_3 session.0 bytes (records messages ++ spelled.rest) spelled.named spelled.spelled

-- Only a file of version 1 or 2 has a fault in its blocks.
pub no_blocks : (most : ℕ) (bytes : List ℕ) (error : FileError) → take 8 bytes ≡ magic_3 → FaultInBlocks most bytes error → ⊥
no_blocks most bytes error is fault =
    elim fault.1 [
      | inl behind ↦ magic_1_or_3 (sym behind.magic ∙ is)
      | inr behind ↦ magic_2_or_3 (sym behind.magic ∙ is)
    ]

module _ (most : ℕ) (session : Session) (messages : List (List ℕ)) (closed : Bool) (bytes : List ℕ) (bound : most ≤ 65535)
    (spelled : SpellsJournal3 session messages closed bytes) (each : AllByRecursion (IsWithin most) messages) where
  head : IsBody3 bytes (records messages ++ spelled.rest)
  head = body_3 session messages closed bytes spelled

  in_records : (error : FileError) → FaultInRecords most bytes error → ⊥
  in_records error fault =
      no_record_fault most fault.0 messages spelled.rest closed error bound (record {
        listed = record { few = spelled.listed.few; each = each };
        parts = fault.1.from ∙ sym head.from;
      }) spelled.ends fault.2

  -- The file of a journal has no fault: version 3.
  pub no_fault_3 : (error : FileError) → JournalFault most bytes error → ⊥
  no_fault_3 (Short len) fault =
      elim fault.1 [
        | inl short ↦ absurd (omega (arith, short, head.whole))
        | inr short ↦ magic_2_or_3 (sym short.0 ∙ head.magic)
      ]
  no_fault_3 BadMagic fault = fault.3 head.magic
  no_fault_3 (BadFlag byte) fault = magic_2_or_3 (sym fault.0 ∙ head.magic)
  no_fault_3 (CountDiffers count found) fault = magic_2_or_3 (sym fault.head.magic ∙ head.magic)
  no_fault_3 Full (inl fault) = no_blocks most bytes Full head.magic fault
  no_fault_3 Full (inr fault) = in_records Full fault
  no_fault_3 (TooLong len) (inl fault) = no_blocks most bytes (TooLong len) head.magic fault
  no_fault_3 (TooLong len) (inr fault) = in_records (TooLong len) fault
  no_fault_3 (BlockCut number) fault = no_blocks most bytes (BlockCut number) head.magic fault
  no_fault_3 (Damaged number) fault = in_records (Damaged number) fault
  no_fault_3 Read fault = fault
  no_fault_3 Memory fault = fault
  no_fault_3 Write fault = fault

pub no_fault_of_3 : (most : ℕ) (session : Session) (messages : List (List ℕ)) (closed : Bool) (bytes : List ℕ)
    (error : FileError) → most ≤ 65535 → SpellsJournal3 session messages closed bytes →
    AllByRecursion (IsWithin most) messages → JournalFault most bytes error → ⊥
no_fault_of_3 most session messages closed bytes error bound spelled each fault =
    no_fault_3 most session messages closed bytes bound spelled each error fault

-- No bytes are files of version 3 and of another version.
pub one_version_1 : (one other : Session) (messages others : List (List ℕ)) (closed : Bool) (bytes : List ℕ) →
    SpellsJournal one messages bytes → SpellsJournal3 other others closed bytes → ⊥
one_version_1 one other messages others closed bytes first second = magic_1_or_3 (
    sym (behind_1 one.0 bytes (blocks messages) first.named first.spelled).magic
    ∙ (body_3 other others closed bytes second).magic
    )

pub one_version_2 : (one other : Session) (messages others : List (List ℕ)) (closed shut : Bool) (bytes : List ℕ) →
    SpellsJournal2 one messages closed bytes → SpellsJournal3 other others shut bytes → ⊥
one_version_2 one other messages others closed shut bytes first second = magic_2_or_3 (
    sym (behind_2 one.0 bytes (blocks messages) closed (length messages) first.named first.spelled).magic
    ∙ (body_3 other others shut bytes second).magic
    )

-- Two journals with the same file of version 3 are equal.
pub one_journal_3 : (one other : Session) (messages others : List (List ℕ)) (closed shut : Bool) (bytes : List ℕ) →
    SpellsJournal3 one messages closed bytes → SpellsJournal3 other others shut bytes →
    (one ≡ other) × (messages ≡ others) × (closed ≡ shut)
one_journal_3 one other messages others closed shut bytes first second =
    let behind = records messages ++ first.rest in
    let after = records others ++ second.rest in
    let same : behind ≡ after =
    (body_3 one messages closed bytes first).from ∙ sym (body_3 other others shut bytes second).from
    in
    let found : SameRecords messages others first.rest second.rest =
    same_records 65535 behind messages others first.rest second.rest (omega arith)
    (record { listed = first.listed; parts = refl })
    (record { listed = second.listed; parts = same })
    (last_ends 65535 (length messages) closed first.rest first.ends)
    (last_ends 65535 (length others) shut second.rest second.ends)
    in (
      as_session one other (
          session_at one.0 bytes behind magic_3 length-magic_3 first.named
          (first.spelled ∙ append_assoc magic_3 one.0 behind)
          ∙ sym (session_at other.0 bytes after magic_3 length-magic_3 second.named
          (second.spelled ∙ append_assoc magic_3 other.0 after))
          ),
      found.messages,
      one_end first.rest closed shut first.ends (subst (EndsRecords shut) (sym found.rests) second.ends),
    )

-- Two journals with the same file are equal.
spelled_once : (head other : FileHead) (version also : FileVersion) (messages others : List (List ℕ)) (bytes : List ℕ) →
    SpellsFile head messages version bytes → SpellsFile other others also bytes →
    (head.session ≡ other.session) × (messages ≡ others) × (head.closed ≡ other.closed)
spelled_once head other One One messages others bytes first second =
    let same = one_journal head.session other.session messages others bytes first.1 second.1 in
    (same.0, same.1, first.0 ∙ sym second.0)
spelled_once head other One (Two count) messages others bytes first second =
    absurd (one_version head.session other.session messages others other.closed bytes first.1 second)
spelled_once head other One Three messages others bytes first second =
    absurd (one_version_1 head.session other.session messages others other.closed bytes first.1 second)
spelled_once head other (Two count) One messages others bytes first second =
    absurd (one_version other.session head.session others messages head.closed bytes second.1 first)
spelled_once head other (Two count) (Two found) messages others bytes first second =
    one_journal_2 head.session other.session messages others head.closed other.closed bytes first second
spelled_once head other (Two count) Three messages others bytes first second =
    absurd (one_version_2 head.session other.session messages others head.closed other.closed bytes first second)
spelled_once head other Three One messages others bytes first second =
    absurd (one_version_1 other.session head.session others messages head.closed bytes second.1 first)
spelled_once head other Three (Two count) messages others bytes first second =
    absurd (one_version_2 other.session head.session others messages other.closed head.closed bytes second first)
spelled_once head other Three Three messages others bytes first second =
    one_journal_3 head.session other.session messages others head.closed other.closed bytes first second

pub one_file : (head other : FileHead) (messages others : List (List ℕ)) (bytes : List ℕ) →
    SpellsFile head messages head.version bytes → SpellsFile other others other.version bytes →
    (head.session ≡ other.session) × (messages ≡ others) × (head.closed ≡ other.closed)
one_file head other messages others bytes first second =
    spelled_once head other head.version other.version messages others bytes first second

pub ruleset one_record_reading = (one_journal_3, one_version_1, one_version_2, no_fault_of_3, one_file)
