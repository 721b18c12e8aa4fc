-- A whole file, put together from its parts.
use Rattle.std.proofs.Common.{◌≡◌, ℕ, ◌⊎◌, Bool, true, false, true≢false, List, [], ◌++◌, length, Option, None, Some}
use Rattle.std.proofs.Common.{refl, sym, ap, subst, ◌∙◌, append_assoc, append-nil, inl, inr, Result, Err}
use Rattle.std.specs.Prelude.{IfSome, IfErr, if◌then◌else◌}
use Rattle.std.specs.Io.KnownBytes.{Consumes, prepend_known}
use Rattle.std.proofs.KnownBytes.{prepend_known-nil}
use Rattle.mold_wire.specs.Block.{blocks}
use Rattle.mold_session.specs.File.{AppendsFilePrefix}
use Rattle.mold_session.specs.FileFault.{IsBody1, IsBody2, IsBody3, BlocksFault, IsMiscounted, JournalFault, RecordsFault}
use Rattle.mold_session.specs.Journal.{AreMessages}
use Rattle.mold_session.specs.Loading.{head_spelling, has_records, messages_spelling, stated_count, version_number}
use Rattle.mold_session.specs.Loading.{AreRecords, IsStated, ReadsHead, SpellsFile, Refuses}
use Rattle.mold_session.specs.Reader.{CountFault, EndsFile, head_at_end}
use Rattle.mold_session.specs.Records.{head_3, records, EndsRecords}
use Rattle.mold_session.specs.Upgrading.{SpellsVersion, BeginsUpgrade}
use Rattle.mold_session.specs.declared.error.FileError.{FileError}
use Rattle.mold_session.specs.declared.error.FileError.TheVariants.{TooLong, Memory, BadMagic, Short, BlockCut, Read, Write, Full, CountDiffers, BadFlag, Damaged}
use Rattle.mold_session.specs.declared.file_version.FileVersion.{FileVersion}
use Rattle.mold_session.specs.declared.file_version.FileVersion.TheVariants.{One, Two, Three}
use Rattle.mold_session.specs.declared.loading.FileHead.{FileHead}
use Rattle.mold_session.proofs.HeadLemmas.{behind_1, behind_2, behind_3, count_at, refused_behind}

-- The messages and the head of a version with blocks, and of the one with records.
pub as_blocks : (version : FileVersion) (messages : List (List ℕ)) → has_records version ≡ false →
    messages_spelling version messages ≡ blocks messages
as_blocks One messages plain = refl
as_blocks (Two count) messages plain = refl
as_blocks Three messages plain = absurd (true≢false plain)

pub as_records : (version : FileVersion) (messages : List (List ℕ)) → has_records version ≡ true →
    messages_spelling version messages ≡ records messages
as_records One messages recorded = absurd (true≢false (sym recorded))
as_records (Two count) messages recorded = absurd (true≢false (sym recorded))
as_records Three messages recorded = refl

pub as_head_3 : (session : List ℕ) (closed : Bool) (version : FileVersion) → has_records version ≡ true →
    head_spelling session closed version ≡ head_3 session
as_head_3 session closed One recorded = absurd (true≢false (sym recorded))
as_head_3 session closed (Two count) recorded = absurd (true≢false (sym recorded))
as_head_3 session closed Three recorded = refl

-- The blocks follow the head of version 1 or 2.
pub behind_head : (session : List ℕ) (closed : Bool) (version : FileVersion) (bytes behind : List ℕ) →
    has_records version ≡ false → length session ≡ 10 → bytes ≡ head_spelling session closed version ++ behind →
    IsBody1 bytes behind ⊎ IsBody2 bytes behind
behind_head session closed One bytes behind plain ten parts = inl (behind_1 session bytes behind ten parts)
behind_head session closed (Two count) bytes behind plain ten parts =
    inr (behind_2 session bytes behind closed count ten parts)
behind_head session closed Three bytes behind plain ten parts = absurd (true≢false plain)

-- The records follow the head of version 3.
pub behind_head_3 : (session : List ℕ) (closed : Bool) (version : FileVersion) (bytes behind : List ℕ) →
    has_records version ≡ true → length session ≡ 10 → bytes ≡ head_spelling session closed version ++ behind →
    IsBody3 bytes behind
behind_head_3 session closed version bytes behind recorded ten parts =
    behind_3 session bytes behind ten
    (parts ∙ ap (λ (t : List ℕ). t ++ behind) (as_head_3 session closed version recorded))

pub in_file : (head : FileHead) (most : ℕ) → has_records head.version ≡ false → length head.session.0 ≡ 10 →
    (bytes rest : List ℕ) → bytes ≡ head_spelling head.session.0 head.closed head.version ++ rest →
    (error : FileError) → BlocksFault most rest error → JournalFault most bytes error
in_file head most plain ten bytes rest parts Full fault =
    inl (rest, behind_head head.session.0 head.closed head.version bytes rest plain ten parts, fault)
in_file head most plain ten bytes rest parts (TooLong len) fault =
    inl (rest, behind_head head.session.0 head.closed head.version bytes rest plain ten parts, fault)
in_file head most plain ten bytes rest parts (BlockCut number) fault =
    (rest, behind_head head.session.0 head.closed head.version bytes rest plain ten parts, fault)
in_file head most plain ten bytes rest parts (Short len) fault = absurd fault.fault
in_file head most plain ten bytes rest parts (BadFlag byte) fault = absurd fault.fault
in_file head most plain ten bytes rest parts (CountDiffers count found) fault = absurd fault.fault
in_file head most plain ten bytes rest parts (Damaged number) fault = absurd fault.fault
in_file head most plain ten bytes rest parts BadMagic fault = absurd fault.fault
in_file head most plain ten bytes rest parts Read fault = absurd fault.fault
in_file head most plain ten bytes rest parts Memory fault = absurd fault.fault
in_file head most plain ten bytes rest parts Write fault = absurd fault.fault

pub in_file_3 : (most : ℕ) (bytes behind : List ℕ) → IsBody3 bytes behind → (error : FileError) →
    RecordsFault most behind error → JournalFault most bytes error
in_file_3 most bytes behind head Full fault = inr (behind, head, fault)
in_file_3 most bytes behind head (TooLong len) fault = inr (behind, head, fault)
in_file_3 most bytes behind head (Damaged number) fault = (behind, head, fault)
in_file_3 most bytes behind head (BlockCut number) fault = absurd fault.before.fault
in_file_3 most bytes behind head (Short len) fault = absurd fault.before.fault
in_file_3 most bytes behind head (BadFlag byte) fault = absurd fault.before.fault
in_file_3 most bytes behind head (CountDiffers count found) fault = absurd fault.before.fault
in_file_3 most bytes behind head BadMagic fault = absurd fault.before.fault
in_file_3 most bytes behind head Read fault = absurd fault.before.fault
in_file_3 most bytes behind head Memory fault = absurd fault.before.fault
in_file_3 most bytes behind head Write fault = absurd fault.before.fault

-- A fault in the blocks is a fault of the file.
pub blocks_refused : (known left : Option (List ℕ)) (head : FileHead) (most : ℕ) → has_records head.version ≡ false →
    ReadsHead known left head → (error : FileError) → Refuses (BlocksFault most) left error →
    Refuses (JournalFault most) known error
blocks_refused known left head most plain read error fault =
    refused_behind (BlocksFault most) (JournalFault most) known left
    (head_spelling head.session.0 head.closed head.version) read.consumed (in_file head most plain read.named) error fault

-- A fault in the records is a fault of the file.
pub records_refused : (known left : Option (List ℕ)) (head : FileHead) (most : ℕ) → has_records head.version ≡ true →
    ReadsHead known left head → (error : FileError) → Refuses (RecordsFault most) left error →
    Refuses (JournalFault most) known error
records_refused known left head most recorded read error fault =
    refused_behind (RecordsFault most) (JournalFault most) known left
    (head_spelling head.session.0 head.closed head.version) read.consumed
    (λ bytes rest parts. in_file_3 most bytes rest
    (behind_head_3 head.session.0 head.closed head.version bytes rest recorded read.named parts))
    error fault

-- Nothing was read before the head.
pub from_start : (known : Option (List ℕ)) (piece : List ℕ) (most : ℕ) (error : FileError) → piece ≡ [] →
    Refuses (JournalFault most) (prepend_known piece known) error → Refuses (JournalFault most) known error
from_start known piece most error none fault =
    subst (λ (t : Option (List ℕ)). Refuses (JournalFault most) t error)
    (ap (λ (t : List ℕ). prepend_known t known) none ∙ prepend_known-nil known) fault

pub head_from_start : (known left : Option (List ℕ)) (piece : List ℕ) (head : FileHead) → piece ≡ [] →
    ReadsHead (prepend_known piece known) left head → ReadsHead known left head
head_from_start known left piece head none read =
    subst (λ (t : Option (List ℕ)). ReadsHead t left head)
    (ap (λ (t : List ℕ). prepend_known t known) none ∙ prepend_known-nil known) read

-- A file that states another number of messages than it has.
miscounted : (known left : Option (List ℕ)) (head : FileHead) (version : FileVersion) (most : ℕ)
    (messages : List (List ℕ)) (count found : ℕ) → length head.session.0 ≡ 10 → IsStated head.closed version →
    Consumes known left (head_spelling head.session.0 head.closed version) →
    IfSome left (λ behind. behind ≡ blocks messages) → AreMessages most messages → count ≡ stated_count version found →
    (count ≡ found → ⊥) → found ≡ length messages → IfSome known (λ bytes. IsMiscounted most bytes count found)
miscounted None left head version most messages count found ten said read whole are is differs counted = tt
miscounted (Some xs) None head version most messages count found ten said read whole are is differs counted = absurd read
miscounted (Some xs) (Some ys) head One most messages count found ten said read whole are is differs counted =
    absurd (differs is)
miscounted (Some xs) (Some ys) head Three most messages count found ten said read whole are is differs counted =
    absurd (differs is)
miscounted (Some xs) (Some ys) head (Two number) most messages count found ten said read whole are is differs counted =
    record {
      behind = ys;
      head = behind_2 head.session.0 xs ys head.closed number ten read;
      messages = messages;
      each = are.each;
      few = are.few;
      parts = whole;
      stated = is ∙ count_at head.session.0 xs ys head.closed number ten said read;
      counted = counted;
      differs = differs;
    }

pub count_refused : (known left : Option (List ℕ)) (head : FileHead) (most : ℕ) (messages : List (List ℕ))
    (count found : ℕ) → ReadsHead known left head → IfSome left (λ behind. behind ≡ blocks messages) →
    AreMessages most messages → count ≡ stated_count head.version found → (count ≡ found → ⊥) →
    found ≡ length messages → IfSome known (λ bytes. IsMiscounted most bytes count found)
count_refused known left head most messages count found read whole are is differs counted =
    miscounted known left head head.version most messages count found read.named read.said read.consumed whole are is
    differs counted

pub count_off : (known left : Option (List ℕ)) (head : FileHead) (most : ℕ) (messages : List (List ℕ)) (found : ℕ)
    (error : FileError) → ReadsHead known left head → IfSome left (λ behind. behind ≡ blocks messages) →
    AreMessages most messages → found ≡ length messages → CountFault head.version found error →
    Refuses (JournalFault most) known error
count_off known left head most messages found (CountDiffers count number) read whole are counted fault =
    count_refused known left head most messages count number read whole are
    (fault.states ∙ ap (stated_count head.version) (sym fault.reads)) fault.differs (fault.reads ∙ counted)
count_off known left head most messages found (Short len) read whole are counted fault = absurd fault
count_off known left head most messages found BadMagic read whole are counted fault = absurd fault
count_off known left head most messages found (BadFlag byte) read whole are counted fault = absurd fault
count_off known left head most messages found Full read whole are counted fault = absurd fault
count_off known left head most messages found (TooLong len) read whole are counted fault = absurd fault
count_off known left head most messages found (BlockCut number) read whole are counted fault = absurd fault
count_off known left head most messages found (Damaged number) read whole are counted fault = absurd fault
count_off known left head most messages found Read read whole are counted fault = absurd fault
count_off known left head most messages found Memory read whole are counted fault = absurd fault
count_off known left head most messages found Write read whole are counted fault = absurd fault

-- Bytes with a head, the messages, and an end are the file of a journal.
pub file_ended : (bytes rest : List ℕ) (head : FileHead) (closed : Bool) (version : FileVersion)
    (messages : List (List ℕ)) (read : ℕ) → length head.session.0 ≡ 10 → IsStated head.closed version →
    AreMessages 65535 messages → read ≡ length messages →
    bytes ≡ (head_spelling head.session.0 head.closed version ++ messages_spelling version messages) ++ rest →
    EndsFile version read head.closed closed rest → SpellsFile (head_at_end head closed) messages version bytes
file_ended bytes rest head closed One messages read ten said are counted parts ends = (
  ends.1 ∙ said,
  record {
    named = ten;
    listed = are;
    spelled =
        parts
        ∙ ap (λ (t : List ℕ). (head_spelling head.session.0 head.closed One ++ blocks messages) ++ t) ends.0
        ∙ append-nil (head_spelling head.session.0 head.closed One ++ blocks messages);
  },
)
file_ended bytes rest head closed (Two count) messages read ten said are counted parts ends =
    let spelling : Bool → ℕ → List ℕ = λ c n. head_spelling head.session.0 c (Two n) ++ blocks messages in
    record {
      named = ten;
      listed = are;
      spelled =
          parts
          ∙ ap (λ (t : List ℕ). spelling head.closed count ++ t) ends.0
          ∙ append-nil (spelling head.closed count)
          ∙ ap (λ (c : Bool). spelling c count) (sym ends.1)
          ∙ ap (spelling closed) (ends.2 ∙ counted);
    }
file_ended bytes rest head closed Three messages read ten said are counted parts ends = record {
  named = ten;
  listed = are;
  rest = rest;
  spelled = parts ∙ append_assoc (head_3 head.session.0) (records messages) rest;
  ends = ends;
}

-- A file with blocks ends with the number of messages that it states, if it states one.
pub ends_counted : (version : FileVersion) (read : ℕ) (said : Bool) (rest : List ℕ) → has_records version ≡ false →
    rest ≡ [] → stated_count version read ≡ read → EndsFile version read said said rest
ends_counted One read said rest plain over same = (over, refl)
ends_counted (Two count) read said rest plain over same = (over, refl, same)
ends_counted Three read said rest plain over same = absurd (true≢false plain)

-- The blocks, or the records, are all of the bytes after the head.
pub file_spelled : (known left : Option (List ℕ)) (head : FileHead) (messages : List (List ℕ)) (found : ℕ) →
    has_records head.version ≡ false → ReadsHead known left head → IfSome left (λ behind. behind ≡ blocks messages) →
    AreMessages 65535 messages → stated_count head.version found ≡ found → found ≡ length messages →
    IfSome known (λ bytes. SpellsFile head messages head.version bytes)
file_spelled None left head messages found plain read whole are same counted = tt
file_spelled (Some xs) None head messages found plain read whole are same counted = absurd read.consumed
file_spelled (Some xs) (Some ys) head messages found plain read whole are same counted =
    let first : List ℕ = head_spelling head.session.0 head.closed head.version in
    let all : List ℕ = first ++ messages_spelling head.version messages in
    file_ended xs [] head head.closed head.version messages found read.named read.said are counted
    (read.consumed
    ∙ ap (λ (t : List ℕ). first ++ t) (whole ∙ sym (as_blocks head.version messages plain))
    ∙ sym (append-nil all))
    (ends_counted head.version found head.closed [] plain refl same)

ends_recorded : (version : FileVersion) (read : ℕ) (said closed : Bool) (rest : List ℕ) → has_records version ≡ true →
    EndsRecords closed rest → EndsFile version read said closed rest
ends_recorded One read said closed rest recorded ends = absurd (true≢false (sym recorded))
ends_recorded (Two count) read said closed rest recorded ends = absurd (true≢false (sym recorded))
ends_recorded Three read said closed rest recorded ends = ends

pub records_spelled : (known left : Option (List ℕ)) (head : FileHead) (messages : List (List ℕ)) (closed : Bool) →
    has_records head.version ≡ true → ReadsHead known left head → IfSome left (AreRecords messages closed) →
    AreMessages 65535 messages → IfSome known (λ bytes. SpellsFile (head_at_end head closed) messages head.version bytes)
records_spelled None left head messages closed recorded read whole are = tt
records_spelled (Some xs) None head messages closed recorded read whole are = absurd read.consumed
records_spelled (Some xs) (Some ys) head messages closed recorded read whole are =
    let first : List ℕ = head_spelling head.session.0 head.closed head.version in
    file_ended xs whole.rest head closed head.version messages (length messages) read.named read.said are refl
    (read.consumed
    ∙ ap (λ (t : List ℕ). first ++ t)
    (whole.parts ∙ ap (λ (t : List ℕ). t ++ whole.rest) (sym (as_records head.version messages recorded)))
    ∙ sym (append_assoc first (messages_spelling head.version messages) whole.rest))
    (ends_recorded head.version (length messages) head.closed closed whole.rest recorded whole.ends)

-- An error that `?` returns.
pub passed_on : {T : Type 0} (result : Result T FileError) (error : FileError) (P : FileError → Type 0) →
    ((x : FileError) × (result ≡ Err x) × (x ≡ error)) → P error → IfErr result P
passed_on {T = T} result error P p is =
    subst (λ (r : Result T FileError). IfErr r P) (sym p.1) (subst P (sym p.2) is)

-- The bytes are the file of the version that its head shows.
of_version : (known : Option (List ℕ)) (head : FileHead) (messages : List (List ℕ)) (version : FileVersion) →
    IfSome known (λ bytes. SpellsFile head messages version bytes) →
    IfSome known (λ bytes. SpellsVersion (version_number version) head.session messages head.closed bytes)
of_version None head messages version spelled = tt
of_version (Some bytes) head messages One spelled = inl (refl, spelled.0, spelled.1)
of_version (Some bytes) head messages (Two count) spelled = inr (inl (refl, spelled))
of_version (Some bytes) head messages Three spelled = inr (inr (refl, spelled))

pub begins_upgrade : (known old new : Option (List ℕ)) (head : FileHead) (messages : List (List ℕ))
    (close closed : Bool) → IfSome known (λ bytes. SpellsFile head messages head.version bytes) →
    closed ≡ (if head.closed then true else close) → AppendsFilePrefix old new head.session messages closed →
    BeginsUpgrade known old new close
begins_upgrade known old new head messages close closed spelled is begun = record {
  version = version_number head.version;
  session = head.session;
  messages = messages;
  was = head.closed;
  loaded = of_version known head messages head.version spelled;
  saved = subst (AppendsFilePrefix old new head.session messages) is begun;
}
