-- How the bytes of a file are checked, block by block.
use Rattle.std.proofs.Common.{◌≡◌, ◌⊎◌, ℕ, ◌+◌, ◌-◌, ◌<◌, ◌≤◌, true, false, true≢false, List, [], ◌∷◌, ◌++◌}
use Rattle.std.proofs.Common.{length, length-append, append-nil, take, refl, sym, ap, subst, ◌∙◌, append_assoc}
use Rattle.std.proofs.Common.{inl, inr, arith}
use Rattle.std.specs.Prelude.{OnOk, Result, Ok, Err}
use Rattle.std.specs.List.{AllByRecursion}
use Rattle.std.proofs.Math.Seq.{take-append_seam}
use Rattle.mold_wire.specs.Block.{block, blocks}
use Rattle.mold_wire.specs.declared.block.TheConstants.{MAX_MESSAGE}
use Rattle.mold_session.specs.Checking.{AreWholeBlocks, IsBody, HasBlock, HasCounted, HasCountedRecords, HasEnded, HasRecord}
use Rattle.mold_session.specs.Checking.{IsEnd}
use Rattle.mold_session.specs.FileFault.{IsBody1, IsBody2, IsBody3, BlockFault, BlocksFault, FaultInBlocks}
use Rattle.mold_session.specs.FileFault.{FaultInRecords, JournalFault, RecordFault, RecordsFault}
use Rattle.mold_session.specs.Journal.{IsWithin}
use Rattle.mold_session.specs.Loading.{has_records, stated_count}
use Rattle.mold_session.specs.Records.{record_of, records}
use Rattle.mold_session.specs.Reader.{CountFault}
use Rattle.mold_session.specs.declared.error.FileError.{FileError}
use Rattle.mold_session.specs.declared.error.FileError.TheVariants.{TooLong, Memory, BadMagic, Short, BlockCut, Read, Write, Full, CountDiffers, BadFlag, Damaged}
use Rattle.mold_session.specs.declared.file_version.FileVersion.{FileVersion}
use Rattle.mold_session.specs.declared.file_version.FileVersion.TheVariants.{One, Two, Three}
use Rattle.mold_session.proofs.FileLawLemmas.{each_file, same_messages, no_blocks_fault}
use Rattle.mold_session.proofs.FileLemmas.{in_file_3}
use Rattle.mold_session.proofs.HeadLemmas.{one_magic, magic_1_or_3, magic_2_or_3}
use Rattle.mold_session.proofs.OneFaultLemmas.{same_behind}
use Rattle.mold_session.proofs.RecordLawLemmas.{no_blocks}
use Rattle.mold_session.proofs.RecordLemmas.{no_record_fault}

-- ---- blocks

pub none_counted : (most : ℕ) (bytes : List ℕ) → HasCounted most 0 bytes bytes
none_counted most bytes = record {
  messages = [];
  listed = record { few = omega arith; each = tt };
  counted = refl;
  parts = refl;
}

each_more : (most : ℕ) (front : List (List ℕ)) (message : List ℕ) → AllByRecursion (IsWithin most) front →
    IsWithin most message → AllByRecursion (IsWithin most) (front ++ message ∷ [])
each_more most [] message each one = (one, tt)
each_more most (first ∷ front) message each one = (each.0, each_more most front message each.1 one)

blocks_more : (front : List (List ℕ)) (message behind : List ℕ) →
    blocks front ++ (block message ++ behind) ≡ blocks (front ++ message ∷ []) ++ behind
blocks_more [] message behind = ap (λ (t : List ℕ). t ++ behind) (sym (append-nil (block message)))
blocks_more (first ∷ front) message behind =
    append_assoc (block first) (blocks front) (block message ++ behind)
    ∙ ap (λ (t : List ℕ). block first ++ t) (blocks_more front message behind)
    ∙ sym (append_assoc (block first) (blocks (front ++ message ∷ [])) behind)

-- One more block was skipped.
pub one_counted : (most count : ℕ) (bytes rest behind : List ℕ) → HasCounted most count bytes rest →
    count < 18446744073709551614 → HasBlock most rest behind → HasCounted most (count + 1) bytes behind
one_counted most count bytes rest behind has few next = record {
  messages = has.messages ++ next.message ∷ [];
  listed = record {
    few = omega (arith, few, has.counted, length-append has.messages (next.message ∷ []));
    each = each_more most has.messages next.message has.listed.each next.within;
  };
  counted = omega (arith, has.counted, length-append has.messages (next.message ∷ []));
  parts =
      has.parts
      ∙ ap (λ (t : List ℕ). blocks has.messages ++ t) next.parts
      ∙ blocks_more has.messages next.message behind;
}

-- The bytes before the remaining ones are the counted blocks.
pub whole_before : (limit count : ℕ) (bytes rest : List ℕ) → HasCounted MAX_MESSAGE count bytes rest → count ≤ limit →
    AreWholeBlocks limit bytes (length bytes - length rest) count
whole_before limit count bytes rest has few =
    let front = blocks has.messages in
    let long : length bytes ≡ length front + length rest =
    ap (λ (t : List ℕ). length t) has.parts ∙ length-append front rest
    in
    let len : length bytes - length rest ≡ length front = omega (arith, long) in
    record {
      messages = has.messages;
      few = omega (arith, few, has.counted);
      each = has.listed.each;
      counted = has.counted;
      within = omega (arith, long);
      parts =
          ap (λ (n : ℕ). take n bytes) len
          ∙ ap (take (length front)) has.parts
          ∙ take-append_seam front rest;
    }

-- A fault of the next block is a fault of the blocks.
pub counted_fault : (most count : ℕ) (bytes rest : List ℕ) (error : FileError) → HasCounted most count bytes rest →
    BlockFault most count rest error → BlocksFault most bytes error
counted_fault most count bytes rest error has fault = record {
  messages = has.messages;
  rest = rest;
  each = has.listed.each;
  parts = has.parts;
  fault = subst (λ (n : ℕ). BlockFault most n rest error) has.counted fault;
}

-- ---- records

pub no_record_counted : (most : ℕ) (bytes : List ℕ) → HasCountedRecords most 0 bytes bytes
no_record_counted most bytes = record {
  messages = [];
  has = record { listed = record { few = omega arith; each = tt }; parts = refl };
  counted = refl;
}

records_more : (front : List (List ℕ)) (message behind : List ℕ) →
    records front ++ (record_of message ++ behind) ≡ records (front ++ message ∷ []) ++ behind
records_more [] message behind = ap (λ (t : List ℕ). t ++ behind) (sym (append-nil (record_of message)))
records_more (first ∷ front) message behind =
    append_assoc (record_of first) (records front) (record_of message ++ behind)
    ∙ ap (λ (t : List ℕ). record_of first ++ t) (records_more front message behind)
    ∙ sym (append_assoc (record_of first) (records (front ++ message ∷ [])) behind)

-- One more record was skipped.
pub one_record_counted : (most count : ℕ) (bytes rest behind : List ℕ) → HasCountedRecords most count bytes rest →
    count < 18446744073709551614 → HasRecord most rest behind → HasCountedRecords most (count + 1) bytes behind
one_record_counted most count bytes rest behind has few next = record {
  messages = has.messages ++ next.message ∷ [];
  has = record {
    listed = record {
      few = omega (arith, few, has.counted, length-append has.messages (next.message ∷ []));
      each = each_more most has.messages next.message has.has.listed.each next.within;
    };
    parts =
        has.has.parts
        ∙ ap (λ (t : List ℕ). records has.messages ++ t) next.parts
        ∙ records_more has.messages next.message behind;
  };
  counted = omega (arith, has.counted, length-append has.messages (next.message ∷ []));
}

-- The records end.
pub all_counted : (most count : ℕ) (bytes rest : List ℕ) → HasCountedRecords most count bytes rest → IsEnd rest →
    HasEnded most bytes
all_counted most count bytes rest has end =
    record { messages = has.messages; rest = rest; has = has.has; end = end }

-- A fault of the next record is a fault of the records.
pub counted_record_fault : (most count : ℕ) (bytes rest : List ℕ) (error : FileError) →
    HasCountedRecords most count bytes rest → RecordFault most count rest error → RecordsFault most bytes error
counted_record_fault most count bytes rest error has fault = record {
  messages = has.messages;
  before = record {
    rest = rest;
    front = has.has;
    fault = subst (λ (n : ℕ). RecordFault most n rest error) has.counted fault;
  };
}

-- ---- the whole file

body_of : (bytes behind : List ℕ) (version : FileVersion) → has_records version ≡ false → IsBody bytes behind version →
    IsBody1 bytes behind ⊎ IsBody2 bytes behind
body_of bytes behind One plain body = inl body
body_of bytes behind (Two count) plain body = inr body.0
body_of bytes behind Three plain body = absurd (true≢false plain)

pub body_of_3 : (bytes behind : List ℕ) (version : FileVersion) → has_records version ≡ true →
    IsBody bytes behind version → IsBody3 bytes behind
body_of_3 bytes behind One recorded body = absurd (true≢false (sym recorded))
body_of_3 bytes behind (Two count) recorded body = absurd (true≢false (sym recorded))
body_of_3 bytes behind Three recorded body = body

pub blocks_refused : (most : ℕ) (bytes behind : List ℕ) (version : FileVersion) (error : FileError) →
    has_records version ≡ false → IsBody bytes behind version → BlocksFault most behind error →
    JournalFault most bytes error
blocks_refused most bytes behind version Full plain body fault =
    inl (behind, body_of bytes behind version plain body, fault)
blocks_refused most bytes behind version (TooLong len) plain body fault =
    inl (behind, body_of bytes behind version plain body, fault)
blocks_refused most bytes behind version (BlockCut number) plain body fault =
    (behind, body_of bytes behind version plain body, fault)
blocks_refused most bytes behind version (Short len) plain body fault = absurd fault.fault
blocks_refused most bytes behind version (BadFlag byte) plain body fault = absurd fault.fault
blocks_refused most bytes behind version (CountDiffers count found) plain body fault = absurd fault.fault
blocks_refused most bytes behind version (Damaged number) plain body fault = absurd fault.fault
blocks_refused most bytes behind version BadMagic plain body fault = absurd fault.fault
blocks_refused most bytes behind version Read plain body fault = absurd fault.fault
blocks_refused most bytes behind version Memory plain body fault = absurd fault.fault
blocks_refused most bytes behind version Write plain body fault = absurd fault.fault

pub records_refused : (most : ℕ) (bytes behind : List ℕ) (version : FileVersion) (error : FileError) →
    has_records version ≡ true → IsBody bytes behind version → RecordsFault most behind error →
    JournalFault most bytes error
records_refused most bytes behind version error recorded body fault =
    in_file_3 most bytes behind (body_of_3 bytes behind version recorded body) error fault

whole : (most found : ℕ) (behind : List ℕ) (has : HasCounted most found behind []) → behind ≡ blocks has.messages
whole most found behind has = has.parts ∙ append-nil (blocks has.messages)

miscounted : (most found : ℕ) (bytes behind : List ℕ) (version : FileVersion) (count number : ℕ) →
    IsBody bytes behind version → HasCounted most found behind [] →
    CountFault version found (CountDiffers count number) → JournalFault most bytes (CountDiffers count number)
miscounted most found bytes behind One count number body has fault =
    absurd (fault.differs (fault.states ∙ sym fault.reads))
miscounted most found bytes behind Three count number body has fault =
    absurd (fault.differs (fault.states ∙ sym fault.reads))
miscounted most found bytes behind (Two said) count number body has fault = record {
  behind = behind;
  head = body.0;
  messages = has.messages;
  each = has.listed.each;
  few = has.listed.few;
  parts = whole most found behind has;
  stated = fault.states ∙ body.1;
  counted = fault.reads ∙ has.counted;
  differs = fault.differs;
}

pub count_refused : (most found : ℕ) (bytes behind : List ℕ) (version : FileVersion) (error : FileError) →
    IsBody bytes behind version → HasCounted most found behind [] → CountFault version found error →
    JournalFault most bytes error
count_refused most found bytes behind version (CountDiffers count number) body has fault =
    miscounted most found bytes behind version count number body has fault
count_refused most found bytes behind version (Short len) body has fault = absurd fault
count_refused most found bytes behind version BadMagic body has fault = absurd fault
count_refused most found bytes behind version (BadFlag byte) body has fault = absurd fault
count_refused most found bytes behind version Full body has fault = absurd fault
count_refused most found bytes behind version (TooLong len) body has fault = absurd fault
count_refused most found bytes behind version (BlockCut number) body has fault = absurd fault
count_refused most found bytes behind version (Damaged number) body has fault = absurd fault
count_refused most found bytes behind version Read body has fault = absurd fault
count_refused most found bytes behind version Memory body has fault = absurd fault
count_refused most found bytes behind version Write body has fault = absurd fault

-- Bytes with a valid head, whole blocks and the stated number of messages have no fault.
no_block_fault : (most found : ℕ) (bytes behind : List ℕ) (version : FileVersion) (error : FileError) → most ≤ 65535 →
    has_records version ≡ false → IsBody bytes behind version → HasCounted most found behind [] →
    FaultInBlocks most bytes error → ⊥
no_block_fault most found bytes behind version error bound plain body has fault =
    no_blocks_fault most has.messages fault.0 error bound has.listed.each has.listed.few
    (same_behind bytes fault.0 behind fault.1 (body_of bytes behind version plain body) ∙ whole most found behind has)
    fault.2

no_fault_in_records : (most : ℕ) (bytes behind : List ℕ) (version : FileVersion) (error : FileError) →
    has_records version ≡ false → IsBody bytes behind version → FaultInRecords most bytes error → ⊥
no_fault_in_records most bytes behind One error plain body fault = magic_1_or_3 (sym body.magic ∙ fault.1.magic)
no_fault_in_records most bytes behind (Two count) error plain body fault =
    magic_2_or_3 (sym body.0.magic ∙ fault.1.magic)
no_fault_in_records most bytes behind Three error plain body fault = absurd (true≢false plain)

no_count_fault : (most found : ℕ) (bytes behind : List ℕ) (version : FileVersion) (count number : ℕ) → most ≤ 65535 →
    IsBody bytes behind version → HasCounted most found behind [] → stated_count version found ≡ found →
    JournalFault most bytes (CountDiffers count number) → ⊥
no_count_fault most found bytes behind One count number bound body has same fault =
    one_magic (sym body.magic ∙ fault.head.magic)
no_count_fault most found bytes behind Three count number bound body has same fault =
    magic_2_or_3 (sym fault.head.magic ∙ body.magic)
no_count_fault most found bytes behind (Two said) count number bound body has same fault =
    let one : has.messages ≡ fault.messages =
    same_messages has.messages fault.messages (each_file most has.messages bound has.listed.each)
    (each_file most fault.messages bound fault.each)
    (sym (whole most found behind has) ∙ body.0.from ∙ sym fault.head.from ∙ fault.parts)
    in
    fault.differs
    (fault.stated ∙ sym body.1 ∙ same ∙ has.counted ∙ ap (λ (t : List (List ℕ)). length t) one ∙ sym fault.counted)

no_short : (bytes behind : List ℕ) (version : FileVersion) (most len : ℕ) → IsBody bytes behind version →
    JournalFault most bytes (Short len) → ⊥
no_short bytes behind One most len body fault =
    elim fault.1 [
      | inl short ↦ absurd (omega (arith, short, body.whole))
      | inr short ↦ one_magic (sym body.magic ∙ short.0)
    ]
no_short bytes behind (Two count) most len body fault =
    elim fault.1 [
      | inl short ↦ absurd (omega (arith, short, body.0.whole))
      | inr short ↦ absurd (omega (arith, short.1, body.0.whole))
    ]
no_short bytes behind Three most len body fault =
    elim fault.1 [
      | inl short ↦ absurd (omega (arith, short, body.whole))
      | inr short ↦ magic_2_or_3 (sym short.0 ∙ body.magic)
    ]

no_bad_flag : (bytes behind : List ℕ) (version : FileVersion) (most byte : ℕ) → IsBody bytes behind version →
    JournalFault most bytes (BadFlag byte) → ⊥
no_bad_flag bytes behind One most byte body fault = one_magic (sym body.magic ∙ fault.0)
no_bad_flag bytes behind (Two count) most byte body fault = absurd (omega (arith, fault.2, fault.3, body.0.flag))
no_bad_flag bytes behind Three most byte body fault = magic_2_or_3 (sym fault.0 ∙ body.magic)

no_bad_magic : (bytes behind : List ℕ) (version : FileVersion) (most : ℕ) → IsBody bytes behind version →
    JournalFault most bytes BadMagic → ⊥
no_bad_magic bytes behind One most body fault = fault.1 body.magic
no_bad_magic bytes behind (Two count) most body fault = fault.2 body.0.magic
no_bad_magic bytes behind Three most body fault = fault.3 body.magic

pub no_fault : (most found : ℕ) (bytes behind : List ℕ) (version : FileVersion) → most ≤ 65535 →
    has_records version ≡ false → IsBody bytes behind version → HasCounted most found behind [] →
    stated_count version found ≡ found → (error : FileError) → JournalFault most bytes error → ⊥
no_fault most found bytes behind version bound plain body has same (Short len) fault =
    no_short bytes behind version most len body fault
no_fault most found bytes behind version bound plain body has same BadMagic fault =
    no_bad_magic bytes behind version most body fault
no_fault most found bytes behind version bound plain body has same (BadFlag byte) fault =
    no_bad_flag bytes behind version most byte body fault
no_fault most found bytes behind version bound plain body has same (CountDiffers count number) fault =
    no_count_fault most found bytes behind version count number bound body has same fault
no_fault most found bytes behind version bound plain body has same Full (inl fault) =
    no_block_fault most found bytes behind version Full bound plain body has fault
no_fault most found bytes behind version bound plain body has same Full (inr fault) =
    no_fault_in_records most bytes behind version Full plain body fault
no_fault most found bytes behind version bound plain body has same (TooLong len) (inl fault) =
    no_block_fault most found bytes behind version (TooLong len) bound plain body has fault
no_fault most found bytes behind version bound plain body has same (TooLong len) (inr fault) =
    no_fault_in_records most bytes behind version (TooLong len) plain body fault
no_fault most found bytes behind version bound plain body has same (BlockCut number) fault =
    no_block_fault most found bytes behind version (BlockCut number) bound plain body has fault
no_fault most found bytes behind version bound plain body has same (Damaged number) fault =
    no_fault_in_records most bytes behind version (Damaged number) plain body fault
no_fault most found bytes behind version bound plain body has same Read fault = fault
no_fault most found bytes behind version bound plain body has same Memory fault = fault
no_fault most found bytes behind version bound plain body has same Write fault = fault

-- Bytes with a head of version 3, records and what ends them have no fault.
module _ (most : ℕ) (bytes behind : List ℕ) (bound : most ≤ 65535) (head : IsBody3 bytes behind)
    (ended : HasEnded most behind) where
  no_fault_in : (error : FileError) → FaultInRecords most bytes error → ⊥
  no_fault_in error fault =
      no_record_fault most behind ended.messages ended.rest ended.end.closed error bound ended.has ended.end.ends
      (subst (λ (t : List ℕ). RecordsFault most t error) (fault.1.from ∙ sym head.from) fault.2)

  pub no_fault_after : (error : FileError) → JournalFault most bytes error → ⊥
  no_fault_after (Short len) fault = no_short bytes behind Three most len head fault
  no_fault_after BadMagic fault = fault.3 head.magic
  no_fault_after (BadFlag byte) fault = magic_2_or_3 (sym fault.0 ∙ head.magic)
  no_fault_after (CountDiffers count found) fault = magic_2_or_3 (sym fault.head.magic ∙ head.magic)
  no_fault_after Full (inl fault) = no_blocks most bytes Full head.magic fault
  no_fault_after Full (inr fault) = no_fault_in Full fault
  no_fault_after (TooLong len) (inl fault) = no_blocks most bytes (TooLong len) head.magic fault
  no_fault_after (TooLong len) (inr fault) = no_fault_in (TooLong len) fault
  no_fault_after (BlockCut number) fault = no_blocks most bytes (BlockCut number) head.magic fault
  no_fault_after (Damaged number) fault = no_fault_in (Damaged number) fault
  no_fault_after Read fault = fault
  no_fault_after Memory fault = fault
  no_fault_after Write fault = fault

-- What holds of a result that is `Ok`, from what implies it.
pub on_ok : {T E : Type 0} (result : Result T E) (P Q : Type 0) → (P → Q) → OnOk result P → OnOk result Q
on_ok (Ok x) P Q goes holds = goes holds
on_ok (Err e) P Q goes holds = tt
