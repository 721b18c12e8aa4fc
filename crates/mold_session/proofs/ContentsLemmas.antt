-- A file has one list of messages and one fault, and blocks that were read are a prefix of its messages.
use Rattle.std.proofs.Common.{◌≡◌, ℕ, ◌+◌, ◌<◌, ◌≤◌, List, [], ◌∷◌, ◌++◌, length, Option, None, Some}
use Rattle.std.proofs.Common.{refl, sym, ap, subst, ◌∙◌, append_assoc, append-nil, inl, inr, arith, ⊎_elim}
use Rattle.std.specs.List.{AllByRecursion}
use Rattle.mold_wire.specs.Block.{block, blocks}
use Rattle.mold_session.specs.Contents.{HasBlocks, AreBefore, AreBeforeRecord, Gives, FileContents, IsFront}
use Rattle.mold_session.specs.FileFault.{IsBody3, HasRecords, JournalFault}
use Rattle.mold_session.specs.Journal.{AreMessages, IsWithin}
use Rattle.mold_session.specs.Loading.{SpellsFile}
use Rattle.mold_session.specs.Records.{records}
use Rattle.mold_session.specs.declared.error.FileError.{FileError}
use Rattle.mold_session.specs.declared.error.FileError.TheVariants.{TooLong, Memory, BadMagic, Short, BlockCut, Read, Write, Full, CountDiffers, BadFlag, Damaged}
use Rattle.mold_session.specs.declared.file_version.FileVersion.{FileVersion}
use Rattle.mold_session.specs.declared.file_version.FileVersion.TheVariants.{One, Two, Three}
use Rattle.mold_session.specs.declared.loading.FileHead.{FileHead}
use Rattle.mold_session.proofs.FileLawLemmas.{block_here, no_block, no_fault_1, no_fault_2}
use Rattle.mold_session.proofs.HeadLemmas.{behind_1, behind_2}
use Rattle.mold_session.proofs.OneFaultLemmas.{IsFaultAt, IsBehind, fault_at, full_at_block, same_behind}
use Rattle.mold_session.proofs.OneFaultLemmas.{short_or_headed, foreign_or_headed, flagged_or_headed, one_fault}
use Rattle.mold_session.proofs.OneFaultLemmas.{short_or_recorded, foreign_or_recorded, flagged_or_recorded}
use Rattle.mold_session.proofs.OneFaultLemmas.{headed_or_recorded}
use Rattle.mold_session.proofs.RecordLawLemmas.{body_3, no_fault_of_3}
use Rattle.mold_session.proofs.RecordLemmas.{IsLast, each_other, last_ends, last_fault, records_front}

-- ---- prefixes of the messages

-- After `count` messages the bytes end, or the rest has a fault.
data Stops (count : ℕ) (rest : List ℕ) : Type 0 where
  Over : rest ≡ [] → Stops count rest
  Refusal : (error : FileError) → IsFaultAt 65535 count rest error → Stops count rest

no_block_stopped : (count len : ℕ) (message more rest : List ℕ) → count + len < 18446744073709551614 →
    length message < 65536 → rest ≡ block message ++ more → Stops count rest → ⊥
no_block_stopped count len message more rest few within starts (Over none) = no_block message more (sym starts ∙ none)
no_block_stopped count len message more rest few within starts (Refusal error fault) =
    let full = full_at_block 65535 count message more rest error (omega arith) (omega (arith, within)) starts fault in
    absurd (omega (arith, few, full.1))

-- The messages of blocks that were read are a prefix of all messages.
front_of : (base : ℕ) (front all : List (List ℕ)) (left rest : List ℕ) →
    base + length front < 18446744073709551615 → AllByRecursion (IsWithin 65535) front →
    AllByRecursion (IsWithin 65535) all → blocks all ++ rest ≡ blocks front ++ left → Stops (base + length all) rest →
    IsFront front all
front_of base [] all left rest few each also same stops = record { extra = all; longer = refl }
front_of base (message ∷ front) [] left rest few each also same stops =
    let within : length message ≤ 65535 = each.0 in
    absurd (no_block_stopped (base + 0) (length front) message (blocks front ++ left) rest (omega (arith, few))
    (omega (arith, within)) (same ∙ append_assoc (block message) (blocks front) left) stops)
front_of base (message ∷ front) (next ∷ all) left rest few each also same stops =
    let begins = block_here next message (blocks all ++ rest) (blocks front ++ left) also.0 each.0
    (sym (append_assoc (block next) (blocks all) rest) ∙ same ∙ append_assoc (block message) (blocks front) left)
    in
    let count : base + length (next ∷ all) ≡ (base + 1) + length all = omega arith in
    let others = front_of (base + 1) front all left rest (omega (arith, few)) each.1 also.1 begins.behind
    (subst (λ (n : ℕ). Stops n rest) count stops)
    in
    record {
      extra = others.extra;
      longer =
          ap (λ (t : List ℕ). t ∷ all) begins.message
          ∙ ap (λ (t : List (List ℕ)). message ∷ t) others.longer;
    }

-- ---- the contents of a file

-- After its head, the file of a journal has blocks and nothing more.
all_blocks : (bytes : List ℕ) (messages : List (List ℕ)) (behind : List ℕ) → IsBehind bytes behind →
    AreMessages 65535 messages → behind ≡ blocks messages → HasBlocks bytes messages []
all_blocks bytes messages behind head are whole =
    record { behind = behind; head = head; listed = are; parts = whole ∙ sym (append-nil (blocks messages)) }

-- A file has a valid head and blocks or records up to a rest that stops them, or it has no valid head and no messages.
data Parted (bytes : List ℕ) (messages : List (List ℕ)) : Type 0 where
  Headless : messages ≡ [] → ((behind : List ℕ) → IsBehind bytes behind → ⊥) →
      ((behind : List ℕ) → IsBody3 bytes behind → ⊥) → Parted bytes messages
  Headed : (rest : List ℕ) → HasBlocks bytes messages rest → Stops (length messages) rest → Parted bytes messages
  Recorded : (behind rest : List ℕ) → IsBody3 bytes behind → HasRecords 65535 behind messages rest →
      IsLast 65535 (length messages) rest → Parted bytes messages

before : (bytes : List ℕ) (messages : List (List ℕ)) (error : FileError) → AreBefore bytes messages error →
    Parted bytes messages
before bytes messages error are =
    Headed are.rest are.front (Refusal error (fault_at 65535 (length messages) are.rest error are.fault))

before_record : (bytes : List ℕ) (messages : List (List ℕ)) (error : FileError) → AreBeforeRecord bytes messages error →
    Parted bytes messages
before_record bytes messages error are =
    Recorded are.0 are.2.rest are.1 are.2.front
    (last_fault 65535 (length messages) are.2.rest error (omega arith) are.2.fault)

parted_file : (bytes : List ℕ) (messages : List (List ℕ)) (head : FileHead) (version : FileVersion) →
    SpellsFile head messages version bytes → Parted bytes messages
parted_file bytes messages head One spelled =
    Headed [] (all_blocks bytes messages (blocks messages)
    (inl (behind_1 head.session.0 bytes (blocks messages) spelled.1.named spelled.1.spelled)) spelled.1.listed refl)
    (Over refl)
parted_file bytes messages head (Two count) spelled =
    Headed [] (all_blocks bytes messages (blocks messages)
    (inr (behind_2 head.session.0 bytes (blocks messages) head.closed (length messages) spelled.named spelled.spelled))
    spelled.listed refl)
    (Over refl)
parted_file bytes messages head Three spelled =
    Recorded (records messages ++ spelled.rest) spelled.rest (body_3 head.session messages head.closed bytes spelled)
    (record { listed = spelled.listed; parts = refl })
    (last_ends 65535 (length messages) head.closed spelled.rest spelled.ends)

parted : (bytes : List ℕ) (messages : List (List ℕ)) (fault : Option FileError) → Gives bytes messages fault →
    Parted bytes messages
parted bytes messages None gives = parted_file bytes messages gives.0 gives.0.version gives.1
parted bytes messages (Some (Short len)) gives = Headless gives.1
    (λ behind head. short_or_headed bytes behind (Short len) (ap (λ (n : ℕ). Short n) gives.0.0, gives.0.1) head)
    (λ behind head. short_or_recorded bytes behind (Short len) (ap (λ (n : ℕ). Short n) gives.0.0, gives.0.1) head)
parted bytes messages (Some BadMagic) gives = Headless gives.1
    (λ behind head. foreign_or_headed bytes behind BadMagic (refl, gives.0.0, gives.0.1, gives.0.2, gives.0.3) head)
    (λ behind head. foreign_or_recorded bytes behind BadMagic (refl, gives.0.0, gives.0.1, gives.0.2, gives.0.3) head)
parted bytes messages (Some (BadFlag byte)) gives = Headless gives.1
    (λ behind head. flagged_or_headed bytes behind (BadFlag byte)
    (ap (λ (n : ℕ). BadFlag n) (sym gives.0.2), gives.0.0, gives.0.1, omega (arith, gives.0.2, gives.0.3)) head)
    (λ behind head. flagged_or_recorded bytes behind (BadFlag byte)
    (ap (λ (n : ℕ). BadFlag n) (sym gives.0.2), gives.0.0, gives.0.1, omega (arith, gives.0.2, gives.0.3)) head)
parted bytes messages (Some (CountDiffers count found)) gives = Headed [] gives.1 (Over refl)
parted bytes messages (Some Full) gives =
    ⊎_elim (before bytes messages Full) (before_record bytes messages Full) gives.1
parted bytes messages (Some (TooLong len)) gives =
    ⊎_elim (before bytes messages (TooLong len)) (before_record bytes messages (TooLong len)) gives.1
parted bytes messages (Some (BlockCut number)) gives = before bytes messages (BlockCut number) gives.1
parted bytes messages (Some (Damaged number)) gives = before_record bytes messages (Damaged number) gives.1
parted bytes messages (Some Read) gives = absurd gives.1
parted bytes messages (Some Memory) gives = absurd gives.1
parted bytes messages (Some Write) gives = absurd gives.1

-- The messages of blocks that follow the head are a prefix of the file's messages.
first_of : (bytes left : List ℕ) (front all : List (List ℕ)) → HasBlocks bytes front left → Parted bytes all →
    IsFront front all
first_of bytes left front all has (Headless none off other) = absurd (off has.behind has.head)
first_of bytes left front all has (Recorded behind rest head also last) =
    absurd (headed_or_recorded bytes has.behind behind has.head head)
first_of bytes left front all has (Headed rest also stops) =
    front_of 0 front all left rest (omega (arith, has.listed.few)) has.listed.each also.listed.each
    (sym also.parts ∙ same_behind bytes also.behind has.behind also.head has.head ∙ has.parts)
    (subst (λ (n : ℕ). Stops n rest) (omega arith) stops)

pub begins : (bytes left : List ℕ) (front : List (List ℕ)) (contents : FileContents bytes) →
    HasBlocks bytes front left → IsFront front contents.messages
begins bytes left front contents has =
    first_of bytes left front contents.messages has (parted bytes contents.messages contents.fault contents.gives)

-- The messages of records that follow the head are a prefix of the file's messages.
first_record_of : (bytes behind left : List ℕ) (front all : List (List ℕ)) → IsBody3 bytes behind →
    HasRecords 65535 behind front left → Parted bytes all → IsFront front all
first_record_of bytes behind left front all head has (Headless none off other) = absurd (other behind head)
first_record_of bytes behind left front all head has (Headed rest also stops) =
    absurd (headed_or_recorded bytes also.behind behind also.head head)
first_record_of bytes behind left front all head has (Recorded after rest other also last) =
    records_front 65535 0 front all left rest (omega arith) (omega (arith, has.listed.few)) has.listed.each
    also.listed.each (sym has.parts ∙ head.from ∙ sym other.from ∙ also.parts)
    (subst (λ (n : ℕ). IsLast 65535 n rest) (omega arith) last)

pub record_begins : (bytes behind left : List ℕ) (front : List (List ℕ)) (contents : FileContents bytes) →
    IsBody3 bytes behind → HasRecords 65535 behind front left → IsFront front contents.messages
record_begins bytes behind left front contents head has =
    first_record_of bytes behind left front contents.messages head has
    (parted bytes contents.messages contents.fault contents.gives)

-- ---- one reading

same_parted : (bytes : List ℕ) (one other : List (List ℕ)) → Parted bytes one → Parted bytes other → one ≡ other
same_parted bytes one other (Headless none off away) (Headless also out far) = none ∙ sym also
same_parted bytes one other (Headless none off away) (Headed rest has stops) = absurd (off has.behind has.head)
same_parted bytes one other (Headless none off away) (Recorded behind rest head has last) = absurd (away behind head)
same_parted bytes one other (Headed rest has stops) (Headless none off away) = absurd (off has.behind has.head)
same_parted bytes one other (Headed rest has stops) (Headed more also ends) =
    each_other one other (first_of bytes rest one other has (Headed more also ends))
    (first_of bytes more other one also (Headed rest has stops))
same_parted bytes one other (Headed rest has stops) (Recorded behind more head also last) =
    absurd (headed_or_recorded bytes has.behind behind has.head head)
same_parted bytes one other (Recorded behind rest head has last) (Headless none off away) = absurd (away behind head)
same_parted bytes one other (Recorded behind rest head has last) (Headed more also ends) =
    absurd (headed_or_recorded bytes also.behind behind also.head head)
same_parted bytes one other (Recorded behind rest head has last) (Recorded after more begun also ends) =
    each_other one other (first_record_of bytes behind rest one other head has (Recorded after more begun also ends))
    (first_record_of bytes after more other one begun also (Recorded behind rest head has last))

no_fault : (bytes : List ℕ) (messages : List (List ℕ)) (head : FileHead) (version : FileVersion) (error : FileError) →
    SpellsFile head messages version bytes → JournalFault 65535 bytes error → ⊥
no_fault bytes messages head One error spelled fault =
    no_fault_1 65535 head.session messages bytes error (omega arith) spelled.1 spelled.1.listed.each fault
no_fault bytes messages head (Two count) error spelled fault =
    no_fault_2 65535 head.session messages head.closed bytes error (omega arith) spelled spelled.listed.each fault
no_fault bytes messages head Three error spelled fault =
    no_fault_of_3 65535 head.session messages head.closed bytes error (omega arith) spelled spelled.listed.each fault

same_ending : (bytes : List ℕ) (one other : List (List ℕ)) (fault wrong : Option FileError) → Gives bytes one fault →
    Gives bytes other wrong → fault ≡ wrong
same_ending bytes one other None None first second = refl
same_ending bytes one other None (Some error) first second =
    absurd (no_fault bytes one first.0 first.0.version error first.1 second.0)
same_ending bytes one other (Some error) None first second =
    absurd (no_fault bytes other second.0 second.0.version error second.1 first.0)
same_ending bytes one other (Some error) (Some wrong) first second =
    ap (λ (e : FileError). Some e) (one_fault 65535 bytes error wrong (omega arith) first.0 second.0)

pub one_contents : (bytes : List ℕ) (one other : FileContents bytes) →
    (one.messages ≡ other.messages) × (one.fault ≡ other.fault)
one_contents bytes one other = (
  same_parted bytes one.messages other.messages (parted bytes one.messages one.fault one.gives)
      (parted bytes other.messages other.fault other.gives),
  same_ending bytes one.messages other.messages one.fault other.fault one.gives other.gives,
)
