-- A file has at most one fault: two faults of the same bytes are equal.
use Rattle.std.proofs.Common.{◌≡◌, ◌⊎◌, ℕ, ◌+◌, ◌<◌, ◌≤◌, List, [], ◌∷◌, ◌++◌, length, length-append, take}
use Rattle.std.proofs.Common.{get_or, refl, sym, ap, subst, ◌∙◌, append_assoc, inl, inr, arith}
use Rattle.std.specs.List.{AllByRecursion}
use Rattle.byteorder.specs.Endian.{big_number}
use Rattle.mold_wire.specs.Block.{block, blocks}
use Rattle.mold_session.specs.File.{magic_1, magic_2}
use Rattle.mold_session.specs.FileFault.{IsVersion2, IsBody1, IsBody2, IsBody3, IsCut, BlockFault, BlocksFault, FaultInBlocks, FaultInRecords}
use Rattle.mold_session.specs.FileFault.{IsMiscounted, JournalFault, RecordsFault}
use Rattle.mold_session.specs.Journal.{IsWithin}
use Rattle.mold_session.specs.Records.{magic_3}
use Rattle.mold_session.specs.declared.error.FileError.{FileError}
use Rattle.mold_session.specs.declared.error.FileError.TheVariants.{TooLong, Memory, BadMagic, Short, BlockCut, Read, Write, Full, CountDiffers, BadFlag, Damaged}
use Rattle.mold_session.proofs.FileLawLemmas.{length_read, block_here, each_file, same_messages, no_blocks_fault}
use Rattle.mold_session.proofs.HeadLemmas.{one_magic, magic_1_or_3, magic_2_or_3}
use Rattle.mold_session.proofs.RecordLemmas.{one_record_fault}

-- The fault after `count` blocks: no sequence number remains, the message is too long, or its block is cut.
abbrev pub IsFullAt : ℕ → FileError → Type 0
IsFullAt count error = (error ≡ Full) × (18446744073709551614 ≤ count)

abbrev pub IsLongAt : ℕ → ℕ → List ℕ → FileError → Type 0
IsLongAt most count rest error =
    (error ≡ TooLong (big_number 2 rest)) × (count < 18446744073709551614) × (2 ≤ length rest)
    × (most < big_number 2 rest)

abbrev pub IsCutAt : ℕ → ℕ → List ℕ → FileError → Type 0
IsCutAt most count rest error = (error ≡ BlockCut (count + 1)) × (count < 18446744073709551614) × IsCut most rest

abbrev pub IsFaultAt : ℕ → ℕ → List ℕ → FileError → Type 0
IsFaultAt most count rest error =
    IsFullAt count error ⊎ (IsLongAt most count rest error ⊎ IsCutAt most count rest error)

pub fault_at : (most count : ℕ) (rest : List ℕ) (error : FileError) → BlockFault most count rest error →
    IsFaultAt most count rest error
fault_at most count rest Full fault = inl (refl, fault.1)
fault_at most count rest (TooLong len) fault =
    inr (inl (ap (λ (n : ℕ). TooLong n) (sym fault.2), fault.0, fault.1, omega (arith, fault.2, fault.3)))
fault_at most count rest (BlockCut number) fault =
    inr (inr (ap (λ (n : ℕ). BlockCut n) fault.1, fault.0, fault.2))
fault_at most count rest Read fault = absurd fault
fault_at most count rest Memory fault = absurd fault
fault_at most count rest Write fault = absurd fault
fault_at most count rest BadMagic fault = absurd fault
fault_at most count rest (Short len) fault = absurd fault
fault_at most count rest (BadFlag byte) fault = absurd fault
fault_at most count rest (CountDiffers stated found) fault = absurd fault
fault_at most count rest (Damaged number) fault = absurd fault

long_or_cut : (most : ℕ) (rest : List ℕ) → 2 ≤ length rest → most < big_number 2 rest → IsCut most rest → ⊥
long_or_cut most rest some long cut =
    elim cut.short [
      | inl short ↦ absurd (omega (arith, some, short))
      | inr within ↦ absurd (omega (arith, long, within.0))
    ]

-- The same rest has at most one fault.
same_at : (most count : ℕ) (rest : List ℕ) (one other : FileError) → IsFaultAt most count rest one →
    IsFaultAt most count rest other → one ≡ other
same_at most count rest one other (inl full) (inl also) = full.0 ∙ sym also.0
same_at most count rest one other (inl full) (inr (inl long)) = absurd (omega (arith, full.1, long.1))
same_at most count rest one other (inl full) (inr (inr cut)) = absurd (omega (arith, full.1, cut.1))
same_at most count rest one other (inr (inl long)) (inl full) = absurd (omega (arith, full.1, long.1))
same_at most count rest one other (inr (inl long)) (inr (inl also)) = long.0 ∙ sym also.0
same_at most count rest one other (inr (inl long)) (inr (inr cut)) = absurd (long_or_cut most rest long.2 long.3 cut.2)
same_at most count rest one other (inr (inr cut)) (inl full) = absurd (omega (arith, full.1, cut.1))
same_at most count rest one other (inr (inr cut)) (inr (inl long)) = absurd (long_or_cut most rest long.2 long.3 cut.2)
same_at most count rest one other (inr (inr cut)) (inr (inr also)) = cut.0 ∙ sym also.0

-- A whole block within the bound is a fault only if no sequence number remains.
pub full_at_block : (most count : ℕ) (message more rest : List ℕ) (error : FileError) → most ≤ 65535 →
    length message ≤ most → rest ≡ block message ++ more → IsFaultAt most count rest error → IsFullAt count error
full_at_block most count message more rest error bound within starts (inl full) = full
full_at_block most count message more rest error bound within starts (inr (inl long)) =
    let read : big_number 2 rest ≡ length message =
    ap (big_number 2) starts ∙ length_read message more (omega (arith, within, bound))
    in
    absurd (omega (arith, read, within, long.3))
full_at_block most count message more rest error bound within starts (inr (inr cut)) =
    let read : big_number 2 rest ≡ length message =
    ap (big_number 2) starts ∙ length_read message more (omega (arith, within, bound))
    in
    let long : length rest ≡ 2 + (length message + length more) =
    omega (arith, ap (λ (t : List ℕ). length t) starts, length-append message more)
    in
    elim cut.2.short [
      | inl short ↦ absurd (omega (arith, long, short))
      | inr short ↦ absurd (omega (arith, long, read, short.1))
    ]

-- If no sequence number remains, `Full` is the only possible fault.
full_behind : (most count : ℕ) (rest : List ℕ) (error : FileError) → 18446744073709551614 ≤ count →
    IsFaultAt most count rest error → error ≡ Full
full_behind most count rest error last (inl full) = full.0
full_behind most count rest error last (inr (inl long)) = absurd (omega (arith, last, long.1))
full_behind most count rest error last (inr (inr cut)) = absurd (omega (arith, last, cut.1))

block_between : (most count later : ℕ) (message more rest behind : List ℕ) (one other : FileError) → most ≤ 65535 →
    length message ≤ most → rest ≡ block message ++ more → count ≤ later → IsFaultAt most count rest one →
    IsFaultAt most later behind other → one ≡ other
block_between most count later message more rest behind one other bound within starts order first second =
    let full = full_at_block most count message more rest one bound within starts first in
    let last : 18446744073709551614 ≤ later = omega (arith, order, full.1) in
    full.0 ∙ sym (full_behind most later behind other last second)

-- The same bytes are split into blocks and a rest in two ways. If both rests have a fault, the faults are
-- equal.
same_fault : (most count level : ℕ) (one other : List (List ℕ)) (rest behind : List ℕ) (error wrong : FileError) →
    most ≤ 65535 → count + length other ≡ level + length one → AllByRecursion (IsWithin most) one →
    AllByRecursion (IsWithin most) other → blocks one ++ rest ≡ blocks other ++ behind →
    IsFaultAt most count rest error → IsFaultAt most level behind wrong → error ≡ wrong
same_fault most count level [] [] rest behind error wrong bound index each also same first second =
    let here : level ≡ count = omega (arith, index) in
    let there : behind ≡ rest = sym same in
    same_at most count rest error wrong first
    (subst (λ (t : List ℕ). IsFaultAt most count t wrong) there
    (subst (λ (n : ℕ). IsFaultAt most n behind wrong) here second))
same_fault most count level [] (message ∷ other) rest behind error wrong bound index each also same first second =
    block_between most count level message (blocks other ++ behind) rest behind error wrong bound also.0
    (same ∙ append_assoc (block message) (blocks other) behind) (omega (arith, index)) first second
same_fault most count level (message ∷ one) [] rest behind error wrong bound index each also same first second =
    sym (block_between most level count message (blocks one ++ rest) behind rest wrong error bound each.0
    (sym same ∙ append_assoc (block message) (blocks one) rest) (omega (arith, index)) second first)
same_fault most count level (message ∷ one) (next ∷ other) rest behind error wrong bound index each also same first second =
    let short : length message ≤ most = each.0 in
    let brief : length next ≤ most = also.0 in
    let begins = block_here message next (blocks one ++ rest) (blocks other ++ behind)
    (omega (arith, short, bound)) (omega (arith, brief, bound))
    (sym (append_assoc (block message) (blocks one) rest) ∙ same ∙ append_assoc (block next) (blocks other) behind)
    in
    same_fault most count level one other rest behind error wrong bound (omega (arith, index)) each.1 also.1
    begins.behind first second

one_blocks_fault : (most : ℕ) (behind : List ℕ) (one other : FileError) → most ≤ 65535 →
    BlocksFault most behind one → BlocksFault most behind other → one ≡ other
one_blocks_fault most behind one other bound first second =
    same_fault most (length first.messages) (length second.messages) first.messages second.messages first.rest
    second.rest one other bound (omega arith) first.each second.each (sym first.parts ∙ second.parts)
    (fault_at most (length first.messages) first.rest one first.fault)
    (fault_at most (length second.messages) second.rest other second.fault)

-- The bytes after the head are unique.
abbrev pub IsBehind : List ℕ → List ℕ → Type 0
IsBehind bytes behind = IsBody1 bytes behind ⊎ IsBody2 bytes behind

pub same_behind : (bytes one other : List ℕ) → IsBehind bytes one → IsBehind bytes other → one ≡ other
same_behind bytes one other (inl first) (inl second) = first.from ∙ sym second.from
same_behind bytes one other (inl first) (inr second) = absurd (one_magic (sym first.magic ∙ second.magic))
same_behind bytes one other (inr first) (inl second) = absurd (one_magic (sym second.magic ∙ first.magic))
same_behind bytes one other (inr first) (inr second) = first.from ∙ sym second.from

-- A file states another number of messages than it has.
abbrev IsCountedOff : ℕ → List ℕ → FileError → Type 0
IsCountedOff most bytes error =
    (count : ℕ) × (found : ℕ) × (error ≡ CountDiffers count found) × IsMiscounted most bytes count found

blocks_or_count : (most : ℕ) (bytes : List ℕ) (one other : FileError) → most ≤ 65535 → FaultInBlocks most bytes one →
    IsCountedOff most bytes other → ⊥
blocks_or_count most bytes one other bound first second =
    let behind = same_behind bytes first.0 second.3.behind first.1 (inr second.3.head) in
    no_blocks_fault most second.3.messages first.0 one bound second.3.each second.3.few (behind ∙ second.3.parts)
    first.2

one_count : (most : ℕ) (bytes : List ℕ) (one other : FileError) → most ≤ 65535 → IsCountedOff most bytes one →
    IsCountedOff most bytes other → one ≡ other
one_count most bytes one other bound first second =
    let stated : first.0 ≡ second.0 = first.3.stated ∙ sym second.3.stated in
    let same : first.3.messages ≡ second.3.messages =
    same_messages first.3.messages second.3.messages (each_file most first.3.messages bound first.3.each)
    (each_file most second.3.messages bound second.3.each)
    (sym first.3.parts ∙ first.3.head.from ∙ sym second.3.head.from ∙ second.3.parts)
    in
    let found : first.1 ≡ second.1 =
    first.3.counted ∙ ap (λ (t : List (List ℕ)). length t) same ∙ sym second.3.counted
    in
    first.2
    ∙ ap (λ (n : ℕ). CountDiffers n first.1) stated
    ∙ ap (λ (n : ℕ). CountDiffers second.0 n) found
    ∙ sym second.2

one_blocks : (most : ℕ) (bytes : List ℕ) (one other : FileError) → most ≤ 65535 → FaultInBlocks most bytes one →
    FaultInBlocks most bytes other → one ≡ other
one_blocks most bytes one other bound first second =
    let behind : second.0 ≡ first.0 = same_behind bytes second.0 first.0 second.1 first.1 in
    one_blocks_fault most first.0 one other bound first.2
    (subst (λ (t : List ℕ). BlocksFault most t other) behind second.2)

one_records : (most : ℕ) (bytes : List ℕ) (one other : FileError) → most ≤ 65535 → FaultInRecords most bytes one →
    FaultInRecords most bytes other → one ≡ other
one_records most bytes one other bound first second =
    one_record_fault most first.0 one other bound first.2
    (subst (λ (t : List ℕ). RecordsFault most t other) (second.1.from ∙ sym first.1.from) second.2)

-- Where a fault can be: too few bytes, the magic bytes, the flag, the blocks, the number of messages, or the records.
abbrev pub IsShort : List ℕ → FileError → Type 0
IsShort bytes error =
    (error ≡ Short (length bytes)) × ((length bytes < 18) ⊎ (IsVersion2 bytes × (length bytes < 27)))

abbrev pub IsForeign : List ℕ → FileError → Type 0
IsForeign bytes error =
    (error ≡ BadMagic) × (18 ≤ length bytes) × (take 8 bytes ≡ magic_1 → ⊥) × (take 8 bytes ≡ magic_2 → ⊥)
    × (take 8 bytes ≡ magic_3 → ⊥)

abbrev pub IsFlagged : List ℕ → FileError → Type 0
IsFlagged bytes error =
    (error ≡ BadFlag (get_or bytes 18 0)) × IsVersion2 bytes × (27 ≤ length bytes) × (1 < get_or bytes 18 0)

data Place (most : ℕ) (bytes : List ℕ) (error : FileError) : Type 0 where
  In_length : IsShort bytes error → Place most bytes error
  In_magic : IsForeign bytes error → Place most bytes error
  In_flag : IsFlagged bytes error → Place most bytes error
  In_blocks : FaultInBlocks most bytes error → Place most bytes error
  In_count : IsCountedOff most bytes error → Place most bytes error
  In_records : FaultInRecords most bytes error → Place most bytes error

place_of : (most : ℕ) (bytes : List ℕ) (error : FileError) → JournalFault most bytes error → Place most bytes error
place_of most bytes (Short len) fault = In_length (ap (λ (n : ℕ). Short n) fault.0, fault.1)
place_of most bytes BadMagic fault = In_magic (refl, fault.0, fault.1, fault.2, fault.3)
place_of most bytes (BadFlag byte) fault =
    In_flag (ap (λ (n : ℕ). BadFlag n) (sym fault.2), fault.0, fault.1, omega (arith, fault.2, fault.3))
place_of most bytes Full (inl fault) = In_blocks fault
place_of most bytes Full (inr fault) = In_records fault
place_of most bytes (TooLong len) (inl fault) = In_blocks fault
place_of most bytes (TooLong len) (inr fault) = In_records fault
place_of most bytes (Damaged number) fault = In_records fault
place_of most bytes (BlockCut number) fault = In_blocks fault
place_of most bytes (CountDiffers count found) fault = In_count (count, found, refl, fault)
place_of most bytes Read fault = absurd fault
place_of most bytes Memory fault = absurd fault
place_of most bytes Write fault = absurd fault

-- Faults at two of these places exclude each other.
short_or_foreign : (bytes : List ℕ) (one other : FileError) → IsShort bytes one → IsForeign bytes other → ⊥
short_or_foreign bytes one other first second =
    elim first.1 [
      | inl short ↦ absurd (omega (arith, short, second.1))
      | inr short ↦ second.3 short.0
    ]

short_or_flagged : (bytes : List ℕ) (one other : FileError) → IsShort bytes one → IsFlagged bytes other → ⊥
short_or_flagged bytes one other first second =
    elim first.1 [
      | inl short ↦ absurd (omega (arith, short, second.2))
      | inr short ↦ absurd (omega (arith, short.1, second.2))
    ]

pub short_or_headed : (bytes behind : List ℕ) (one : FileError) → IsShort bytes one → IsBehind bytes behind → ⊥
short_or_headed bytes behind one first (inl head) =
    elim first.1 [
      | inl short ↦ absurd (omega (arith, short, head.whole))
      | inr short ↦ one_magic (sym head.magic ∙ short.0)
    ]
short_or_headed bytes behind one first (inr head) =
    elim first.1 [
      | inl short ↦ absurd (omega (arith, short, head.whole))
      | inr short ↦ absurd (omega (arith, short.1, head.whole))
    ]

pub foreign_or_headed : (bytes behind : List ℕ) (one : FileError) → IsForeign bytes one → IsBehind bytes behind → ⊥
foreign_or_headed bytes behind one first (inl head) = first.2 head.magic
foreign_or_headed bytes behind one first (inr head) = first.3 head.magic

pub flagged_or_headed : (bytes behind : List ℕ) (one : FileError) → IsFlagged bytes one → IsBehind bytes behind → ⊥
flagged_or_headed bytes behind one first (inl head) = one_magic (sym head.magic ∙ first.1)
flagged_or_headed bytes behind one first (inr head) = absurd (omega (arith, first.3, head.flag))

-- A file whose head is not of version 3 has no fault in its records.
pub short_or_recorded : (bytes behind : List ℕ) (one : FileError) → IsShort bytes one → IsBody3 bytes behind → ⊥
short_or_recorded bytes behind one first head =
    elim first.1 [
      | inl short ↦ absurd (omega (arith, short, head.whole))
      | inr short ↦ magic_2_or_3 (sym short.0 ∙ head.magic)
    ]

pub foreign_or_recorded : (bytes behind : List ℕ) (one : FileError) → IsForeign bytes one → IsBody3 bytes behind → ⊥
foreign_or_recorded bytes behind one first head = first.4 head.magic

pub flagged_or_recorded : (bytes behind : List ℕ) (one : FileError) → IsFlagged bytes one → IsBody3 bytes behind → ⊥
flagged_or_recorded bytes behind one first head = magic_2_or_3 (sym first.1 ∙ head.magic)

pub headed_or_recorded : (bytes behind after : List ℕ) → IsBehind bytes behind → IsBody3 bytes after → ⊥
headed_or_recorded bytes behind after (inl head) other = magic_1_or_3 (sym head.magic ∙ other.magic)
headed_or_recorded bytes behind after (inr head) other = magic_2_or_3 (sym head.magic ∙ other.magic)

same_place : (most : ℕ) (bytes : List ℕ) (one other : FileError) → most ≤ 65535 → Place most bytes one →
    Place most bytes other → one ≡ other
same_place most bytes one other bound (In_length first) (In_length second) = first.0 ∙ sym second.0
same_place most bytes one other bound (In_length first) (In_magic second) =
    absurd (short_or_foreign bytes one other first second)
same_place most bytes one other bound (In_length first) (In_flag second) =
    absurd (short_or_flagged bytes one other first second)
same_place most bytes one other bound (In_length first) (In_blocks second) =
    absurd (short_or_headed bytes second.0 one first second.1)
same_place most bytes one other bound (In_length first) (In_count second) =
    absurd (short_or_headed bytes second.3.behind one first (inr second.3.head))
same_place most bytes one other bound (In_magic first) (In_length second) =
    absurd (short_or_foreign bytes other one second first)
same_place most bytes one other bound (In_magic first) (In_magic second) = first.0 ∙ sym second.0
same_place most bytes one other bound (In_magic first) (In_flag second) = absurd (first.3 second.1)
same_place most bytes one other bound (In_magic first) (In_blocks second) =
    absurd (foreign_or_headed bytes second.0 one first second.1)
same_place most bytes one other bound (In_magic first) (In_count second) =
    absurd (foreign_or_headed bytes second.3.behind one first (inr second.3.head))
same_place most bytes one other bound (In_flag first) (In_length second) =
    absurd (short_or_flagged bytes other one second first)
same_place most bytes one other bound (In_flag first) (In_magic second) = absurd (second.3 first.1)
same_place most bytes one other bound (In_flag first) (In_flag second) = first.0 ∙ sym second.0
same_place most bytes one other bound (In_flag first) (In_blocks second) =
    absurd (flagged_or_headed bytes second.0 one first second.1)
same_place most bytes one other bound (In_flag first) (In_count second) =
    absurd (flagged_or_headed bytes second.3.behind one first (inr second.3.head))
same_place most bytes one other bound (In_blocks first) (In_length second) =
    absurd (short_or_headed bytes first.0 other second first.1)
same_place most bytes one other bound (In_blocks first) (In_magic second) =
    absurd (foreign_or_headed bytes first.0 other second first.1)
same_place most bytes one other bound (In_blocks first) (In_flag second) =
    absurd (flagged_or_headed bytes first.0 other second first.1)
same_place most bytes one other bound (In_blocks first) (In_blocks second) =
    one_blocks most bytes one other bound first second
same_place most bytes one other bound (In_blocks first) (In_count second) =
    absurd (blocks_or_count most bytes one other bound first second)
same_place most bytes one other bound (In_count first) (In_length second) =
    absurd (short_or_headed bytes first.3.behind other second (inr first.3.head))
same_place most bytes one other bound (In_count first) (In_magic second) =
    absurd (foreign_or_headed bytes first.3.behind other second (inr first.3.head))
same_place most bytes one other bound (In_count first) (In_flag second) =
    absurd (flagged_or_headed bytes first.3.behind other second (inr first.3.head))
same_place most bytes one other bound (In_count first) (In_blocks second) =
    absurd (blocks_or_count most bytes other one bound second first)
same_place most bytes one other bound (In_count first) (In_count second) =
    one_count most bytes one other bound first second
same_place most bytes one other bound (In_records first) (In_records second) =
    one_records most bytes one other bound first second
same_place most bytes one other bound (In_records first) (In_length second) =
    absurd (short_or_recorded bytes first.0 other second first.1)
same_place most bytes one other bound (In_records first) (In_magic second) =
    absurd (foreign_or_recorded bytes first.0 other second first.1)
same_place most bytes one other bound (In_records first) (In_flag second) =
    absurd (flagged_or_recorded bytes first.0 other second first.1)
same_place most bytes one other bound (In_records first) (In_blocks second) =
    absurd (headed_or_recorded bytes second.0 first.0 second.1 first.1)
same_place most bytes one other bound (In_records first) (In_count second) =
    absurd (headed_or_recorded bytes second.3.behind first.0 (inr second.3.head) first.1)
same_place most bytes one other bound (In_length first) (In_records second) =
    absurd (short_or_recorded bytes second.0 one first second.1)
same_place most bytes one other bound (In_magic first) (In_records second) =
    absurd (foreign_or_recorded bytes second.0 one first second.1)
same_place most bytes one other bound (In_flag first) (In_records second) =
    absurd (flagged_or_recorded bytes second.0 one first second.1)
same_place most bytes one other bound (In_blocks first) (In_records second) =
    absurd (headed_or_recorded bytes first.0 second.0 first.1 second.1)
same_place most bytes one other bound (In_count first) (In_records second) =
    absurd (headed_or_recorded bytes first.3.behind second.0 (inr first.3.head) second.1)

-- A file has at most one fault.
pub one_fault : (most : ℕ) (bytes : List ℕ) (one other : FileError) → most ≤ 65535 → JournalFault most bytes one →
    JournalFault most bytes other → one ≡ other
one_fault most bytes one other bound first second =
    same_place most bytes one other bound (place_of most bytes one first) (place_of most bytes other second)
