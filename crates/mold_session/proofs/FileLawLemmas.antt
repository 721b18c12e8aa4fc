-- A file has one reading: two journals with the same file are equal, and the file of a journal has no fault.
use Rattle.std.proofs.Common.{◌≡◌, ℕ, ◌+◌, ◌<◌, ◌≤◌, Bool, true, false, List, [], ◌∷◌, ◌++◌, length, length-append}
use Rattle.std.proofs.Common.{take, drop, refl, sym, ap, subst, ◌∙◌, append_assoc, inl, inr, arith}
use Rattle.std.proofs.lemmas.List.{take_at, drop_at, append_cancel_left}
use Rattle.std.specs.List.{AllByRecursion}
use Rattle.byteorder.specs.Endian.{big_number}
use Rattle.mold_wire.specs.Block.{be64, block, blocks}
use Rattle.mold_wire.specs.declared.session.Session.{Session}
use Rattle.mold_session.specs.File.{magic_1, magic_2, closed_byte, head_2, SpellsJournal, SpellsJournal2}
use Rattle.mold_session.specs.FileFault.{BlockFault, BlocksFault, FaultInBlocks, FaultInRecords, JournalFault}
use Rattle.mold_session.specs.Journal.{IsWithin}
use Rattle.mold_session.specs.Records.{magic_3}
use Rattle.mold_session.specs.declared.error.FileError.{FileError}
use Rattle.mold_session.specs.declared.error.FileError.TheVariants.{TooLong, Memory, BadMagic, Short, BlockCut, Read, Write, Full, CountDiffers, BadFlag, Damaged}
use Rattle.mold_session.proofs.HeadLemmas.{length-magic_1, length-magic_2, one_magic, magic_1_or_3, magic_2_or_3, behind_1, behind_2, count_at, flag_at}

-- A block begins with the length of its message.
pub length_read : (message rest : List ℕ) → length message ≤ 65535 → big_number 2 (block message ++ rest) ≡ length message
length_read message rest fits = omega arith

-- Two blocks at the start of the same bytes have the same message, and the bytes after them are the same.
pub record SameBlock (one other more rest : List ℕ) : Type 0 where
  pub message : one ≡ other
  pub behind : more ≡ rest

pub block_here : (one other more rest : List ℕ) → length one ≤ 65535 → length other ≤ 65535 →
    block one ++ more ≡ block other ++ rest → SameBlock one other more rest
block_here one other more rest fits also same =
    let long : length one ≡ length other =
    sym (length_read one more fits) ∙ ap (big_number 2) same ∙ length_read other rest also
    in
    let joined : one ++ more ≡ other ++ rest = ap (drop 2) same in
    let message : one ≡ other =
    sym (take_at one more (length one) refl)
    ∙ ap (take (length one)) joined
    ∙ take_at other rest (length one) (sym long)
    in
    record {
      message = message;
      behind = append_cancel_left one more rest (joined ∙ ap (λ (t : List ℕ). t ++ rest) (sym message));
    }

pub no_block : (message more : List ℕ) → block message ++ more ≡ [] → ⊥
no_block message more same = absurd (omega (arith, ap (λ (t : List ℕ). length t) same))

-- If the blocks of `all` are the blocks of `front` and a rest, then the rest is the blocks of the remaining
-- messages.
pub record Further (front all : List (List ℕ)) (rest : List ℕ) : Type 0 where
  pub extra : List (List ℕ)
  pub longer : all ≡ front ++ extra
  pub behind : rest ≡ blocks extra

further : (front all : List (List ℕ)) (rest : List ℕ) → AllByRecursion (IsWithin 65535) front →
    AllByRecursion (IsWithin 65535) all → blocks all ≡ blocks front ++ rest → Further front all rest
further [] all rest each also same = record { extra = all; longer = refl; behind = sym same }
further (message ∷ front) [] rest each also same =
    absurd (no_block message (blocks front ++ rest) (sym (append_assoc (block message) (blocks front) rest) ∙ sym same))
further (message ∷ front) (first ∷ all) rest each also same =
    let begins = block_here first message (blocks all) (blocks front ++ rest) also.0 each.0
    (same ∙ append_assoc (block message) (blocks front) rest)
    in
    let others = further front all rest each.1 also.1 begins.behind in
    record {
      extra = others.extra;
      longer =
          ap (λ (t : List ℕ). t ∷ all) begins.message
          ∙ ap (λ (t : List (List ℕ)). message ∷ t) others.longer;
      behind = others.behind;
    }

-- Equal blocks have equal messages.
pub same_messages : (one other : List (List ℕ)) → AllByRecursion (IsWithin 65535) one →
    AllByRecursion (IsWithin 65535) other → blocks one ≡ blocks other → one ≡ other
same_messages [] [] each also same = refl
same_messages [] (message ∷ other) each also same = absurd (no_block message (blocks other) (sym same))
same_messages (message ∷ one) [] each also same = absurd (no_block message (blocks one) same)
same_messages (message ∷ one) (first ∷ other) each also same =
    let begins = block_here message first (blocks one) (blocks other) each.0 also.0 same in
    ap (λ (t : List ℕ). t ∷ one) begins.message
    ∙ ap (λ (t : List (List ℕ)). first ∷ t) (same_messages one other each.1 also.1 begins.behind)

pub each_file : (most : ℕ) (messages : List (List ℕ)) → most ≤ 65535 → AllByRecursion (IsWithin most) messages →
    AllByRecursion (IsWithin 65535) messages
each_file most [] bound each = tt
each_file most (message ∷ messages) bound each =
    let first : length message ≤ most = each.0 in
    (omega (arith, first), each_file most messages bound each.1)

each_behind : (most : ℕ) (front extra : List (List ℕ)) → AllByRecursion (IsWithin most) (front ++ extra) →
    AllByRecursion (IsWithin most) extra
each_behind most [] extra each = each
each_behind most (message ∷ front) extra each = each_behind most front extra each.1

-- The blocks after a prefix of the blocks have no fault.
no_rest_fault : (most count : ℕ) (extra : List (List ℕ)) (rest : List ℕ) (error : FileError) → most ≤ 65535 →
    AllByRecursion (IsWithin most) extra → count + length extra < 18446744073709551615 → rest ≡ blocks extra →
    BlockFault most count rest error → ⊥
no_rest_fault most count [] rest Full bound each few same fault =
    absurd (omega (arith, ap (λ (t : List ℕ). length t) same, fault.0))
no_rest_fault most count [] rest (TooLong len) bound each few same fault =
    absurd (omega (arith, ap (λ (t : List ℕ). length t) same, fault.1))
no_rest_fault most count [] rest (BlockCut number) bound each few same fault =
    absurd (omega (arith, ap (λ (t : List ℕ). length t) same, fault.2.some))
no_rest_fault most count (message ∷ extra) rest Full bound each few same fault = absurd (omega (arith, fault.1))
no_rest_fault most count (message ∷ extra) rest (TooLong len) bound each few same fault =
    let within : length message ≤ most = each.0 in
    let read : big_number 2 rest ≡ length message =
    ap (big_number 2) same ∙ length_read message (blocks extra) (omega (arith, within, bound))
    in
    absurd (omega (arith, read, within, fault.2, fault.3))
no_rest_fault most count (message ∷ extra) rest (BlockCut number) bound each few same fault =
    let within : length message ≤ most = each.0 in
    let read : big_number 2 rest ≡ length message =
    ap (big_number 2) same ∙ length_read message (blocks extra) (omega (arith, within, bound))
    in
    let long : length rest ≡ 2 + (length message + length (blocks extra)) =
    omega (arith, ap (λ (t : List ℕ). length t) same, length-append message (blocks extra))
    in
    elim fault.2.short [
      | inl cut ↦ absurd (omega (arith, long, cut))
      | inr cut ↦ absurd (omega (arith, long, read, cut.1))
    ]
no_rest_fault most count extra rest Read bound each few same fault = fault
no_rest_fault most count extra rest Memory bound each few same fault = fault
no_rest_fault most count extra rest Write bound each few same fault = fault
no_rest_fault most count extra rest BadMagic bound each few same fault = fault
no_rest_fault most count extra rest (Short len) bound each few same fault = fault
no_rest_fault most count extra rest (BadFlag byte) bound each few same fault = fault
no_rest_fault most count extra rest (CountDiffers stated found) bound each few same fault = fault
no_rest_fault most count extra rest (Damaged number) bound each few same fault = fault

pub no_blocks_fault : (most : ℕ) (messages : List (List ℕ)) (behind : List ℕ) (error : FileError) → most ≤ 65535 →
    AllByRecursion (IsWithin most) messages → length messages < 18446744073709551615 → behind ≡ blocks messages →
    BlocksFault most behind error → ⊥
no_blocks_fault most messages behind error bound each few same fault =
    let found = further fault.messages messages fault.rest (each_file most fault.messages bound fault.each)
    (each_file most messages bound each) (sym same ∙ fault.parts)
    in
    no_rest_fault most (length fault.messages) found.extra fault.rest error bound
    (each_behind most fault.messages found.extra (subst (AllByRecursion (IsWithin most)) found.longer each))
    (omega (
      arith,
      few,
      ap (λ (t : List (List ℕ)). length t) found.longer,
      length-append fault.messages found.extra,
    ))
    found.behind fault.fault

-- Only a file of version 3 has a fault in its records.
pub no_records : (most : ℕ) (bytes magic : List ℕ) (error : FileError) → take 8 bytes ≡ magic →
    (magic ≡ magic_3 → ⊥) → FaultInRecords most bytes error → ⊥
no_records most bytes magic error is other fault = other (sym is ∙ fault.1.magic)

no_fault_behind_1 : (most : ℕ) (session : Session) (messages : List (List ℕ)) (bytes : List ℕ) (error : FileError) →
    most ≤ 65535 → SpellsJournal session messages bytes → AllByRecursion (IsWithin most) messages →
    FaultInBlocks most bytes error → ⊥
no_fault_behind_1 most session messages bytes error bound spelled each fault =
    let head = behind_1 session.0 bytes (blocks messages) spelled.named spelled.spelled in
    elim fault.1 [
      | inl behind ↦ no_blocks_fault most messages fault.0 error bound each spelled.listed.few
          (behind.from ∙ sym head.from) fault.2
      | inr behind ↦ one_magic (sym head.magic ∙ behind.magic)
    ]

-- The file of a journal has no fault: version 1.
pub no_fault_1 : (most : ℕ) (session : Session) (messages : List (List ℕ)) (bytes : List ℕ) (error : FileError) →
    most ≤ 65535 → SpellsJournal session messages bytes → AllByRecursion (IsWithin most) messages →
    JournalFault most bytes error → ⊥
no_fault_1 most session messages bytes (Short len) bound spelled each fault =
    let head = behind_1 session.0 bytes (blocks messages) spelled.named spelled.spelled in
    elim fault.1 [
      | inl short ↦ absurd (omega (arith, short, head.whole))
      | inr short ↦ one_magic (sym head.magic ∙ short.0)
    ]
no_fault_1 most session messages bytes BadMagic bound spelled each fault =
    fault.1 (behind_1 session.0 bytes (blocks messages) spelled.named spelled.spelled).magic
no_fault_1 most session messages bytes (BadFlag byte) bound spelled each fault =
    one_magic (sym (behind_1 session.0 bytes (blocks messages) spelled.named spelled.spelled).magic ∙ fault.0)
no_fault_1 most session messages bytes (CountDiffers count found) bound spelled each fault =
    one_magic (sym (behind_1 session.0 bytes (blocks messages) spelled.named spelled.spelled).magic ∙ fault.head.magic)
no_fault_1 most session messages bytes Full bound spelled each (inl fault) =
    no_fault_behind_1 most session messages bytes Full bound spelled each fault
no_fault_1 most session messages bytes Full bound spelled each (inr fault) =
    no_records most bytes magic_1 Full
    (behind_1 session.0 bytes (blocks messages) spelled.named spelled.spelled).magic magic_1_or_3 fault
no_fault_1 most session messages bytes (TooLong len) bound spelled each (inl fault) =
    no_fault_behind_1 most session messages bytes (TooLong len) bound spelled each fault
no_fault_1 most session messages bytes (TooLong len) bound spelled each (inr fault) =
    no_records most bytes magic_1 (TooLong len)
    (behind_1 session.0 bytes (blocks messages) spelled.named spelled.spelled).magic magic_1_or_3 fault
no_fault_1 most session messages bytes (Damaged number) bound spelled each fault =
    no_records most bytes magic_1 (Damaged number)
    (behind_1 session.0 bytes (blocks messages) spelled.named spelled.spelled).magic magic_1_or_3 fault
no_fault_1 most session messages bytes (BlockCut number) bound spelled each fault =
    no_fault_behind_1 most session messages bytes (BlockCut number) bound spelled each fault
no_fault_1 most session messages bytes Read bound spelled each fault = fault
no_fault_1 most session messages bytes Memory bound spelled each fault = fault
no_fault_1 most session messages bytes Write bound spelled each fault = fault

no_fault_behind_2 : (most : ℕ) (session : Session) (messages : List (List ℕ)) (closed : Bool) (bytes : List ℕ)
    (error : FileError) → most ≤ 65535 → SpellsJournal2 session messages closed bytes →
    AllByRecursion (IsWithin most) messages → FaultInBlocks most bytes error → ⊥
no_fault_behind_2 most session messages closed bytes error bound spelled each fault =
    let head = behind_2 session.0 bytes (blocks messages) closed (length messages) spelled.named spelled.spelled in
    elim fault.1 [
      | inl behind ↦ one_magic (sym behind.magic ∙ head.magic)
      | inr behind ↦ no_blocks_fault most messages fault.0 error bound each spelled.listed.few
          (behind.from ∙ sym head.from) fault.2
    ]

-- The file of a journal has no fault: version 2.
pub no_fault_2 : (most : ℕ) (session : Session) (messages : List (List ℕ)) (closed : Bool) (bytes : List ℕ)
    (error : FileError) → most ≤ 65535 → SpellsJournal2 session messages closed bytes →
    AllByRecursion (IsWithin most) messages → JournalFault most bytes error → ⊥
no_fault_2 most session messages closed bytes (Short len) bound spelled each fault =
    let head = behind_2 session.0 bytes (blocks messages) closed (length messages) spelled.named spelled.spelled in
    elim fault.1 [
      | inl short ↦ absurd (omega (arith, short, head.whole))
      | inr short ↦ absurd (omega (arith, short.1, head.whole))
    ]
no_fault_2 most session messages closed bytes BadMagic bound spelled each fault =
    fault.2 (behind_2 session.0 bytes (blocks messages) closed (length messages) spelled.named spelled.spelled).magic
no_fault_2 most session messages closed bytes (BadFlag byte) bound spelled each fault =
    let head = behind_2 session.0 bytes (blocks messages) closed (length messages) spelled.named spelled.spelled in
    absurd (omega (arith, fault.2, fault.3, head.flag))
no_fault_2 most session messages closed bytes (CountDiffers count found) bound spelled each fault =
    let head = behind_2 session.0 bytes (blocks messages) closed (length messages) spelled.named spelled.spelled in
    let stated : length messages ≡ big_number 8 (drop 19 bytes) =
    count_at session.0 bytes (blocks messages) closed (length messages) spelled.named
    (omega (arith, spelled.listed.few)) spelled.spelled
    in
    let same : messages ≡ fault.messages =
    same_messages messages fault.messages spelled.listed.each (each_file most fault.messages bound fault.each)
    (head.from ∙ sym fault.head.from ∙ fault.parts)
    in
    fault.differs
    (fault.stated ∙ sym stated ∙ ap (λ (t : List (List ℕ)). length t) same ∙ sym fault.counted)
no_fault_2 most session messages closed bytes Full bound spelled each (inl fault) =
    no_fault_behind_2 most session messages closed bytes Full bound spelled each fault
no_fault_2 most session messages closed bytes Full bound spelled each (inr fault) =
    no_records most bytes magic_2 Full
    (behind_2 session.0 bytes (blocks messages) closed (length messages) spelled.named spelled.spelled).magic
    magic_2_or_3 fault
no_fault_2 most session messages closed bytes (TooLong len) bound spelled each (inl fault) =
    no_fault_behind_2 most session messages closed bytes (TooLong len) bound spelled each fault
no_fault_2 most session messages closed bytes (TooLong len) bound spelled each (inr fault) =
    no_records most bytes magic_2 (TooLong len)
    (behind_2 session.0 bytes (blocks messages) closed (length messages) spelled.named spelled.spelled).magic
    magic_2_or_3 fault
no_fault_2 most session messages closed bytes (Damaged number) bound spelled each fault =
    no_records most bytes magic_2 (Damaged number)
    (behind_2 session.0 bytes (blocks messages) closed (length messages) spelled.named spelled.spelled).magic
    magic_2_or_3 fault
no_fault_2 most session messages closed bytes (BlockCut number) bound spelled each fault =
    no_fault_behind_2 most session messages closed bytes (BlockCut number) bound spelled each fault
no_fault_2 most session messages closed bytes Read bound spelled each fault = fault
no_fault_2 most session messages closed bytes Memory bound spelled each fault = fault
no_fault_2 most session messages closed bytes Write bound spelled each fault = fault

-- No bytes are files of both versions.
pub one_version : (one other : Session) (messages others : List (List ℕ)) (closed : Bool) (bytes : List ℕ) →
    SpellsJournal one messages bytes → SpellsJournal2 other others closed bytes → ⊥
one_version one other messages others closed bytes first second = one_magic (
    sym (behind_1 one.0 bytes (blocks messages) first.named first.spelled).magic
    ∙ (behind_2 other.0 bytes (blocks others) closed (length others) second.named second.spelled).magic
    )

-- Two journals with the same file are equal.
pub session_at : (session bytes behind magic : List ℕ) → length magic ≡ 8 → length session ≡ 10 →
    bytes ≡ magic ++ (session ++ behind) → session ≡ take 10 (drop 8 bytes)
session_at session bytes behind magic eight ten parts = sym (
    ap (λ (t : List ℕ). take 10 (drop 8 t)) parts
    ∙ ap (take 10) (drop_at magic (session ++ behind) 8 eight)
    ∙ take_at session behind 10 ten
    )

pub as_session : (one other : Session) → one.0 ≡ other.0 → one ≡ other
as_session one other same = ap (λ (x : List ℕ). record { 0 = x }) same

pub one_journal : (one other : Session) (messages others : List (List ℕ)) (bytes : List ℕ) →
    SpellsJournal one messages bytes → SpellsJournal other others bytes → (one ≡ other) × (messages ≡ others)
one_journal one other messages others bytes first second = (
  as_session one other (
      session_at one.0 bytes (blocks messages) magic_1 length-magic_1 first.named
      (first.spelled ∙ append_assoc magic_1 one.0 (blocks messages))
      ∙ sym (session_at other.0 bytes (blocks others) magic_1 length-magic_1 second.named
      (second.spelled ∙ append_assoc magic_1 other.0 (blocks others)))
      ),
  same_messages messages others first.listed.each second.listed.each (
      (behind_1 one.0 bytes (blocks messages) first.named first.spelled).from
      ∙ sym (behind_1 other.0 bytes (blocks others) second.named second.spelled).from
      ),
)

closed_same : (one other : Bool) → closed_byte one ≡ closed_byte other → one ≡ other
closed_same true true same = refl
closed_same true false same = absurd (omega (arith, same))
closed_same false true same = absurd (omega (arith, same))
closed_same false false same = refl

session_parts : (session : List ℕ) (closed : Bool) (count : ℕ) (behind : List ℕ) →
    head_2 session closed count ++ behind ≡ magic_2 ++ (session ++ ((closed_byte closed ∷ be64 count) ++ behind))
session_parts session closed count behind =
    append_assoc magic_2 (session ++ (closed_byte closed ∷ be64 count)) behind
    ∙ ap (λ (t : List ℕ). magic_2 ++ t) (append_assoc session (closed_byte closed ∷ be64 count) behind)

pub one_journal_2 : (one other : Session) (messages others : List (List ℕ)) (closed shut : Bool) (bytes : List ℕ) →
    SpellsJournal2 one messages closed bytes → SpellsJournal2 other others shut bytes →
    (one ≡ other) × (messages ≡ others) × (closed ≡ shut)
one_journal_2 one other messages others closed shut bytes first second = (
  as_session one other (
      session_at one.0 bytes ((closed_byte closed ∷ be64 (length messages)) ++ blocks messages) magic_2 length-magic_2
      first.named (first.spelled ∙ session_parts one.0 closed (length messages) (blocks messages))
      ∙ sym (session_at other.0 bytes ((closed_byte shut ∷ be64 (length others)) ++ blocks others) magic_2 length-magic_2
      second.named (second.spelled ∙ session_parts other.0 shut (length others) (blocks others)))
      ),
  same_messages messages others first.listed.each second.listed.each (
      (behind_2 one.0 bytes (blocks messages) closed (length messages) first.named first.spelled).from
      ∙ sym (behind_2 other.0 bytes (blocks others) shut (length others) second.named second.spelled).from
      ),
  closed_same closed shut (
      sym (flag_at one.0 bytes (blocks messages) closed (length messages) first.named first.spelled)
      ∙ flag_at other.0 bytes (blocks others) shut (length others) second.named second.spelled
      ),
)

pub ruleset one_reading = (one_journal, one_journal_2, one_version, no_fault_1, no_fault_2)
