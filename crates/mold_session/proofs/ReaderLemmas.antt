-- The contents of a file, given the messages that were read of it.
use Rattle.std.proofs.Common.{◌≡◌, ℕ, ◌<◌, ◌≤◌, true, false, true≢false, List, [], ◌∷◌, ◌++◌, length, length-append, Option}
use Rattle.std.proofs.Common.{None, Some, refl, sym, ap, subst, ◌∙◌, append_assoc, append-nil, inl, inr, arith}
use Rattle.std.specs.Prelude.{IfSome}
use Rattle.std.specs.Io.KnownBytes.{Consumes, prepend_known}
use Rattle.std.specs.List.{AllByRecursion}
use Rattle.std.proofs.KnownBytes.{Consumes-trans, Keeps-refl, prepend_known-read}
use Rattle.std.proofs.lemmas.List.Concat.{flat_map-append}
use Rattle.mold_wire.specs.Block.{blocks}
use Rattle.mold_wire.specs.declared.block.TheConstants.{MAX_MESSAGE}
use Rattle.mold_session.specs.Contents.{HasBlocks, AreBefore, AreBeforeRecord, Gives, FileContents, IsFront}
use Rattle.mold_session.specs.FileFault.{IsBody3, BlockFault, HasRecords, JournalFault, PrecedeRecord, RecordFault}
use Rattle.mold_session.specs.Journal.{IsWithin}
use Rattle.mold_session.specs.Loading.{head_spelling, has_records, message_spelling, messages_spelling, stated_count}
use Rattle.mold_session.specs.Loading.{IsOfHead, IsStated, ReadsHead, Refuses, SpellsFile}
use Rattle.mold_session.specs.Reader.{BlocksRestFault, EndsWith, HasRead, PassesBlocks, ReaderState, ReadsNext}
use Rattle.mold_session.specs.Reader.{RestFault, head_at_end}
use Rattle.mold_session.specs.declared.error.FileError.{FileError}
use Rattle.mold_session.specs.declared.error.FileError.TheVariants.{TooLong, Memory, BadMagic, Short, BlockCut, Read, Write, Full, CountDiffers, BadFlag, Damaged}
use Rattle.mold_session.specs.declared.file_version.FileVersion.{FileVersion}
use Rattle.mold_session.specs.declared.file_version.FileVersion.TheVariants.{One, Two, Three}
use Rattle.mold_session.specs.declared.loading.FileHead.{FileHead}
use Rattle.mold_session.proofs.ContentsLemmas.{begins, record_begins}
use Rattle.mold_session.proofs.HeadLemmas.{refused_behind}
use Rattle.mold_session.proofs.FileLemmas.{as_blocks, as_records, behind_head, behind_head_3, in_file, in_file_3, count_refused, file_ended}

-- ---- the head

in_known : (known : Option (List ℕ)) (P Q : List ℕ → Type 0) → ((bytes : List ℕ) → P bytes → Q bytes) →
    IfSome known P → IfSome known Q
in_known None P Q same holds = tt
in_known (Some bytes) P Q same holds = same bytes holds

-- A file whose head is refused has no messages.
pub head_refused : (known : Option (List ℕ)) (error : FileError) → IsOfHead error →
    Refuses (JournalFault 65535) known error → Refuses (λ bytes why. Gives bytes [] (Some why)) known error
head_refused known (Short len) of refused =
    in_known known (λ bytes. JournalFault 65535 bytes (Short len)) (λ bytes. Gives bytes [] (Some (Short len)))
    (λ bytes fault. (fault, refl)) refused
head_refused known BadMagic of refused =
    in_known known (λ bytes. JournalFault 65535 bytes BadMagic) (λ bytes. Gives bytes [] (Some BadMagic))
    (λ bytes fault. (fault, refl)) refused
head_refused known (BadFlag byte) of refused =
    in_known known (λ bytes. JournalFault 65535 bytes (BadFlag byte)) (λ bytes. Gives bytes [] (Some (BadFlag byte)))
    (λ bytes fault. (fault, refl)) refused
head_refused known Read of refused = tt
head_refused known Memory of refused = tt
head_refused known Write of refused = absurd of
head_refused known Full of refused = absurd of
head_refused known (TooLong len) of refused = absurd of
head_refused known (BlockCut number) of refused = absurd of
head_refused known (CountDiffers count found) of refused = absurd of
head_refused known (Damaged number) of refused = absurd of

-- ---- the next message

each_more : (messages : List (List ℕ)) (message : List ℕ) → AllByRecursion (IsWithin 65535) messages →
    length message < 65536 → AllByRecursion (IsWithin 65535) (messages ++ message ∷ [])
each_more [] message each within = (omega (arith, within), tt)
each_more (first ∷ messages) message each within = (each.0, each_more messages message each.1 within)

pub read_more : (known left after : Option (List ℕ)) (reader next : ReaderState) (messages : List (List ℕ)) →
    HasRead known left reader messages → ReadsNext left after reader next →
    HasRead known after next (messages ++ next.message ∷ [])
read_more known left after reader next messages read more =
    let within : length next.message ≤ 65535 = more.within in
    let head : FileHead → List ℕ = λ h. head_spelling h.session.0 h.closed h.version in
    let spell : List ℕ → List ℕ = message_spelling reader.head.version in
    let all : List (List ℕ) → List ℕ = messages_spelling reader.head.version in
    let joined : (head reader.head ++ all messages) ++ spell next.message
    ≡ head reader.head ++ all (messages ++ next.message ∷ []) =
    append_assoc (head reader.head) (all messages) (spell next.message)
    ∙ ap (λ (t : List ℕ). head reader.head ++ t)
    (ap (λ (t : List ℕ). all messages ++ t) (sym (append-nil (spell next.message)))
    ∙ sym (flat_map-append spell messages (next.message ∷ [])))
    in
    let same : reader.head ≡ next.head = sym more.same in
    record {
      named = subst (λ (h : FileHead). length h.session.0 ≡ 10) same read.named;
      said = subst (λ (h : FileHead). IsStated h.closed h.version) same read.said;
      listed = record {
        few = omega (arith, read.counted, more.few, length-append messages (next.message ∷ []));
        each = each_more messages next.message read.listed.each (omega (arith, within));
      };
      counted = omega (arith, read.counted, more.counted, length-append messages (next.message ∷ []));
      consumed =
          subst
          (λ (h : FileHead). Consumes known after (head h ++ messages_spelling h.version (messages ++ next.message ∷ [])))
          same
          (subst (Consumes known after) joined
          (Consumes-trans known left after (head reader.head ++ all messages) (spell next.message) read.consumed
          more.consumed));
    }

-- ---- blocks that are taken at once

each_all : (front messages : List (List ℕ)) → AllByRecursion (IsWithin MAX_MESSAGE) front →
    AllByRecursion (IsWithin MAX_MESSAGE) messages → AllByRecursion (IsWithin MAX_MESSAGE) (front ++ messages)
each_all [] messages front each = each
each_all (first ∷ others) messages front each = (front.0, each_all others messages front.1 each)

pub read_blocks : (known left : Option (List ℕ)) (reader next : ReaderState) (limit : ℕ)
    (messages more : List (List ℕ)) → HasRead known (prepend_known reader.rest left) reader messages →
    PassesBlocks limit reader next more → HasRead known (prepend_known next.rest left) next (messages ++ more)
read_blocks known left reader next limit messages more read passes =
    let head : FileHead → List ℕ = λ h. head_spelling h.session.0 h.closed h.version in
    let after = prepend_known next.rest left in
    let all : List (List ℕ) → List ℕ = messages_spelling reader.head.version in
    let joined : (head reader.head ++ all messages) ++ all more ≡ head reader.head ++ all (messages ++ more) =
    append_assoc (head reader.head) (all messages) (all more)
    ∙ ap (λ (t : List ℕ). head reader.head ++ t)
    (sym (flat_map-append (message_spelling reader.head.version) messages more))
    in
    let taken : Consumes (prepend_known reader.rest left) after (all more) =
    (prepend_known-read (prepend_known reader.rest left) left reader.rest next.rest (all more) ⊥
    (Keeps-refl (prepend_known reader.rest left)) passes.parts (λ none. absurd none)).0
    in
    let same : reader.head ≡ next.head = sym passes.same in
    let counted : next.count ≡ length (messages ++ more) =
    omega (arith, read.counted, passes.counted, length-append messages more)
    in
    record {
      named = subst (λ (h : FileHead). length h.session.0 ≡ 10) same read.named;
      said = subst (λ (h : FileHead). IsStated h.closed h.version) same read.said;
      listed = record {
        few = omega (arith, counted, passes.below);
        each = each_all messages more read.listed.each passes.each;
      };
      counted = counted;
      consumed =
          subst (λ (h : FileHead). Consumes known after (head h ++ messages_spelling h.version (messages ++ more))) same
          (subst (Consumes known after) joined
          (Consumes-trans known (prepend_known reader.rest left) after (head reader.head ++ all messages)
          (all more) read.consumed taken));
    }

-- ---- the contents of the file

module _ (xs ys : List ℕ) (reader : ReaderState) (messages : List (List ℕ))
    (read : HasRead (Some xs) (Some ys) reader messages) where
  abbrev all : List ℕ
  all = messages_spelling reader.head.version messages

  parts : xs ≡ head_spelling reader.head.session.0 reader.head.closed reader.head.version ++ (all ++ ys)
  parts =
      read.consumed
      ∙ append_assoc (head_spelling reader.head.session.0 reader.head.closed reader.head.version) all ys

  pub ended : (head : FileHead) → EndsWith (Some ys) reader head → SpellsFile head messages head.version xs
  ended head ends =
      let same : head_at_end reader.head head.closed ≡ head = sym ends.same in
      subst (λ (h : FileHead). SpellsFile h messages h.version xs) same
      (file_ended xs ys reader.head head.closed reader.head.version messages reader.count read.named read.said read.listed
      read.counted read.consumed ends.ends)

  pub whole : (head : FileHead) → EndsWith (Some ys) reader head → Gives xs messages None
  whole head ends = (head, ended head ends)

  -- A file with blocks.
  module _ (plain : has_records reader.head.version ≡ false) where
    block_parts : all ++ ys ≡ blocks messages ++ ys
    block_parts = ap (λ (t : List ℕ). t ++ ys) (as_blocks reader.head.version messages plain)

    read_head : ReadsHead (Some xs) (Some (all ++ ys)) reader.head
    read_head = record { named = read.named; said = read.said; consumed = parts }

    all_read : ys ≡ [] → all ++ ys ≡ blocks messages
    all_read none = block_parts ∙ ap (λ (t : List ℕ). blocks messages ++ t) none ∙ append-nil (blocks messages)

    has_blocks : HasBlocks xs messages ys
    has_blocks = record {
      behind = all ++ ys;
      head = behind_head reader.head.session.0 reader.head.closed reader.head.version xs (all ++ ys) plain read.named parts;
      listed = read.listed;
      parts = block_parts;
    }

    block_within : (most : ℕ) → AllByRecursion (IsWithin most) messages → (error : FileError) →
        BlockFault most reader.count ys error → JournalFault most xs error
    block_within most each error fault =
        in_file reader.head most plain read.named xs (all ++ ys) parts error (record {
          messages = messages;
          rest = ys;
          each = each;
          parts = block_parts;
          fault = subst (λ (n : ℕ). BlockFault most n ys error) read.counted fault;
        })

    miscounted_within : (most : ℕ) → AllByRecursion (IsWithin most) messages → (count found : ℕ) →
        BlocksRestFault most reader.head.version reader.count ys (CountDiffers count found) →
        JournalFault most xs (CountDiffers count found)
    miscounted_within most each count found fault =
        count_refused (Some xs) (Some (all ++ ys)) reader.head most messages count found read_head (all_read fault.0)
        (record { few = read.listed.few; each = each })
        (fault.1.states ∙ ap (stated_count reader.head.version) (sym fault.1.reads)) fault.1.differs
        (fault.1.reads ∙ read.counted)

    pub blocks_within : (most : ℕ) → AllByRecursion (IsWithin most) messages → (error : FileError) →
        BlocksRestFault most reader.head.version reader.count ys error → JournalFault most xs error
    blocks_within most each (CountDiffers count found) fault = miscounted_within most each count found fault
    blocks_within most each Full fault = block_within most each Full fault
    blocks_within most each (TooLong len) fault = block_within most each (TooLong len) fault
    blocks_within most each (BlockCut number) fault = block_within most each (BlockCut number) fault
    blocks_within most each (Damaged number) fault = absurd fault
    blocks_within most each (Short len) fault = absurd fault
    blocks_within most each BadMagic fault = absurd fault
    blocks_within most each (BadFlag byte) fault = absurd fault
    blocks_within most each Read fault = absurd fault
    blocks_within most each Memory fault = absurd fault
    blocks_within most each Write fault = absurd fault

    block_refused : (error : FileError) → BlockFault 65535 reader.count ys error →
        JournalFault 65535 xs error × AreBefore xs messages error
    block_refused error fault = (
      block_within 65535 read.listed.each error fault,
      record {
        rest = ys;
        front = has_blocks;
        fault = subst (λ (n : ℕ). BlockFault 65535 n ys error) read.counted fault;
      },
    )

    refused_block : (error : FileError) → BlocksRestFault 65535 reader.head.version reader.count ys error →
        Gives xs messages (Some error)
    refused_block (CountDiffers count found) fault = (
      miscounted_within 65535 read.listed.each count found fault,
      subst (HasBlocks xs messages) fault.0 has_blocks,
    )
    refused_block Full fault = let here = block_refused Full fault in (here.0, inl here.1)
    refused_block (TooLong len) fault = let here = block_refused (TooLong len) fault in (here.0, inl here.1)
    refused_block (BlockCut number) fault = block_refused (BlockCut number) fault
    refused_block (Damaged number) fault = absurd fault
    refused_block (Short len) fault = absurd fault
    refused_block BadMagic fault = absurd fault
    refused_block (BadFlag byte) fault = absurd fault
    refused_block Read fault = absurd fault
    refused_block Memory fault = absurd fault
    refused_block Write fault = absurd fault

    pub block_front : (contents : FileContents xs) → IsFront messages contents.messages
    block_front contents = begins xs ys messages contents has_blocks

  -- A file with records.
  module _ (recorded : has_records reader.head.version ≡ true) where
    body : IsBody3 xs (all ++ ys)
    body = behind_head_3 reader.head.session.0 reader.head.closed reader.head.version xs (all ++ ys) recorded read.named
        parts

    has_listed : (most : ℕ) → AllByRecursion (IsWithin most) messages → HasRecords most (all ++ ys) messages ys
    has_listed most each = record {
      listed = record { few = read.listed.few; each = each };
      parts = ap (λ (t : List ℕ). t ++ ys) (as_records reader.head.version messages recorded);
    }

    precede : (most : ℕ) → AllByRecursion (IsWithin most) messages → (error : FileError) →
        RecordFault most reader.count ys error → PrecedeRecord most (all ++ ys) messages error
    precede most each error fault = record {
      rest = ys;
      front = has_listed most each;
      fault = subst (λ (n : ℕ). RecordFault most n ys error) read.counted fault;
    }

    pub records_within : (most : ℕ) → AllByRecursion (IsWithin most) messages → (error : FileError) →
        RecordFault most reader.count ys error → JournalFault most xs error
    records_within most each error fault =
        in_file_3 most xs (all ++ ys) body error
        (record { messages = messages; before = precede most each error fault })

    record_refused : (error : FileError) → RecordFault 65535 reader.count ys error →
        JournalFault 65535 xs error × AreBeforeRecord xs messages error
    record_refused error fault = (
      records_within 65535 read.listed.each error fault,
      (all ++ ys, body, precede 65535 read.listed.each error fault),
    )

    refused_record : (error : FileError) → RecordFault 65535 reader.count ys error → Gives xs messages (Some error)
    refused_record Full fault = let here = record_refused Full fault in (here.0, inr here.1)
    refused_record (TooLong len) fault = let here = record_refused (TooLong len) fault in (here.0, inr here.1)
    refused_record (Damaged number) fault = record_refused (Damaged number) fault
    refused_record (BlockCut number) fault = absurd fault
    refused_record (CountDiffers count found) fault = absurd fault
    refused_record (Short len) fault = absurd fault
    refused_record BadMagic fault = absurd fault
    refused_record (BadFlag byte) fault = absurd fault
    refused_record Read fault = absurd fault
    refused_record Memory fault = absurd fault
    refused_record Write fault = absurd fault

    pub record_front : (contents : FileContents xs) → IsFront messages contents.messages
    record_front contents = record_begins xs (all ++ ys) ys messages contents body (has_listed 65535 read.listed.each)

-- A version has blocks or records.
pub by_version : {C : Type 0} (version : FileVersion) → (has_records version ≡ false → C) →
    (has_records version ≡ true → C) → C
by_version One plain recorded = plain refl
by_version (Two count) plain recorded = plain refl
by_version Three plain recorded = recorded refl

rest_fault : (most : ℕ) (version : FileVersion) (read : ℕ) (rest : List ℕ) (error : FileError) →
    RestFault most version read rest error → (has_records version ≡ false → BlocksRestFault most version read rest error)
    × (has_records version ≡ true → RecordFault most read rest error)
rest_fault most One read rest error fault = ((λ plain. fault), (λ recorded. absurd (true≢false (sym recorded))))
rest_fault most (Two count) read rest error fault = ((λ plain. fault), (λ recorded. absurd (true≢false (sym recorded))))
rest_fault most Three read rest error fault = ((λ plain. absurd (true≢false plain)), (λ recorded. fault))

pub refused : (xs ys : List ℕ) (reader : ReaderState) (messages : List (List ℕ)) →
    HasRead (Some xs) (Some ys) reader messages → (error : FileError) →
    RestFault MAX_MESSAGE reader.head.version reader.count ys error → Gives xs messages (Some error)
refused xs ys reader messages read error fault =
    let faults = rest_fault MAX_MESSAGE reader.head.version reader.count ys error fault in
    by_version reader.head.version
    (λ plain. refused_block xs ys reader messages read plain error (faults.0 plain))
    (λ recorded. refused_record xs ys reader messages read recorded error (faults.1 recorded))

-- A fault after messages of at most `most` bytes.
refused_within : (most : ℕ) (xs ys : List ℕ) (reader : ReaderState) (messages : List (List ℕ)) →
    HasRead (Some xs) (Some ys) reader messages → AllByRecursion (IsWithin most) messages → (error : FileError) →
    RestFault most reader.head.version reader.count ys error → JournalFault most xs error
refused_within most xs ys reader messages read each error fault =
    let faults = rest_fault most reader.head.version reader.count ys error fault in
    by_version reader.head.version
    (λ plain. blocks_within xs ys reader messages read plain most each error (faults.0 plain))
    (λ recorded. records_within xs ys reader messages read recorded most each error (faults.1 recorded))

pub read_whole : (known left : Option (List ℕ)) (reader : ReaderState) (messages : List (List ℕ)) (head : FileHead) →
    HasRead known left reader messages → EndsWith left reader head → IfSome known (λ bytes. Gives bytes messages None)
read_whole None left reader messages head read ends = tt
read_whole (Some xs) None reader messages head read ends = absurd read.consumed
read_whole (Some xs) (Some ys) reader messages head read ends = whole xs ys reader messages read head ends

-- The file whose end was read.
pub read_file : (known left : Option (List ℕ)) (reader : ReaderState) (messages : List (List ℕ)) (head : FileHead) →
    HasRead known left reader messages → EndsWith left reader head →
    IfSome known (λ bytes. SpellsFile head messages head.version bytes)
read_file None left reader messages head read ends = tt
read_file (Some xs) None reader messages head read ends = absurd read.consumed
read_file (Some xs) (Some ys) reader messages head read ends = ended xs ys reader messages read head ends

-- The reader over other known bytes.
read_of : (known left after rest : Option (List ℕ)) (reader : ReaderState) (messages : List (List ℕ)) →
    HasRead known left reader messages →
    Consumes after rest (head_spelling reader.head.session.0 reader.head.closed reader.head.version
    ++ messages_spelling reader.head.version messages) → HasRead after rest reader messages
read_of known left after rest reader messages read is = record {
  named = read.named;
  said = read.said;
  listed = read.listed;
  counted = read.counted;
  consumed = is;
}

pub read_refused : (known left : Option (List ℕ)) (reader : ReaderState) (messages : List (List ℕ)) (error : FileError) →
    HasRead known left reader messages → Refuses (RestFault MAX_MESSAGE reader.head.version reader.count) left error →
    Refuses (λ bytes why. Gives bytes messages (Some why)) known error
read_refused known left reader messages error read fault =
    refused_behind (RestFault MAX_MESSAGE reader.head.version reader.count)
    (λ bytes why. Gives bytes messages (Some why)) known left
    (head_spelling reader.head.session.0 reader.head.closed reader.head.version
    ++ messages_spelling reader.head.version messages) read.consumed
    (λ xs ys is why rest. refused xs ys reader messages
    (read_of known left (Some xs) (Some ys) reader messages read is) why rest)
    error fault

pub read_refused_within : (most : ℕ) (known left : Option (List ℕ)) (reader : ReaderState) (messages : List (List ℕ))
    (error : FileError) → HasRead known left reader messages → AllByRecursion (IsWithin most) messages →
    Refuses (RestFault most reader.head.version reader.count) left error → Refuses (JournalFault most) known error
read_refused_within most known left reader messages error read each fault =
    refused_behind (RestFault most reader.head.version reader.count) (JournalFault most) known left
    (head_spelling reader.head.session.0 reader.head.closed reader.head.version
    ++ messages_spelling reader.head.version messages) read.consumed
    (λ xs ys is why rest. refused_within most xs ys reader messages
    (read_of known left (Some xs) (Some ys) reader messages read is) each why rest)
    error fault

-- The messages that were read are a prefix of the file's messages.
pub read_front : (known left : Option (List ℕ)) (reader : ReaderState) (messages : List (List ℕ)) →
    HasRead known left reader messages →
    IfSome known (λ bytes. (contents : FileContents bytes) → IsFront messages contents.messages)
read_front None left reader messages read = tt
read_front (Some xs) None reader messages read = absurd read.consumed
read_front (Some xs) (Some ys) reader messages read = λ contents.
    by_version reader.head.version
    (λ plain. block_front xs ys reader messages read plain contents)
    (λ recorded. record_front xs ys reader messages read recorded contents)
