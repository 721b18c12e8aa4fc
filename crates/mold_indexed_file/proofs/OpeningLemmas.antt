-- What is read of a file that is opened, and with which error it is refused.
use Rattle.std.proofs.Common.{◌≡◌, ◌⊎◌, inl, inr, ℕ, ◌+◌, ◌-◌, ◌<◌, ◌≤◌, Bool, List, [], ◌∷◌}
use Rattle.std.proofs.Common.{◌++◌, length, length-append, take, Option, None, Some, refl, sym, ap, subst, ◌∙◌}
use Rattle.std.proofs.Common.{append-nil, append_assoc, arith, drop}
use Rattle.std.proofs.KnownBytes.{Consumes-nil}
use Rattle.std.proofs.lemmas.List.{length-map, map-append, take-append-drop, take_all, take_at}
use Rattle.std.specs.Prelude.{IfSome, ⊤}
use Rattle.std.specs.List.{AllByRecursion, sum_by}
use Rattle.std.specs.Io.KnownBytes.{prepend_known}
use Rattle.mold_session.specs.FileFault.{JournalFault}
use Rattle.mold_session.specs.Journal.{IsWithin}
use Rattle.mold_session.specs.Loading.{head_spelling, messages_spelling, stated_count}
use Rattle.mold_session.specs.Loading.{Refuses}
use Rattle.mold_session.specs.Reader.{EndsFile, EndsWith, HasRead, PassesMessages, ReaderState, ReadsNext, RestFault}
use Rattle.mold_session.specs.declared.error.FileError.{FileError}
use Rattle.mold_session.specs.declared.error.FileError.TheVariants.{TooLong, Memory, BadMagic, Short, BlockCut, Read}
use Rattle.mold_session.specs.declared.error.FileError.TheVariants.{Write, Full, CountDiffers, BadFlag, Damaged}
use Rattle.mold_session.specs.declared.file_version.FileVersion.{FileVersion}
use Rattle.mold_session.specs.declared.file_version.FileVersion.TheVariants.{One, Two, Three}
use Rattle.mold_session.specs.declared.journal.TheConstants.{MAX_MESSAGES}
use Rattle.mold_session.specs.declared.loading.FileHead.{FileHead}
use Rattle.mold_session.proofs.HeadLemmas.{refused_behind}
use Rattle.mold_session.proofs.ReaderLemmas.{read_blocks, read_file, read_more, read_refused_within}
use Rattle.mold_index.proofs.LayoutLemmas.{length-before}
use Rattle.mold_index.proofs.OffsetLemmas.{end-push, offset_last}
use Rattle.mold_index.proofs.PushLemmas.{appends_none, indexes_none}
use Rattle.mold_index.specs.Index.{Appends, IndexState, Indexes, fresh_index, offset_of}
use Rattle.mold_index.specs.Layouts.{layout_of, lengths_of}
use Rattle.mold_index.specs.declared.index.TheConstants.{MAX_END}
use Rattle.mold_index.specs.declared.layout.Layout.{Layout}
use Rattle.mold_indexed_file.specs.Opened.{AddFault, IsIndexOf, OpenFault}

-- ---- faults

pub in_known : (known : Option (List ℕ)) (P Q : List ℕ → Type 0) → ((bytes : List ℕ) → P bytes → Q bytes) →
    IfSome known P → IfSome known Q
in_known None P Q same holds = tt
in_known (Some bytes) P Q same holds = same bytes holds

-- The fault of a journal's file is a fault of a file that is opened.
fault_opens : (most : ℕ) (known : Option (List ℕ)) (error : FileError) → Refuses (JournalFault most) known error →
    Refuses (OpenFault most) known error
fault_opens most known error refused =
    refused_behind (JournalFault most) (OpenFault most) known known [] (Consumes-nil known)
    (λ xs ys same why fault. inl (subst (λ (t : List ℕ). JournalFault most t why) (sym same) fault)) error refused

-- ---- the messages so far

-- The messages that were read have at most `most` bytes, and the index is theirs.
pub record Reading (most : ℕ) (known left : Option (List ℕ)) (reader : ReaderState) (index : IndexState) : Type 0 where
  pub messages : List (List ℕ)
  pub read : HasRead known left reader messages
  pub each : AllByRecursion (IsWithin most) messages
  pub layout : index.layout ≡ layout_of reader.head.version
  pub indexes : Indexes index (lengths_of messages)

pub reading_none : (most : ℕ) (known left : Option (List ℕ)) (reader : ReaderState) (index : IndexState) →
    HasRead known left reader [] → index ≡ fresh_index (layout_of reader.head.version) →
    Reading most known left reader index
reading_none most known left reader index read fresh = record {
  messages = [];
  read = read;
  each = tt;
  layout = ap (λ (i : IndexState). i.layout) fresh;
  indexes = subst (λ (i : IndexState). Indexes i []) (sym fresh) (indexes_none (layout_of reader.head.version));
}

each_more : (most : ℕ) (messages : List (List ℕ)) (message : List ℕ) → AllByRecursion (IsWithin most) messages →
    length message ≤ most → AllByRecursion (IsWithin most) (messages ++ message ∷ [])
each_more most [] message each within = (within, tt)
each_more most (first ∷ messages) message each within = (each.0, each_more most messages message each.1 within)

pub reading_more : (most : ℕ) (known left after : Option (List ℕ)) (reader next : ReaderState)
    (index new : IndexState) → (reading : Reading most known left reader index) → ReadsNext left after reader next →
    length next.message ≤ most → new.layout ≡ index.layout →
    Indexes new (lengths_of reading.messages ++ length next.message ∷ []) → Reading most known after next new
reading_more most known left after reader next index new reading more within same indexes = record {
  messages = reading.messages ++ next.message ∷ [];
  read = read_more known left after reader next reading.messages reading.read more;
  each = each_more most reading.messages next.message reading.each within;
  layout = same ∙ reading.layout ∙ ap (λ (h : FileHead). layout_of h.version) (sym more.same);
  indexes = subst (Indexes new)
      (sym (map-append (λ (m : List ℕ). length m) reading.messages (next.message ∷ []))) indexes;
}

each_all : (most : ℕ) (messages more : List (List ℕ)) → AllByRecursion (IsWithin most) messages →
    AllByRecursion (IsWithin most) more → AllByRecursion (IsWithin most) (messages ++ more)
each_all most [] more each all = all
each_all most (first ∷ messages) more each all = (each.0, each_all most messages more each.1 all)

-- Messages were passed, and the index took their lengths.
pub reading_passed : (most : ℕ) (known left : Option (List ℕ)) (reader next : ReaderState) (index new : IndexState) →
    Reading most known (prepend_known reader.rest left) reader index → PassesMessages Appends most reader next index new →
    Reading most known (prepend_known next.rest left) next new
reading_passed most known left reader next index new reading passed =
    let appends : Appends index new (lengths_of passed.messages) = passed.taken index [] (appends_none index) in
    record {
      messages = reading.messages ++ passed.messages;
      read = read_blocks known left reader next (length passed.messages) reading.messages passed.messages reading.read
          passed.passes;
      each = each_all most reading.messages passed.messages reading.each passed.within;
      layout = appends.layout ∙ reading.layout ∙ ap (λ (h : FileHead). layout_of h.version) (sym passed.passes.same);
      indexes = subst (Indexes new) (sym (map-append (λ (m : List ℕ). length m) reading.messages passed.messages))
          (appends.indexes (lengths_of reading.messages) reading.indexes);
    }

-- ---- the end

ended_stated : (version : FileVersion) (read : ℕ) (said closed : Bool) (rest : List ℕ) →
    EndsFile version read said closed rest → stated_count version read ≡ read
ended_stated One read said closed rest ends = refl
ended_stated (Two count) read said closed rest ends = ends.2
ended_stated Three read said closed rest ends = refl

pub reading_end : (most : ℕ) (known left : Option (List ℕ)) (reader : ReaderState) (index : IndexState)
    (head : FileHead) → Reading most known left reader index → EndsWith left reader head →
    IfSome known (λ bytes. IsIndexOf most bytes head index)
reading_end most None left reader index head reading ends = tt
reading_end most (Some xs) None reader index head reading ends = absurd reading.read.consumed
reading_end most (Some xs) (Some ys) reader index head reading ends =
    let version : reader.head.version ≡ head.version = sym (ap (λ (h : FileHead). h.version) ends.same) in
    let stated : stated_count reader.head.version (length reading.messages) ≡ length reading.messages =
    subst (λ (n : ℕ). stated_count reader.head.version n ≡ n) reading.read.counted
    (ended_stated reader.head.version reader.count reader.head.closed head.closed ys ends.ends) in
    record {
      messages = reading.messages;
      spelled = read_file (Some xs) (Some ys) reader reading.messages head reading.read ends;
      stated = subst (λ (v : FileVersion). stated_count v (length reading.messages) ≡ length reading.messages) version
          stated;
      each = reading.each;
      indexes = reading.indexes;
    }

pub layout_at_end : (most : ℕ) (known left : Option (List ℕ)) (reader : ReaderState) (index : IndexState)
    (head : FileHead) → Reading most known left reader index → EndsWith left reader head →
    index.layout ≡ layout_of head.version
layout_at_end most known left reader index head reading ends =
    reading.layout ∙ sym (ap (λ (h : FileHead). layout_of h.version) ends.same)

-- ---- refusals

pub reading_refused : (most : ℕ) (known left : Option (List ℕ)) (reader : ReaderState) (index : IndexState)
    (error : FileError) → Reading most known left reader index →
    Refuses (RestFault most reader.head.version reader.count) left error → Refuses (OpenFault most) known error
reading_refused most known left reader index error reading refused =
    fault_opens most known error
    (read_refused_within most known left reader reading.messages error reading.read reading.each refused)

-- ---- limits

-- Why a file has no index if its messages have these lengths: they are too many or too long, or an allocation failed.
abbrev IndexFault : Layout → List ℕ → FileError → Type 0
IndexFault layout lengths Full =
    (MAX_MESSAGES < length lengths) ⊎ (MAX_END < offset_of layout lengths (length lengths + 1))
IndexFault layout lengths Memory = ⊤
IndexFault layout lengths error = ⊥

-- A message is not added to an index.
full_more : (index : IndexState) (lengths : List ℕ) (len : ℕ) (error : FileError) → Indexes index lengths →
    AddFault index len error → IndexFault index.layout (lengths ++ len ∷ []) error
full_more index lengths len Full indexes (inl full) =
    inl (omega (arith, full, indexes.counted, length-append lengths (len ∷ [])))
full_more index lengths len Full indexes (inr far) =
    inr (omega (arith, far, indexes.ends, end-push index.layout lengths len))
full_more index lengths len Memory indexes fault = tt
full_more index lengths len Read indexes fault = fault
full_more index lengths len Write indexes fault = fault
full_more index lengths len BadMagic indexes fault = fault
full_more index lengths len (Short n) indexes fault = fault
full_more index lengths len (BadFlag byte) indexes fault = fault
full_more index lengths len (TooLong n) indexes fault = fault
full_more index lengths len (BlockCut number) indexes fault = fault
full_more index lengths len (CountDiffers count found) indexes fault = fault
full_more index lengths len (Damaged number) indexes fault = fault

-- The messages were read, so they are not too many for an index.
not_many : (known left : Option (List ℕ)) (reader : ReaderState) (messages : List (List ℕ)) →
    HasRead known left reader messages → 18446744073709551614 < length (lengths_of messages) → ⊥
not_many known left reader messages read many =
    absurd (omega (arith, many, read.listed.few, length-map messages (λ (m : List ℕ). length m)))

-- The file has all bytes up to the end of the messages.
above_end : (xs ys : List ℕ) (reader : ReaderState) (messages : List (List ℕ)) →
    HasRead (Some xs) (Some ys) reader messages →
    9223372036854775807
    < offset_of (layout_of reader.head.version) (lengths_of messages) (length (lengths_of messages) + 1) →
    9223372036854775807 < length xs
above_end xs ys reader messages read above =
    let version = reader.head.version in
    let head = head_spelling reader.head.session.0 reader.head.closed version in
    let last = length (lengths_of messages) + 1 in
    let whole : take (last - 1) messages ≡ messages =
    take_all (last - 1) messages (omega (arith, length-map messages (λ (m : List ℕ). length m))) in
    omega (
      arith,
      above,
      length-before reader.head.session.0 reader.head.closed version messages last read.named,
      ap (λ (t : List (List ℕ)). length (head ++ messages_spelling version t)) whole,
      ap (λ (t : List ℕ). length t) read.consumed,
      length-append (head ++ messages_spelling version messages) ys,
    )

-- The messages were read, but have no index.
full_refused : (most : ℕ) (known left : Option (List ℕ)) (reader : ReaderState) (messages : List (List ℕ))
    (error : FileError) → HasRead known left reader messages →
    IndexFault (layout_of reader.head.version) (lengths_of messages) error → Refuses (OpenFault most) known error
full_refused most None left reader messages Full read fault = tt
full_refused most (Some xs) None reader messages Full read fault = absurd read.consumed
full_refused most (Some xs) (Some ys) reader messages Full read (inl many) =
    absurd (not_many (Some xs) (Some ys) reader messages read many)
full_refused most (Some xs) (Some ys) reader messages Full read (inr above) =
    inr (refl, above_end xs ys reader messages read above)
full_refused most known left reader messages Memory read fault = tt
full_refused most known left reader messages Read read fault = tt
full_refused most known left reader messages Write read fault = fault
full_refused most known left reader messages BadMagic read fault = absurd fault
full_refused most known left reader messages (Short len) read fault = absurd fault
full_refused most known left reader messages (BadFlag byte) read fault = absurd fault
full_refused most known left reader messages (TooLong len) read fault = absurd fault
full_refused most known left reader messages (BlockCut number) read fault = absurd fault
full_refused most known left reader messages (CountDiffers count found) read fault = absurd fault
full_refused most known left reader messages (Damaged number) read fault = absurd fault

-- A message that was read is refused.
pub adding_refused : (most : ℕ) (known left after : Option (List ℕ)) (reader next : ReaderState) (index : IndexState)
    (error : FileError) → Reading most known left reader index → ReadsNext left after reader next →
    AddFault index (length next.message) error → Refuses (OpenFault most) known error
adding_refused most known left after reader next index error reading more fault =
    let lengths = lengths_of reading.messages in
    let all = reading.messages ++ next.message ∷ [] in
    let listed : lengths ++ length next.message ∷ [] ≡ lengths_of all =
    sym (map-append (λ (m : List ℕ). length m) reading.messages (next.message ∷ []))
    in
    let layout : index.layout ≡ layout_of next.head.version =
    reading.layout ∙ ap (λ (h : FileHead). layout_of h.version) (sym more.same)
    in
    full_refused most known after next all error
    (read_more known left after reader next reading.messages reading.read more)
    (subst (λ (l : Layout). IndexFault l (lengths_of all) error) layout
    (subst (λ (t : List ℕ). IndexFault index.layout t error) listed
    (full_more index lengths (length next.message) error reading.indexes fault)))
