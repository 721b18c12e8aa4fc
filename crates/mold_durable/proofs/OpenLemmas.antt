-- What is read of a storage, as a journal.
use Rattle.std.proofs.Common.{◌≡◌, inl, inr, ℕ, ◌-◌, ◌≤◌, ◌<◌, ◌^◌, List, ◌++◌, length, min}
use Rattle.std.proofs.Common.{take, drop, refl, sym, ap, ◌∙◌, arith, length-append, length-take, take-append-drop}
use Rattle.std.proofs.lemmas.List.{take_at, take-take}
use Rattle.mold_wire.specs.declared.block.TheConstants.{MAX_MESSAGE}
use Rattle.mold_session.specs.FileFault.{RecordsFault}
use Rattle.mold_session.specs.Journal.{AreMessages, JournalState}
use Rattle.mold_session.specs.Records.{magic_3, head_3, records, SpellsJournal3}
use Rattle.mold_durable.specs.DurableJournal.{DurableState}
use Rattle.mold_durable.specs.Group.{closing}
use Rattle.mold_durable.specs.Opened.{IsOpenedWith, committed_journal}
use Rattle.mold_durable.specs.Reading.{HasReadAll, HeadFault, IsOfDevice, IsOpened, IsRecordsError, OpenFault, file_error}
use Rattle.mold_durable.specs.declared.error.OpenError.{OpenError}
use Rattle.mold_durable.specs.declared.error.OpenError.TheVariants.{Short, BadMagic, Full, TooLong, Damaged, Read, Write}
use Rattle.mold_durable.specs.declared.error.OpenError.TheVariants.{Memory}
use Rattle.mold_durable.proofs.HeadLemmas.{length-magic_3, length-head_3}
use Rattle.mold_durable.proofs.RecordLemmas.{each_within}

-- The first 18 bytes, or all if there are fewer, as a read at offset 0 returns them.
pub record IsStart (bytes start : List ℕ) : Type 0 where
  pub same : start ≡ take (length start) bytes
  pub long : length start ≡ min 18 (length bytes)

pub start_of : (count : ℕ) (bytes buffer : List ℕ) → length buffer ≡ 18 → count ≡ min (length buffer) (length bytes - 0) →
    take count buffer ≡ take count (drop 0 bytes) → IsStart bytes (take count buffer)
start_of count bytes buffer sized counted part =
    let long : length (take count buffer) ≡ count = omega (arith, sized, counted, length-take count buffer) in
    record {
      same = part ∙ ap (λ (n : ℕ). take n bytes) (sym long);
      long = omega (arith, long, counted, sized);
    }

pub start_head : (session bytes start : List ℕ) → length session ≡ 10 → IsStart bytes start → start ≡ head_3 session →
    take 18 bytes ≡ head_3 session
start_head session bytes start named is head =
    let long : length start ≡ 18 = ap (λ (t : List ℕ). length t) head ∙ length-head_3 session named in
    ap (λ (n : ℕ). take n bytes) (sym long) ∙ sym is.same ∙ head

pub start_fault : (bytes start : List ℕ) (error : OpenError) → IsStart bytes start → HeadFault start error →
    HeadFault bytes error
start_fault bytes start (Short len) is fault = (omega (arith, is.long, fault.0, fault.1), omega (arith, is.long, fault.1))
start_fault bytes start BadMagic is fault = (
  omega (arith, is.long, fault.0),
  λ same. fault.1 (
      ap (take 8) is.same ∙ take-take 8 (length start) bytes (omega (arith, fault.0)) ∙ same
      ),
)
start_fault bytes start Full is fault = absurd fault
start_fault bytes start (TooLong len) is fault = absurd fault
start_fault bytes start (Damaged number) is fault = absurd fault
start_fault bytes start Read is fault = absurd fault
start_fault bytes start Write is fault = absurd fault
start_fault bytes start Memory is fault = absurd fault

-- The faults of the head and of the records, as faults of the storage.
pub head_refused : (most : ℕ) (bytes : List ℕ) (error : OpenError) → HeadFault bytes error → OpenFault most bytes error
head_refused most bytes (Short len) fault = fault
head_refused most bytes BadMagic fault = fault
head_refused most bytes Full fault = absurd fault
head_refused most bytes (TooLong len) fault = absurd fault
head_refused most bytes (Damaged number) fault = absurd fault
head_refused most bytes Read fault = tt
head_refused most bytes Write fault = tt
head_refused most bytes Memory fault = tt

device_refused : (most : ℕ) (bytes : List ℕ) (error : OpenError) → IsOfDevice error → OpenFault most bytes error
device_refused most bytes Read fault = tt
device_refused most bytes Write fault = tt
device_refused most bytes Memory fault = tt
device_refused most bytes (Short len) fault = absurd fault
device_refused most bytes BadMagic fault = absurd fault
device_refused most bytes Full fault = absurd fault
device_refused most bytes (TooLong len) fault = absurd fault
device_refused most bytes (Damaged number) fault = absurd fault

module _ (most : ℕ) (session bytes : List ℕ) (named : length session ≡ 10) (head : take 18 bytes ≡ head_3 session) where
  whole : 18 ≤ length bytes
  whole =
      omega (
        arith,
        ap (λ (t : List ℕ). length t) head,
        length-head_3 session named,
        length-take 18 bytes,
      )

  magic : take 8 bytes ≡ magic_3
  magic =
      sym (take-take 8 18 bytes (omega arith))
      ∙ ap (take 8) head
      ∙ take_at magic_3 session 8 length-magic_3

  fault_here : (error : OpenError) → RecordsFault most (drop 18 bytes) (file_error error) → OpenFault most bytes error
  fault_here Full fault = (drop 18 bytes, record { magic = magic; whole = whole; from = refl }, fault)
  fault_here (TooLong len) fault = (drop 18 bytes, record { magic = magic; whole = whole; from = refl }, fault)
  fault_here (Damaged number) fault = (drop 18 bytes, record { magic = magic; whole = whole; from = refl }, fault)
  fault_here (Short len) fault = absurd fault.before.fault
  fault_here BadMagic fault = absurd fault.before.fault
  fault_here Read fault = tt
  fault_here Write fault = tt
  fault_here Memory fault = tt

-- What the records are refused for. What is shown after some reads was shown before them.
pub records_refused : (most : ℕ) (session : List ℕ) (before after : List ℕ → Type 0) (error : OpenError) →
    length session ≡ 10 → ((bytes : List ℕ) → before bytes → after bytes) →
    ((bytes : List ℕ) → before bytes → take 18 bytes ≡ head_3 session) → IsRecordsError most after error →
    (bytes : List ℕ) → before bytes → OpenFault most bytes error
records_refused most session before after error named same head (inl device) bytes now =
    device_refused most bytes error device
records_refused most session before after error named same head (inr fault) bytes now =
    fault_here most session bytes named (head bytes now) error (fault bytes (same bytes now))

module _ {S : Type 0} (shows may_leave : S → List ℕ → Type 0) (before : List ℕ → Type 0)
    (Taken : List (List ℕ) → Type 0) (journal : DurableState S)
    (named : length journal.session.0 ≡ 10) (head : (bytes : List ℕ) → before bytes → take 18 bytes ≡ head_3 journal.session.0)
    (small : journal.max_message < 2 ^ 16)
    (all : HasReadAll before Taken journal.max_message journal.committed journal.end journal.closed) where
  listed : AreMessages MAX_MESSAGE all.messages
  listed = record {
    few = all.listed.few;
    each = each_within journal.max_message MAX_MESSAGE all.messages (omega (arith, small)) all.listed.each;
  }

  file_of : (bytes : List ℕ) → before bytes → SpellsJournal3 journal.session all.messages journal.closed bytes
  file_of bytes now =
      let here = all.parts bytes now in
      record {
        named = named;
        listed = listed;
        rest = here.rest;
        spelled =
            sym (take-append-drop 18 bytes)
            ∙ ap (λ (t : List ℕ). t ++ drop 18 bytes) (head bytes now)
            ∙ ap (λ (t : List ℕ). head_3 journal.session.0 ++ t) here.parts;
        ends = here.ends;
      }

  -- The journal that was read and synced is settled.
  pub opened : ((bytes : List ℕ) → shows journal.storage bytes → before bytes) →
      ((bytes : List ℕ) → may_leave journal.storage bytes → before bytes) → IsOpened shows may_leave journal
  opened shown durable = record {
    messages = all.messages;
    each = all.listed.each;
    settled = record {
      kept = record {
        shown = λ bytes now. file_of bytes (shown bytes now);
        left = λ bytes now. file_of bytes (durable bytes now);
      };
      ends = omega (
        arith,
        all.ends,
        length-append (head_3 journal.session.0) (records all.messages ++ closing journal.closed),
        length-head_3 journal.session.0 named,
      );
      counted = all.counted;
      named = named;
      listed = listed;
    };
  }

  -- And the taker holds the journal of its messages.
  pub opened_with : {T : Type 0} (holds : T → JournalState → Type 0) (taker : T) →
      (Taken all.messages → holds taker (committed_journal journal all.messages)) →
      ((bytes : List ℕ) → shows journal.storage bytes → before bytes) →
      ((bytes : List ℕ) → may_leave journal.storage bytes → before bytes) →
      IsOpenedWith shows may_leave holds (record { journal = journal; taker = taker })
  unfolding opened
  opened_with holds taker held shown durable = record { is = opened shown durable; held = held all.taken }
