-- All bytes have contents as a file.
use Rattle.std.proofs.Common.{◌≡◌, ◌⊎◌, ℕ, zero, suc, ◌+◌, ◌<◌, ◌≤◌, ◌^◌, eqb, Bool, true, false, List, [], ◌∷◌}
use Rattle.std.proofs.Common.{◌++◌, length, length-drop, take, drop, get_or, take-append-drop, None}
use Rattle.std.proofs.Common.{Some, refl, sym, ap, subst, ◌∙◌, append_assoc, inl, inr, arith, ⊎_elim}
use Rattle.std.proofs.lemmas.Bool.{cases_eq, cases_lt}
use Rattle.std.proofs.Common.{true≢false, drop-drop}
use Rattle.std.proofs.lemmas.List.{get_or-drop, length-take-le, take_all}
use Rattle.std.proofs.lemmas.Nat.{be_bytes_2}
use Rattle.std.specs.Cmp.Lexicographic.{pointwise, bytes_decides}
use Rattle.std.specs.List.{AllByRecursion}
use Rattle.byteorder.specs.Endian.{big_number}
use Rattle.mold_wire.specs.Block.{IsBytes, be16, be64, block, blocks}
use Rattle.mold_wire.specs.declared.session.Session.{Session}
use Rattle.mold_session.specs.Contents.{FileContents, Gives}
use Rattle.mold_session.specs.File.{magic_1, magic_2, closed_byte}
use Rattle.mold_session.specs.FileFault.{EndsInBlock, BlockFault, RecordFault}
use Rattle.mold_session.specs.FileFault.{no_gate, no_kind, bad_kind, cut_closing, cut_message}
use Rattle.mold_session.specs.Journal.{IsWithin}
use Rattle.mold_session.specs.Loading.{IsStated, has_records, head_spelling, messages_spelling, stated_count}
use Rattle.mold_session.specs.Reader.{BlocksRestFault, HasRead, ReaderState, RestFault, head_at_end}
use Rattle.mold_session.specs.Records.{magic_3, head_3, record_of, records, IsShut, EndsRecords}
use Rattle.mold_session.specs.declared.error.FileError.{FileError}
use Rattle.mold_session.specs.declared.error.FileError.TheVariants.{TooLong, Memory, BadMagic, Short, BlockCut, Read, Write, Full, CountDiffers, BadFlag, Damaged}
use Rattle.mold_session.specs.declared.file_version.FileVersion.{FileVersion}
use Rattle.mold_session.specs.declared.file_version.FileVersion.TheVariants.{One, Two, Three}
use Rattle.mold_session.specs.declared.loading.FileHead.{FileHead}
use Rattle.mold_session.proofs.FileLemmas.{as_blocks, ends_counted}
use Rattle.mold_session.proofs.HeadLemmas.{byte_and_number, numbers_are}
use Rattle.mold_session.proofs.ReaderLemmas.{whole, refused}

bytes_behind : (n : ℕ) (bytes : List ℕ) → IsBytes bytes → IsBytes (drop n bytes)
bytes_behind n bytes are i = omega (arith, get_or-drop n bytes i 0, are (n + i))

taken_bytes : (n : ℕ) (bytes : List ℕ) → IsBytes bytes → IsBytes (take n bytes)
taken_bytes zero bytes are i = omega arith
taken_bytes (suc n) [] are i = omega arith
taken_bytes (suc n) (byte ∷ bytes) are zero = are 0
taken_bytes (suc n) (byte ∷ bytes) are (suc i) = taken_bytes n bytes (λ k. are (suc k)) i

-- ---- blocks

-- After `count` messages the bytes end, or the rest has a fault.
data Ending (count : ℕ) (rest : List ℕ) : Type 0 where
  Over : rest ≡ [] → Ending count rest
  Refusal : (error : FileError) → BlockFault 65535 count rest error → Ending count rest

-- The bytes split into blocks, and a rest that is empty or has a fault. They follow `base` other messages.
record Split (base : ℕ) (bytes : List ℕ) : Type 0 where
  messages : List (List ℕ)
  rest : List ℕ
  few : base + length messages < 18446744073709551615
  each : AllByRecursion (IsWithin 65535) messages
  parts : bytes ≡ blocks messages ++ rest
  ending : Ending (base + length messages) rest

stop : (base : ℕ) (bytes : List ℕ) → base < 18446744073709551615 → Ending base bytes → Split base bytes
stop base bytes few ending = record {
  messages = [];
  rest = bytes;
  few = omega (arith, few);
  each = tt;
  parts = refl;
  ending = subst (λ (n : ℕ). Ending n bytes) (omega arith) ending;
}

small : (high low : ℕ) → high < 256 → low < 256 → IsBytes (high ∷ low ∷ [])
small high low one other zero = one
small high low one other (suc zero) = other
small high low one other (suc (suc i)) = omega arith

-- The bytes begin with a whole block.
first_block : (high low : ℕ) (more : List ℕ) → high < 256 → low < 256 →
    big_number 2 (high ∷ low ∷ more) ≤ length more →
    high ∷ low ∷ more
    ≡ block (take (big_number 2 (high ∷ low ∷ more)) more) ++ drop (big_number 2 (high ∷ low ∷ more)) more
first_block high low more one other whole =
    let len = big_number 2 (high ∷ low ∷ more) in
    let long : length (take len more) ≡ len = length-take-le len more whole in
    let size : be16 (length (take len more)) ≡ high ∷ low ∷ [] =
    ap be16 long ∙ be_bytes_2 (high ∷ low ∷ []) len refl (small high low one other) (omega arith)
    in
    ap (λ (t : List ℕ). high ∷ low ∷ t) (sym (take-append-drop len more))
    ∙ ap (λ (t : List ℕ). (t ++ take len more) ++ drop len more) (sym size)

next_split : (base : ℕ) (message bytes behind : List ℕ) → length message < 65536 → bytes ≡ block message ++ behind →
    Split (base + 1) behind → Split base bytes
next_split base message bytes behind within parts others =
    let count : (base + 1) + length others.messages ≡ base + length (message ∷ others.messages) = omega arith in
    record {
      messages = message ∷ others.messages;
      rest = others.rest;
      few = omega (arith, others.few);
      each = (omega (arith, within), others.each);
      parts =
          parts
          ∙ ap (λ (t : List ℕ). block message ++ t) others.parts
          ∙ sym (append_assoc (block message) (blocks others.messages) others.rest);
      ending = subst (λ (n : ℕ). Ending n others.rest) count others.ending;
    }

split : (fuel base : ℕ) (bytes : List ℕ) → length bytes ≤ fuel → IsBytes bytes → base < 18446744073709551615 →
    Split base bytes
split fuel base [] short are few = stop base [] few (Over refl)
split zero base (high ∷ bytes) short are few = absurd (omega (arith, short))
split (suc fuel) base (high ∷ []) short are few = ⊎_elim
    (λ left. stop base (high ∷ []) few (Refusal (BlockCut (base + 1))
    (left, refl, record { some = omega arith; short = inl (omega arith) })))
    (λ none. stop base (high ∷ []) few (Refusal Full (omega arith, none)))
    (cases_lt base 18446744073709551614)
split (suc fuel) base (high ∷ low ∷ more) short are few =
    let len = big_number 2 (high ∷ low ∷ more) in
    let one : high < 256 = are 0 in
    let other : low < 256 = are 1 in
    let most : len ≤ 65535 = omega (arith, one, other) in
    ⊎_elim
    (λ left. ⊎_elim
    (λ cut. stop base (high ∷ low ∷ more) few (Refusal (BlockCut (base + 1))
    (left, refl, record { some = omega arith; short = inr (most, omega (arith, cut)) })))
    (λ whole. next_split base (take len more) (high ∷ low ∷ more) (drop len more)
    (omega (arith, length-take-le len more whole, most)) (first_block high low more one other whole)
    (split fuel (base + 1) (drop len more) (omega (arith, short, length-drop len more))
    (bytes_behind len more (bytes_behind 2 (high ∷ low ∷ more) are)) (omega (arith, left))))
    (cases_lt (length more) len))
    (λ none. stop base (high ∷ low ∷ more) few (Refusal Full (omega arith, none)))
    (cases_lt base 18446744073709551614)

-- ---- the bytes after a head

as_rest : (version : FileVersion) (count : ℕ) (rest : List ℕ) (error : FileError) → BlockFault 65535 count rest error →
    BlocksRestFault 65535 version count rest error
as_rest version count rest Full fault = fault
as_rest version count rest (TooLong len) fault = fault
as_rest version count rest (BlockCut number) fault = fault
as_rest version count rest (Short len) fault = absurd fault
as_rest version count rest BadMagic fault = absurd fault
as_rest version count rest (BadFlag byte) fault = absurd fault
as_rest version count rest (CountDiffers number found) fault = absurd fault
as_rest version count rest (Damaged number) fault = absurd fault
as_rest version count rest Read fault = absurd fault
as_rest version count rest Memory fault = absurd fault
as_rest version count rest Write fault = absurd fault

as_fault : (version : FileVersion) (count : ℕ) (rest : List ℕ) (error : FileError) → has_records version ≡ false →
    BlocksRestFault 65535 version count rest error → RestFault 65535 version count rest error
as_fault One count rest error plain fault = fault
as_fault (Two stated) count rest error plain fault = fault
as_fault Three count rest error plain fault = absurd (true≢false plain)

-- The file states the number of its messages, or another number.
counted : (version : FileVersion) (count : ℕ) →
    (stated_count version count ≡ count) ⊎ BlocksRestFault 65535 version count [] (CountDiffers (stated_count version count) count)
counted version count = ⊎_elim
    (λ same. inl same)
    (λ differs. inr (refl, record { states = refl; reads = refl; differs = differs }))
    (cases_eq (stated_count version count) count)

module _ (head : FileHead) (bytes behind : List ℕ) (plain : has_records head.version ≡ false)
    (ten : length head.session.0 ≡ 10) (said : IsStated head.closed head.version)
    (parts : bytes ≡ head_spelling head.session.0 head.closed head.version ++ behind) (found : Split 0 behind) where
  reader : ReaderState
  reader = record { head = head; count = length found.messages; message = []; rest = [] }

  read : HasRead (Some bytes) (Some found.rest) reader found.messages
  unfolding reader
  read =
      let all : List ℕ = messages_spelling head.version found.messages in
      record {
        named = ten;
        said = said;
        listed = record { few = omega (arith, found.few); each = found.each };
        counted = refl;
        consumed =
            parts
            ∙ ap (λ (t : List ℕ). head_spelling head.session.0 head.closed head.version ++ t)
            (found.parts ∙ ap (λ (t : List ℕ). t ++ found.rest) (sym (as_blocks head.version found.messages plain)))
            ∙ sym (append_assoc (head_spelling head.session.0 head.closed head.version) all found.rest);
      }

  ended : Ending (0 + length found.messages) found.rest → FileContents bytes
  unfolding reader
  ended (Over none) = ⊎_elim
      (λ same. record {
        messages = found.messages;
        fault = None;
        gives = whole bytes found.rest reader found.messages read head (record {
          same = refl;
          ends = ends_counted head.version (length found.messages) head.closed found.rest plain none same;
        });
      })
      (λ differs. record {
        messages = found.messages;
        fault = Some (CountDiffers (stated_count head.version (length found.messages)) (length found.messages));
        gives = refused bytes found.rest reader found.messages read
            (CountDiffers (stated_count head.version (length found.messages)) (length found.messages))
            (as_fault head.version (length found.messages) found.rest
            (CountDiffers (stated_count head.version (length found.messages)) (length found.messages)) plain
            (none, differs.1));
      })
      (counted head.version (length found.messages))
  ended (Refusal error fault) =
      let here : length found.messages ≡ 0 + length found.messages = omega arith in
      record {
        messages = found.messages;
        fault = Some error;
        gives = refused bytes found.rest reader found.messages read error
            (as_fault head.version (length found.messages) found.rest error plain
            (as_rest head.version (length found.messages) found.rest error
            (subst (λ (n : ℕ). BlockFault 65535 n found.rest error) (sym here) fault)));
      }

behind_some : (head : FileHead) (bytes behind : List ℕ) → has_records head.version ≡ false →
    length head.session.0 ≡ 10 → IsStated head.closed head.version →
    bytes ≡ head_spelling head.session.0 head.closed head.version ++ behind → IsBytes behind → FileContents bytes
behind_some head bytes behind plain ten said parts are =
    let found = split (length behind) 0 behind (omega arith) are (omega arith) in
    ended head bytes behind plain ten said parts found found.ending

-- ---- records

-- After `count` messages the records end, or the rest has a fault.
data Stopping (count : ℕ) (rest : List ℕ) : Type 0 where
  Ends : (closed : Bool) → EndsRecords closed rest → Stopping count rest
  Fails : (error : FileError) → RecordFault 65535 count rest error → Stopping count rest

-- The bytes split into records, and a rest that ends them or has a fault. They follow `base` other messages.
record Records (base : ℕ) (bytes : List ℕ) : Type 0 where
  messages : List (List ℕ)
  rest : List ℕ
  few : base + length messages < 18446744073709551615
  each : AllByRecursion (IsWithin 65535) messages
  parts : bytes ≡ records messages ++ rest
  stopping : Stopping (base + length messages) rest

halt : (base : ℕ) (bytes : List ℕ) → base < 18446744073709551615 → Stopping base bytes → Records base bytes
halt base bytes few stopping = record {
  messages = [];
  rest = bytes;
  few = omega (arith, few);
  each = tt;
  parts = refl;
  stopping = subst (λ (n : ℕ). Stopping n bytes) (omega arith) stopping;
}

fails : (base : ℕ) (bytes : List ℕ) → base < 18446744073709551615 → (error : FileError) →
    RecordFault 65535 base bytes error → Records base bytes
fails base bytes few error fault = halt base bytes few (Fails error fault)

next_records : (base : ℕ) (message bytes behind : List ℕ) → length message < 65536 →
    bytes ≡ record_of message ++ behind → Records (base + 1) behind → Records base bytes
next_records base message bytes behind within parts others =
    let count : (base + 1) + length others.messages ≡ base + length (message ∷ others.messages) = omega arith in
    record {
      messages = message ∷ others.messages;
      rest = others.rest;
      few = omega (arith, others.few);
      each = (omega (arith, within), others.each);
      parts =
          parts
          ∙ ap (λ (t : List ℕ). record_of message ++ t) others.parts
          ∙ sym (append_assoc (record_of message) (records others.messages) others.rest);
      stopping = subst (λ (n : ℕ). Stopping n others.rest) count others.stopping;
    }

-- The bytes after the start of a message's record: its block is cut, or whole.
data Block (more : List ℕ) : Type 0 where
  Cut : EndsInBlock 65535 more → Block more
  Whole : (message behind : List ℕ) → length message < 65536 → more ≡ block message ++ behind →
      length behind < length more → IsBytes behind → Block more

by_block : {C : Type 0} (more : List ℕ) → Block more → (EndsInBlock 65535 more → C) →
    ((message behind : List ℕ) → length message < 65536 → more ≡ block message ++ behind →
    length behind < length more → IsBytes behind → C) → C
by_block more (Cut ends) cut whole = cut ends
by_block more (Whole message behind within parts shorter bytes) cut whole =
    whole message behind within parts shorter bytes

first_of : (more : List ℕ) → IsBytes more → Block more
first_of [] are = Cut (inl (omega arith))
first_of (high ∷ []) are = Cut (inl (omega arith))
first_of (high ∷ low ∷ more) are =
    let len = big_number 2 (high ∷ low ∷ more) in
    let one : high < 256 = are 0 in
    let other : low < 256 = are 1 in
    let most : len ≤ 65535 = omega (arith, one, other) in
    ⊎_elim
    (λ cut. Cut (inr (most, omega (arith, cut))))
    (λ whole. Whole (take len more) (drop len more) (omega (arith, length-take-le len more whole, most))
    (first_block high low more one other whole) (omega (arith, length-drop len more))
    (bytes_behind len more (bytes_behind 2 (high ∷ low ∷ more) are)))
    (cases_lt (length more) len)

shut : (gate : ℕ) (more : List ℕ) → (gate ≡ 1 → ⊥) → IsShut (gate ∷ more)
shut gate more other = record { gate = gate; rest = more; shut = other; parts = refl }

split_records : (fuel base : ℕ) (bytes : List ℕ) → length bytes ≤ fuel → IsBytes bytes → base < 18446744073709551615 →
    Records base bytes
split_records fuel base [] short are few = fails base [] few (Damaged (base + 1)) (refl, no_gate refl)
split_records zero base (gate ∷ bytes) short are few = absurd (omega (arith, short))
split_records (suc fuel) base (zero ∷ bytes) short are few =
    halt base (zero ∷ bytes) few (Ends false (shut zero bytes (λ is. absurd (omega (arith, is)))))
split_records (suc fuel) base (suc (suc gate) ∷ bytes) short are few =
    halt base (suc (suc gate) ∷ bytes) few (Ends false (shut (suc (suc gate)) bytes (λ is. absurd (omega (arith, is)))))
split_records (suc fuel) base (suc zero ∷ []) short are few =
    fails base (suc zero ∷ []) few (Damaged (base + 1)) (refl, no_kind refl)
split_records (suc fuel) base (suc zero ∷ suc (suc kind) ∷ more) short are few =
    fails base (suc zero ∷ suc (suc kind) ∷ more) few (Damaged (base + 1))
    (refl, bad_kind (suc (suc kind)) more refl (omega arith))
split_records (suc fuel) base (suc zero ∷ suc zero ∷ []) short are few =
    fails base (suc zero ∷ suc zero ∷ []) few (Damaged (base + 1)) (refl, cut_closing refl)
split_records (suc fuel) base (suc zero ∷ suc zero ∷ byte ∷ more) short are few =
    halt base (suc zero ∷ suc zero ∷ byte ∷ more) few
    (Ends true (record { byte = byte; rest = more; parts = refl }))
split_records (suc fuel) base (suc zero ∷ zero ∷ more) short are few = ⊎_elim
    (λ left. by_block more (first_of more (bytes_behind 2 (suc zero ∷ zero ∷ more) are))
    (λ ends. fails base (suc zero ∷ zero ∷ more) few (Damaged (base + 1)) (refl, cut_message more left refl ends))
    (λ message behind within parts shorter bytes. next_records base message (suc zero ∷ zero ∷ more) behind within
    (ap (λ (t : List ℕ). 1 ∷ 0 ∷ t) parts)
    (split_records fuel (base + 1) behind (omega (arith, short, shorter)) bytes (omega (arith, left)))))
    (λ none. fails base (suc zero ∷ zero ∷ more) few Full (none, record { more = more; parts = refl }))
    (cases_lt base 18446744073709551614)

module _ (session : Session) (bytes behind : List ℕ) (ten : length session.0 ≡ 10)
    (parts : bytes ≡ head_3 session.0 ++ behind) (found : Records 0 behind) where
  abbrev record_head : FileHead
  record_head = record { session = session; closed = false; version = Three }

  abbrev record_reader : ReaderState
  record_reader = record { head = record_head; count = length found.messages; message = []; rest = [] }

  read_records : HasRead (Some bytes) (Some found.rest) record_reader found.messages
  read_records = record {
    named = ten;
    said = refl;
    listed = record { few = omega (arith, found.few); each = found.each };
    counted = refl;
    consumed =
        parts
        ∙ ap (λ (t : List ℕ). head_3 session.0 ++ t) found.parts
        ∙ sym (append_assoc (head_3 session.0) (records found.messages) found.rest);
  }

  stopped : Stopping (0 + length found.messages) found.rest → FileContents bytes
  stopped (Ends closed ends) = record {
    messages = found.messages;
    fault = None;
    gives = whole bytes found.rest record_reader found.messages read_records (head_at_end record_head closed)
        (record { same = refl; ends = ends });
  }
  stopped (Fails error fault) =
      let here : length found.messages ≡ 0 + length found.messages = omega arith in
      record {
        messages = found.messages;
        fault = Some error;
        gives = refused bytes found.rest record_reader found.messages read_records error
            (subst (λ (n : ℕ). RecordFault 65535 n found.rest error) (sym here) fault);
      }

-- ---- heads

none_but : (bytes : List ℕ) (error : FileError) → Gives bytes [] (Some error) → FileContents bytes
none_but bytes error gives = record { messages = []; fault = Some error; gives = gives }

told_same : (one other : List ℕ) (b : Bool) → pointwise eqb one other ≡ b → (one ≡ other) ⊎ (one ≡ other → ⊥)
told_same one other true is = inl ((bytes_decides one other).0 is)
told_same one other false is = inr (λ same. absurd (true≢false (sym ((bytes_decides one other).1 same) ∙ is)))

same_bytes : (one other : List ℕ) → (one ≡ other) ⊎ (one ≡ other → ⊥)
same_bytes one other = told_same one other (pointwise eqb one other) refl

abbrev session_of : List ℕ → Session
session_of bytes = record { 0 = take 10 (drop 8 bytes) }

-- The first 18 bytes are the magic bytes and the session.
head_parts : (bytes magic : List ℕ) → 18 ≤ length bytes → take 8 bytes ≡ magic →
    bytes ≡ magic ++ (take 10 (drop 8 bytes) ++ drop 18 bytes)
head_parts bytes magic long is =
    sym (take-append-drop 8 bytes)
    ∙ ap (λ (t : List ℕ). t ++ drop 8 bytes) is
    ∙ ap (λ (t : List ℕ). magic ++ t) (sym (take-append-drop 10 (drop 8 bytes))
    ∙ ap (λ (t : List ℕ). take 10 (drop 8 bytes) ++ t) (drop-drop 10 8 bytes))

ten_bytes : (bytes : List ℕ) → 18 ≤ length bytes → length (take 10 (drop 8 bytes)) ≡ 10
ten_bytes bytes long = length-take-le 10 (drop 8 bytes) (omega (arith, length-drop 8 bytes))

version_1 : (bytes : List ℕ) → IsBytes bytes → 18 ≤ length bytes → take 8 bytes ≡ magic_1 → FileContents bytes
version_1 bytes are long is =
    behind_some (record { session = session_of bytes; closed = false; version = One }) bytes (drop 18 bytes)
    refl (ten_bytes bytes long) refl
    (head_parts bytes magic_1 long is ∙ sym (append_assoc magic_1 (take 10 (drop 8 bytes)) (drop 18 bytes)))
    (bytes_behind 18 bytes are)

version_3 : (bytes : List ℕ) → IsBytes bytes → 18 ≤ length bytes → take 8 bytes ≡ magic_3 → FileContents bytes
version_3 bytes are long is =
    let behind : List ℕ = drop 18 bytes in
    let found = split_records (length behind) 0 behind (omega arith) (bytes_behind 18 bytes are) (omega arith) in
    stopped (session_of bytes) bytes behind (ten_bytes bytes long)
    (head_parts bytes magic_3 long is ∙ sym (append_assoc magic_3 (take 10 (drop 8 bytes)) behind)) found found.stopping

-- The flag and the number after the session.
number_fits : (bytes : List ℕ) → IsBytes bytes → big_number 8 bytes < 2 ^ 64
number_fits bytes are = omega (arith, are 0, are 1, are 2, are 3, are 4, are 5, are 6, are 7)

first_taken : (n : ℕ) (bytes : List ℕ) → get_or (take (suc n) bytes) 0 0 ≡ get_or bytes 0 0
first_taken n [] = refl
first_taken n (byte ∷ bytes) = refl

module _ (bytes : List ℕ) (are : IsBytes bytes) (long : 27 ≤ length bytes) (flag : get_or bytes 18 0 ≤ 1) where
  abbrev index : List ℕ
  index = take 9 (drop 18 bytes)

  abbrev byte : ℕ
  byte = get_or (take 1 index) 0 0

  abbrev number : ℕ
  number = big_number 8 (drop 1 index)

  nine : length index ≡ 9
  nine = length-take-le 9 (drop 18 bytes) (omega (arith, long, length-drop 18 bytes))

  bytes_taken : IsBytes index
  bytes_taken = taken_bytes 9 (drop 18 bytes) (bytes_behind 18 bytes are)

  byte_small : byte ≤ 1
  byte_small =
      let same : byte ≡ get_or bytes 18 0 =
      first_taken 0 index ∙ first_taken 8 (drop 18 bytes) ∙ get_or-drop 18 bytes 0 0
      in
      omega (arith, same, flag)

  place_is : index ≡ closed_byte (eqb byte 1) ∷ be64 number
  place_is =
      sym (take_all 9 index (omega (arith, nine)))
      ∙ numbers_are index 9 byte number (omega arith) byte_small
      (byte_and_number index (take 1 index) (drop 1 index) number nine bytes_taken refl refl refl)

  -- the flag and the number after the session
  numbers_at : drop 18 bytes ≡ (closed_byte (eqb byte 1) ∷ be64 number) ++ drop 27 bytes
  numbers_at =
      sym (take-append-drop 9 (drop 18 bytes))
      ∙ ap (λ (t : List ℕ). t ++ drop 9 (drop 18 bytes)) place_is
      ∙ ap (λ (t : List ℕ). (closed_byte (eqb byte 1) ∷ be64 number) ++ t) (drop-drop 9 18 bytes)

  version_2 : take 8 bytes ≡ magic_2 → FileContents bytes
  version_2 is =
      behind_some (record { session = session_of bytes; closed = eqb byte 1; version = Two number }) bytes (drop 27 bytes)
      refl (ten_bytes bytes (omega (arith, long))) (number_fits (drop 1 index) (bytes_behind 1 index bytes_taken))
      (head_parts bytes magic_2 (omega (arith, long)) is
      ∙ ap (λ (t : List ℕ). magic_2 ++ (take 10 (drop 8 bytes) ++ t)) numbers_at
      ∙ ap (λ (t : List ℕ). magic_2 ++ t)
      (sym (append_assoc (take 10 (drop 8 bytes)) (closed_byte (eqb byte 1) ∷ be64 number) (drop 27 bytes)))
      ∙ sym (append_assoc magic_2 (take 10 (drop 8 bytes) ++ (closed_byte (eqb byte 1) ∷ be64 number)) (drop 27 bytes)))
      (bytes_behind 27 bytes are)

headed : (bytes : List ℕ) → IsBytes bytes → 18 ≤ length bytes → take 8 bytes ≡ magic_2 → FileContents bytes
headed bytes are long is = ⊎_elim
    (λ short. none_but bytes (Short (length bytes)) ((refl, inr (is, short)), refl))
    (λ whole. ⊎_elim
    (λ bad. none_but bytes (BadFlag (get_or bytes 18 0)) ((is, whole, refl, bad), refl))
    (λ flag. version_2 bytes are whole flag is)
    (cases_lt 1 (get_or bytes 18 0)))
    (cases_lt (length bytes) 27)

pub some_contents : (bytes : List ℕ) → IsBytes bytes → FileContents bytes
some_contents bytes are = ⊎_elim
    (λ short. none_but bytes (Short (length bytes)) ((refl, inl short), refl))
    (λ long. ⊎_elim
    (λ first. version_1 bytes are long first)
    (λ other. ⊎_elim
    (λ second. headed bytes are long second)
    (λ neither. ⊎_elim
    (λ third. version_3 bytes are long third)
    (λ none. none_but bytes BadMagic ((long, other, neither, none), refl))
    (same_bytes (take 8 bytes) magic_3))
    (same_bytes (take 8 bytes) magic_2))
    (same_bytes (take 8 bytes) magic_1))
    (cases_lt (length bytes) 18)
