-- How the records of a journal are read, a piece at a time.
use Rattle.std.proofs.Common.{◌≡◌, ◌⊎◌, inl, inr, ℕ, ◌+◌, ◌-◌, ◌*◌, ◌≤◌, ◌<◌, ◌^◌, min, Bool, true, false, List, [], ◌∷◌, ◌++◌, length}
use Rattle.std.proofs.Common.{take, drop, refl, sym, ap, subst, ◌∙◌, append_assoc, append-nil, arith, length-append}
use Rattle.std.proofs.Common.{length-drop, length-take, take-append-drop, Result, Ok, Err}
use Rattle.std.proofs.Math.Nat.{eq-or-lt_of_le}
use Rattle.std.proofs.lemmas.List.{length-take-le, drop-drop, drop-append-le, nil_from_length, take_at}
use Rattle.std.specs.Prelude.{slice_index}
use Rattle.byteorder.specs.Endian.{big_number}
use Rattle.mold_wire.specs.Block.{be16}
use Rattle.mold_session.specs.Checking.{BeginsRecord, HasBlock, HasRecord}
use Rattle.mold_session.specs.FileFault.{IsDamaged, no_gate, no_kind, bad_kind, cut_closing, cut_message}
use Rattle.mold_session.specs.FileFault.{IsLongRecord, RecordFault, RecordsFault}
use Rattle.mold_session.specs.Journal.{AreMessages}
use Rattle.mold_session.specs.Records.{record_of, records, EndsRecords, IsClosing}
use Rattle.mold_durable.specs.DurableJournal.{CountsOpenError}
use Rattle.mold_durable.specs.Group.{closing}
use Rattle.mold_durable.specs.Reading.{AreSkipped, HasRead, HasReadAll, IsNextRecord, IsPieceOf, IsStop, ReadsPiece, SkipsRecords, file_error}
use Rattle.mold_durable.specs.Storage.{IsPartAt}
use Rattle.mold_durable.specs.declared.error.OpenError.{OpenError}
use Rattle.mold_durable.specs.declared.error.OpenError.TheVariants.{Short, BadMagic, Full, TooLong, Damaged, Read, Write}
use Rattle.mold_durable.specs.declared.error.OpenError.TheVariants.{Memory}
use Rattle.mold_durable.specs.declared.records.NextRecord.TheVariants.{Message}
use Rattle.mold_durable.specs.declared.records.Skipped.{Skipped}
use Rattle.mold_durable.proofs.RecordLemmas.{each-append, records-append}

-- ---- one record

pair_same : (x y a b : ℕ) → x ≡ a → y ≡ b → x ∷ y ∷ [] ≡ a ∷ b ∷ []
pair_same x y a b one other = ap (λ (n : ℕ). n ∷ y ∷ []) one ∙ ap (λ (n : ℕ). a ∷ n ∷ []) other

be16_of : (a b number : ℕ) → a < 256 → b < 256 → number ≡ a * 256 + b → be16 number ≡ a ∷ b ∷ []
be16_of a b number small less is = pair_same _ _ a b (omega (arith, small, less, is)) (omega (arith, small, less, is))

-- The first two bytes are a number.
number_split : (bytes : List ℕ) → ((i : ℕ) → slice_index bytes i < 256) → 2 ≤ length bytes →
    bytes ≡ be16 (big_number 2 bytes) ++ drop 2 bytes
number_split [] small long = absurd (omega (arith, long))
number_split (a ∷ []) small long = absurd (omega (arith, long))
number_split (a ∷ b ∷ bytes) small long =
    sym (ap (λ (t : List ℕ). t ++ bytes)
    (be16_of a b (big_number 2 (a ∷ b ∷ bytes)) (small 0) (small 1) (omega arith)))

number_taken : (bytes : List ℕ) → 2 ≤ length bytes → big_number 2 (take 2 bytes) ≡ big_number 2 bytes
number_taken [] long = absurd (omega (arith, long))
number_taken (a ∷ []) long = absurd (omega (arith, long))
number_taken (a ∷ b ∷ bytes) long = refl

-- The block of a message.
pub block_parts : (most len : ℕ) (body head rest : List ℕ) → ((i : ℕ) → slice_index body i < 256) →
    head ≡ take 2 body → rest ≡ drop 2 body → len ≡ big_number 2 head → 2 ≤ length body → len ≤ most →
    len ≤ length rest → HasBlock most body (drop (2 + len) body)
block_parts most len body head rest small front back stated long within fits =
    let behind = drop 2 body in
    let enough : len ≤ length behind = omega (arith, fits, ap (λ (t : List ℕ). length t) back) in
    let message = take len behind in
    let size : length message ≡ len = length-take-le len behind enough in
    let number : big_number 2 body ≡ length message =
    sym (number_taken body long) ∙ ap (big_number 2) (sym front) ∙ sym stated ∙ sym size
    in
    record {
      message = message;
      within = omega (arith, size, within);
      parts =
          number_split body small long
          ∙ ap (λ (n : ℕ). be16 n ++ behind) number
          ∙ ap (λ (t : List ℕ). be16 (length message) ++ t) (
          sym (take-append-drop len behind) ∙ ap (λ (t : List ℕ). message ++ t) (drop-drop len 2 body)
          );
    }

-- The block of a message is cut.
pub block_cut : (most count len : ℕ) (body head rest : List ℕ) → count < 18446744073709551614 → head ≡ take 2 body →
    rest ≡ drop 2 body → len ≡ big_number 2 head → 2 ≤ length body → len ≤ most → length rest < len →
    IsDamaged most count (1 ∷ 0 ∷ body)
block_cut most count len body head rest few front back stated long within short =
    let number : big_number 2 body ≡ len =
    sym (number_taken body long) ∙ ap (big_number 2) (sym front) ∙ sym stated
    in
    cut_message body few refl (inr (
      omega (arith, number, within),
      omega (arith, number, short, ap (λ (t : List ℕ). length t) back, length-drop 2 body),
    ))

-- The first two bytes of a record.
pub two_bytes : (rest behind body : List ℕ) (gate kind value : ℕ) → rest ≡ gate ∷ behind → behind ≡ kind ∷ body →
    gate ≡ 1 → kind ≡ value → rest ≡ 1 ∷ value ∷ body
two_bytes rest behind body gate kind value first second opened is =
    first
    ∙ ap (λ (n : ℕ). n ∷ behind) opened
    ∙ ap (λ (t : List ℕ). 1 ∷ t) (second ∙ ap (λ (n : ℕ). n ∷ body) is)

pub closing_of : (rest body : List ℕ) → rest ≡ 1 ∷ 1 ∷ body → (length body ≡ 0 → ⊥) → IsClosing rest
closing_of rest [] starts some = absurd (some refl)
closing_of rest (byte ∷ more) starts some = record { byte = byte; rest = more; parts = starts }

-- The record of a message, whose block follows the first two bytes.
pub record_next : (most len : ℕ) (rest body : List ℕ) → rest ≡ 1 ∷ 0 ∷ body → HasBlock most body (drop len body) →
    HasRecord most rest (drop (2 + len) rest)
record_next most len rest body starts block = record {
  message = block.message;
  within = block.within;
  parts =
      starts
      ∙ ap (λ (t : List ℕ). 1 ∷ 0 ∷ t) block.parts
      ∙ ap (λ (t : List ℕ). record_of block.message ++ t) (
      ap (λ (t : List ℕ). drop len (drop 2 t)) (sym starts) ∙ drop-drop len 2 rest
      );
}

-- The whole record of a message, which begins the bytes.
pub whole_parts : (most len : ℕ) (rest : List ℕ) → BeginsRecord most rest len → 4 + len ≤ length rest →
    HasRecord most rest (drop (4 + len) rest)
whole_parts most len rest begins fits =
    let message = take len (drop 4 rest) in
    let size : length message ≡ len = length-take-le len (drop 4 rest) (omega (arith, fits, length-drop 4 rest)) in
    record {
      message = message;
      within = omega (arith, size, begins.within);
      parts =
          sym (take-append-drop 4 rest)
          ∙ ap (λ (t : List ℕ). t ++ drop 4 rest) begins.starts
          ∙ ap (λ (n : ℕ). 1 ∷ 0 ∷ (be16 n ++ drop 4 rest)) (sym size)
          ∙ ap (λ (t : List ℕ). 1 ∷ 0 ∷ (be16 (length message) ++ t)) (sym (take-append-drop len (drop 4 rest)))
          ∙ ap (λ (t : List ℕ). record_of message ++ t) (drop-drop len 4 rest);
    }

-- No record was read yet.
pub skipped_none : (Taken : List (List ℕ) → Type 0) (most start : ℕ) (bytes : List ℕ) → Taken [] →
    start < 18446744073709551615 → AreSkipped Taken most start start 0 bytes
skipped_none Taken most start bytes none few = record {
  messages = [];
  taken = none;
  each = tt;
  few = few;
  counted = omega arith;
  within = omega arith;
  parts = refl;
}

pub records_one : (messages : List (List ℕ)) (message : List ℕ) →
    records messages ++ record_of message ≡ records (messages ++ message ∷ [])
records_one messages message =
    ap (λ (t : List ℕ). records messages ++ t) (sym (append-nil (record_of message)))
    ∙ sym (records-append messages (message ∷ []))

-- The message of a record follows its first four bytes.
pub record_message : (message behind rest : List ℕ) (len : ℕ) → rest ≡ record_of message ++ behind → behind ≡ drop len rest →
    len ≤ length rest → take (len - 4) (drop 4 rest) ≡ message
record_message message behind rest len parts is fits =
    let long : length message ≡ len - 4 =
    omega (
      arith,
      fits,
      ap (λ (t : List ℕ). length t) parts,
      length-append (record_of message) behind,
      ap (λ (t : List ℕ). length t) is,
      length-drop len rest,
    )
    in
    ap (λ (t : List ℕ). take (len - 4) (drop 4 t)) parts ∙ take_at message behind (len - 4) long

-- One more record was read.
pub skipped_more : (Earlier Taken : List (List ℕ) → Type 0) (most start count at len : ℕ) (bytes : List ℕ)
    (so_far : AreSkipped Earlier most start count at bytes) → count < 18446744073709551614 →
    len ≤ length (drop at bytes) → (one : HasRecord most (drop at bytes) (drop len (drop at bytes))) →
    Taken (so_far.messages ++ one.message ∷ []) → AreSkipped Taken most start (count + 1) (at + len) bytes
skipped_more Earlier Taken most start count at len bytes so_far few fits one taken =
    let old = so_far.messages in
    let new = old ++ one.message ∷ [] in
    let behind = drop (at + len) bytes in
    record {
      messages = new;
      taken = taken;
      each = each-append most old (one.message ∷ []) so_far.each (one.within, tt);
      few = omega (arith, few);
      counted = omega (arith, so_far.counted, length-append old (one.message ∷ []));
      within = omega (arith, so_far.within, fits, length-drop at bytes);
      parts =
          so_far.parts
          ∙ ap (λ (t : List ℕ). records old ++ t) (
          one.parts ∙ ap (λ (t : List ℕ). record_of one.message ++ t) (drop-drop len at bytes)
          )
          ∙ sym (append_assoc (records old) (record_of one.message) behind)
          ∙ ap (λ (t : List ℕ). t ++ behind) (records_one old one.message);
    }

pub skipped_next : (Earlier Taken : List (List ℕ) → Type 0) (most start count at len : ℕ) (bytes rest : List ℕ) →
    rest ≡ drop at bytes → AreSkipped Earlier most start count at bytes → IsNextRecord most count rest (Message len) →
    ((messages : List (List ℕ)) → Earlier messages → Taken (messages ++ take (len - 4) (drop 4 rest) ∷ [])) →
    AreSkipped Taken most start (count + 1) (at + len) bytes
skipped_next Earlier Taken most start count at len bytes rest is so_far next step =
    let here = subst (λ (t : List ℕ). IsNextRecord most count t (Message len)) is next in
    let one = here.3 in
    let same : take (len - 4) (drop 4 rest) ≡ one.message =
    ap (λ (t : List ℕ). take (len - 4) (drop 4 t)) is
    ∙ record_message one.message (drop len (drop at bytes)) (drop at bytes) len one.parts refl here.2
    in
    skipped_more Earlier Taken most start count at len bytes so_far here.0 here.2 one
    (subst (λ (m : List ℕ). Taken (so_far.messages ++ m ∷ [])) same (step so_far.messages so_far.taken))

-- No record follows.
pub skips : (Taken : List (List ℕ) → Type 0) (most start count at : ℕ) (bytes rest : List ℕ)
    (stop : Result Bool OpenError) → rest ≡ drop at bytes → AreSkipped Taken most start count at bytes →
    IsStop most count rest stop → SkipsRecords Taken most start bytes (record { count = count; len = at; stop = stop })
skips Taken most start count at bytes rest stop is so_far ends = record {
  records = so_far;
  stop = subst (λ (t : List ℕ). IsStop most count t stop) is ends;
}

-- The records have `len` bytes.
skipped_length : (Taken : List (List ℕ) → Type 0) (most start count len : ℕ) (bytes : List ℕ)
    (skipped : AreSkipped Taken most start count len bytes) → length (records skipped.messages) ≡ len
skipped_length Taken most start count len bytes skipped =
    omega (
      arith,
      skipped.within,
      ap (λ (t : List ℕ). length t) skipped.parts,
      length-append (records skipped.messages) (drop len bytes),
      length-drop len bytes,
    )

-- ---- what follows the records of a piece

pub ends_more : (closed : Bool) (rest more : List ℕ) → EndsRecords closed rest → EndsRecords closed (rest ++ more)
ends_more true rest more ends =
    record { byte = ends.byte; rest = ends.rest ++ more; parts = ap (λ (t : List ℕ). t ++ more) ends.parts }
ends_more false rest more ends =
    record { gate = ends.gate; rest = ends.rest ++ more; shut = ends.shut; parts = ap (λ (t : List ℕ). t ++ more) ends.parts }

-- The offset of the shut gate, or of the last byte of the closing record, is within the bytes.
pub ends_within : (closed : Bool) (rest : List ℕ) → EndsRecords closed rest → length (closing closed) < length rest
ends_within true rest ends = omega (arith, ap (λ (t : List ℕ). length t) ends.parts)
ends_within false rest ends = omega (arith, ap (λ (t : List ℕ). length t) ends.parts)

pub number_more : (bytes more : List ℕ) → 2 ≤ length bytes → big_number 2 (bytes ++ more) ≡ big_number 2 bytes
number_more [] more long = absurd (omega (arith, long))
number_more (a ∷ []) more long = absurd (omega (arith, long))
number_more (a ∷ b ∷ bytes) more long = refl

-- The bytes are longer than a record, so none is cut; or no more bytes follow.
abbrev pub IsEnough : List ℕ → List ℕ → Type 0
IsEnough rest more = (65539 ≤ length rest) ⊎ (more ≡ [])

damaged_more : (most count : ℕ) (rest more : List ℕ) → most ≤ 65535 → 65539 ≤ length rest → IsDamaged most count rest →
    IsDamaged most count (rest ++ more)
damaged_more most count rest more bound long (no_gate is) =
    absurd (omega (arith, long, ap (λ (t : List ℕ). length t) is))
damaged_more most count rest more bound long (no_kind is) =
    absurd (omega (arith, long, ap (λ (t : List ℕ). length t) is))
damaged_more most count rest more bound long (bad_kind kind behind is high) =
    bad_kind kind (behind ++ more) (ap (λ (t : List ℕ). t ++ more) is) high
damaged_more most count rest more bound long (cut_closing is) =
    absurd (omega (arith, long, ap (λ (t : List ℕ). length t) is))
damaged_more most count rest more bound long (cut_message behind few is (inl short)) =
    absurd (omega (arith, long, short, ap (λ (t : List ℕ). length t) is))
damaged_more most count rest more bound long (cut_message behind few is (inr short)) =
    absurd (omega (arith, long, bound, short.0, short.1, ap (λ (t : List ℕ). length t) is))

long_more : (most : ℕ) (rest more : List ℕ) (len : ℕ) → IsLongRecord most rest len → IsLongRecord most (rest ++ more) len
long_more most rest more len fault = record {
  more = fault.more ++ more;
  parts = ap (λ (t : List ℕ). t ++ more) fault.parts;
  whole = omega (arith, fault.whole, length-append fault.more more);
  stated = number_more fault.more more fault.whole ∙ fault.stated;
  long = fault.long;
}

fault_long : (most count : ℕ) (rest more : List ℕ) (error : OpenError) → most ≤ 65535 → 65539 ≤ length rest →
    RecordFault most count rest (file_error error) → RecordFault most count (rest ++ more) (file_error error)
fault_long most count rest more Full bound long fault =
    (fault.0, record { more = fault.1.more ++ more; parts = ap (λ (t : List ℕ). t ++ more) fault.1.parts })
fault_long most count rest more (TooLong len) bound long fault = (fault.0, long_more most rest more len fault.1)
fault_long most count rest more (Damaged number) bound long fault =
    (fault.0, damaged_more most count rest more bound long fault.1)
fault_long most count rest more (Short len) bound long fault = absurd fault
fault_long most count rest more BadMagic bound long fault = absurd fault
fault_long most count rest more Read bound long fault = absurd fault
fault_long most count rest more Write bound long fault = absurd fault
fault_long most count rest more Memory bound long fault = absurd fault

fault_more : (most count : ℕ) (rest more : List ℕ) (error : OpenError) → most ≤ 65535 → IsEnough rest more →
    RecordFault most count rest (file_error error) → RecordFault most count (rest ++ more) (file_error error)
fault_more most count rest more error bound (inl long) fault = fault_long most count rest more error bound long fault
fault_more most count rest more error bound (inr none) fault =
    subst (λ (t : List ℕ). RecordFault most count t (file_error error))
    (sym (append-nil rest) ∙ ap (λ (t : List ℕ). rest ++ t) (sym none)) fault

-- No fault of a record is a failure of the storage.
pub fault_counts : (most count old new : ℕ) (rest : List ℕ) (error : OpenError) →
    RecordFault most count rest (file_error error) → new ≡ old → CountsOpenError old new error
fault_counts most count old new rest Full fault same = same
fault_counts most count old new rest (TooLong len) fault same = same
fault_counts most count old new rest (Damaged number) fault same = same
fault_counts most count old new rest (Short len) fault same = same
fault_counts most count old new rest BadMagic fault same = same
fault_counts most count old new rest Memory fault same = same
fault_counts most count old new rest Read fault same = absurd fault
fault_counts most count old new rest Write fault same = absurd fault

-- ---- pieces

pub piece_of : (at size count : ℕ) (bytes buffer : List ℕ) → size ≡ length buffer →
    count ≡ min size (length bytes - at) → take count buffer ≡ take count (drop at bytes) →
    IsPieceOf at size bytes (take count buffer)
piece_of at size count bytes buffer sized counted part =
    let behind = drop at bytes in
    record {
      more = drop count behind;
      parts = sym (take-append-drop count behind) ∙ ap (λ (t : List ℕ). t ++ drop count behind) (sym part);
      last = λ short. nil_from_length (drop count behind)
          (omega (arith, short, sized, counted, length-drop count behind, length-drop at bytes, length-take count buffer));
    }

pub piece_read : (shows : List ℕ → Type 0) (Taken : List (List ℕ) → Type 0) (most start at count : ℕ)
    (buffer : List ℕ) (skipped : Skipped) → count ≤ length buffer → (0 < count → at + count < 2 ^ 63) →
    SkipsRecords Taken most start (take count buffer) skipped →
    ((bytes : List ℕ) → shows bytes → IsPartAt at bytes count buffer) →
    ReadsPiece shows Taken most start at (length buffer) skipped
piece_read shows Taken most start at count buffer skipped fits within found part =
    let size : length (take count buffer) ≡ count = length-take-le count buffer fits in
    record {
      piece = take count buffer;
      few = omega (arith, size, fits);
      near = λ some. omega (arith, size, within (omega (arith, size, some)));
      found = found;
      part = λ bytes now. piece_of at (length buffer) count bytes buffer refl (part bytes now).counted (part bytes now).part;
    }

-- What is shown after some reads was shown before them.
pub piece_since : (before after : List ℕ → Type 0) (Taken : List (List ℕ) → Type 0) (most start at size : ℕ)
    (skipped : Skipped) → ((bytes : List ℕ) → before bytes → after bytes) →
    ReadsPiece after Taken most start at size skipped → ReadsPiece before Taken most start at size skipped
piece_since before after Taken most start at size skipped same next = record {
  piece = next.piece;
  few = next.few;
  near = next.near;
  found = next.found;
  part = λ bytes now. next.part bytes (same bytes now);
}

pub all_since : (before after : List ℕ → Type 0) (Earlier Taken : List (List ℕ) → Type 0) (most count end : ℕ)
    (closed : Bool) → ((bytes : List ℕ) → before bytes → after bytes) →
    ((messages : List (List ℕ)) → AreMessages most messages → Earlier messages → Taken messages) →
    HasReadAll after Earlier most count end closed → HasReadAll before Taken most count end closed
all_since before after Earlier Taken most count end closed same step all = record {
  messages = all.messages;
  taken = step all.messages all.listed all.taken;
  listed = all.listed;
  counted = all.counted;
  ends = all.ends;
  parts = λ bytes now. all.parts bytes (same bytes now);
}

-- Nothing but the head was read.
pub read_none : (shows : List ℕ → Type 0) (Taken : List (List ℕ) → Type 0) (most : ℕ) → Taken [] →
    HasRead shows Taken most 0 18
read_none shows Taken most none = record {
  messages = [];
  taken = none;
  listed = record { few = omega arith; each = tt };
  counted = refl;
  ends = refl;
  parts = λ bytes now. refl;
}

-- The bytes after the records of a piece.
rest_here : (at size : ℕ) (bytes piece : List ℕ) (len : ℕ) (part : IsPieceOf at size bytes piece) → len ≤ length piece →
    drop (at + len) bytes ≡ drop len piece ++ part.more
rest_here at size bytes piece len part within =
    sym (drop-drop len at bytes) ∙ ap (drop len) part.parts ∙ drop-append-le len piece part.more within

module _ (shows : List ℕ → Type 0) (Earlier Piece : List (List ℕ) → Type 0) (most count at size : ℕ) (skipped : Skipped)
    (so_far : HasRead shows Earlier most count at) (next : ReadsPiece shows Piece most count at size skipped) where
  abbrev old : List (List ℕ)
  old = so_far.messages

  abbrev new : List (List ℕ)
  new = so_far.messages ++ next.found.records.messages

  parts_more : (bytes : List ℕ) → shows bytes → drop 18 bytes ≡ records new ++ drop (at + skipped.len) bytes
  parts_more bytes now =
      let more = next.found.records.messages in
      let part = next.part bytes now in
      let behind = drop skipped.len next.piece in
      so_far.parts bytes now
      ∙ ap (λ (t : List ℕ). records old ++ t) (
      part.parts
      ∙ ap (λ (t : List ℕ). t ++ part.more) next.found.records.parts
      ∙ append_assoc (records more) behind part.more
      ∙ ap (λ (t : List ℕ). records more ++ t)
      (sym (rest_here at size bytes next.piece skipped.len part next.found.records.within))
      )
      ∙ sym (append_assoc (records old) (records more) (drop (at + skipped.len) bytes))
      ∙ ap (λ (t : List ℕ). t ++ drop (at + skipped.len) bytes) (sym (records-append old more))

  listed_more : AreMessages most new
  listed_more =
      let more = next.found.records in
      record {
        few = omega (arith, more.few, more.counted, so_far.counted, length-append old more.messages);
        each = each-append most old more.messages so_far.listed.each more.each;
      }

  counted_more : skipped.count ≡ length new
  counted_more =
      let more = next.found.records in
      omega (arith, more.counted, so_far.counted, length-append old more.messages)

  end_more : at + skipped.len ≡ 18 + length (records new)
  end_more =
      let more = next.found.records in
      omega (
        arith,
        so_far.ends,
        skipped_length Piece most count skipped.count skipped.len next.piece more,
        ap (λ (t : List ℕ). length t) (records-append old more.messages),
        length-append (records old) (records more.messages),
      )

  -- The records of one more piece were read.
  pub read_more : (Taken : List (List ℕ) → Type 0) → Taken new → HasRead shows Taken most skipped.count (at + skipped.len)
  read_more Taken taken = record {
    messages = new;
    taken = taken;
    listed = listed_more;
    counted = counted_more;
    ends = end_more;
    parts = parts_more;
  }

  -- And then what ends them.
  pub read_all : (Taken : List (List ℕ) → Type 0) → Taken new → (closed : Bool) (end : ℕ) → skipped.stop ≡ Ok closed →
      end ≡ at + skipped.len + length (closing closed) → HasReadAll shows Taken most skipped.count end closed
  read_all Taken taken closed end is ends =
      let more = next.found.records in
      let stop : EndsRecords closed (drop skipped.len next.piece) = rw is at next.found.stop in
      record {
        messages = new;
        taken = taken;
        listed = listed_more;
        counted = counted_more;
        ends = omega (arith, ends, end_more, length-append (records new) (closing closed));
        parts = λ bytes now. record {
          rest = drop (at + skipped.len) bytes;
          parts = parts_more bytes now;
          ends = subst (EndsRecords closed)
              (sym (rest_here at size bytes next.piece skipped.len (next.part bytes now) more.within))
              (ends_more closed (drop skipped.len next.piece) (next.part bytes now).more stop);
        };
      }

  pub end_near : (closed : Bool) → skipped.stop ≡ Ok closed → at + skipped.len + length (closing closed) < 2 ^ 63
  end_near closed is =
      let stop : EndsRecords closed (drop skipped.len next.piece) = rw is at next.found.stop in
      let within = ends_within closed (drop skipped.len next.piece) stop in
      let long = length-drop skipped.len next.piece in
      omega (arith, within, long, next.near (omega (arith, within, long)))

  pub next_near : (skipped.len ≡ 0 → ⊥) → at + skipped.len < 2 ^ 63
  next_near some =
      let within = next.found.records.within in
      omega (arith, within, next.near (omega (arith, some, within)))

  -- A fault at the start of a piece is a fault of the file.
  pub read_fault : (error : OpenError) → most ≤ 65535 → 65539 ≤ size → skipped.len ≡ 0 → skipped.stop ≡ Err error →
      (bytes : List ℕ) → shows bytes → RecordsFault most (drop 18 bytes) (file_error error)
  read_fault error bound large none is bytes now =
      let more = next.found.records in
      let part = next.part bytes now in
      let here = drop skipped.len next.piece in
      let whole : length here ≡ length next.piece = omega (arith, none, length-drop skipped.len next.piece) in
      let enough : IsEnough here part.more =
      elim (eq-or-lt_of_le next.few) [
        | inl full ↦ inl (omega (arith, full, large, whole))
        | inr short ↦ inr (part.last short)
      ]
      in
      let fault : RecordFault most skipped.count here (file_error error) = rw is at next.found.stop in
      record {
        messages = new;
        before = record {
          rest = drop (at + skipped.len) bytes;
          front = record { listed = listed_more; parts = parts_more bytes now };
          fault = subst (λ (n : ℕ). RecordFault most n (drop (at + skipped.len) bytes) (file_error error))
              counted_more
              (subst (λ (t : List ℕ). RecordFault most skipped.count t (file_error error))
              (sym (rest_here at size bytes next.piece skipped.len part more.within))
              (fault_more most skipped.count here part.more error bound enough fault));
        };
      }
