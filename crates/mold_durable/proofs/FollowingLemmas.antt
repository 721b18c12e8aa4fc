-- How the records of a growing file are read.
use Rattle.std.proofs.Common.{◌≡◌, ◌⊎◌, inl, inr, ℕ, suc, ◌+◌, ◌-◌, ◌≤◌, ◌<◌, ◌^◌, Bool, true, false, List, [], ◌∷◌, ◌++◌, length}
use Rattle.std.proofs.Common.{take, drop, get_or, refl, sym, ap, subst, ◌∙◌, append_assoc, append-nil, arith, length-append}
use Rattle.std.proofs.Common.{length-drop, length-take}
use Rattle.std.proofs.lemmas.Bool.{cases_lt}
use Rattle.std.proofs.lemmas.List.{append_cancel_left, drop_at, get_or-drop, get_or-take, length-take-le, nil_from_length, take_at}
use Rattle.std.proofs.lemmas.List.Prefix.{at_reads}
use Rattle.std.specs.List.{AllByRecursion}
use Rattle.std.specs.Prelude.{slice_index}
use Rattle.byteorder.specs.Endian.{big_number}
use Rattle.mold_wire.specs.Block.{block}
use Rattle.mold_wire.specs.declared.session.Session.{Session}
use Rattle.mold_session.specs.Contents.{IsFront}
use Rattle.mold_session.specs.FileFault.{IsDamaged, no_gate, no_kind, bad_kind, cut_closing, cut_message, IsLongRecord, RecordFault}
use Rattle.mold_session.specs.Journal.{IsWithin}
use Rattle.mold_session.specs.declared.error.FileError.TheVariants as file
use Rattle.mold_session.specs.Records.{magic_3, head_3, record_of, records, EndsRecords, IsClosing, IsShut}
use Rattle.mold_session.proofs.FileLawLemmas.{as_session, block_here, length_read}
use Rattle.mold_session.proofs.RecordLemmas.{last_fault}
use Rattle.mold_durable.specs.Following.{AllWithin, Finds, FindsIn, FindsMessage, FindsMessageIn, HasOpenGate, HasTold, IsOfPiece, IsOpen, ShowsGate, Takes}
use Rattle.mold_durable.specs.Following.{WasShut, Writer, Writes, message, closing}
use Rattle.mold_durable.specs.DurableJournal.{CountsOpenError}
use Rattle.mold_durable.specs.GrowingFile.{IsByteAmong, ReadsAmong}
use Rattle.mold_durable.specs.Reading.{HeadFault, IsOfDevice, file_error}
use Rattle.mold_durable.specs.declared.error.OpenError.{OpenError}
use Rattle.mold_durable.specs.declared.error.OpenError.TheVariants.{Short, BadMagic, Full, TooLong, Damaged, Read, Write}
use Rattle.mold_durable.specs.declared.error.OpenError.TheVariants.{Memory}
use Rattle.mold_durable.specs.declared.following.Found.{Found}
use Rattle.mold_durable.specs.declared.following.Found.TheVariants.{Message, Closing, Shut}
use Rattle.mold_durable.proofs.HeadLemmas.{file_long, length-head_3, length-magic_3}
use Rattle.mold_durable.proofs.OpenLemmas.{start_fault}
use Rattle.mold_durable.proofs.ReadingLemmas.{ends_within, fault_counts, number_more}
use Rattle.mold_durable.proofs.RecordLemmas.{records-append}

-- ---- prefixes of a list of messages

pub front_trans : (one two three : List (List ℕ)) → IsFront one two → IsFront two three → IsFront one three
front_trans one two three first second = record {
  extra = first.extra ++ second.extra;
  longer =
      second.longer
      ∙ ap (λ (t : List (List ℕ)). t ++ second.extra) first.longer
      ∙ append_assoc one first.extra second.extra;
}

pub front_same : (one two : List (List ℕ)) → one ≡ two → IsFront one two
front_same one two same = record { extra = []; longer = sym same ∙ sym (append-nil one) }

each_next : (most : ℕ) (told : List (List ℕ)) (next : List ℕ) (more : List (List ℕ)) →
    AllByRecursion (IsWithin most) (told ++ next ∷ more) → length next ≤ most
each_next most [] next more each = each.0
each_next most (first ∷ told) next more each = each_next most told next more each.1

-- ---- bytes that are equal as far as they go

-- Both lists can be extended to the same list.
record Agrees (one two : List ℕ) : Type 0 where
  more : List ℕ
  rest : List ℕ
  same : one ++ more ≡ two ++ rest

agree : (one two : List ℕ) →
    ((index : ℕ) → index < length one → index < length two → get_or two index 0 ≡ get_or one index 0) → Agrees one two
agree [] two each = record { more = two; rest = []; same = sym (append-nil two) }
agree (a ∷ one) [] each = record { more = []; rest = a ∷ one; same = append-nil (a ∷ one) }
agree (a ∷ one) (b ∷ two) each =
    let behind = agree one two (λ index within less. each (suc index) (omega (arith, within)) (omega (arith, less))) in
    record {
      more = behind.more;
      rest = behind.rest;
      same =
          ap (λ (t : List ℕ). a ∷ t) behind.same
          ∙ ap (λ (n : ℕ). n ∷ (two ++ behind.rest)) (sym (each 0 (omega arith) (omega arith)));
    }

begins : (one two : List ℕ) → length one ≤ length two →
    ((index : ℕ) → index < length one → index < length two → get_or two index 0 ≡ get_or one index 0) →
    two ≡ one ++ drop (length one) two
begins [] two long each = refl
begins (a ∷ one) [] long each = absurd (omega (arith, long))
begins (a ∷ one) (b ∷ two) long each =
    ap (λ (n : ℕ). n ∷ two) (each 0 (omega arith) (omega arith))
    ∙ ap (λ (t : List ℕ). a ∷ t) (begins one two (omega (arith, long))
    (λ index within less. each (suc index) (omega (arith, within)) (omega (arith, less))))

-- ---- the bytes of a writer's file

module _ (writer : Writer) (bytes : ℕ → List ℕ) (writes : Writes writer bytes) where
  -- A gate that was open stays open.
  pub open_later : (told : List (List ℕ)) (one two : ℕ) → one ≤ two → IsOpen writer told one → IsOpen writer told two
  open_later told one two later (message next more is) =
      let grown = writes.grows one two later in
      message next (more ++ grown.extra) (
      grown.longer
      ∙ ap (λ (t : List (List ℕ)). t ++ grown.extra) is
      ∙ append_assoc told (next ∷ more) grown.extra
      )
  open_later told one two later (closing exact closed) =
      let ended = writes.ends one two later closed in
      closing (ended.1 ∙ exact) ended.0

  module _ (told : List (List ℕ)) (end : ℕ) (ends : end ≡ 18 + length (records told)) where
    -- What follows the records of these messages.
    behind : (moment : ℕ) (more : List (List ℕ)) → writer.messages moment ≡ told ++ more →
        drop end (bytes moment) ≡ records more ++ (writes.file moment).rest
    behind moment more is =
        let file = writes.file moment in
        let head = head_3 writer.session.0 in
        let here = head ++ records told in
        let size : length here ≡ end =
        omega (arith, ends, length-append head (records told), length-head_3 writer.session.0 file.named)
        in
        ap (drop end) (
        file.spelled
        ∙ ap (λ (t : List (List ℕ)). head ++ (records t ++ file.rest)) is
        ∙ ap (λ (t : List ℕ). head ++ (t ++ file.rest)) (records-append told more)
        ∙ ap (λ (t : List ℕ). head ++ t) (append_assoc (records told) (records more) file.rest)
        ∙ sym (append_assoc head (records told) (records more ++ file.rest))
        )
        ∙ drop_at here (records more ++ file.rest) end size

    gate_at : (moment : ℕ) (more : List (List ℕ)) → writer.messages moment ≡ told ++ more →
        slice_index (bytes moment) end ≡ slice_index (records more ++ (writes.file moment).rest) 0
    gate_at moment more is =
        let here : end ≡ end + 0 = omega arith in
        ap (λ (n : ℕ). get_or (bytes moment) n 0) here
        ∙ sym (get_or-drop end (bytes moment) 0 0)
        ∙ ap (λ (t : List ℕ). get_or t 0 0) (behind moment more is)

    -- An open gate without a message after it is that of the closing record.
    open_here : (moment : ℕ) (more : List (List ℕ)) (closed : Bool) → writer.messages moment ≡ told ++ more →
        writer.closed moment ≡ closed → EndsRecords closed (writes.file moment).rest →
        slice_index (bytes moment) end ≡ 1 → IsOpen writer told moment
    open_here moment (next ∷ more) closed is flag ends gate = message next more is
    open_here moment [] true is flag ends gate = closing (is ∙ append-nil told) flag
    open_here moment [] false is flag ends gate =
        absurd (ends.shut (ap (λ (t : List ℕ). get_or t 0 0) (sym ends.parts) ∙ sym (gate_at moment [] is) ∙ gate))

    pub gate_open : (moment : ℕ) → IsFront told (writer.messages moment) → slice_index (bytes moment) end ≡ 1 →
        IsOpen writer told moment
    gate_open moment front gate =
        open_here moment front.extra (writer.closed moment) front.longer refl (writes.file moment).ends gate

    shut_here : (start stop moment : ℕ) (more : List (List ℕ)) (closed : Bool) → start ≤ moment → moment ≤ stop →
        writer.messages moment ≡ told ++ more → writer.closed moment ≡ closed →
        EndsRecords closed (writes.file moment).rest → (slice_index (bytes moment) end ≡ 1 → ⊥) →
        WasShut writer told start stop
    shut_here start stop moment (next ∷ more) closed since until is flag ends gate =
        absurd (gate (gate_at moment (next ∷ more) is))
    shut_here start stop moment [] true since until is flag ends gate =
        absurd (gate (gate_at moment [] is ∙ ap (λ (t : List ℕ). get_or t 0 0) ends.parts))
    shut_here start stop moment [] false since until is flag ends gate =
        record { moment = moment; since = since; until = until; exact = is ∙ append-nil told; shut = flag }

    -- A gate that was read, shut or open.
    pub gate_shut : (start stop moment : ℕ) → start ≤ moment → moment ≤ stop → IsFront told (writer.messages moment) →
        (slice_index (bytes moment) end ≡ 1 → ⊥) → WasShut writer told start stop
    gate_shut start stop moment since until front gate =
        shut_here start stop moment front.extra (writer.closed moment) since until front.longer refl
        (writes.file moment).ends gate

    -- There is a gate at the end of the records.
    pub gate_there : (moment : ℕ) → IsFront told (writer.messages moment) → end < length (bytes moment)
    gate_there moment front =
        let file = writes.file moment in
        omega (
          arith,
          ends_within (writer.closed moment) file.rest file.ends,
          ap (λ (t : List ℕ). length t) (behind moment front.extra front.longer),
          length-append (records front.extra) file.rest,
          length-drop end (bytes moment),
        )

    -- The bytes of the next message's record.
    byte_of : (moment : ℕ) (next : List ℕ) (more : List (List ℕ)) → writer.messages moment ≡ told ++ next ∷ more →
        (index : ℕ) → index < length (record_of next) →
        slice_index (bytes moment) (end + index) ≡ slice_index (record_of next) index
    byte_of moment next more is index within =
        at_reads 0 (bytes moment) (record_of next) end (records more ++ (writes.file moment).rest)
        (behind moment (next ∷ more) is ∙ append_assoc (record_of next) (records more) (writes.file moment).rest)
        index within

    -- The gate after it is there too.
    long_of : (moment : ℕ) (next : List ℕ) (more : List (List ℕ)) → writer.messages moment ≡ told ++ next ∷ more →
        length (record_of next) < length (bytes moment) - end
    long_of moment next more is =
        let file = writes.file moment in
        omega (
          arith,
          ends_within (writer.closed moment) file.rest file.ends,
          ap (λ (t : List ℕ). length t) (behind moment (next ∷ more) is),
          length-append (records (next ∷ more)) file.rest,
          length-append (record_of next) (records more),
          length-drop end (bytes moment),
        )

    closing_behind : (moment : ℕ) → writer.messages moment ≡ told → writer.closed moment ≡ true →
        IsClosing (drop end (bytes moment))
    closing_behind moment exact flag =
        subst IsClosing (sym (behind moment [] (exact ∙ sym (append-nil told))))
        (subst (λ (b : Bool). EndsRecords b (writes.file moment).rest) flag (writes.file moment).ends)

-- ---- what is found in the bytes of a read

-- A message that is found is the next one.
same_message : (next found : List ℕ) (piece more rest tail : List ℕ) → length next ≤ 65535 → length found ≤ 65535 →
    record_of next ++ more ≡ piece ++ rest → piece ≡ record_of found ++ tail → next ≡ found
same_message next found piece more rest tail within also same parts =
    (block_here next found more (tail ++ rest) within also
    (ap (drop 2) (same ∙ ap (λ (t : List ℕ). t ++ rest) parts ∙ append_assoc (record_of found) tail rest))).message

long_record : (most len : ℕ) (next piece more rest : List ℕ) → most ≤ 65535 → length next ≤ most →
    record_of next ++ more ≡ piece ++ rest → IsLongRecord most piece len → ⊥
long_record most len next piece more rest bound within same long =
    let here : block next ++ more ≡ long.more ++ rest =
    ap (drop 2) (same ∙ ap (λ (t : List ℕ). t ++ rest) long.parts)
    in
    absurd (omega (
      arith,
      within,
      long.long,
      long.stated,
      number_more long.more rest long.whole,
      ap (big_number 2) here,
      length_read next more (omega (arith, within, bound)),
    ))

-- Bytes that begin with the closing record are no record of a message, and not damaged.
not_damaged : (most count : ℕ) (piece : List ℕ) (byte : ℕ) (rest : List ℕ) → piece ≡ 1 ∷ 1 ∷ byte ∷ rest →
    IsDamaged most count piece → ⊥
not_damaged most count piece byte rest is (no_gate none) =
    absurd (omega (arith, ap (λ (t : List ℕ). length t) (sym is ∙ none)))
not_damaged most count piece byte rest is (no_kind none) =
    absurd (omega (arith, ap (λ (t : List ℕ). length t) (sym is ∙ none)))
not_damaged most count piece byte rest is (bad_kind kind more starts high) =
    absurd (omega (arith, high, ap (λ (t : List ℕ). get_or t 1 0) (sym is ∙ starts)))
not_damaged most count piece byte rest is (cut_closing none) =
    absurd (omega (arith, ap (λ (t : List ℕ). length t) (sym is ∙ none)))
not_damaged most count piece byte rest is (cut_message more few starts ends) =
    absurd (omega (arith, ap (λ (t : List ℕ). get_or t 1 0) (sym is ∙ starts)))

closing_fault : (most count size : ℕ) (piece : List ℕ) (error : OpenError) → IsClosing piece →
    RecordFault most count piece (file_error error) → IsOfPiece size error
closing_fault most count size piece Full ends fault =
    absurd (omega (arith, ap (λ (t : List ℕ). get_or t 1 0) (sym ends.parts ∙ fault.1.parts)))
closing_fault most count size piece (TooLong len) ends fault =
    absurd (omega (arith, ap (λ (t : List ℕ). get_or t 1 0) (sym ends.parts ∙ fault.1.parts)))
closing_fault most count size piece (Damaged number) ends fault =
    absurd (not_damaged most count piece ends.byte ends.rest ends.parts fault.1)
closing_fault most count size piece (Short len) ends fault = absurd fault
closing_fault most count size piece BadMagic ends fault = absurd fault
closing_fault most count size piece Read ends fault = tt
closing_fault most count size piece Write ends fault = tt
closing_fault most count size piece Memory ends fault = tt

three_bytes : (piece : List ℕ) → piece ≡ 1 ∷ 1 ∷ drop 2 piece → 3 ≤ length piece → IsClosing piece
three_bytes [] is long = absurd (omega (arith, long))
three_bytes (a ∷ []) is long = absurd (omega (arith, long))
three_bytes (a ∷ b ∷ []) is long = absurd (omega (arith, long))
three_bytes (a ∷ b ∷ c ∷ piece) is long = record { byte = c; rest = piece; parts = is }

module _ (writer : Writer) (bytes : ℕ → List ℕ) (writes : Writes writer bytes) (told : List (List ℕ))
    (most count end start stop : ℕ) (buffer : List ℕ) (read : ℕ) (fits : read ≤ length buffer)
    (counted : count ≡ length told) (ends : end ≡ 18 + length (records told)) (later : start ≤ stop)
    (among : ReadsAmong bytes start stop end read buffer) where
  abbrev piece : List ℕ
  piece = take read buffer

  size : length piece ≡ read
  size = length-take-le read buffer fits

  byte_is : (index : ℕ) → index < length piece → get_or piece index 0 ≡ slice_index buffer index
  byte_is index within = get_or-take read buffer index 0 (omega (arith, within, size))

  within_read : (index : ℕ) → index < length piece → index < read
  within_read index within = omega (arith, within, size)

  module _ (next : List ℕ) (more : List (List ℕ)) (is : writer.messages start ≡ told ++ next ∷ more) where
    within : length next ≤ 65535
    within =
        each_next 65535 told next more (subst (AllByRecursion (IsWithin 65535)) is (writes.file start).listed.each)

    few : count < 18446744073709551614
    few =
        omega (
          arith,
          counted,
          (writes.file start).listed.few,
          ap (λ (t : List (List ℕ)). length t) is,
          length-append told (next ∷ more),
        )

    -- The messages after this one, at a later moment.
    more_at : (moment : ℕ) → start ≤ moment → List (List ℕ)
    more_at moment since = more ++ (writes.grows start moment since).extra

    grown : (moment : ℕ) (since : start ≤ moment) → writer.messages moment ≡ told ++ next ∷ more_at moment since
    unfolding more_at
    grown moment since =
        let grows = writes.grows start moment since in
        grows.longer
        ∙ ap (λ (t : List (List ℕ)). t ++ grows.extra) is
        ∙ append_assoc told (next ∷ more) grows.extra

    same_bytes : (index : ℕ) → index < length (record_of next) → index < length piece →
        get_or piece index 0 ≡ get_or (record_of next) index 0
    same_bytes index inside here =
        let byte = among.each index (within_read index here) in
        byte_is index here
        ∙ byte.same
        ∙ byte_of writer bytes writes told end ends byte.moment next (more_at byte.moment byte.since)
        (grown byte.moment byte.since) index inside

    agrees : Agrees (record_of next) piece
    agrees = agree (record_of next) piece same_bytes

    front_after : (moment : ℕ) (since : start ≤ moment) → IsFront (told ++ next ∷ []) (writer.messages moment)
    front_after moment since = record {
      extra = more_at moment since;
      longer = grown moment since ∙ sym (append_assoc told (next ∷ []) (more_at moment since));
    }

    ends_after : (len : ℕ) → len ≡ length (record_of next) → end + len ≡ 18 + length (records (told ++ next ∷ []))
    ends_after len long =
        omega (
          arith,
          ends,
          long,
          ap (λ (t : List ℕ). length t) (records-append told (next ∷ [])),
          length-append (records told) (records (next ∷ [])),
          length-append (record_of next) [],
        )

    open_after : (len : ℕ) → len ≡ length (record_of next) → HasOpenGate piece len →
        IsOpen writer (told ++ next ∷ []) stop
    open_after len long gate =
        let byte = among.each len (within_read len gate.within) in
        open_later writer bytes writes (told ++ next ∷ []) byte.moment stop byte.until
        (gate_open writer bytes writes (told ++ next ∷ []) (end + len) (ends_after len long) byte.moment
        (front_after byte.moment byte.since) (sym byte.same ∙ sym (byte_is len gate.within) ∙ gate.gate))

    found_message : (old new : List (List ℕ)) (len : ℕ) (opened : Bool) → most ≤ 65535 →
        FindsMessageIn most count piece old new len opened → FindsMessage writer told stop old new len opened
    found_message old new len opened bound found =
        let same : next ≡ found.message =
        same_message next found.message piece agrees.more agrees.rest (drop len piece) within
        (omega (arith, found.within, bound)) agrees.same found.parts
        in
        let long : len ≡ length (record_of next) =
        found.long ∙ ap (λ (t : List ℕ). length (record_of t)) (sym same)
        in
        record {
          message = next;
          more = more_at stop later;
          added = found.added ∙ ap (λ (t : List ℕ). old ++ t ∷ []) (sym same);
          follows = grown stop later;
          long = long;
          known = λ flag. open_after len long (found.known flag);
        }

    not_closing : IsClosing piece → ⊥
    not_closing ends_here =
        absurd (omega (
          arith,
          ap (λ (t : List ℕ). get_or t 1 9)
              (agrees.same ∙ ap (λ (t : List ℕ). t ++ agrees.rest) ends_here.parts),
        ))

    not_shut : IsShut piece → ⊥
    not_shut shut = shut.shut (
        ap (λ (t : List ℕ). get_or t 0 9)
        (sym (agrees.same ∙ ap (λ (t : List ℕ). t ++ agrees.rest) shut.parts))
        )

    finds_message : (old new : List (List ℕ)) (found : Found) → most ≤ 65535 → FindsIn most count piece old new found →
        Finds writer told start stop old new found
    finds_message old new (Message len opened) bound found = found_message old new len opened bound found
    finds_message old new Closing bound found = absurd (not_closing found.0)
    finds_message old new Shut bound found = absurd (not_shut found.0)

    -- A whole record and the gate after it are in a piece that is large enough.
    whole : 65540 ≤ length buffer → length (record_of next) ≤ length piece
    whole large =
        let all = among.all in
        omega (
          arith,
          large,
          within,
          size,
          all.all,
          long_of writer bytes writes told end ends all.moment next (more_at all.moment all.since)
              (grown all.moment all.since),
        )

    fault_message : (error : OpenError) → most ≤ 65535 → length next ≤ most →
        RecordFault most count piece (file_error error) → IsOfPiece (length buffer) error
    fault_message Full bound limit fault = absurd (omega (arith, few, fault.0))
    fault_message (TooLong len) bound limit fault =
        absurd (long_record most len next piece agrees.more agrees.rest bound limit agrees.same fault.1)
    fault_message (Damaged number) bound limit fault =
        elim (cases_lt (length buffer) 65540) [
          | inl small ↦ small
          | inr large ↦ absurd (last_fault most count piece (file.Damaged number) bound fault next
              (drop (length (record_of next)) piece) limit few
              (begins (record_of next) piece (whole large) same_bytes))
        ]
    fault_message (Short len) bound limit fault = absurd fault
    fault_message BadMagic bound limit fault = absurd fault
    fault_message Read bound limit fault = tt
    fault_message Write bound limit fault = tt
    fault_message Memory bound limit fault = tt

  module _ (exact : writer.messages start ≡ told) (flag : writer.closed start ≡ true) where
    closing_at : (moment : ℕ) → start ≤ moment → IsClosing (drop end (bytes moment))
    closing_at moment since =
        let ended = writes.ends start moment since flag in
        closing_behind writer bytes writes told end ends moment (ended.1 ∙ exact) ended.0

    ones : (index : ℕ) → index < 2 → index < length piece → get_or piece index 0 ≡ get_or (1 ∷ 1 ∷ []) index 0
    ones index inside here =
        let byte = among.each index (within_read index here) in
        let ended = closing_at byte.moment byte.since in
        byte_is index here
        ∙ byte.same
        ∙ at_reads 0 (bytes byte.moment) (1 ∷ 1 ∷ []) end (ended.byte ∷ ended.rest) ended.parts index inside

    alike : Agrees (1 ∷ 1 ∷ []) piece
    alike = agree (1 ∷ 1 ∷ []) piece ones

    no_message : (old new : List (List ℕ)) (len : ℕ) (opened : Bool) →
        FindsMessageIn most count piece old new len opened → ⊥
    no_message old new len opened found =
        absurd (omega (
          arith,
          ap (λ (t : List ℕ). get_or t 1 9)
              (alike.same ∙ ap (λ (t : List ℕ). t ++ alike.rest) found.parts),
        ))

    no_shut : IsShut piece → ⊥
    no_shut shut = shut.shut (
        ap (λ (t : List ℕ). get_or t 0 9) (sym (alike.same ∙ ap (λ (t : List ℕ). t ++ alike.rest) shut.parts))
        )

    finds_closing : (old new : List (List ℕ)) (found : Found) → FindsIn most count piece old new found →
        Finds writer told start stop old new found
    finds_closing old new (Message len opened) found = absurd (no_message old new len opened found)
    finds_closing old new Closing found =
        let ended = writes.ends start stop later flag in
        (ended.1 ∙ exact, ended.0)
    finds_closing old new Shut found = absurd (no_shut found.0)

    three : 3 ≤ length buffer → 3 ≤ length piece
    three large =
        let all = among.all in
        let ended = closing_at all.moment all.since in
        omega (
          arith,
          large,
          size,
          all.all,
          ap (λ (t : List ℕ). length t) ended.parts,
          length-drop end (bytes all.moment),
        )

    fault_closing : (error : OpenError) → 3 ≤ length buffer → RecordFault most count piece (file_error error) →
        IsOfPiece (length buffer) error
    fault_closing error large fault =
        closing_fault most count (length buffer) piece error
        (three_bytes piece (begins (1 ∷ 1 ∷ []) piece (omega (arith, three large)) ones) (three large)) fault

  pub found_piece : (old new : List (List ℕ)) (found : Found) → most ≤ 65535 → IsOpen writer told start →
      FindsIn most count piece old new found → Finds writer told start stop old new found
  found_piece old new found bound (message next more is) here = finds_message next more is old new found bound here
  found_piece old new found bound (closing exact flag) here = finds_closing exact flag old new found here

  pub fault_piece : (error : OpenError) → most ≤ 65535 → 3 ≤ length buffer → AllWithin most writer →
      IsOpen writer told start → RecordFault most count piece (file_error error) → IsOfPiece (length buffer) error
  fault_piece error bound large each (message next more is) fault =
      fault_message next more is error bound
      (each_next most told next more (subst (AllByRecursion (IsWithin most)) is (each start))) fault
  fault_piece error bound large each (closing exact flag) fault = fault_closing exact flag error large fault

-- ---- the gate

module _ (writer : Writer) (bytes : ℕ → List ℕ) (writes : Writes writer bytes) (told : List (List ℕ))
    (count end start stop : ℕ) (known : Bool) (so_far : HasTold writer told count end known start) (buffer : List ℕ)
    (read : ℕ) (among : ReadsAmong bytes start stop end read buffer) where
  front_at : (moment : ℕ) → start ≤ moment → IsFront told (writer.messages moment)
  front_at moment since =
      front_trans told (writer.messages start) (writer.messages moment) so_far.front (writes.grows start moment since)

  byte_at : (byte : IsByteAmong bytes start stop (end + 0) (slice_index buffer 0)) →
      slice_index (bytes byte.moment) end ≡ slice_index buffer 0
  byte_at byte =
      let here : end ≡ end + 0 = omega arith in
      ap (λ (n : ℕ). slice_index (bytes byte.moment) n) here ∙ sym byte.same

  pub shows_gate : (opened : Bool) → 0 < read → (opened ≡ true → slice_index buffer 0 ≡ 1) →
      (opened ≡ false → slice_index buffer 0 ≡ 1 → ⊥) → ShowsGate writer told start stop opened
  shows_gate true some if_open if_shut =
      let byte = among.each 0 some in
      open_later writer bytes writes told byte.moment stop byte.until
      (gate_open writer bytes writes told end so_far.ends byte.moment (front_at byte.moment byte.since)
      (byte_at byte ∙ if_open refl))
  shows_gate false some if_open if_shut =
      let byte = among.each 0 some in
      gate_shut writer bytes writes told end so_far.ends start stop byte.moment byte.since byte.until
      (front_at byte.moment byte.since) (λ gate. if_shut refl (sym (byte_at byte) ∙ gate))

  -- A gate follows the records of a writer's file.
  pub has_gate : read ≡ 0 → 0 < length buffer → ⊥
  has_gate none some =
      let all = among.all in
      absurd (omega (
        arith,
        none,
        some,
        all.all,
        gate_there writer bytes writes told end so_far.ends all.moment (front_at all.moment all.since),
      ))

-- ---- the head

prefix_of : (bytes piece : List ℕ) →
    ((index : ℕ) → index < length piece → (index < length bytes) × (get_or piece index 0 ≡ get_or bytes index 0)) →
    piece ≡ take (length piece) bytes
prefix_of bytes [] each = refl
prefix_of [] (a ∷ piece) each = absurd (omega (arith, (each 0 (omega arith)).0))
prefix_of (b ∷ bytes) (a ∷ piece) each =
    ap (λ (n : ℕ). n ∷ piece) (each 0 (omega arith)).1
    ∙ ap (λ (t : List ℕ). b ∷ t) (prefix_of bytes piece (λ index within.
    let behind = each (suc index) (omega (arith, within)) in
    (omega (arith, behind.0), behind.1)))

module _ (bytes : ℕ → List ℕ) (start stop : ℕ) (buffer : List ℕ) (read : ℕ) (fits : read ≤ length buffer)
    (large : length buffer ≡ 18) (among : ReadsAmong bytes start stop 0 read buffer) where
  abbrev head_bytes : List ℕ
  head_bytes = take read buffer

  head_size : length head_bytes ≡ read
  head_size = length-take-le read buffer fits

  head_byte : (index : ℕ) → index < length head_bytes → get_or head_bytes index 0 ≡ slice_index buffer index
  head_byte index within = get_or-take read buffer index 0 (omega (arith, within, head_size))

  in_read : (index : ℕ) → index < length head_bytes → index < read
  in_read index within = omega (arith, within, head_size)

  module _ (writer : Writer) (writes : Writes writer bytes) where
    same_head : (index : ℕ) → index < length (head_3 writer.session.0) → index < length head_bytes →
        get_or head_bytes index 0 ≡ get_or (head_3 writer.session.0) index 0
    same_head index inside here =
        let byte = among.each index (in_read index here) in
        let file = writes.file byte.moment in
        head_byte index here
        ∙ byte.same
        ∙ at_reads 0 (bytes byte.moment) (head_3 writer.session.0) 0 (records (writer.messages byte.moment) ++ file.rest)
        file.spelled index inside

    -- The head of a writer's file.
    pub head_is : head_bytes ≡ head_3 writer.session.0
    head_is =
        let head = head_3 writer.session.0 in
        let all = among.all in
        let file = writes.file all.moment in
        let size : length head ≡ 18 = length-head_3 writer.session.0 file.named in
        let long = file_long writer.session (writer.messages all.moment) (writer.closed all.moment) (bytes all.moment) file in
        let whole : length head ≤ length head_bytes = omega (arith, size, head_size, large, long, all.all) in
        let none : drop (length head) head_bytes ≡ [] =
        nil_from_length (drop (length head) head_bytes)
        (omega (arith, size, head_size, fits, large, length-drop (length head) head_bytes))
        in
        begins head head_bytes whole same_head ∙ ap (λ (t : List ℕ). head ++ t) none ∙ append-nil head

    pub head_found : (session : Session) → head_bytes ≡ head_3 session.0 → session ≡ writer.session
    head_found session is =
        as_session session writer.session (append_cancel_left magic_3 session.0 writer.session.0 (sym is ∙ head_is))

    pub head_fault : (error : OpenError) → HeadFault head_bytes error → IsOfDevice error
    head_fault (Short len) fault =
        absurd (omega (
          arith,
          fault.1,
          ap (λ (t : List ℕ). length t) head_is,
          length-head_3 writer.session.0 (writes.file 0).named,
        ))
    head_fault BadMagic fault =
        absurd (fault.1 (ap (take 8) head_is ∙ take_at magic_3 writer.session.0 8 length-magic_3))
    head_fault Full fault = absurd fault
    head_fault (TooLong len) fault = absurd fault
    head_fault (Damaged number) fault = absurd fault
    head_fault Read fault = tt
    head_fault Write fault = tt
    head_fault Memory fault = tt

-- The head of a file that does not change.
pub head_refused_here : (bytes : List ℕ) (start stop : ℕ) (buffer : List ℕ) (read : ℕ) → read ≤ length buffer →
    length buffer ≡ 18 → ReadsAmong (λ moment. bytes) start stop 0 read buffer → (error : OpenError) →
    HeadFault (take read buffer) error → HeadFault bytes error
head_refused_here bytes start stop buffer read fits large among error fault =
    let piece = take read buffer in
    let size : length piece ≡ read = length-take-le read buffer fits in
    let same : piece ≡ take (length piece) bytes =
    prefix_of bytes piece (λ index within.
    let byte = among.each index (omega (arith, within, size)) in
    let here : 0 + index ≡ index = omega arith in (
      omega (arith, byte.within),
      get_or-take read buffer index 0 (omega (arith, within, size))
          ∙ byte.same
          ∙ ap (λ (n : ℕ). slice_index bytes n) here,
    ))
    in
    start_fault bytes piece error (record {
      same = same;
      long = omega (
        arith,
        size,
        fits,
        large,
        among.all.all,
        ap (λ (t : List ℕ). length t) same,
        length-take (length piece) bytes,
      );
    }) fault

-- ---- what a piece adds to the news

pub piece_takes : (most count end total read : ℕ) (here : List ℕ) (old new : List (List ℕ)) (found : Found) →
    length here ≡ read → read ≤ total → (0 < read → end + read < 2 ^ 63) → FindsIn most count here old new found →
    Takes count end total old new found
piece_takes most count end total read here old new (Message len opened) sized fits near found =
    let some : 0 < read = omega (arith, sized, found.fits, found.long) in
    record {
      message = found.message;
      added = found.added;
      long = found.long;
      few = found.few;
      fits = omega (arith, sized, fits, found.fits);
      near = omega (arith, sized, found.fits, near some);
    }
piece_takes most count end total read here old new Closing sized fits near found =
    let long : 3 ≤ read = omega (arith, sized, ap (λ (t : List ℕ). length t) found.0.parts) in
    (found.1, omega (arith, long, near (omega (arith, long))))
piece_takes most count end total read here old new Shut sized fits near found = found.1

-- The error of a piece: out of memory, or a fault of its record.
abbrev pub IsPieceFault : ℕ → ℕ → List ℕ → OpenError → Type 0
IsPieceFault most count here error = (error ≡ Memory) ⊎ RecordFault most count here (file_error error)

pub piece_counts : (most count old new : ℕ) (here : List ℕ) (error : OpenError) → IsPieceFault most count here error →
    new ≡ old → CountsOpenError old new error
piece_counts most count old new here error (inl is) same =
    subst (λ (e : OpenError). CountsOpenError old new e) (sym is) same
piece_counts most count old new here error (inr fault) same = fault_counts most count old new here error fault same

pub piece_of_device : (most count total : ℕ) (here : List ℕ) (error : OpenError) → IsPieceFault most count here error →
    (RecordFault most count here (file_error error) → IsOfPiece total error) → IsOfPiece total error
piece_of_device most count total here error (inl is) by_fault =
    subst (λ (e : OpenError). IsOfPiece total e) (sym is) tt
piece_of_device most count total here error (inr fault) by_fault = by_fault fault
