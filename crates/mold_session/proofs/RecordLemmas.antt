-- Records: the messages, the rest and the fault of bytes that have records are unique.
use Rattle.std.proofs.Common.{◌≡◌, ℕ, ◌+◌, ◌<◌, ◌≤◌, Bool, true, false, List, [], ◌∷◌, ◌++◌, length, length-append}
use Rattle.std.proofs.Common.{drop, get_or, refl, sym, ap, subst, ◌∙◌, append_assoc, append-nil, inl, inr, arith}
use Rattle.std.proofs.lemmas.List.{append_cancel_left}
use Rattle.std.specs.List.{AllByRecursion}
use Rattle.byteorder.specs.Endian.{big_number}
use Rattle.mold_wire.specs.Block.{block}
use Rattle.mold_session.specs.Contents.{IsFront}
use Rattle.mold_session.specs.FileFault.{EndsInBlock, IsDamaged, no_gate, no_kind, bad_kind, cut_closing, cut_message}
use Rattle.mold_session.specs.FileFault.{IsLongRecord, RecordFault, HasRecords, RecordsFault}
use Rattle.mold_session.specs.Journal.{IsWithin}
use Rattle.mold_session.specs.Records.{record_of, records, IsShut, IsClosing, EndsRecords}
use Rattle.mold_session.specs.declared.error.FileError.{FileError}
use Rattle.mold_session.specs.declared.error.FileError.TheVariants.{TooLong, Memory, BadMagic, Short, BlockCut, Read, Write, Full, CountDiffers, BadFlag, Damaged}
use Rattle.mold_session.proofs.FileLawLemmas.{length_read, block_here}

-- ---- where records end

-- No message that may follow has its record at the start of the bytes.
abbrev pub IsLast : ℕ → ℕ → List ℕ → Type 0
IsLast most count rest =
    (message more : List ℕ) → length message ≤ most → count < 18446744073709551614 →
    rest ≡ 1 ∷ 0 ∷ (block message ++ more) → ⊥

last_shut : (most count : ℕ) (rest : List ℕ) → IsShut rest → IsLast most count rest
last_shut most count rest shut message more within few starts =
    shut.shut (ap (λ (t : List ℕ). get_or t 0 0) (sym shut.parts ∙ starts))

last_closing : (most count : ℕ) (rest : List ℕ) → IsClosing rest → IsLast most count rest
last_closing most count rest closing message more within few starts =
    absurd (omega (arith, ap (λ (t : List ℕ). get_or t 1 0) (sym closing.parts ∙ starts)))

pub last_ends : (most count : ℕ) (closed : Bool) (rest : List ℕ) → EndsRecords closed rest → IsLast most count rest
last_ends most count true rest ends = last_closing most count rest ends
last_ends most count false rest ends = last_shut most count rest ends

-- A whole block is not cut.
no_cut : (most : ℕ) (message more : List ℕ) → most ≤ 65535 → length message ≤ most →
    EndsInBlock most (block message ++ more) → ⊥
no_cut most message more bound within (inl short) = absurd (omega (arith, short))
no_cut most message more bound within (inr short) =
    let read : big_number 2 (block message ++ more) ≡ length message =
    length_read message more (omega (arith, within, bound))
    in
    absurd (omega (arith, read, short.1, length-append message more))

-- Bytes that start the record of a message are damaged only within its block.
record StartsCut (most count : ℕ) (more : List ℕ) : Type 0 where
  few : count < 18446744073709551614
  ends : EndsInBlock most more

damaged_start : (most count : ℕ) (rest more : List ℕ) → rest ≡ 1 ∷ 0 ∷ more → IsDamaged most count rest →
    StartsCut most count more
damaged_start most count rest more starts (no_gate is) =
    absurd (omega (arith, ap (λ (t : List ℕ). length t) (sym is ∙ starts)))
damaged_start most count rest more starts (no_kind is) =
    absurd (omega (arith, ap (λ (t : List ℕ). length t) (sym is ∙ starts)))
damaged_start most count rest more starts (bad_kind kind behind is high) =
    absurd (omega (arith, high, ap (λ (t : List ℕ). get_or t 1 0) (sym is ∙ starts)))
damaged_start most count rest more starts (cut_closing is) =
    absurd (omega (arith, ap (λ (t : List ℕ). get_or t 1 0) (sym is ∙ starts)))
damaged_start most count rest more starts (cut_message behind few is ends) =
    record { few = few; ends = subst (EndsInBlock most) (ap (drop 2) (sym is ∙ starts)) ends }

long_start : (most : ℕ) (message more rest : List ℕ) (len : ℕ) → most ≤ 65535 → length message ≤ most →
    rest ≡ 1 ∷ 0 ∷ (block message ++ more) → IsLongRecord most rest len → ⊥
long_start most message more rest len bound within starts long =
    let same : long.more ≡ block message ++ more = ap (drop 2) (sym long.parts ∙ starts) in
    let read : big_number 2 long.more ≡ length message =
    ap (big_number 2) same ∙ length_read message more (omega (arith, within, bound))
    in
    absurd (omega (arith, read, within, long.stated, long.long))

pub last_fault : (most count : ℕ) (rest : List ℕ) (error : FileError) → most ≤ 65535 →
    RecordFault most count rest error → IsLast most count rest
last_fault most count rest Full bound fault message more within few starts = absurd (omega (arith, few, fault.0))
last_fault most count rest (TooLong len) bound fault message more within few starts =
    long_start most message more rest len bound within starts fault.1
last_fault most count rest (Damaged number) bound fault message more within few starts =
    no_cut most message more bound within
    (damaged_start most count rest (block message ++ more) starts fault.1).ends
last_fault most count rest (Short len) bound fault message more within few starts = fault
last_fault most count rest BadMagic bound fault message more within few starts = fault
last_fault most count rest (BadFlag byte) bound fault message more within few starts = fault
last_fault most count rest (BlockCut number) bound fault message more within few starts = fault
last_fault most count rest (CountDiffers number found) bound fault message more within few starts = fault
last_fault most count rest Read bound fault message more within few starts = fault
last_fault most count rest Memory bound fault message more within few starts = fault
last_fault most count rest Write bound fault message more within few starts = fault

-- ---- one list of messages

-- The messages of records that were read are a prefix of all messages.
pub records_front : (most count : ℕ) (front all : List (List ℕ)) (left rest : List ℕ) → most ≤ 65535 →
    count + length front < 18446744073709551615 → AllByRecursion (IsWithin most) front →
    AllByRecursion (IsWithin most) all → records front ++ left ≡ records all ++ rest →
    IsLast most (count + length all) rest → IsFront front all
records_front most count [] all left rest bound few each also same last = record { extra = all; longer = refl }
records_front most count (message ∷ front) [] left rest bound few each also same last =
    absurd (last message (records front ++ left) each.0 (omega (arith, few))
    (sym same ∙ append_assoc (record_of message) (records front) left))
records_front most count (message ∷ front) (next ∷ all) left rest bound few each also same last =
    let one : length message ≤ most = each.0 in
    let other : length next ≤ most = also.0 in
    let begins = block_here next message (records all ++ rest) (records front ++ left)
    (omega (arith, other, bound)) (omega (arith, one, bound))
    (ap (drop 2) (sym (append_assoc (record_of next) (records all) rest)
    ∙ sym same
    ∙ append_assoc (record_of message) (records front) left))
    in
    let index : count + length (next ∷ all) ≡ (count + 1) + length all = omega arith in
    let others = records_front most (count + 1) front all left rest bound (omega (arith, few)) each.1 also.1
    (sym begins.behind) (subst (λ (n : ℕ). IsLast most n rest) index last)
    in
    record {
      extra = others.extra;
      longer =
          ap (λ (t : List ℕ). t ∷ all) begins.message
          ∙ ap (λ (t : List (List ℕ)). message ∷ t) others.longer;
    }

nothing_behind : (extra more all : List (List ℕ)) → all ≡ (all ++ extra) ++ more → extra ≡ []
nothing_behind [] more all same = refl
nothing_behind (message ∷ extra) more all same =
    absurd (omega (
      arith,
      ap (λ (t : List (List ℕ)). length t) same,
      length-append (all ++ message ∷ extra) more,
      length-append all (message ∷ extra),
    ))

pub each_other : (one other : List (List ℕ)) → IsFront one other → IsFront other one → one ≡ other
each_other one other first second =
    let none = nothing_behind first.extra second.extra one
    (second.longer ∙ ap (λ (t : List (List ℕ)). t ++ second.extra) first.longer) in
    sym (first.longer ∙ ap (λ (t : List (List ℕ)). one ++ t) none ∙ append-nil one)

-- The same bytes have the same records and the same rest.
pub record SameRecords (one other : List (List ℕ)) (rest behind : List ℕ) : Type 0 where
  pub messages : one ≡ other
  pub rests : rest ≡ behind

pub same_records : (most : ℕ) (bytes : List ℕ) (one other : List (List ℕ)) (rest behind : List ℕ) → most ≤ 65535 →
    HasRecords most bytes one rest → HasRecords most bytes other behind → IsLast most (length one) rest →
    IsLast most (length other) behind → SameRecords one other rest behind
same_records most bytes one other rest behind bound first second last ends =
    let same : records one ++ rest ≡ records other ++ behind = sym first.parts ∙ second.parts in
    let here : length one ≡ 0 + length one = omega arith in
    let there : length other ≡ 0 + length other = omega arith in
    let messages = each_other one other
    (records_front most 0 one other rest behind bound (omega (arith, first.listed.few)) first.listed.each
    second.listed.each same (subst (λ (n : ℕ). IsLast most n behind) there ends))
    (records_front most 0 other one behind rest bound (omega (arith, second.listed.few)) second.listed.each
    first.listed.each (sym same) (subst (λ (n : ℕ). IsLast most n rest) here last))
    in
    record {
      messages = messages;
      rests = append_cancel_left (records one) rest behind
          (same ∙ ap (λ (ms : List (List ℕ)). records ms ++ behind) (sym messages));
    }

-- ---- one fault

-- The fault after `count` records: no number remains, the message is too long, or the record is damaged.
data FaultAt (most count : ℕ) (rest : List ℕ) (error : FileError) : Type 0 where
  full : (more : List ℕ) → error ≡ Full → 18446744073709551614 ≤ count → rest ≡ 1 ∷ 0 ∷ more →
      FaultAt most count rest error
  long : (len : ℕ) → error ≡ TooLong len → count < 18446744073709551614 → IsLongRecord most rest len →
      FaultAt most count rest error
  damaged : error ≡ Damaged (count + 1) → IsDamaged most count rest → FaultAt most count rest error

fault_at : (most count : ℕ) (rest : List ℕ) (error : FileError) → RecordFault most count rest error →
    FaultAt most count rest error
fault_at most count rest Full fault = full fault.1.more refl fault.0 fault.1.parts
fault_at most count rest (TooLong len) fault = long len refl fault.0 fault.1
fault_at most count rest (Damaged number) fault = damaged (ap (λ (n : ℕ). Damaged n) fault.0) fault.1
fault_at most count rest (Short len) fault = absurd fault
fault_at most count rest BadMagic fault = absurd fault
fault_at most count rest (BadFlag byte) fault = absurd fault
fault_at most count rest (BlockCut number) fault = absurd fault
fault_at most count rest (CountDiffers number found) fault = absurd fault
fault_at most count rest Read fault = absurd fault
fault_at most count rest Memory fault = absurd fault
fault_at most count rest Write fault = absurd fault

full_or_damaged : (most count : ℕ) (rest more : List ℕ) → 18446744073709551614 ≤ count → rest ≡ 1 ∷ 0 ∷ more →
    IsDamaged most count rest → ⊥
full_or_damaged most count rest more last starts fault =
    absurd (omega (arith, last, (damaged_start most count rest more starts fault).few))

long_or_cut : (most : ℕ) (more : List ℕ) → 2 ≤ length more → most < big_number 2 more → EndsInBlock most more → ⊥
long_or_cut most more whole above (inl short) = absurd (omega (arith, whole, short))
long_or_cut most more whole above (inr short) = absurd (omega (arith, above, short.0))

long_or_damaged : (most count : ℕ) (rest : List ℕ) (len : ℕ) → IsLongRecord most rest len → IsDamaged most count rest → ⊥
long_or_damaged most count rest len first fault =
    long_or_cut most first.more first.whole (omega (arith, first.stated, first.long))
    (damaged_start most count rest first.more first.parts fault).ends

one_length : (most : ℕ) (rest : List ℕ) (len other : ℕ) → IsLongRecord most rest len → IsLongRecord most rest other →
    len ≡ other
one_length most rest len other first second =
    sym first.stated
    ∙ ap (λ (t : List ℕ). big_number 2 (drop 2 t)) (sym first.parts ∙ second.parts)
    ∙ second.stated

same_fault : (most count : ℕ) (rest : List ℕ) (one other : FileError) → FaultAt most count rest one →
    FaultAt most count rest other → one ≡ other
same_fault most count rest one other (full more is last starts) (full behind also ends begins) = is ∙ sym also
same_fault most count rest one other (full more is last starts) (long len also few fault) =
    absurd (omega (arith, last, few))
same_fault most count rest one other (full more is last starts) (damaged also fault) =
    absurd (full_or_damaged most count rest more last starts fault)
same_fault most count rest one other (long len is few fault) (full more also last starts) =
    absurd (omega (arith, last, few))
same_fault most count rest one other (long len is few fault) (long size also less wrong) =
    is ∙ ap (λ (n : ℕ). TooLong n) (one_length most rest len size fault wrong) ∙ sym also
same_fault most count rest one other (long len is few fault) (damaged also wrong) =
    absurd (long_or_damaged most count rest len fault wrong)
same_fault most count rest one other (damaged is fault) (full more also last starts) =
    absurd (full_or_damaged most count rest more last starts fault)
same_fault most count rest one other (damaged is fault) (long len also few wrong) =
    absurd (long_or_damaged most count rest len wrong fault)
same_fault most count rest one other (damaged is fault) (damaged also wrong) = is ∙ sym also

pub one_record_fault : (most : ℕ) (behind : List ℕ) (one other : FileError) → most ≤ 65535 →
    RecordsFault most behind one → RecordsFault most behind other → one ≡ other
one_record_fault most behind one other bound first second =
    let here = first.before in
    let there = second.before in
    let same = same_records most behind first.messages second.messages here.rest there.rest bound here.front there.front
    (last_fault most (length first.messages) here.rest one bound here.fault)
    (last_fault most (length second.messages) there.rest other bound there.fault)
    in
    same_fault most (length first.messages) here.rest one other
    (fault_at most (length first.messages) here.rest one here.fault)
    (subst (λ (ms : List (List ℕ)). FaultAt most (length ms) here.rest other) (sym same.messages)
    (subst (λ (t : List ℕ). FaultAt most (length second.messages) t other) (sym same.rests)
    (fault_at most (length second.messages) there.rest other there.fault)))

-- What ends records is no fault.
shut_fault : (most count : ℕ) (rest : List ℕ) (error : FileError) → IsShut rest → FaultAt most count rest error → ⊥
shut_fault most count rest error shut (full more is last starts) =
    shut.shut (ap (λ (t : List ℕ). get_or t 0 0) (sym shut.parts ∙ starts))
shut_fault most count rest error shut (long len is few fault) =
    shut.shut (ap (λ (t : List ℕ). get_or t 0 0) (sym shut.parts ∙ fault.parts))
shut_fault most count rest error shut (damaged is (no_gate none)) =
    absurd (omega (arith, ap (λ (t : List ℕ). length t) (sym shut.parts ∙ none)))
shut_fault most count rest error shut (damaged is (no_kind same)) =
    shut.shut (ap (λ (t : List ℕ). get_or t 0 0) (sym shut.parts ∙ same))
shut_fault most count rest error shut (damaged is (bad_kind kind more same high)) =
    shut.shut (ap (λ (t : List ℕ). get_or t 0 0) (sym shut.parts ∙ same))
shut_fault most count rest error shut (damaged is (cut_closing same)) =
    shut.shut (ap (λ (t : List ℕ). get_or t 0 0) (sym shut.parts ∙ same))
shut_fault most count rest error shut (damaged is (cut_message more few same ends)) =
    shut.shut (ap (λ (t : List ℕ). get_or t 0 0) (sym shut.parts ∙ same))

closing_fault : (most count : ℕ) (rest : List ℕ) (error : FileError) → IsClosing rest → FaultAt most count rest error → ⊥
closing_fault most count rest error closing (full more is last starts) =
    absurd (omega (arith, ap (λ (t : List ℕ). get_or t 1 0) (sym closing.parts ∙ starts)))
closing_fault most count rest error closing (long len is few fault) =
    absurd (omega (arith, ap (λ (t : List ℕ). get_or t 1 0) (sym closing.parts ∙ fault.parts)))
closing_fault most count rest error closing (damaged is (no_gate none)) =
    absurd (omega (arith, ap (λ (t : List ℕ). length t) (sym closing.parts ∙ none)))
closing_fault most count rest error closing (damaged is (no_kind same)) =
    absurd (omega (arith, ap (λ (t : List ℕ). length t) (sym closing.parts ∙ same)))
closing_fault most count rest error closing (damaged is (bad_kind kind more same high)) =
    absurd (omega (arith, high, ap (λ (t : List ℕ). get_or t 1 0) (sym closing.parts ∙ same)))
closing_fault most count rest error closing (damaged is (cut_closing same)) =
    absurd (omega (arith, ap (λ (t : List ℕ). length t) (sym closing.parts ∙ same)))
closing_fault most count rest error closing (damaged is (cut_message more few same ends)) =
    absurd (omega (arith, ap (λ (t : List ℕ). get_or t 1 0) (sym closing.parts ∙ same)))

end_fault : (most count : ℕ) (closed : Bool) (rest : List ℕ) (error : FileError) → EndsRecords closed rest →
    FaultAt most count rest error → ⊥
end_fault most count true rest error ends fault = closing_fault most count rest error ends fault
end_fault most count false rest error ends fault = shut_fault most count rest error ends fault

-- Records and what ends them have no fault.
pub no_record_fault : (most : ℕ) (behind : List ℕ) (messages : List (List ℕ)) (rest : List ℕ) (closed : Bool)
    (error : FileError) → most ≤ 65535 → HasRecords most behind messages rest → EndsRecords closed rest →
    RecordsFault most behind error → ⊥
no_record_fault most behind messages rest closed error bound has ends fault =
    let there = fault.before in
    let same = same_records most behind messages fault.messages rest there.rest bound has there.front
    (last_ends most (length messages) closed rest ends)
    (last_fault most (length fault.messages) there.rest error bound there.fault)
    in
    end_fault most (length fault.messages) closed there.rest error (subst (EndsRecords closed) same.rests ends)
    (fault_at most (length fault.messages) there.rest error there.fault)

-- Records end in one way.
pub one_end : (rest : List ℕ) (closed shut : Bool) → EndsRecords closed rest → EndsRecords shut rest → closed ≡ shut
one_end rest true true first second = refl
one_end rest false false first second = refl
one_end rest true false first second =
    absurd (second.shut (ap (λ (t : List ℕ). get_or t 0 0) (sym second.parts ∙ first.parts)))
one_end rest false true first second =
    absurd (first.shut (ap (λ (t : List ℕ). get_or t 0 0) (sym first.parts ∙ second.parts)))
