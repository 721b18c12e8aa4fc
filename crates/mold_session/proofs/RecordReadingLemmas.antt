-- How the next record is read, and the records that were read so far.
use Rattle.std.proofs.Common.{◌≡◌, ℕ, ◌+◌, ◌<◌, Bool, true, false, List, [], ◌∷◌, ◌++◌, length, length-append}
use Rattle.std.proofs.Common.{append-nil, Option, None, Some, refl, sym, ap, subst, ◌∙◌, inl, arith}
use Rattle.std.specs.Prelude.{IfSome}
use Rattle.std.specs.Io.KnownBytes.{Consumes, IsAtEnd, prepend_known}
use Rattle.std.specs.List.{AllByRecursion}
use Rattle.std.proofs.KnownBytes.{Consumes-trans}
use Rattle.std.proofs.lemmas.List.Concat.{flat_map-append}
use Rattle.mold_wire.specs.Block.{block}
use Rattle.mold_session.specs.Checking.{IsEnd}
use Rattle.mold_session.specs.FileFault.{BlockFault, IsDamaged, RecordFault, RecordsFault}
use Rattle.mold_session.specs.FileFault.{no_gate, no_kind, bad_kind, cut_closing, cut_message}
use Rattle.mold_session.specs.Journal.{IsWithin}
use Rattle.mold_session.specs.Loading.{AreRecords, CountsLoadFault, Refuses, TakesBlock, TakesSpelled, in_record}
use Rattle.mold_session.specs.Records.{record_of, records, EndsRecords}
use Rattle.mold_session.specs.declared.error.FileError.{FileError}
use Rattle.mold_session.specs.declared.error.FileError.TheVariants.{TooLong, Memory, BadMagic, Short, BlockCut, Read, Write, Full, CountDiffers, BadFlag, Damaged}
use Rattle.mold_session.proofs.HeadLemmas.{refused_behind}
use Rattle.mold_session.proofs.LoadingLemmas.{ReadsRecords}

-- ---- the start of a record

pub shut_read : (known left : Option (List ℕ)) (gate : ℕ) → Consumes known left (gate ∷ []) → (gate ≡ 1 → ⊥) →
    IfSome known (EndsRecords false)
shut_read None left gate read shut = tt
shut_read (Some xs) None gate read shut = absurd read
shut_read (Some xs) (Some ys) gate read shut = record { gate = gate; rest = ys; shut = shut; parts = read }

pub closing_read : (known mid after left : Option (List ℕ)) (byte : ℕ) → Consumes known mid (1 ∷ []) →
    Consumes mid after (1 ∷ []) → Consumes after left (byte ∷ []) → IfSome known (EndsRecords true)
closing_read None mid after left byte gate kind last = tt
closing_read (Some xs) None after left byte gate kind last = absurd gate
closing_read (Some xs) (Some ys) None left byte gate kind last = absurd kind
closing_read (Some xs) (Some ys) (Some zs) None byte gate kind last = absurd last
closing_read (Some xs) (Some ys) (Some zs) (Some ws) byte gate kind last = record {
  byte = byte;
  rest = ws;
  parts = gate ∙ ap (λ (t : List ℕ). 1 ∷ t) (kind ∙ ap (λ (t : List ℕ). 1 ∷ t) last);
}

pub gate_missing : (known : Option (List ℕ)) (most count : ℕ) → IsAtEnd known →
    Refuses (RecordFault most count) known (Damaged (count + 1))
gate_missing None most count over = tt
gate_missing (Some xs) most count over = (refl, no_gate over)

pub kind_missing : (known mid : Option (List ℕ)) (most count : ℕ) → Consumes known mid (1 ∷ []) → IsAtEnd mid →
    Refuses (RecordFault most count) known (Damaged (count + 1))
kind_missing None mid most count gate over = tt
kind_missing (Some xs) None most count gate over = absurd gate
kind_missing (Some xs) (Some ys) most count gate over = (refl, no_kind (gate ∙ ap (λ (t : List ℕ). 1 ∷ t) over))

pub kind_unknown : (known mid left : Option (List ℕ)) (most count kind : ℕ) → Consumes known mid (1 ∷ []) →
    Consumes mid left (kind ∷ []) → 1 < kind → Refuses (RecordFault most count) known (Damaged (count + 1))
kind_unknown None mid left most count kind gate read high = tt
kind_unknown (Some xs) None left most count kind gate read high = absurd gate
kind_unknown (Some xs) (Some ys) None most count kind gate read high = absurd read
kind_unknown (Some xs) (Some ys) (Some zs) most count kind gate read high =
    (refl, bad_kind kind zs (gate ∙ ap (λ (t : List ℕ). 1 ∷ t) read) high)

pub closing_cut : (known mid left : Option (List ℕ)) (most count : ℕ) → Consumes known mid (1 ∷ []) →
    Consumes mid left (1 ∷ []) → IsAtEnd left → Refuses (RecordFault most count) known (Damaged (count + 1))
closing_cut None mid left most count gate kind over = tt
closing_cut (Some xs) None left most count gate kind over = absurd gate
closing_cut (Some xs) (Some ys) None most count gate kind over = absurd kind
closing_cut (Some xs) (Some ys) (Some zs) most count gate kind over =
    (refl, cut_closing (gate ∙ ap (λ (t : List ℕ). 1 ∷ t) (kind ∙ ap (λ (t : List ℕ). 1 ∷ t) over)))

-- ---- the block of a record

pub block_missing : (known : Option (List ℕ)) (most count : ℕ) → count < 18446744073709551614 → IsAtEnd known →
    Refuses (λ rest. RecordFault most count (1 ∷ 0 ∷ rest)) known (Damaged (count + 1))
block_missing None most count few over = tt
block_missing (Some xs) most count few over =
    (refl, cut_message xs few refl (inl (omega (arith, ap (λ (t : List ℕ). length t) over))))

pub block_fault : (most count : ℕ) (rest : List ℕ) (error : FileError) → BlockFault most count rest error →
    RecordFault most count (1 ∷ 0 ∷ rest) (in_record error)
block_fault most count rest Full fault = (fault.1, record { more = rest; parts = refl })
block_fault most count rest (TooLong len) fault =
    (fault.0, record { more = rest; parts = refl; whole = fault.1; stated = fault.2; long = fault.3 })
block_fault most count rest (BlockCut number) fault = (fault.1, cut_message rest fault.0 refl fault.2.short)
block_fault most count rest (Short len) fault = absurd fault
block_fault most count rest BadMagic fault = absurd fault
block_fault most count rest (BadFlag byte) fault = absurd fault
block_fault most count rest (CountDiffers stated found) fault = absurd fault
block_fault most count rest (Damaged number) fault = absurd fault
block_fault most count rest Read fault = absurd fault
block_fault most count rest Memory fault = absurd fault
block_fault most count rest Write fault = absurd fault

in_known : (known : Option (List ℕ)) (One Other : List ℕ → Type 0) → ((bytes : List ℕ) → One bytes → Other bytes) →
    IfSome known One → IfSome known Other
in_known None One Other same holds = tt
in_known (Some bytes) One Other same holds = same bytes holds

pub block_refused : (known : Option (List ℕ)) (most count : ℕ) (error : FileError) →
    Refuses (BlockFault most count) known error →
    Refuses (λ rest. RecordFault most count (1 ∷ 0 ∷ rest)) known (in_record error)
block_refused known most count Read fault = tt
block_refused known most count Memory fault = tt
block_refused known most count Write fault = fault
block_refused known most count BadMagic fault =
    in_known known _ _ (λ rest found. block_fault most count rest BadMagic found) fault
block_refused known most count (Short len) fault =
    in_known known _ _ (λ rest found. block_fault most count rest (Short len) found) fault
block_refused known most count (BadFlag byte) fault =
    in_known known _ _ (λ rest found. block_fault most count rest (BadFlag byte) found) fault
block_refused known most count Full fault =
    in_known known _ _ (λ rest found. block_fault most count rest Full found) fault
block_refused known most count (TooLong len) fault =
    in_known known _ _ (λ rest found. block_fault most count rest (TooLong len) found) fault
block_refused known most count (BlockCut number) fault =
    in_known known _ _ (λ rest found. block_fault most count rest (BlockCut number) found) fault
block_refused known most count (CountDiffers stated found) fault =
    in_known known _ _ (λ rest is. block_fault most count rest (CountDiffers stated found) is) fault
block_refused known most count (Damaged number) fault =
    in_known known _ _ (λ rest found. block_fault most count rest (Damaged number) found) fault

pub counts_in_record : (old new : ℕ) (error : FileError) → CountsLoadFault old new error →
    CountsLoadFault old new (in_record error)
counts_in_record old new Read counts = counts
counts_in_record old new Memory counts = counts
counts_in_record old new Write counts = counts
counts_in_record old new BadMagic counts = counts
counts_in_record old new (Short len) counts = counts
counts_in_record old new (BadFlag byte) counts = counts
counts_in_record old new Full counts = counts
counts_in_record old new (TooLong len) counts = counts
counts_in_record old new (BlockCut number) counts = counts
counts_in_record old new (CountDiffers stated found) counts = counts
counts_in_record old new (Damaged number) counts = counts

-- ---- a whole record

pub record_taken : (known mid left : Option (List ℕ)) (most : ℕ) (old new : List (List ℕ)) →
    Consumes known mid (1 ∷ 0 ∷ []) → TakesBlock most mid left old new → TakesSpelled record_of most known left old new
record_taken known mid left most old new start taken = record {
  message = taken.message;
  within = taken.within;
  added = taken.added;
  consumed = Consumes-trans known mid left (1 ∷ 0 ∷ []) (block taken.message) start taken.consumed;
}

pub record_refused : (known mid : Option (List ℕ)) (most count : ℕ) (error : FileError) →
    Consumes known mid (1 ∷ 0 ∷ []) → Refuses (λ rest. RecordFault most count (1 ∷ 0 ∷ rest)) mid error →
    Refuses (RecordFault most count) known error
record_refused known mid most count error start fault =
    refused_behind (λ rest. RecordFault most count (1 ∷ 0 ∷ rest)) (RecordFault most count) known mid (1 ∷ 0 ∷ []) start
    (λ bytes rest is why found. subst (λ (t : List ℕ). RecordFault most count t why) (sym is) found) error fault

-- ---- the records that were read so far

pub reads_none : (most : ℕ) (known left : Option (List ℕ)) → Consumes known left [] → ReadsRecords most known left []
reads_none most known left read = record { listed = record { few = omega arith; each = tt }; consumed = read }

each_more : (most : ℕ) (front : List (List ℕ)) (message : List ℕ) → AllByRecursion (IsWithin most) front →
    IsWithin most message → AllByRecursion (IsWithin most) (front ++ message ∷ [])
each_more most [] message each one = (one, tt)
each_more most (first ∷ front) message each one = (each.0, each_more most front message each.1 one)

pub reads_more : (most count : ℕ) (known mid left : Option (List ℕ)) (old new : List (List ℕ)) →
    ReadsRecords most known mid old → count ≡ length old → count < 18446744073709551614 →
    TakesSpelled record_of most mid left old new → ReadsRecords most known left new
reads_more most count known mid left old new reads counted few taken =
    let message = taken.message in
    let joined : records old ++ record_of message ≡ records (old ++ message ∷ []) =
    ap (λ (t : List ℕ). records old ++ t) (sym (append-nil (record_of message)))
    ∙ sym (flat_map-append record_of old (message ∷ []))
    in
    subst (ReadsRecords most known left) (sym taken.added) (record {
      listed = record {
        few = omega (arith, few, counted, length-append old (message ∷ []));
        each = each_more most old message reads.listed.each taken.within;
      };
      consumed = subst (Consumes known left) joined
          (Consumes-trans known mid left (records old) (record_of message) reads.consumed taken.consumed);
    })

pub records_read : (most : ℕ) (known left : Option (List ℕ)) (messages : List (List ℕ)) (closed : Bool) →
    ReadsRecords most known left messages → IfSome left (EndsRecords closed) → IfSome known (AreRecords messages closed)
records_read most None left messages closed reads ends = tt
records_read most (Some xs) None messages closed reads ends = absurd reads.consumed
records_read most (Some xs) (Some ys) messages closed reads ends =
    record { rest = ys; parts = reads.consumed; ends = ends }

pub records_refused : (most count : ℕ) (known left : Option (List ℕ)) (messages : List (List ℕ)) (error : FileError) →
    ReadsRecords most known left messages → count ≡ length messages → Refuses (RecordFault most count) left error →
    Refuses (RecordsFault most) known error
records_refused most count known left messages error reads counted fault =
    refused_behind (RecordFault most count) (RecordsFault most) known left (records messages) reads.consumed
    (λ bytes rest is why found. record {
      messages = messages;
      before = record {
        rest = rest;
        front = record { listed = reads.listed; parts = is };
        fault = subst (λ (n : ℕ). RecordFault most n rest why) counted found;
      };
    }) error fault

-- ---- the end of the source

nothing_behind : (piece bytes : List ℕ) → piece ++ bytes ≡ [] → bytes ≡ []
nothing_behind [] bytes none = none
nothing_behind (byte ∷ piece) bytes none = absurd (omega (arith, ap (λ (t : List ℕ). length t) none))

pub end_behind : (piece : List ℕ) (known : Option (List ℕ)) → IsAtEnd (prepend_known piece known) → IsAtEnd known
end_behind piece None over = tt
end_behind piece (Some bytes) over = nothing_behind piece bytes over

-- ---- the first bytes of a slice

pub message_starts : (rest behind body : List ℕ) (gate kind : ℕ) → rest ≡ gate ∷ behind → behind ≡ kind ∷ body →
    gate ≡ 1 → kind ≡ 0 → rest ≡ 1 ∷ 0 ∷ body
message_starts rest behind body gate kind first second opened is =
    first
    ∙ ap (λ (n : ℕ). n ∷ behind) opened
    ∙ ap (λ (t : List ℕ). 1 ∷ t) (second ∙ ap (λ (n : ℕ). n ∷ body) is)

pub closing_starts : (rest behind body : List ℕ) (gate kind : ℕ) → rest ≡ gate ∷ behind → behind ≡ kind ∷ body →
    gate ≡ 1 → kind ≡ 1 → rest ≡ 1 ∷ 1 ∷ body
closing_starts rest behind body gate kind first second opened is =
    first
    ∙ ap (λ (n : ℕ). n ∷ behind) opened
    ∙ ap (λ (t : List ℕ). 1 ∷ t) (second ∙ ap (λ (n : ℕ). n ∷ body) is)

pub closing_ends : (rest body : List ℕ) → rest ≡ 1 ∷ 1 ∷ body → (length body ≡ 0 → ⊥) → IsEnd rest
closing_ends rest [] starts some = absurd (some refl)
closing_ends rest (byte ∷ more) starts some =
    record { closed = true; ends = record { byte = byte; rest = more; parts = starts } }

pub closing_damaged : (most count : ℕ) (rest body : List ℕ) → rest ≡ 1 ∷ 1 ∷ body → length body ≡ 0 →
    IsDamaged most count rest
closing_damaged most count rest [] starts none = cut_closing starts
closing_damaged most count rest (byte ∷ more) starts none = absurd (omega (arith, none))

pub kind_damaged : (most count : ℕ) (rest behind body : List ℕ) (gate kind : ℕ) → rest ≡ gate ∷ behind →
    behind ≡ kind ∷ body → gate ≡ 1 → 1 < kind → IsDamaged most count rest
kind_damaged most count rest behind body gate kind first second opened high =
    bad_kind kind body (first ∙ ap (λ (n : ℕ). n ∷ behind) opened ∙ ap (λ (t : List ℕ). 1 ∷ t) second) high
