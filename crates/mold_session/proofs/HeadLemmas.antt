-- The head of a file.
use Rattle.std.proofs.Common.{◌≡◌, ℕ, zero, suc, ◌+◌, ◌<◌, ◌≤◌, ◌^◌, eqb, not, Bool, true, false, List, [], ◌∷◌, ◌++◌}
use Rattle.std.proofs.Common.{length, length-append, take, drop, get_or, Option, None, Some, refl, sym, ap, ◌∙◌}
use Rattle.std.proofs.Common.{append_assoc, inr, arith}
use Rattle.std.proofs.lemmas.List.{take_at, drop_at, take_all, take-append-le, get_or-drop}
use Rattle.std.proofs.lemmas.Nat.{be_bytes_8}
use Rattle.std.specs.Cmp.Lexicographic.{pointwise, bytes_decides}
use Rattle.std.specs.Prelude.{IfSome}
use Rattle.std.specs.Io.KnownBytes.{Consumes}
use Rattle.byteorder.specs.Endian.{big_number}
use Rattle.mold_wire.specs.Block.{be64}
use Rattle.mold_session.specs.File.{magic_1, magic_2, closed_byte, head_1, head_2}
use Rattle.mold_session.specs.FileFault.{IsBody1, IsBody2, IsBody3, JournalFault}
use Rattle.mold_session.specs.Loading.{NumbersFault, Refuses}
use Rattle.mold_session.specs.Records.{magic_3, head_3}
use Rattle.mold_session.specs.declared.error.FileError.{FileError}
use Rattle.mold_session.specs.declared.error.FileError.TheVariants.{TooLong, Memory, BadMagic, Short, BlockCut, Read, Write, Full, CountDiffers, BadFlag, Damaged}

pub length-magic_1 : length magic_1 ≡ 8
unfolding magic_1
length-magic_1 = refl

pub length-magic_2 : length magic_2 ≡ 8
unfolding magic_2
length-magic_2 = refl

pub length-magic_3 : length magic_3 ≡ 8
unfolding magic_3
length-magic_3 = refl

-- The magic bytes of the versions differ.
pub one_magic : magic_1 ≡ magic_2 → ⊥
unfolding magic_1 magic_2
one_magic same = absurd (omega (arith, ap (λ (t : List ℕ). get_or t 7 0) same))

pub magic_1_or_3 : magic_1 ≡ magic_3 → ⊥
unfolding magic_1 magic_3
magic_1_or_3 same = absurd (omega (arith, ap (λ (t : List ℕ). get_or t 7 0) same))

pub magic_2_or_3 : magic_2 ≡ magic_3 → ⊥
unfolding magic_2 magic_3
magic_2_or_3 same = absurd (omega (arith, ap (λ (t : List ℕ). get_or t 7 0) same))

length-head_1 : (session : List ℕ) → length session ≡ 10 → length (head_1 session) ≡ 18
length-head_1 session ten = omega (arith, length-append magic_1 session, length-magic_1)

-- The flag is at offset 18, and the count at offset 19.
flag_place : (session behind : List ℕ) (closed : Bool) (count : ℕ) →
    head_2 session closed count ++ behind ≡ (magic_2 ++ session) ++ (closed_byte closed ∷ (be64 count ++ behind))
flag_place session behind closed count =
    append_assoc magic_2 (session ++ (closed_byte closed ∷ be64 count)) behind
    ∙ ap (λ (t : List ℕ). magic_2 ++ t) (append_assoc session (closed_byte closed ∷ be64 count) behind)
    ∙ sym (append_assoc magic_2 session (closed_byte closed ∷ (be64 count ++ behind)))

length-flag_place : (session : List ℕ) → length session ≡ 10 → length (magic_2 ++ session) ≡ 18
length-flag_place session ten = omega (arith, length-append magic_2 session, length-magic_2)

length-head_2 : (session : List ℕ) (closed : Bool) (count : ℕ) → length session ≡ 10 →
    length (head_2 session closed count) ≡ 27
length-head_2 session closed count ten =
    omega (
      arith,
      length-append magic_2 (session ++ (closed_byte closed ∷ be64 count)),
      length-append session (closed_byte closed ∷ be64 count),
      length-magic_2,
    )

-- The bytes after a head of version 1.
pub behind_1 : (session bytes behind : List ℕ) → length session ≡ 10 → bytes ≡ head_1 session ++ behind →
    IsBody1 bytes behind
behind_1 session bytes behind ten parts = record {
  magic =
      ap (take 8) (parts ∙ append_assoc magic_1 session behind)
      ∙ take_at magic_1 (session ++ behind) 8 length-magic_1;
  whole = omega (
    arith,
    ap (λ (t : List ℕ). length t) parts,
    length-append (head_1 session) behind,
    length-head_1 session ten,
  );
  from = sym (ap (drop 18) parts ∙ drop_at (head_1 session) behind 18 (length-head_1 session ten));
}

length-head_3 : (session : List ℕ) → length session ≡ 10 → length (head_3 session) ≡ 18
length-head_3 session ten = omega (arith, length-append magic_3 session, length-magic_3)

-- The bytes after a head of version 3.
pub behind_3 : (session bytes behind : List ℕ) → length session ≡ 10 → bytes ≡ head_3 session ++ behind →
    IsBody3 bytes behind
behind_3 session bytes behind ten parts = record {
  magic =
      ap (take 8) (parts ∙ append_assoc magic_3 session behind)
      ∙ take_at magic_3 (session ++ behind) 8 length-magic_3;
  whole = omega (
    arith,
    ap (λ (t : List ℕ). length t) parts,
    length-append (head_3 session) behind,
    length-head_3 session ten,
  );
  from = sym (ap (drop 18) parts ∙ drop_at (head_3 session) behind 18 (length-head_3 session ten));
}

closed_byte_small : (closed : Bool) → closed_byte closed ≤ 1
closed_byte_small true = omega arith
closed_byte_small false = omega arith

pub flag_at : (session bytes behind : List ℕ) (closed : Bool) (count : ℕ) → length session ≡ 10 →
    bytes ≡ head_2 session closed count ++ behind → get_or bytes 18 0 ≡ closed_byte closed
flag_at session bytes behind closed count ten parts =
    sym (get_or-drop 18 bytes 0 0)
    ∙ ap (λ (t : List ℕ). get_or (drop 18 t) 0 0) (parts ∙ flag_place session behind closed count)
    ∙ ap (λ (t : List ℕ). get_or t 0 0)
    (drop_at (magic_2 ++ session) (closed_byte closed ∷ (be64 count ++ behind)) 18 (length-flag_place session ten))

-- The bytes after a head of version 2.
pub behind_2 : (session bytes behind : List ℕ) (closed : Bool) (count : ℕ) → length session ≡ 10 →
    bytes ≡ head_2 session closed count ++ behind → IsBody2 bytes behind
behind_2 session bytes behind closed count ten parts = record {
  magic =
      ap (take 8) (parts ∙ append_assoc magic_2 (session ++ (closed_byte closed ∷ be64 count)) behind)
      ∙ take_at magic_2 ((session ++ (closed_byte closed ∷ be64 count)) ++ behind) 8 length-magic_2;
  whole = omega (
    arith,
    ap (λ (t : List ℕ). length t) parts,
    length-append (head_2 session closed count) behind,
    length-head_2 session closed count ten,
  );
  flag = omega (arith, flag_at session bytes behind closed count ten parts, closed_byte_small closed);
  from = sym (ap (drop 27) parts ∙ drop_at (head_2 session closed count) behind 27
      (length-head_2 session closed count ten));
}

big_number-be64 : (number : ℕ) (rest : List ℕ) → number < 2 ^ 64 → big_number 8 (be64 number ++ rest) ≡ number
big_number-be64 number rest fits = omega arith

count_place : (session behind : List ℕ) (closed : Bool) (count : ℕ) →
    head_2 session closed count ++ behind
    ≡ ((magic_2 ++ session) ++ (closed_byte closed ∷ [])) ++ (be64 count ++ behind)
count_place session behind closed count =
    flag_place session behind closed count
    ∙ sym (append_assoc (magic_2 ++ session) (closed_byte closed ∷ []) (be64 count ++ behind))

-- The number of messages that a file of version 2 states.
pub count_at : (session bytes behind : List ℕ) (closed : Bool) (count : ℕ) → length session ≡ 10 → count < 2 ^ 64 →
    bytes ≡ head_2 session closed count ++ behind → count ≡ big_number 8 (drop 19 bytes)
count_at session bytes behind closed count ten fits parts =
    let front : List ℕ = (magic_2 ++ session) ++ (closed_byte closed ∷ []) in
    let long : length front ≡ 19 =
    omega (arith, length-append (magic_2 ++ session) (closed_byte closed ∷ []), length-flag_place session ten)
    in
    sym (
    ap (λ (t : List ℕ). big_number 8 (drop 19 t)) (parts ∙ count_place session behind closed count)
    ∙ ap (big_number 8) (drop_at front (be64 count ++ behind) 19 long)
    ∙ big_number-be64 count behind fits
    )

-- The flag and the count as they were decoded.
closed_from : (byte : ℕ) → byte ≤ 1 → closed_byte (eqb byte 1) ≡ byte
closed_from zero small = refl
closed_from (suc zero) small = refl
closed_from (suc (suc byte)) small = absurd (omega arith)

pub numbers_are : (index : List ℕ) (count byte number : ℕ) → 9 ≤ count → byte ≤ 1 → index ≡ byte ∷ be64 number →
    take count index ≡ closed_byte (eqb byte 1) ∷ be64 number
numbers_are index count byte number all small read =
    take_all count index (omega (arith, ap (λ (t : List ℕ). length t) read))
    ∙ read
    ∙ ap (λ (n : ℕ). n ∷ be64 number) (sym (closed_from byte small))

-- A file whose first 18 bytes begin with the magic bytes of no version is refused.
pub bad_magic : (known left : Option (List ℕ)) (front : List ℕ) (most : ℕ) → Consumes known left front →
    length front ≡ 18 → (take 8 front ≡ magic_1 → ⊥) → (take 8 front ≡ magic_2 → ⊥) → (take 8 front ≡ magic_3 → ⊥) →
    Refuses (JournalFault most) known BadMagic
bad_magic None left front most read long no_1 no_2 no_3 = tt
bad_magic (Some xs) None front most read long no_1 no_2 no_3 = absurd read
bad_magic (Some xs) (Some ys) front most read long no_1 no_2 no_3 =
    let begins : take 8 xs ≡ take 8 front = ap (take 8) read ∙ take-append-le 8 front ys (omega arith) in (
      omega (arith, ap (λ (t : List ℕ). length t) read, length-append front ys),
      (λ is. no_1 (sym begins ∙ is)),
      (λ is. no_2 (sym begins ∙ is)),
      (λ is. no_3 (sym begins ∙ is)),
    )

known_behind : (known left : Option (List ℕ)) (front : List ℕ) (Behind Whole : List ℕ → Type 0) →
    Consumes known left front → ((bytes rest : List ℕ) → bytes ≡ front ++ rest → Behind rest → Whole bytes) →
    IfSome left Behind → IfSome known Whole
known_behind None left front Behind Whole read same fault = tt
known_behind (Some xs) None front Behind Whole read same fault = absurd read
known_behind (Some xs) (Some ys) front Behind Whole read same fault = same xs ys read fault

-- A fault of the remaining bytes is a fault of all bytes.
pub refused_behind : (Behind Whole : List ℕ → FileError → Type 0) (known left : Option (List ℕ)) (front : List ℕ) →
    Consumes known left front →
    ((bytes rest : List ℕ) → bytes ≡ front ++ rest → (error : FileError) → Behind rest error → Whole bytes error) →
    (error : FileError) → Refuses Behind left error → Refuses Whole known error
refused_behind Behind Whole known left front read same Read fault = tt
refused_behind Behind Whole known left front read same Memory fault = tt
refused_behind Behind Whole known left front read same Write fault = fault
refused_behind Behind Whole known left front read same BadMagic fault =
    known_behind known left front (λ rest. Behind rest BadMagic) (λ bytes. Whole bytes BadMagic)
    read (λ xs ys e. same xs ys e BadMagic) fault
refused_behind Behind Whole known left front read same (Short len) fault =
    known_behind known left front (λ rest. Behind rest (Short len)) (λ bytes. Whole bytes (Short len))
    read (λ xs ys e. same xs ys e (Short len)) fault
refused_behind Behind Whole known left front read same (BadFlag byte) fault =
    known_behind known left front (λ rest. Behind rest (BadFlag byte)) (λ bytes. Whole bytes (BadFlag byte))
    read (λ xs ys e. same xs ys e (BadFlag byte)) fault
refused_behind Behind Whole known left front read same Full fault =
    known_behind known left front (λ rest. Behind rest Full) (λ bytes. Whole bytes Full)
    read (λ xs ys e. same xs ys e Full) fault
refused_behind Behind Whole known left front read same (TooLong len) fault =
    known_behind known left front (λ rest. Behind rest (TooLong len)) (λ bytes. Whole bytes (TooLong len))
    read (λ xs ys e. same xs ys e (TooLong len)) fault
refused_behind Behind Whole known left front read same (BlockCut number) fault =
    known_behind known left front (λ rest. Behind rest (BlockCut number)) (λ bytes. Whole bytes (BlockCut number))
    read (λ xs ys e. same xs ys e (BlockCut number)) fault
refused_behind Behind Whole known left front read same (CountDiffers count found) fault =
    known_behind known left front (λ rest. Behind rest (CountDiffers count found))
    (λ bytes. Whole bytes (CountDiffers count found))
    read (λ xs ys e. same xs ys e (CountDiffers count found)) fault
refused_behind Behind Whole known left front read same (Damaged number) fault =
    known_behind known left front (λ rest. Behind rest (Damaged number)) (λ bytes. Whole bytes (Damaged number))
    read (λ xs ys e. same xs ys e (Damaged number)) fault

-- A fault of the bytes after the first 18 bytes of version 2 is a fault of the file.
pub numbers_refused : (front : List ℕ) (most : ℕ) → length front ≡ 18 → take 8 front ≡ magic_2 → (bytes rest : List ℕ) →
    bytes ≡ front ++ rest → (error : FileError) → NumbersFault rest error → JournalFault most bytes error
numbers_refused front most long is bytes rest read (Short len) fault =
    let begins : take 8 bytes ≡ magic_2 = ap (take 8) read ∙ take-append-le 8 front rest (omega arith) ∙ is in
    let sum : length bytes ≡ 18 + length rest =
    omega (arith, ap (λ (t : List ℕ). length t) read, length-append front rest)
    in
    (fault.0 ∙ sym sum, inr (begins, omega (arith, fault.1)))
numbers_refused front most long is bytes rest read (BadFlag byte) fault =
    let begins : take 8 bytes ≡ magic_2 = ap (take 8) read ∙ take-append-le 8 front rest (omega arith) ∙ is in
    let sum : length bytes ≡ 18 + length rest =
    omega (arith, ap (λ (t : List ℕ). length t) read, length-append front rest)
    in
    let behind : get_or bytes 18 0 ≡ get_or rest 0 0 =
    sym (get_or-drop 18 bytes 0 0)
    ∙ ap (λ (t : List ℕ). get_or t 0 0) (ap (drop 18) read ∙ drop_at front rest 18 long)
    in
    (begins, omega (arith, fault.0), behind ∙ fault.1, fault.2)
numbers_refused front most long is bytes rest read Read fault = absurd fault
numbers_refused front most long is bytes rest read Memory fault = absurd fault
numbers_refused front most long is bytes rest read Write fault = absurd fault
numbers_refused front most long is bytes rest read BadMagic fault = absurd fault
numbers_refused front most long is bytes rest read Full fault = absurd fault
numbers_refused front most long is bytes rest read (TooLong len) fault = absurd fault
numbers_refused front most long is bytes rest read (BlockCut number) fault = absurd fault
numbers_refused front most long is bytes rest read (CountDiffers count found) fault = absurd fault
numbers_refused front most long is bytes rest read (Damaged number) fault = absurd fault

-- If the comparison of bytes is false, they differ.
pub unequal : (one other magic front : List ℕ) → pointwise eqb one other ≡ false → one ≡ take 8 front →
    other ≡ magic → take 8 front ≡ magic → ⊥
unequal one other magic front differ begins is same =
    let e : pointwise eqb one other ≡ true = (bytes_decides one other).1 (begins ∙ same ∙ sym is) in
    cc

pub differs : (equal : Bool) → not equal ≡ true → equal ≡ false
differs true is = sym is
differs false is = refl

pub compares : (equal : Bool) → not equal ≡ false → equal ≡ true
compares true is = refl
compares false is = sym is

-- If the comparison of bytes is true, they are equal.
pub same_magic : (one other magic front : List ℕ) → pointwise eqb one other ≡ true → one ≡ take 8 front →
    other ≡ magic → take 8 front ≡ magic
same_magic one other magic front equal begins is = sym begins ∙ (bytes_decides one other).0 equal ∙ is

-- Nine bytes are one byte and the eight bytes of a number.
pub byte_and_number : (bytes first behind : List ℕ) (number : ℕ) → length bytes ≡ 9 →
    ((i : ℕ) → get_or bytes i 0 < 256) → first ≡ take 1 bytes → behind ≡ drop 1 bytes → number ≡ big_number 8 behind →
    bytes ≡ get_or first 0 0 ∷ be64 number
byte_and_number [] first behind number nine small front back is = absurd (omega arith)
byte_and_number (byte ∷ bytes) first behind number nine small front back is =
    let one : get_or first 0 0 ≡ byte = ap (λ (t : List ℕ). get_or t 0 0) front in
    let eight : be64 (big_number 8 bytes) ≡ bytes =
    be_bytes_8 bytes (big_number 8 bytes) (omega arith) (λ i. small (suc i)) (omega arith)
    in
    let same : be64 number ≡ be64 (big_number 8 bytes) = ap be64 (is ∙ ap (big_number 8) back) in
    ap (λ (n : ℕ). n ∷ bytes) (sym one) ∙ ap (λ (t : List ℕ). get_or first 0 0 ∷ t) (sym eight ∙ sym same)
