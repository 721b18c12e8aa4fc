-- Where lines end, and what a reader of lines has read.
use Rattle.std.proofs.Common.{◌≡◌, ℕ, zero, suc, ◌+◌, ◌-◌, ◌<◌, ◌≤◌, Bool, true, false, not, eqb, List, [], ◌∷◌, ◌++◌}
use Rattle.std.proofs.Common.{length, length-append, take, drop, get_or, Option, None, Some, refl, sym, ap, subst, ◌∙◌}
use Rattle.std.proofs.Common.{append-nil, add-one, inl, inr, arith, Result, Ok, Err}
use Rattle.std.specs.Prelude.{OnErr}
use Rattle.std.proofs.lemmas.Bool.{cond-true, cond-false, cases_Bool, cases_lt, eqb-true, eqb-false}
use Rattle.std.proofs.lemmas.List.{take-append-le, drop-append-le, drop-drop, drop-take, get_or_append_left}
use Rattle.std.proofs.lemmas.List.{get_or-append_right, nil_from_length}
use Rattle.memchr.specs.Find.{NoneBefore, Nowhere, Passes, is_byte}
use Rattle.std.specs.Io.KnownBytes.{Consumes, IsAtEnd, Keeps, prepend_known}
use Rattle.std.proofs.KnownBytes.{Consumes-kept, prepend_known-nil}
use Rattle.mold_devices.specs.Lines.{onto_first, lines_of, GivesLine, HasNoEnd}

-- The byte at this index ends a line.
abbrev pub IsEnd : List ℕ → ℕ → Type 0
IsEnd bytes at = eqb (get_or bytes at 0) 10 ≡ true

-- The first index of the bytes at which a line ends.
pub record FirstEnd (bytes : List ℕ) (at : ℕ) : Type 0 where
  pub within : at < length bytes
  pub here : IsEnd bytes at
  pub before : (k : ℕ) → k < at → IsEnd bytes k → ⊥

not_end : (byte : ℕ) → (eqb byte 10 ≡ true → ⊥) → eqb byte 10 ≡ false
not_end byte none = elim (cases_Bool (eqb byte 10)) [ inl is ↦ absurd (none is) | inr is ↦ is ]

-- Bytes without an end of line are one line.
pub one_line : (bytes : List ℕ) → 0 < length bytes → HasNoEnd bytes → lines_of bytes ≡ bytes ∷ []
one_line [] some none = absurd (omega arith)
one_line (byte ∷ []) some none =
    cond-false (eqb byte 10) _ _ (not_end byte (none 0 (omega arith)))
one_line (byte ∷ next ∷ bytes) some none =
    cond-false (eqb byte 10) _ _ (not_end byte (none 0 (omega arith)))
    ∙ ap (onto_first byte) (one_line (next ∷ bytes) (omega arith) (λ k lt is. none (suc k) (omega arith) is))

-- The first end of line ends the first line.
first_line : (bytes : List ℕ) (at : ℕ) → at < length bytes → IsEnd bytes at → ((k : ℕ) → k < at → IsEnd bytes k → ⊥) →
    lines_of bytes ≡ take at bytes ∷ lines_of (drop (suc at) bytes)
first_line [] at lt is none = absurd (omega arith)
first_line (byte ∷ bytes) zero lt is none = cond-true (eqb byte 10) _ _ is
first_line (byte ∷ bytes) (suc at) lt is none =
    cond-false (eqb byte 10) _ _ (not_end byte (none 0 (omega arith)))
    ∙ ap (onto_first byte) (first_line bytes at (omega arith) is (λ k below end. none (suc k) (omega arith) end))

-- The line that starts in the joined bytes continues to the first end of line in the piece.
joined_line : (joined piece more : List ℕ) (at : ℕ) → HasNoEnd joined → FirstEnd piece at →
    lines_of (joined ++ (piece ++ more)) ≡ (joined ++ take at piece) ∷ lines_of (drop (at + 1) piece ++ more)
joined_line [] piece more at none end =
    let within = end.within in
    let buffer = λ (k : ℕ) (lt : k < length piece). get_or_append_left piece more 0 k lt in
    first_line (piece ++ more) at (omega (arith, length-append piece more))
    (subst (λ (b : ℕ). eqb b 10 ≡ true) (sym (buffer at within)) end.here)
    (λ k lt is. end.before k lt (subst (λ (b : ℕ). eqb b 10 ≡ true) (buffer k (omega arith)) is))
    ∙ ap (λ (t : List ℕ). t ∷ lines_of (drop (suc at) (piece ++ more))) (take-append-le at piece more (omega arith))
    ∙ ap (λ (t : List ℕ). take at piece ∷ lines_of t) (drop-append-le (suc at) piece more (omega arith))
    ∙ ap (λ (n : ℕ). take at piece ∷ lines_of (drop n piece ++ more)) (sym (add-one at))
joined_line (byte ∷ joined) piece more at none end =
    cond-false (eqb byte 10) _ _ (not_end byte (none 0 (omega arith)))
    ∙ ap (onto_first byte) (joined_line joined piece more at (λ k lt is. none (suc k) (omega arith) is) end)

pub HasNoEnd-append : (front back : List ℕ) → HasNoEnd front → HasNoEnd back → HasNoEnd (front ++ back)
HasNoEnd-append front back first second k lt is =
    elim (cases_lt k (length front)) [
      | inl below ↦ first k below (subst (λ (b : ℕ). eqb b 10 ≡ true) (get_or_append_left front back 0 k below) is)
      | inr above ↦
          second (k - length front) (omega (arith, length-append front back))
          (subst (λ (b : ℕ). eqb b 10 ≡ true) (get_or-append_right front back (length front) k 0 refl above) is)
    ]

-- The bytes that were read come before the remaining bytes.
pub consumes_prepended : (piece : List ℕ) (known : Option (List ℕ)) → Consumes (prepend_known piece known) known piece
consumes_prepended piece None = tt
consumes_prepended piece (Some xs) = refl

pub on_err : {T E : Type 0} (result : Result T E) {P : Type 0} → P → OnErr result P
on_err (Ok _) p = tt
on_err (Err _) p = p

-- The joined bytes were taken from the input, and the piece read after them is what remains.
pub begun_line : (known mid left : Option (List ℕ)) (joined piece : List ℕ) → Consumes known mid joined →
    Consumes mid left piece → Consumes known (prepend_known piece left) joined
begun_line None mid left joined piece begun read = tt
begun_line (Some xs) None left joined piece begun read = absurd begun
begun_line (Some xs) (Some ys) None joined piece begun read = absurd read
begun_line (Some xs) (Some ys) (Some zs) joined piece begun read = begun ∙ ap (λ (t : List ℕ). joined ++ t) read

-- If the read failed, the piece is empty.
pub begun_unread : (known mid left : Option (List ℕ)) (joined piece : List ℕ) → Consumes known mid joined →
    Keeps mid left → piece ≡ [] → Consumes known (prepend_known piece left) joined
begun_unread known mid left joined piece begun kept none =
    subst (λ (l : Option (List ℕ)). Consumes known l joined)
    (sym (ap (λ (t : List ℕ). prepend_known t left) none ∙ prepend_known-nil left))
    (Consumes-kept known mid left joined begun kept)

-- A line that spans several reads. It does not end in the joined bytes, and then one more piece was read.
pub record InPieces (known mid left : Option (List ℕ)) (joined piece : List ℕ) : Type 0 where
  pub begun : Consumes known mid joined
  pub no_end : HasNoEnd joined
  pub read : Consumes mid left piece

-- The last piece is empty, and nothing remains after it.
pub record IsOver (left : Option (List ℕ)) (piece : List ℕ) : Type 0 where
  pub empty : length piece ≡ 0
  pub at_end : IsAtEnd left

joined_gives : (known mid left : Option (List ℕ)) (joined piece : List ℕ) (at : ℕ) →
    InPieces known mid left joined piece → FirstEnd piece at →
    GivesLine known (prepend_known (drop (at + 1) piece) left) true (joined ++ take at piece)
joined_gives None mid left joined piece at line end = tt
joined_gives (Some xs) None left joined piece at line end = absurd line.begun
joined_gives (Some xs) (Some ys) None joined piece at line end = absurd line.read
joined_gives (Some xs) (Some ys) (Some zs) joined piece at line end =
    ap lines_of (line.begun ∙ ap (λ (t : List ℕ). joined ++ t) line.read)
    ∙ joined_line joined piece zs at line.no_end end

-- An end of line in the piece gives the joined bytes followed by the piece up to that end.
pub gives_joined : {known mid left : Option (List ℕ)} {joined piece : List ℕ} {at : ℕ} →
    InPieces known mid left joined piece → FirstEnd piece at →
    GivesLine known (prepend_known (drop (at + 1) piece) left) true (joined ++ take at piece)
gives_joined {known} {mid} {left} {joined} {piece} {at} = joined_gives known mid left joined piece at

-- An end of line in the bytes read before gives the line up to it.
pub gives_read : (known : Option (List ℕ)) (piece : List ℕ) (at : ℕ) → FirstEnd piece at →
    GivesLine (prepend_known piece known) (prepend_known (drop (at + 1) piece) known) true (take at piece)
gives_read None piece at end = tt
gives_read (Some xs) piece at end = joined_line [] piece xs at (λ k lt is. absurd (omega arith)) end

-- At the end of the source, nothing follows the joined bytes.
nothing_behind : (piece rest : List ℕ) → IsOver (Some rest) piece → piece ++ rest ≡ []
nothing_behind piece rest over = ap (λ (t : List ℕ). t ++ rest) (nil_from_length piece over.empty) ∙ over.at_end

-- At the end of the source, the joined bytes are the last line.
gives_last : (known mid left : Option (List ℕ)) (joined piece : List ℕ) →
    InPieces known mid left joined piece → IsOver left piece → 0 < length joined →
    GivesLine known (prepend_known piece left) true joined
gives_last None mid left joined piece line over some = tt
gives_last (Some xs) None left joined piece line over some = absurd line.begun
gives_last (Some xs) (Some ys) None joined piece line over some = absurd line.read
gives_last (Some xs) (Some ys) (Some zs) joined piece line over some =
    let nothing = nothing_behind piece zs over in
    let all : xs ≡ joined =
    line.begun ∙ ap (λ (t : List ℕ). joined ++ t) (line.read ∙ nothing) ∙ append-nil joined
    in
    ap lines_of all
    ∙ one_line joined some line.no_end
    ∙ ap (λ (t : List ℕ). joined ∷ lines_of t) (sym nothing)

-- If nothing was joined there, no input remained.
gives_none : (known mid left : Option (List ℕ)) (joined piece found : List ℕ) →
    InPieces known mid left joined piece → IsOver left piece → length joined ≡ 0 →
    GivesLine known (prepend_known piece left) false found
gives_none None mid left joined piece found line over none = tt
gives_none (Some xs) None left joined piece found line over none = absurd line.begun
gives_none (Some xs) (Some ys) None joined piece found line over none = absurd line.read
gives_none (Some xs) (Some ys) (Some zs) joined piece found line over none =
    line.begun
    ∙ ap (λ (t : List ℕ). t ++ ys) (nil_from_length joined none)
    ∙ line.read
    ∙ nothing_behind piece zs over

-- A part of a buffer without its first bytes.
pub skipped : (bytes : List ℕ) (start end n : ℕ) → n + start ≤ end →
    take (end - (start + n)) (drop (start + n) bytes) ≡ drop n (take (end - start) (drop start bytes))
skipped bytes start end n within =
    let left = end - (start + n) in
    let whole : end - start ≡ n + left = omega arith in
    sym (
    ap (λ (m : ℕ). drop n (take m (drop start bytes))) whole
    ∙ drop-take n left (drop start bytes)
    ∙ ap (take left) (drop-drop n start bytes)
    )

-- The first byte 0A that a search found is the first end of line.
pub found_end : (bytes piece : List ℕ) (at : ℕ) → bytes ≡ piece →
    NoneBefore (Passes (is_byte 10) bytes) 0 (length bytes) at × Passes (is_byte 10) bytes at → FirstEnd piece at
found_end bytes piece at same found =
    subst (λ (t : List ℕ). FirstEnd t at) same
    (record { within = found.0.high; here = found.1; before = λ k lt is. found.0.before k (omega arith) lt is })

-- If a search found no byte 0A, no line ends.
pub none_found : (bytes piece : List ℕ) → bytes ≡ piece → Nowhere (Passes (is_byte 10) bytes) 0 (length bytes)
    → HasNoEnd piece
none_found bytes piece same none = subst HasNoEnd same (λ k lt is. none k (omega arith) lt is)

end_gives : (known mid left : Option (List ℕ)) (joined piece : List ℕ) (empty : Bool) →
    InPieces known mid left joined piece → IsOver left piece → empty ≡ eqb (length joined) 0 →
    GivesLine known (prepend_known piece left) (not empty) joined
end_gives known mid left joined piece true line over is =
    gives_none known mid left joined piece joined line over (eqb-true (length joined) 0 (sym is))
end_gives known mid left joined piece false line over is =
    let some = eqb-false (length joined) 0 (sym is) in
    gives_last known mid left joined piece line over (omega arith)

-- At the end of the source, there is a line exactly when some bytes were joined.
pub gives_end : {known mid left : Option (List ℕ)} {joined piece : List ℕ} {empty : Bool} →
    InPieces known mid left joined piece → IsOver left piece → empty ≡ eqb (length joined) 0 →
    GivesLine known (prepend_known piece left) (not empty) joined
gives_end {known} {mid} {left} {joined} {piece} {empty} = end_gives known mid left joined piece empty
