-- The start of a line that spans several reads.
use Rattle.std.proofs.Common.{arith, ◌≡◌, ◌∙◌, ◌&&◌, ℕ, zero, suc, ◌+◌, Bool, true, false, not, eqb, List, [], ◌∷◌, ◌++◌, length, take, drop}
use Rattle.std.proofs.Common.{Option, None, Some, map, length-append, ap, sym, subst, append_assoc, append-nil}
use Rattle.std.specs.Io.KnownBytes.{Consumes, prepend_known}
use Rattle.std.proofs.Math.Dec.{eqb-suc-zero}
use Rattle.std.proofs.Math.Nat.{zero-add}
use Rattle.std.proofs.KnownBytes.{Consumes-nil, Consumes-trans}
use Rattle.mold_devices.specs.Lines.{GivesLine, HasNoEnd, lines_of}
use Rattle.mold_devices.proofs.LineLemmas.{FirstEnd, HasNoEnd-append, InPieces, IsOver, gives_end, gives_joined}
use Rattle.mold_input.specs.Entries.{Entry, GivesNext, entries_before, known_entries, line_entries, line_entry}
use Rattle.mold_input.specs.LongLines.{GivesStart, IsEntry, IsSameStart}
use Rattle.mold_input.specs.declared.next.Next.{Next}
use Rattle.mold_input.specs.declared.next.Next.TheVariants.{Message, Fault, End}
use Rattle.mold_input.proofs.LongLemmas.{same_start}

-- The bytes of the line so far were taken from the input. The part means the same.
pub record Starting {M : Type 0} (meaning : List ℕ → M) (known left : Option (List ℕ)) (part : List ℕ) : Type 0 where
  pub line : List ℕ
  pub read : Consumes known left line
  pub no_end : HasNoEnd line
  pub same : IsSameStart meaning part line

sum_empty : (a b : ℕ) → eqb (a + b) 0 ≡ (eqb a 0 && eqb b 0)
sum_empty zero b = ap (λ (n : ℕ). eqb n 0) (zero-add b)
sum_empty (suc a) b =
    let more : suc a + b ≡ suc (a + b) = omega arith in
    ap (λ (n : ℕ). eqb n 0) more
    ∙ eqb-suc-zero (a + b)
    ∙ sym (ap (λ (t : Bool). t && eqb b 0) (eqb-suc-zero a))

both_empty : (first second more : List ℕ) → eqb (length first) 0 ≡ eqb (length second) 0 →
    eqb (length (first ++ more)) 0 ≡ eqb (length (second ++ more)) 0
both_empty first second more same =
    ap (λ (n : ℕ). eqb n 0) (length-append first more)
    ∙ sum_empty (length first) (length more)
    ∙ ap (λ (b : Bool). b && eqb (length more) 0) same
    ∙ sym (ap (λ (n : ℕ). eqb n 0) (length-append second more) ∙ sum_empty (length second) (length more))

-- More bytes were added to both.
pub same_more : {M : Type 0} (meaning : List ℕ → M)
    (part line more new : List ℕ) → IsSameStart meaning part line →
    IsSameStart meaning new (part ++ more) → HasNoEnd line → HasNoEnd more → IsSameStart meaning new (line ++ more)
same_more meaning part line more new before added whole none = record {
  same = λ after.
      added.same after
      ∙ ap meaning (append_assoc part more after)
      ∙ before.same (more ++ after)
      ∙ sym (ap meaning (append_assoc line more after));
  empty = added.empty ∙ both_empty part line more before.empty;
  no_end = λ all. added.no_end (HasNoEnd-append part more (before.no_end whole) none);
}

-- Nothing was added yet.
pub starting_none : {M : Type 0} (meaning : List ℕ → M) (known : Option (List ℕ)) → Starting meaning known known []
starting_none meaning known = record {
  line = [];
  read = Consumes-nil known;
  no_end = λ k lt is. absurd (omega (arith, lt));
  same = same_start meaning [];
}

-- A piece without an end of line was read and added.
pub starting_more : {M : Type 0} (meaning : List ℕ → M)
    (known mid left : Option (List ℕ)) (part piece new : List ℕ) → Starting meaning known mid part →
    Consumes mid left piece → HasNoEnd piece → IsSameStart meaning new (part ++ piece) → Starting meaning known left new
starting_more meaning known mid left part piece new before read none added = record {
  line = before.line ++ piece;
  read = Consumes-trans known mid left before.line piece before.read read;
  no_end = HasNoEnd-append before.line piece before.no_end none;
  same = same_more meaning part before.line piece new before.same added before.no_end none;
}

in_pieces : {M : Type 0} (meaning : List ℕ → M)
    (known mid left : Option (List ℕ)) (part piece : List ℕ)
    (before : Starting meaning known mid part) → Consumes mid left piece → InPieces known mid left before.line piece
in_pieces meaning known mid left part piece before read =
    record { begun = before.read; no_end = before.no_end; read = read }

-- The line ends in the piece.
pub starting_ends : {M : Type 0} (meaning : List ℕ → M)
    (known mid left : Option (List ℕ)) (part piece new : List ℕ) (at : ℕ) →
    Starting meaning known mid part → Consumes mid left piece → FirstEnd piece at → IsSameStart meaning new (part ++ take at piece) →
    GivesStart meaning known (prepend_known (drop (at + 1) piece) left) true new
starting_ends meaning known mid left part piece new at before read end added = record {
  whole = before.line ++ take at piece;
  gives = gives_joined (in_pieces meaning known mid left part piece before read) end;
  same =
      ap meaning (sym (append-nil new))
      ∙ added.same []
      ∙ ap meaning (append_assoc part (take at piece) [])
      ∙ before.same.same (take at piece ++ [])
      ∙ ap (λ (t : List ℕ). meaning (before.line ++ t)) (append-nil (take at piece));
}

-- The input ends.
pub starting_over : {M : Type 0} (meaning : List ℕ → M)
    (known mid left : Option (List ℕ)) (part piece : List ℕ) (empty : Bool) → Starting meaning known mid part →
    Consumes mid left piece → IsOver left piece → empty ≡ eqb (length part) 0 →
    GivesStart meaning known (prepend_known piece left) (not empty) part
starting_over meaning known mid left part piece empty before read over is = record {
  whole = before.line;
  gives = gives_end (in_pieces meaning known mid left part piece before read) over (is ∙ before.same.empty);
  same =
      ap meaning (sym (append-nil part)) ∙ before.same.same [] ∙ ap meaning (append-nil before.line);
}

-- ---- the next entry

read_entries : (line : List ℕ) (lines : List (List ℕ)) (next : Next) (message : List ℕ) →
    IsEntry (line_entry line) next message →
    line_entry line ∷ map line_entry lines ≡ entries_before next message (map line_entry lines)
read_entries line lines Message message is = ap (λ (e : Entry). e ∷ map line_entry lines) is
read_entries line lines (Fault why) message is = ap (λ (e : Entry). e ∷ map line_entry lines) is
read_entries line lines End message is = absurd is

-- The entry of the first line was read.
pub gives_entry : (known left : Option (List ℕ)) (line : List ℕ) (next : Next) (message : List ℕ) →
    GivesLine known left true line → IsEntry (line_entry line) next message →
    GivesNext (known_entries line_entries known) (known_entries line_entries left) next message
gives_entry None left line next message gives is = tt
gives_entry (Some xs) None line next message gives is = absurd gives
gives_entry (Some xs) (Some ys) line next message gives is =
    ap (map line_entry) gives ∙ read_entries line (lines_of ys) next message is

pub gives_start : (known left : Option (List ℕ)) (line : List ℕ) (next : Next) (message : List ℕ) →
    GivesStart line_entry known left true line → IsEntry (line_entry line) next message →
    GivesNext (known_entries line_entries known) (known_entries line_entries left) next message
gives_start known left line next message start is =
    gives_entry known left start.whole next message start.gives
    (subst (λ (e : Entry). IsEntry e next message) start.same is)

-- No entry remains.
pub gives_none : (known left : Option (List ℕ)) (line message : List ℕ) → GivesStart line_entry known left false line →
    GivesNext (known_entries line_entries known) (known_entries line_entries left) End message
gives_none None left line message start = tt
gives_none (Some xs) None line message start = absurd start.gives
gives_none (Some xs) (Some ys) line message start = ap line_entries start.gives
