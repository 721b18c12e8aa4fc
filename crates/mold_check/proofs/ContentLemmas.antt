-- Lines that hold the same are taken in the same way.
use Rattle.std.proofs.Common.{◌≡◌, ℕ, Bool, true, false, List, [], ◌∷◌, refl, sym, ap, ◌∙◌}
use Rattle.std.specs.Prelude.{Option, None, Some, Result, Ok, Err, IfSome}
use Rattle.hex.specs.Hex.{decode_of}
use Rattle.hex.specs.declared.error.FromHexError.{FromHexError}
use Rattle.mold_devices.specs.Devices.{one_more}
use Rattle.mold_devices.specs.Lines.{lines_of}
use Rattle.mold_input.specs.LongLines.{GivesStart}
use Rattle.mold_input.specs.PacketLines.{bytes_content, content, digits_content, empty, not_hex}
use Rattle.mold_wire.specs.Reading.{reading}
use Rattle.mold_wire.specs.declared.error.DecodeError.{DecodeError}
use Rattle.mold_wire.specs.declared.packet.Packet.{Packet}
use Rattle.mold_check.specs.Checking.{Checking, all_taken, judged_after, judged_digits, taken}
use Rattle.mold_check.specs.Judge.{Judging, JudgesByFault}
use Rattle.mold_check.proofs.LineLemmas.{TakenSoFar, taken_all, taken_more}

-- Two datagrams, given their readings.
added_content : {S : Type 0} (judging : Judging S) → JudgesByFault judging → (judge : S) (number : ℕ)
    (one other : List ℕ) (is so : Result Packet DecodeError) → reading one ≡ is → reading other ≡ so →
    bytes_content one is ≡ bytes_content other so → judging.added judge number one ≡ judging.added judge number other
added_content judging law judge number one other (Ok packet) (Ok another) is so same =
    let e : one ≡ other = cc in ap (judging.added judge number) e
added_content judging law judge number one other (Ok packet) (Err fault) is so same = absurd (cc)
added_content judging law judge number one other (Err fault) (Ok packet) is so same = absurd (cc)
added_content judging law judge number one other (Err fault) (Err another) is so same =
    law judge number one other fault is (cc)

-- A line that is hexadecimal.
is_hex : (bytes : List ℕ) (read : Result Packet DecodeError) → bytes_content bytes read ≡ not_hex → ⊥
is_hex bytes (Ok packet) is = cc
is_hex bytes (Err fault) is = cc

-- A line that is not empty.
not_empty : (digits : Result (List ℕ) FromHexError) → digits_content digits ≡ empty → ⊥
not_empty (Ok bytes) is = holds (reading bytes) is
  where
    holds : (read : Result Packet DecodeError) → bytes_content bytes read ≡ empty → ⊥
    holds (Ok packet) is = cc
    holds (Err fault) is = cc
not_empty (Err error) is = cc

-- Two lines, given their decoded bytes.
digits_same : {S : Type 0} (judging : Judging S) → JudgesByFault judging → (judge : S) (number : ℕ)
    (one other : Result (List ℕ) FromHexError) → digits_content one ≡ digits_content other →
    judged_digits judging judge number one ≡ judged_digits judging judge number other
digits_same {S} judging law judge number (Ok one) (Ok other) same =
    ap (λ (s : S). (s, None))
    (added_content judging law judge number one other (reading one) (reading other) refl refl same)
digits_same judging law judge number (Ok one) (Err error) same = absurd (is_hex one (reading one) same)
digits_same judging law judge number (Err error) (Ok other) same = absurd (is_hex other (reading other) (sym same))
digits_same judging law judge number (Err error) (Err another) same = refl

-- The same of a check that may have ended.
after_same : {S : Type 0} (judging : Judging S) → JudgesByFault judging → (judge : S) (before : Option ℕ)
    (decided : Bool) (number : ℕ) (one other : List ℕ) →
    digits_content (decode_of one) ≡ digits_content (decode_of other) →
    judged_after judging judge before decided number one ≡ judged_after judging judge before decided number other
after_same judging law judge (Some line) decided number one other same = refl
after_same judging law judge None true number one other same = refl
after_same judging law judge None false number one other same =
    digits_same judging law judge number (decode_of one) (decode_of other) same

-- The whole lines.
pub taken_content : {S : Type 0} (judging : Judging S) → JudgesByFault judging → (s : Checking S)
    (line whole : List ℕ) → content line ≡ content whole → taken judging s line ≡ taken judging s whole
unfolding content taken
taken_content judging law s [] [] same = refl
taken_content judging law s [] (byte ∷ bytes) same = absurd (not_empty (decode_of (byte ∷ bytes)) (sym same))
taken_content judging law s (byte ∷ bytes) [] same = absurd (not_empty (decode_of (byte ∷ bytes)) same)
taken_content {S} judging law s (byte ∷ bytes) (other ∷ others) same =
    ap (λ (judged : S × Option ℕ). record {
      next = one_more s.next;
      datagrams = one_more s.datagrams;
      judge = judged.0;
      not_hex = judged.1;
    })
    (after_same judging law s.judge s.not_hex (judging.decided s.judge) s.next (byte ∷ bytes) (other ∷ others) same)

-- ---- lines of which only a part was kept

-- One more line was taken.
pub start_more : {S : Type 0} (judging : Judging S) → JudgesByFault judging → (start now next : Checking S)
    (known left rest : Option (List ℕ)) (line : List ℕ) → TakenSoFar judging start now known left →
    GivesStart content left rest true line → next ≡ taken judging now line → TakenSoFar judging start next known rest
start_more judging law start now next known left rest line so gives is =
    taken_more judging start now next known left rest gives.whole so gives.gives
    (is ∙ taken_content judging law now line gives.whole gives.same)

-- All lines were taken.
pub start_all : {S : Type 0} (judging : Judging S) (start now : Checking S) (known left rest : Option (List ℕ))
    (line : List ℕ) → TakenSoFar judging start now known left → GivesStart content left rest false line →
    IfSome known (λ input. now ≡ all_taken judging start (lines_of input))
start_all judging start now known left rest line so gives =
    taken_all judging start now known left rest gives.whole so gives.gives
