-- The frames of a capture that was cut.
use Rattle.std.proofs.Common.{ℕ, zero, suc, ◌-◌, ◌<◌, ◌≤◌, List, [], ◌∷◌, ◌++◌, length, length-append, length-drop}
use Rattle.std.proofs.Common.{take, drop, take-append-drop, refl, sym, ap, subst, ◌∙◌, arith}
use Rattle.std.proofs.lemmas.Bool.{cases_eq, cases_lt}
use Rattle.std.proofs.lemmas.List.{drop-append-le}
use Rattle.std.proofs.Common.{inl, inr}
use Rattle.mold_pcap.specs.Captures.{Capture, Frame, after_frame, capture_of, captured, captured_by, frame_at}
use Rattle.mold_pcap.specs.Captures.{other_block}
use Rattle.mold_pcap.specs.Formats.{FormatState, at_start}
use Rattle.mold_pcap.specs.Laws.{IsFront}
use Rattle.mold_pcap.specs.Looks.{format_after, look, used_by}
use Rattle.mold_pcap.specs.Passing.{end_length}
use Rattle.mold_pcap.specs.declared.look.Look.{Look}
use Rattle.mold_pcap.specs.declared.look.Look.TheVariants.{Short, Refused, Ended, Passed, Other, Framed}
use Rattle.mold_pcap.proofs.CaptureLemmas.{captured_step, other_cut, other_differs, other_whole, same_frame}
use Rattle.mold_pcap.proofs.LookLemmas.{IsSound, look_sound, number_in}

-- No frames are the first ones of any.
none_first : (all : List Frame) → IsFront [] all
none_first all = record { later = all; parts = refl }

-- One frame more before both.
frame_first : (frame : Frame) (frames all : List Frame) → IsFront frames all → IsFront (frame ∷ frames) (frame ∷ all)
frame_first frame frames all front = record {
  later = front.later;
  parts = ap (λ (t : List Frame). frame ∷ t) front.parts;
}

-- Both captures go on in the same way after a part that the shorter one has whole.
abbrev Continues : List ℕ → List ℕ → Type 0
Continues xs ys = (later : FormatState) (used : ℕ) → 0 < used → used ≤ length xs →
    IsFront (captured later (drop used xs)).frames (captured later (drop used (xs ++ ys))).frames

-- What a capture has from this part on.
abbrev from_part : FormatState → List ℕ → Look → Capture
from_part format bytes part =
    captured_by format bytes part (captured (format_after format part) (drop (used_by part) bytes))

-- A block of another kind, which the shorter capture has whole.
cut_whole : (format : FormatState) (xs ys : List ℕ) (total : ℕ) (one other : Capture) → 12 ≤ total → total ≤ length xs →
    IsFront one.frames other.frames →
    IsFront (other_block format total xs one).frames (other_block format total (xs ++ ys) other).frames
cut_whole format xs ys total one other some there front =
    let longer = length-append xs ys in
    let last = number_in format.order 4 (total - 4) xs ys (omega (arith, some, there)) in
    elim (cases_eq (end_length format.order total xs) total) [
      | inl same ↦
          subst (λ (c : Capture). IsFront c.frames (other_block format total (xs ++ ys) other).frames)
          (sym (other_whole format total xs one there same))
          (subst (λ (c : Capture). IsFront one.frames c.frames)
          (sym (other_whole format total (xs ++ ys) other (omega (arith, longer, there)) (last ∙ same))) front)
      | inr differs ↦
          subst (λ (c : Capture). IsFront c.frames (other_block format total (xs ++ ys) other).frames)
          (sym (other_differs format total xs one there differs)) (none_first _)
    ]

cut_part : (format : FormatState) (xs ys : List ℕ) (part whole : Look) →
    IsSound part whole (length xs) (length (xs ++ ys)) → Continues xs ys →
    IsFront (from_part format xs part).frames (from_part format (xs ++ ys) whole).frames
cut_part format xs ys (Short need) whole sound goes = none_first _
cut_part format xs ys (Refused why) whole sound goes = none_first _
cut_part format xs ys Ended whole sound goes = none_first _
cut_part format xs ys (Passed next used) whole sound goes =
    subst (λ (l : Look). IsFront (from_part format xs (Passed next used)).frames (from_part format (xs ++ ys) l).frames)
    (sym sound.0) (goes (format_after format (Passed next used)) used sound.1 sound.2)
cut_part format xs ys (Other total) whole sound goes =
    let later = format_after format (Other total) in
    let one = captured later (drop total xs) in
    subst (λ (l : Look). IsFront (from_part format xs (Other total)).frames (from_part format (xs ++ ys) l).frames)
    (sym sound.0)
    (elim (cases_lt (length xs) total) [
      | inl short ↦
          subst (λ (c : Capture). IsFront c.frames (from_part format (xs ++ ys) (Other total)).frames)
          (sym (other_cut format total xs one short)) (none_first _)
      | inr there ↦
          cut_whole format xs ys total one (captured later (drop total (xs ++ ys))) sound.1 there
          (goes later total (omega (arith, sound.1)) there)
    ])
cut_part format xs ys (Framed place used) whole sound goes =
    let later = format_after format (Framed place used) in
    let one = captured later (drop used xs) in
    subst (λ (l : Look). IsFront (from_part format xs (Framed place used)).frames (from_part format (xs
    ++ ys) l).frames)
    (sym sound.0)
    (subst (λ (frame : Frame). IsFront (after_frame (frame_at place xs) one).frames
    (after_frame frame (captured later (drop used (xs ++ ys)))).frames)
    (sym (same_frame place xs ys (omega (arith, sound.2, sound.3))))
    (frame_first (frame_at place xs) one.frames (captured later (drop used (xs ++ ys))).frames
    (goes later used sound.1 sound.2)))

cut_from : (format : FormatState) (xs ys : List ℕ) → Continues xs ys →
    IsFront (captured format xs).frames (captured format (xs ++ ys)).frames
cut_from format xs ys goes =
    subst (λ (c : Capture). IsFront c.frames (captured format (xs ++ ys)).frames) (sym (captured_step format xs))
    (subst (λ (c : Capture). IsFront (from_part format xs (look format xs)).frames c.frames)
    (sym (captured_step format (xs ++ ys)))
    (cut_part format xs ys (look format xs) (look format (xs ++ ys)) (look_sound xs ys format) goes))

cut_in : (n : ℕ) (format : FormatState) (xs ys : List ℕ) → length xs ≤ n →
    IsFront (captured format xs).frames (captured format (xs ++ ys)).frames
cut_in zero format xs ys few = cut_from format xs ys (λ later used some within. absurd (omega arith))
cut_in (suc n) format xs ys few = cut_from format xs ys (λ later used some within.
    subst (λ (rest : List ℕ). IsFront (captured later (drop used xs)).frames (captured later rest).frames)
    (sym (drop-append-le used xs ys within))
    (cut_in n later (drop used xs) ys (omega (arith, length-drop used xs, some))))

-- The frames of a capture that was cut are the first ones of the whole capture.
pub cut_first : (bytes : List ℕ) (n : ℕ) → IsFront (capture_of (take n bytes)).frames (capture_of bytes).frames
cut_first bytes n =
    subst (λ (all : List ℕ). IsFront (capture_of (take n bytes)).frames (capture_of all).frames)
    (take-append-drop n bytes) (cut_in (length (take n bytes)) at_start (take n bytes) (drop n bytes) (omega arith))
