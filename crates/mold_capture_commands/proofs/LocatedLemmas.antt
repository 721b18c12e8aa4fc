-- A check that knows where the refused datagram is, frame by frame.
use Rattle.std.proofs.Common.{◌≡◌, ◌∙◌, ℕ, List, [], ◌∷◌, ◌++◌, refl, sym, ap, append_assoc, append-nil}
use Rattle.std.specs.Prelude.{Option, None, Some, IfSome}
use Rattle.std.specs.Io.KnownBytes.{prepend_known}
use Rattle.mold_check.specs.Judge.{Judging}
use Rattle.mold_pcap.specs.Captures.{Frame, capture_of, captured}
use Rattle.mold_pcap.specs.Formats.{FormatState, at_start}
use Rattle.mold_pcap.specs.Reading.{GivesEnd, GivesFrame}
use Rattle.mold_pcap.specs.declared.fault.CaptureFault.{CaptureFault}
use Rattle.mold_capture_commands.specs.RefusedAt.{LocatedState, LocatesPart, all_located, frame_located}
use Rattle.mold_capture_commands.specs.declared.filter.CaptureFilter.{CaptureFilter}

-- The frames so far were taken, and the rest of them follow.
pub record TakenOf {S : Type 0} (judging : Judging S) (filter : CaptureFilter) (start now : LocatedState S)
    (whole rest : List Frame) : Type 0 where
  pub list : List Frame
  pub parts : whole ≡ list ++ rest
  pub taken : now ≡ all_located judging filter start list

-- The same for a capture, if it is known.
abbrev pub TakenSoFar : {S : Type 0} → Judging S → CaptureFilter → LocatedState S → LocatedState S → Option (List ℕ) →
    FormatState → Option (List ℕ) → Type 0
TakenSoFar judging filter start now None format left = Unit {0}
TakenSoFar judging filter start now (Some input) format None = ⊥
TakenSoFar judging filter start now (Some input) format (Some left) =
    TakenOf judging filter start now (capture_of input).frames (captured format left).frames
    × ((capture_of input).fault ≡ (captured format left).fault)

-- No frame was taken.
pub taken_none : {S : Type 0} (judging : Judging S) (filter : CaptureFilter) (start : LocatedState S)
    (known : Option (List ℕ)) (format : FormatState) (rest : List ℕ) → format ≡ at_start → rest ≡ [] →
    TakenSoFar judging filter start start known format (prepend_known rest known)
unfolding all_located
taken_none judging filter start None format rest is none = tt
taken_none judging filter start (Some input) format rest is none = (
  record {
    list = [];
    parts =
        ap (λ (b : List ℕ). (captured at_start b).frames) (ap (λ (r : List ℕ). r ++ input) (sym none))
        ∙ ap (λ (f : FormatState). (captured f (rest ++ input)).frames) (sym is);
    taken = refl;
  },
  ap (λ (b : List ℕ). (captured at_start b).fault) (ap (λ (r : List ℕ). r ++ input) (sym none))
      ∙ ap (λ (f : FormatState). (captured f (rest ++ input)).fault) (sym is),
)

located_append : {S : Type 0} (judging : Judging S) (filter : CaptureFilter) (s : LocatedState S) (list more : List Frame) →
    all_located judging filter s (list ++ more) ≡ all_located judging filter (all_located judging filter s list) more
unfolding all_located
located_append judging filter s [] more = refl
located_append judging filter s (first ∷ list) more =
    located_append judging filter (frame_located judging filter s first) list more

-- One more frame was taken.
pub taken_more : {S : Type 0} (judging : Judging S) (filter : CaptureFilter) (start now next : LocatedState S)
    (known left behind : Option (List ℕ)) (format later : FormatState) (frame : Frame) →
    TakenSoFar judging filter start now known format left → GivesFrame format left frame later behind →
    next ≡ frame_located judging filter now frame →
    TakenSoFar judging filter start next known later behind
unfolding all_located
taken_more judging filter start now next None left behind format later frame so gives is = tt
taken_more judging filter start now next (Some input) None behind format later frame so gives is = absurd so
taken_more judging filter start now next (Some input) (Some xs) None format later frame so gives is = absurd gives
taken_more {S} judging filter start now next (Some input) (Some xs) (Some ys) format later frame so gives is = (
  record {
    list = so.0.list ++ (frame ∷ []);
    parts =
        so.0.parts
        ∙ ap (λ c. so.0.list ++ c.frames) gives
        ∙ sym (append_assoc so.0.list (frame ∷ []) (captured later ys).frames);
    taken =
        is
        ∙ ap (λ (s : LocatedState S). frame_located judging filter s frame) so.0.taken
        ∙ sym (located_append judging filter start so.0.list (frame ∷ []));
  },
  so.1 ∙ ap (λ c. c.fault) gives,
)

-- All frames were taken.
pub taken_all : {S : Type 0} (judging : Judging S) (filter : CaptureFilter) (start now : LocatedState S)
    (known left : Option (List ℕ)) (format : FormatState) (fault : Option CaptureFault) →
    TakenSoFar judging filter start now known format left → GivesEnd format left fault →
    IfSome known (λ input. (now ≡ all_located judging filter start (capture_of input).frames)
    × (fault ≡ (capture_of input).fault))
taken_all judging filter start now None left format fault so gives = tt
taken_all judging filter start now (Some input) None format fault so gives = absurd so
taken_all judging filter start now (Some input) (Some xs) format fault so gives = (
  so.0.taken
      ∙ ap (all_located judging filter start)
      (sym (so.0.parts ∙ ap (λ c. so.0.list ++ c.frames) gives ∙ append-nil so.0.list)),
  sym (so.1 ∙ ap (λ c. c.fault) gives),
)

-- The frames so far were taken, and a read failed.
pub taken_part : {S : Type 0} (judging : Judging S) (filter : CaptureFilter) (start now : LocatedState S)
    (known left : Option (List ℕ)) (format : FormatState) → TakenSoFar judging filter start now known format left →
    IfSome known (λ input. LocatesPart judging filter start now (capture_of input).frames)
taken_part judging filter start now None left format so = tt
taken_part judging filter start now (Some input) None format so = absurd so
taken_part judging filter start now (Some input) (Some xs) format so = record {
  list = so.0.list;
  rest = (captured format xs).frames;
  parts = so.0.parts;
  taken = so.0.taken;
}
