-- What a capture has, part by part.
use Rattle.std.proofs.Common.{◌≡◌, ℕ, zero, suc, ◌+◌, ◌<◌, ◌≤◌, true, false, ltb, eqb, List, [], ◌∷◌, ◌++◌, length}
use Rattle.std.proofs.Common.{length-drop, take, drop, Option, None, Some, refl, sym, ap, subst, ◌∙◌, append-nil}
use Rattle.std.proofs.Common.{arith}
use Rattle.std.proofs.lemmas.Bool.{cond-true, cond-false}
use Rattle.std.proofs.lemmas.List.{drop-append-le, take-append-le}
use Rattle.std.proofs.lemmas.Bool.Decides.{nat_tests}
use Rattle.std.specs.Prelude.{◌≢◌}
use Rattle.std.specs.Io.KnownBytes.{IsAtEnd, Keeps, prepend_known}
use Rattle.mold_pcap.specs.Blocks.{block_at}
use Rattle.mold_pcap.specs.Captures.{Capture, Frame, after_frame, captured, captured_by, captured_in, frame_at, is_nil}
use Rattle.mold_pcap.specs.Captures.{no_frames, other_block}
use Rattle.mold_pcap.specs.Classic.{record_at}
use Rattle.mold_pcap.specs.Formats.{FormatState, ends, moved_format, passed_format}
use Rattle.mold_pcap.specs.Looks.{IsLook, format_after, look, look_by, start_at, used_by}
use Rattle.mold_pcap.specs.Passing.{PassesBlock, end_length}
use Rattle.mold_pcap.specs.Reading.{GivesEnd, GivesFault, GivesFrame, Leads}
use Rattle.mold_pcap.specs.Windows.{IsShort}
use Rattle.mold_pcap.specs.declared.fault.CaptureError.{CaptureError}
use Rattle.mold_pcap.specs.declared.fault.CaptureError.TheVariants.{Read, Fault}
use Rattle.mold_pcap.specs.declared.fault.CaptureFault.{CaptureFault}
use Rattle.mold_pcap.specs.declared.fault.CaptureFault.TheVariants.{BadBlock, Cut}
use Rattle.mold_pcap.specs.declared.interface.Interface.{Interface}
use Rattle.mold_pcap.specs.declared.kind.Kind.{Kind}
use Rattle.mold_pcap.specs.declared.kind.Kind.TheVariants.{Start, Classic, Blocks, Spent}
use Rattle.mold_pcap.specs.declared.look.Look.{Look}
use Rattle.mold_pcap.specs.declared.look.Look.TheVariants.{Short, Refused, Ended, Passed, Other, Framed}
use Rattle.mold_pcap.specs.declared.next.Next.{Next}
use Rattle.mold_pcap.specs.declared.place.Place.{Place}
use Rattle.mold_pcap.specs.declared.order.Order.{Order}
use Rattle.mold_pcap.specs.declared.passing.Passing.TheVariants as passing
use Rattle.mold_pcap.proofs.LookLemmas.{IsSound, is_look, look_sound}

-- Without bytes there is no frame.
nil_by : (kind : Kind) (order : Order) (at : ℕ) (interfaces : List Interface) (later : Capture) →
    captured_by (record { kind = kind; order = order; at = at; interfaces = interfaces }) []
    (look (record { kind = kind; order = order; at = at; interfaces = interfaces }) []) later
    ≡ no_frames (ends kind at true)
unfolding look start_at record_at block_at
nil_by Start order at interfaces later = refl
nil_by (Classic link resolution) order at interfaces later = refl
nil_by Blocks order at interfaces later = refl
nil_by Spent order at interfaces later = refl

-- What comes after a part counts only if the part has bytes.
same_by : (format : FormatState) (bytes : List ℕ) (part : Look) (one other : Capture) → IsLook part bytes →
    (0 < used_by part → one ≡ other) → captured_by format bytes part one ≡ captured_by format bytes part other
same_by format bytes (Short need) one other is same = refl
same_by format bytes (Refused why) one other is same = refl
same_by format bytes Ended one other is same = refl
same_by format bytes (Passed next used) one other is same = same is.0
same_by format bytes (Other total) one other is same = ap (other_block format total bytes) (same (omega (arith, is)))
same_by format bytes (Framed place used) one other is same = ap (after_frame (frame_at place bytes)) (same is.0)

-- More steps than there are bytes change nothing.
same_steps : (n m : ℕ) (format : FormatState) (bytes : List ℕ) → length bytes ≤ n → length bytes ≤ m →
    captured_in n format bytes ≡ captured_in m format bytes
same_steps zero zero format bytes first second = refl
same_steps zero (suc m) format [] first second = sym (nil_by format.kind format.order format.at format.interfaces
    (captured_in m (format_after format (look format [])) (drop (used_by (look format [])) [])))
same_steps zero (suc m) format (byte ∷ bytes) first second = absurd (omega arith)
same_steps (suc n) zero format [] first second = nil_by format.kind format.order format.at format.interfaces
    (captured_in n (format_after format (look format [])) (drop (used_by (look format [])) []))
same_steps (suc n) zero format (byte ∷ bytes) first second = absurd (omega arith)
same_steps (suc n) (suc m) format bytes first second =
    let part = look format bytes in
    let used = used_by part in
    same_by format bytes part (captured_in n (format_after format part) (drop used bytes))
    (captured_in m (format_after format part) (drop used bytes)) (is_look format bytes)
    (λ some.
    let long = length-drop used bytes in
    same_steps n m (format_after format part) (drop used bytes) (omega (arith, long, some)) (omega (arith, long, some)))

-- At the end of a capture.
pub captured_nil : (format : FormatState) → captured format [] ≡ no_frames (ends format.kind format.at true)
unfolding captured
captured_nil format = refl

-- What a capture has is in its first part, and in those after it.
pub captured_step : (format : FormatState) (bytes : List ℕ) →
    captured format bytes ≡ captured_by format bytes (look format bytes)
    (captured (format_after format (look format bytes)) (drop (used_by (look format bytes)) bytes))
unfolding captured
captured_step format bytes =
    let part = look format bytes in
    let rest = drop (used_by part) bytes in
    same_steps (length bytes) (suc (length bytes)) format bytes (omega arith) (omega arith)
    ∙ ap (captured_by format bytes part) (same_steps (length bytes) (length rest) (format_after format part) rest
    (omega (arith, length-drop (used_by part) bytes)) (omega arith))

pub step_is : (format : FormatState) (bytes : List ℕ) (part : Look) → look format bytes ≡ part →
    captured format bytes ≡ captured_by format bytes part
    (captured (format_after format part) (drop (used_by part) bytes))
step_is format bytes part is = captured_step format bytes
    ∙ ap (λ (l : Look). captured_by format bytes l (captured (format_after format l) (drop (used_by l) bytes))) is

-- ---- a part of which the window has enough

sound_at : (format : FormatState) (xs ys : List ℕ) (part : Look) → look format xs ≡ part →
    IsSound part (look format (xs ++ ys)) (length xs) (length (xs ++ ys))
sound_at format xs ys part is =
    subst (λ (l : Look). IsSound l (look format (xs ++ ys)) (length xs) (length (xs
    ++ ys))) is (look_sound xs ys format)

pub leads_passed : (format : FormatState) (xs : List ℕ) (left : Option (List ℕ)) (next : Next) (used : ℕ) →
    look format xs ≡ Passed next used →
    Leads format (prepend_known xs left) (passed_format format next used) (prepend_known (drop used xs) left)
leads_passed format xs None next used is = tt
leads_passed format xs (Some ys) next used is =
    let sound = sound_at format xs ys (Passed next used) is in
    step_is format (xs ++ ys) (Passed next used) sound.0
    ∙ ap (captured (passed_format format next used)) (drop-append-le used xs ys sound.2)

-- A frame does not depend on the bytes after it.
pub same_frame : (place : Place) (xs ys : List ℕ) → place.start + place.len ≤ length xs →
    frame_at place (xs ++ ys) ≡ frame_at place xs
same_frame place xs ys within =
    let same : take place.len (drop place.start (xs ++ ys)) ≡ take place.len (drop place.start xs) =
    ap (take place.len) (drop-append-le place.start xs ys (omega arith))
    ∙ take-append-le place.len (drop place.start xs) ys (omega (arith, length-drop place.start xs))
    in
    rw same refl

pub gives_framed : (format : FormatState) (xs : List ℕ) (left : Option (List ℕ)) (place : Place) (used : ℕ) →
    look format xs ≡ Framed place used →
    GivesFrame format (prepend_known xs left) (frame_at place xs) (moved_format format used) (prepend_known
    (drop used xs) left)
gives_framed format xs None place used is = tt
gives_framed format xs (Some ys) place used is =
    let sound = sound_at format xs ys (Framed place used) is in
    let later = moved_format format used in
    step_is format (xs ++ ys) (Framed place used) sound.0
    ∙ ap (after_frame (frame_at place (xs ++ ys))) (ap (captured later) (drop-append-le used xs ys sound.2))
    ∙ ap (λ (frame : Frame). after_frame frame (captured later (drop used xs ++ ys)))
    (same_frame place xs ys (omega (arith, sound.2, sound.3)))

pub gives_refused : (format : FormatState) (xs : List ℕ) (left : Option (List ℕ)) (why : CaptureFault) →
    look format xs ≡ Refused why → GivesEnd format (prepend_known xs left) (Some why)
gives_refused format xs None why is = tt
gives_refused format xs (Some ys) why is =
    step_is format (xs ++ ys) (Refused why) (sound_at format xs ys (Refused why) is)

pub gives_ended : (format : FormatState) (xs : List ℕ) (left : Option (List ℕ)) →
    look format xs ≡ Ended → GivesEnd format (prepend_known xs left) None
gives_ended format xs None is = tt
gives_ended format xs (Some ys) is = step_is format (xs ++ ys) Ended (sound_at format xs ys Ended is)

-- ---- a part that is not there whole

-- The source has ended, and the window has too few bytes for the part.
pub gives_short : (format : FormatState) (xs bytes : List ℕ) (left later : Option (List ℕ)) (need : ℕ) →
    look format xs ≡ Short need → Keeps (prepend_known xs left) (prepend_known bytes later) → length bytes < need →
    IsAtEnd later → GivesEnd format (prepend_known xs left) (ends format.kind format.at (is_nil bytes))
gives_short format xs bytes None later need is kept short ended = tt
gives_short format xs bytes (Some ys) None need is kept short ended = absurd kept
gives_short format xs bytes (Some ys) (Some zs) need is kept short ended =
    let same : bytes ≡ xs ++ ys = sym (append-nil bytes) ∙ ap (λ (t : List ℕ). bytes ++ t) (sym ended) ∙ kept in
    let sound = sound_at format xs ys (Short need) is in
    step_is format (xs ++ ys) (Short need) (sound.2 (omega (arith, ap (λ (t : List ℕ). length t) same, short)))
    ∙ ap (λ (t : List ℕ). no_frames (ends format.kind format.at (is_nil t))) (sym same)

-- ---- a block of another kind

other_is : (format : FormatState) (xs ys : List ℕ) (total : ℕ) → look format xs ≡ Other total →
    captured format (xs ++ ys) ≡ other_block format total (xs ++ ys)
    (captured (moved_format format total) (drop total (xs ++ ys)))
other_is format xs ys total is = step_is format (xs ++ ys) (Other total) (sound_at format xs ys (Other total) is).0

pub other_whole : (format : FormatState) (total : ℕ) (bytes : List ℕ) (later : Capture) → total ≤ length bytes →
    end_length format.order total bytes ≡ total → other_block format total bytes later ≡ later
other_whole format total bytes later long is =
    let enough : ltb (length bytes) total ≡ false = grind (arith, nat_tests) in
    let same : eqb (end_length format.order total bytes) total ≡ true = grind (arith, nat_tests) in
    cond-false (ltb (length bytes) total) _ _ enough ∙ cond-true (eqb
    (end_length format.order total bytes) total) _ _ same

pub other_differs : (format : FormatState) (total : ℕ) (bytes : List ℕ) (later : Capture) → total ≤ length bytes →
    end_length format.order total bytes ≢ total → other_block format total bytes later
    ≡ no_frames (Some (BadBlock format.at))
other_differs format total bytes later long is =
    let enough : ltb (length bytes) total ≡ false = grind (arith, nat_tests) in
    let other : eqb (end_length format.order total bytes) total ≡ false = grind (arith, nat_tests) in
    cond-false (ltb (length bytes) total) _ _ enough ∙ cond-false (eqb
    (end_length format.order total bytes) total) _ _ other

pub other_cut : (format : FormatState) (total : ℕ) (bytes : List ℕ) (later : Capture) → length bytes < total →
    other_block format total bytes later ≡ no_frames (Some (Cut format.at))
other_cut format total bytes later short =
    let few : ltb (length bytes) total ≡ true = grind (arith, nat_tests) in
    cond-true (ltb (length bytes) total) _ _ few

pub leads_other : (format : FormatState) (xs : List ℕ) (known left : Option (List ℕ)) (total : ℕ) →
    look format xs ≡ Other total →
    PassesBlock format.order total passing.Whole (prepend_known xs known) left →
    Leads format (prepend_known xs known) (moved_format format total) left
leads_other format xs None left total is passed = tt
leads_other format xs (Some ys) None total is passed = absurd passed.0
leads_other format xs (Some ys) (Some zs) total is passed =
    other_is format xs ys total is
    ∙ other_whole format total (xs ++ ys) (captured (moved_format format total) (drop total (xs
    ++ ys))) passed.0.0 passed.1
    ∙ ap (captured (moved_format format total)) (sym passed.0.1)

pub cut_other : (format : FormatState) (xs : List ℕ) (known : Option (List ℕ)) (total : ℕ) → look format xs
    ≡ Other total →
    IsShort total (prepend_known xs known) → GivesEnd format (prepend_known xs known) (Some (Cut format.at))
cut_other format xs None total is short = tt
cut_other format xs (Some ys) total is short =
    other_is format xs ys total is
    ∙ other_cut format total (xs ++ ys) (captured (moved_format format total) (drop total (xs ++ ys))) short

pub bad_other : (format : FormatState) (xs : List ℕ) (known left : Option (List ℕ)) (total : ℕ) →
    look format xs ≡ Other total → PassesBlock format.order total passing.Differs (prepend_known xs known) left →
    GivesEnd format (prepend_known xs known) (Some (BadBlock format.at))
bad_other format xs None left total is differs = tt
bad_other format xs (Some ys) left total is differs =
    other_is format xs ys total is
    ∙ other_differs format total (xs ++ ys) (captured (moved_format format total) (drop total (xs
    ++ ys))) differs.0 differs.1

-- ---- one part after another

pub leads_kept : (format : FormatState) (known left : Option (List ℕ)) → Keeps known left →
    Leads format known format left
leads_kept format None left kept = tt
leads_kept format (Some xs) None kept = absurd kept
leads_kept format (Some xs) (Some ys) kept = ap (captured format) (sym kept)

pub leads_same : (format : FormatState) (known : Option (List ℕ)) → Leads format known format known
leads_same format None = tt
leads_same format (Some xs) = refl

pub leads_on : (one two three : FormatState) (known mid left : Option (List ℕ)) → Leads one known two mid →
    Leads two mid three left → Leads one known three left
leads_on one two three None mid left first second = tt
leads_on one two three (Some xs) None left first second = absurd first
leads_on one two three (Some xs) (Some ys) None first second = absurd second
leads_on one two three (Some xs) (Some ys) (Some zs) first second = first ∙ second

pub leads_frame : (one two three : FormatState) (known mid left : Option (List ℕ)) (frame : Frame) →
    Leads one known two mid → GivesFrame two mid frame three left → GivesFrame one known frame three left
leads_frame one two three None mid left frame first second = tt
leads_frame one two three (Some xs) None left frame first second = absurd first
leads_frame one two three (Some xs) (Some ys) None frame first second = absurd second
leads_frame one two three (Some xs) (Some ys) (Some zs) frame first second = first ∙ second

pub leads_end : (one two : FormatState) (known mid : Option (List ℕ)) (fault : Option CaptureFault) →
    Leads one known two mid → GivesEnd two mid fault → GivesEnd one known fault
leads_end one two None mid fault first second = tt
leads_end one two (Some xs) None fault first second = absurd first
leads_end one two (Some xs) (Some ys) fault first second = first ∙ second

pub leads_fault : (one two : FormatState) (known mid : Option (List ℕ)) (error : CaptureError) →
    Leads one known two mid → GivesFault two mid error → GivesFault one known error
leads_fault one two known mid Read first second = tt
leads_fault one two known mid (Fault why) first second = leads_end one two known mid (Some why) first second

-- ---- what a part needs

pub need_of : (format : FormatState) (bytes : List ℕ) (need : ℕ) → look format bytes ≡ Short need →
    (length bytes < need) × (need ≤ 327680)
need_of format bytes need is = subst (λ (l : Look). IsLook l bytes) is (is_look format bytes)

pub total_of : (format : FormatState) (bytes : List ℕ) (total : ℕ) → look format bytes ≡ Other total → 12 ≤ total
total_of format bytes total is = subst (λ (l : Look). IsLook l bytes) is (is_look format bytes)

-- No bytes are there exactly when their number is 0.
pub nil_is : (bytes : List ℕ) → is_nil bytes ≡ eqb (length bytes) 0
nil_is [] = refl
nil_is (byte ∷ bytes) = let some : eqb (suc (length bytes)) 0 ≡ false = grind (arith, nat_tests) in sym some

-- ---- the end

spent_look : (format : FormatState) (bytes : List ℕ) → format.kind ≡ Spent → look format bytes ≡ Ended
unfolding look
spent_look format bytes is = ap (λ (kind : Kind). look_by kind format bytes) is

-- A reader that is spent has no further frame.
pub gives_spent : (format : FormatState) (known : Option (List ℕ)) → format.kind ≡ Spent → GivesEnd format known None
gives_spent format None is = tt
gives_spent format (Some bytes) is = step_is format bytes Ended (spent_look format bytes is)
