-- The destinations of the datagrams, one by one.
use Rattle.std.proofs.Common.{◌≡◌, ◌∙◌, ℕ, zero, suc, Bool, true, false, cond, List, [], ◌∷◌, Option, None, Some, refl, sym, ap}
use Rattle.std.specs.Prelude.{is_some, slice_index_or}
use Rattle.mold_capture.specs.Outcome.{Outcome, whole, incomplete, refused}
use Rattle.mold_capture.specs.Refusal.{refusal}
use Rattle.mold_capture.specs.Seen.{Seen, after, seen_of}
use Rattle.mold_capture.specs.Verdict.{missing_in}
use Rattle.mold_check.specs.CheckLines.{index_raised, outcome_at, outcome_from, outcome_or}
use Rattle.mold_check.specs.EachCheck.{EachState, each_judging}
use Rattle.mold_check.specs.Judgement.{Judgement, datagram_judging, judged_as}
use Rattle.mold_check.specs.declared.refused_datagram.RefusedDatagram.{RefusedDatagram}
use Rattle.mold_devices.specs.Devices.{one_more}
use Rattle.mold_frame.specs.Carried.{Datagram}
use Rattle.mold_rule.specs.declared.refusal.Refusal.{Refusal}
use Rattle.mold_capture_commands.specs.Captures.{captures_refuse_other, destinations, founds_of, payloads, refuses_other}
use Rattle.mold_capture_commands.specs.Checking.{CaptureFile, all_files_taken, no_captures}
use Rattle.mold_capture_commands.specs.FrameChecking.{all_taken, beginning, taken}
use Rattle.mold_capture_commands.specs.Counts.{counted}
use Rattle.mold_capture_commands.specs.Filter.{Found, Passed, Skipped, Partial, Unread}
use Rattle.mold_capture_commands.specs.Targets.{Destination, TargetState, aimed, destination_of, differ, first_or}
use Rattle.mold_capture_commands.specs.declared.counts.CaptureCounts.{CaptureCounts}
use Rattle.mold_capture_commands.specs.declared.filter.CaptureFilter.{CaptureFilter}
use Rattle.mold_capture_commands.specs.declared.frame_check.FrameCheck.{FrameCheck}
use Rattle.mold_capture_commands.proofs.CheckLemmas.{frames_are}

-- After a refusal the destinations stay.
stays : (counts : CaptureCounts) (seen : Seen) (datagram : RefusedDatagram) (targets : TargetState) (list : List Found) →
    (all_taken datagram_judging
    (record { counts = counts; judge = record { seen = seen; refused = Some datagram }; targets = targets }) list).targets
    ≡ targets
unfolding all_taken
stays counts seen datagram targets [] = refl
stays counts seen datagram targets (Passed d ∷ list) = stays (counted counts (Passed d)) seen datagram targets list
stays counts seen datagram targets (Skipped ∷ list) = stays (counted counts Skipped) seen datagram targets list
stays counts seen datagram targets (Partial ∷ list) = stays (counted counts Partial) seen datagram targets list
stays counts seen datagram targets (Unread ∷ list) = stays (counted counts Unread) seen datagram targets list

-- Whether the refused datagram has another destination than the first one, which may precede the list.
abbrev refuses_from : Option Destination → List Destination → Outcome → Bool
refuses_from None list outcome = refuses_other list outcome
refuses_from (Some first) list (whole messages) = false
refuses_from (Some first) list (incomplete missing end) = false
refuses_from (Some first) list (refused index why) = differ first (slice_index_or list index first)

-- The first datagram is accepted.
raised : (first : Option Destination) (this : Destination) (list : List Destination) (outcome : Outcome) →
    refuses_from (Some (first_or first this)) list outcome ≡ refuses_from first (this ∷ list) (index_raised outcome)
raised None this list (whole messages) = refl
raised None this list (incomplete missing end) = refl
raised None this list (refused index why) = refl
raised (Some first) this list (whole messages) = refl
raised (Some first) this list (incomplete missing end) = refl
raised (Some first) this list (refused index why) = refl

-- No datagram is left.
none_left : (first : Option Destination) (seen : Seen) (end : Option ℕ) → refuses_from first [] (outcome_at seen end) ≡ false
none_left None seen end = refl
none_left (Some first) seen None = refl
none_left (Some first) seen (Some zero) = refl
none_left (Some first) seen (Some (suc messages)) = by_count _
  where
    by_count : (b : Bool) →
        refuses_from (Some first) [] (cond b (whole messages) (incomplete (missing_in seen) (Some (suc messages)))) ≡ false
    by_count true = refl
    by_count false = refl

-- The first datagram is refused, or the others count.
next_is : (counts : CaptureCounts) (seen : Seen) (first : Option Destination) (d : Datagram) (list : List Found)
    (why : Option Refusal) →
    ((later : Option Destination) →
    (all_taken datagram_judging (record {
      counts = counted counts (Passed d);
      judge = record { seen = after seen d.payload; refused = None };
      targets = record { first = later; other = false };
    }) list).targets.other
    ≡ refuses_from later (destinations list) (outcome_from (after seen d.payload) (payloads list)))
    → (all_taken datagram_judging (record {
      counts = counted counts (Passed d);
      judge = judged_as seen (one_more counts.datagrams) d.payload why;
      targets =
          aimed (record { first = first; other = false }) false
          (is_some (judged_as seen (one_more counts.datagrams) d.payload why).refused) (destination_of d);
    }) list).targets.other
    ≡ refuses_from first (destination_of d ∷ destinations list)
    (outcome_or why (outcome_from (after seen d.payload) (payloads list)))
next_is counts seen None d list (Some why) others =
    ap (λ (t : TargetState). t.other)
    (stays (counted counts (Passed d)) seen (record { number = one_more counts.datagrams; why = why })
    (record { first = None; other = false }) list)
next_is counts seen (Some first) d list (Some why) others =
    ap (λ (t : TargetState). t.other)
    (stays (counted counts (Passed d)) seen (record { number = one_more counts.datagrams; why = why })
    (record { first = Some first; other = differ first (destination_of d) }) list)
next_is counts seen first d list None others =
    others (Some (first_or first (destination_of d)))
    ∙ raised first (destination_of d) (destinations list) (outcome_from (after seen d.payload) (payloads list))

other_is : (counts : CaptureCounts) (seen : Seen) (first : Option Destination) (list : List Found) →
    (all_taken datagram_judging (record {
      counts = counts;
      judge = record { seen = seen; refused = None };
      targets = record { first = first; other = false };
    }) list).targets.other
    ≡ refuses_from first (destinations list) (outcome_from seen (payloads list))
unfolding all_taken destinations payloads outcome_from
other_is counts seen first [] = sym (none_left first seen seen.ended)
other_is counts seen first (Passed d ∷ list) =
    next_is counts seen first d list (refusal seen d.payload)
    (λ later. other_is (counted counts (Passed d)) (after seen d.payload) later list)
other_is counts seen first (Skipped ∷ list) = other_is (counted counts Skipped) seen first list
other_is counts seen first (Partial ∷ list) = other_is (counted counts Partial) seen first list
other_is counts seen first (Unread ∷ list) = other_is (counted counts Unread) seen first list

pub other_target_is : (filter : CaptureFilter) (files : List CaptureFile) →
    (all_files_taken datagram_judging filter (no_captures datagram_judging) files).targets.other
    ≡ captures_refuse_other filter files
other_target_is filter files =
    ap (λ (f : FrameCheck Judgement). f.targets.other) (frames_are datagram_judging filter (no_captures datagram_judging) files)
    ∙ other_is (beginning datagram_judging.begins).counts (seen_of []) None (founds_of filter files)

-- ---- each session by itself

abbrev State : Type 0
State = EachState Judgement

-- No judge of several sessions has decided, so no datagram counts as one with another destination.
none_other : (s : FrameCheck State) (list : List Found) →
    (all_taken (each_judging datagram_judging) s list).targets.other ≡ s.targets.other
unfolding all_taken
none_other s [] = refl
none_other s (Passed d ∷ list) = none_other (taken (each_judging datagram_judging) s (Passed d)) list
none_other s (Skipped ∷ list) = none_other (taken (each_judging datagram_judging) s Skipped) list
none_other s (Partial ∷ list) = none_other (taken (each_judging datagram_judging) s Partial) list
none_other s (Unread ∷ list) = none_other (taken (each_judging datagram_judging) s Unread) list

pub each_other_is : (filter : CaptureFilter) (files : List CaptureFile) →
    (all_files_taken (each_judging datagram_judging) filter (no_captures (each_judging datagram_judging)) files).targets.other
    ≡ false
each_other_is filter files =
    let judging = each_judging datagram_judging in
    ap (λ (f : FrameCheck State). f.targets.other) (frames_are judging filter (no_captures judging) files)
    ∙ none_other (beginning judging.begins) (founds_of filter files)
