use Rattle.std.proofs.Common.{◌≡◌, ◌∙◌, ◌++◌, List, ℕ, ap, append_assoc, refl, subst}
use Rattle.std.specs.Io.KnownBytes.{Appends}
use Rattle.mold_devices.specs.Devices.{AppendsPrefix}
use Rattle.mold_capture.specs.Verdict.{ranges_of}
use Rattle.mold_check.specs.Report.{incomplete_line, missing_text}
use Rattle.mold_devices.proofs.WritingLemmas.{ends_front, ends_sink, ends_whole}
use Rattle.mold_check.proofs.ReportLemmas.{front_former, keeps_former, keeps_more, kept_on}
use Rattle.mold_check.proofs.report.print_incomplete.Goals as goal

-- The text so far, the first line, and the other lines.
joined : (old mid line more : List ℕ) → mid ≡ old ++ line → mid ++ more ≡ old ++ (line ++ more)
joined old mid line more is = ap (λ t. t ++ more) is ∙ append_assoc old line more

pub returns-in-Err-clause-kept : goal.returns-in-Err-clause-kept
returns-in-Err-clause-kept g c = λ is.
    keeps_former _ _ c.args.text.now.items c.push_incomplete.new.text.items _ (c.len-told.ensures ∙ c.args.text.now.ok.0)
    c.in-Err.ensures.kept (ends_whole c.end_with.ensures.ends is)

pub returns-in-Err-clause-front : goal.returns-in-Err-clause-front
returns-in-Err-clause-front g c =
    front_former _ _ c.args.text.now.items _ c.push_incomplete.new.text.items _ (c.len-told.ensures ∙ c.args.text.now.ok.0)
    c.in-Err.ensures.kept (ends_front c.end_with.ensures.ends)

pub returns-in-Err-clause-failures : goal.returns-in-Err-clause-failures
returns-in-Err-clause-failures g c = ends_sink c.end_with.ensures.ends

pub returns-in_err-send_missing-in-Ok-clause-front : goal.returns-in_err-send_missing-in-Ok-clause-front
returns-in_err-send_missing-in-Ok-clause-front g c =
    let text = joined c.args.text.now.items c.push_incomplete.new.text.items (incomplete_line c.args.end)
    (missing_text (ranges_of c.args.missing.now)) c.in-Ok.ensures.line in
    subst (AppendsPrefix _ _) text c.send_missing.ensures.front

pub returns-in_err-send_missing-in-Ok-clause-kept : goal.returns-in_err-send_missing-in-Ok-clause-kept
returns-in_err-send_missing-in-Ok-clause-kept g c =
    kept_on c.from_residual.result _ _ c.from_residual.ensures
    (λ memory.
    keeps_more _ _ c.args.text.now.items (incomplete_line c.args.end) c.push_incomplete.new.text.items c.in-Ok.ensures.line
    (c.in_err-send_missing-in-Ok.ensures.kept memory))

pub returns-in_ok-send_missing-in-Ok-clause-whole : goal.returns-in_ok-send_missing-in-Ok-clause-whole
returns-in_ok-send_missing-in-Ok-clause-whole g c =
    let text = joined c.args.text.now.items c.push_incomplete.new.text.items (incomplete_line c.args.end)
    (missing_text (ranges_of c.args.missing.now)) c.in-Ok.ensures.line in
    (subst (Appends _ _) text c.in_ok-send_missing-in-Ok.ensures.whole, refl)

pub returns-in_ok-send_missing-in-Ok-clause-front : goal.returns-in_ok-send_missing-in-Ok-clause-front
returns-in_ok-send_missing-in-Ok-clause-front g c =
    let text = joined c.args.text.now.items c.push_incomplete.new.text.items (incomplete_line c.args.end)
    (missing_text (ranges_of c.args.missing.now)) c.in-Ok.ensures.line in
    subst (AppendsPrefix _ _) text c.send_missing.ensures.front
