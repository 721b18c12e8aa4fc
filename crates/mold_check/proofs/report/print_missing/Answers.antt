use Rattle.std.proofs.Common.{◌∙◌, ℕ, List, ap, refl, subst, take}
use Rattle.std.specs.Io.KnownBytes.{Appends}
use Rattle.mold_devices.specs.Devices.{AppendsPrefix}
use Rattle.mold_devices.specs.Writing.{Moves}
use Rattle.mold_devices.proofs.WritingLemmas.{ends_front, ends_sink, ends_whole, not_memory}
use Rattle.mold_check.proofs.ReportLemmas.{counts_err, counts_write, front_more}
use Rattle.mold_check.proofs.report.print_missing.Goals as goal

pub returns-in-Err-clause-kept : goal.returns-in-Err-clause-kept
returns-in-Err-clause-kept g c = λ is.
    subst (λ (text : List ℕ). Appends (g.K.Sink.held c.args.sink.now) (g.K.Sink.held c.end_with.new.sink) text)
    (ap (λ (n : ℕ). take n c.push_missing.new.text.items) (c.len-told.ensures ∙ c.args.text.now.ok.0) ∙ c.in-Err.ensures.kept)
    (ends_whole c.end_with.ensures.ends is)

pub returns-in-Err-clause-front : goal.returns-in-Err-clause-front
returns-in-Err-clause-front g c =
    front_more _ _ c.args.text.now.items _ _ refl
    (subst (λ (text : List ℕ). AppendsPrefix (g.K.Sink.held c.args.sink.now) (g.K.Sink.held c.end_with.new.sink) text)
    (ap (λ (n : ℕ). take n c.push_missing.new.text.items) (c.len-told.ensures ∙ c.args.text.now.ok.0) ∙ c.in-Err.ensures.kept)
    (ends_front c.end_with.ensures.ends))

pub returns-in-Err-clause-failures : goal.returns-in-Err-clause-failures
returns-in-Err-clause-failures g c = ends_sink c.end_with.ensures.ends

pub returns-in_ok-send_large-in-Ok-clause-moved : goal.returns-in_ok-send_large-in-Ok-clause-moved
returns-in_ok-send_large-in-Ok-clause-moved g c =
    subst (λ (text : List ℕ). Moves (g.K.Sink.held c.args.sink.now) (g.K.Sink.held c.send_large.new.sink) text
    c.send_large.new.text.items)
    c.in-Ok.ensures.line c.in_ok-send_large-in-Ok.ensures.moved

pub returns-in_ok-send_large-in-Ok-clause-front : goal.returns-in_ok-send_large-in-Ok-clause-front
returns-in_ok-send_large-in-Ok-clause-front g c =
    subst (λ (text : List ℕ). AppendsPrefix (g.K.Sink.held c.args.sink.now) (g.K.Sink.held c.send_large.new.sink) text)
    c.in-Ok.ensures.line c.send_large.ensures.front

pub returns-in_err-send_large-in-Ok-clause-front : goal.returns-in_err-send_large-in-Ok-clause-front
returns-in_err-send_large-in-Ok-clause-front g c =
    subst (λ (text : List ℕ). AppendsPrefix (g.K.Sink.held c.args.sink.now) (g.K.Sink.held c.send_large.new.sink) text)
    c.in-Ok.ensures.line c.send_large.ensures.front

pub returns-in_err-send_large-in-Ok-clause-kept : goal.returns-in_err-send_large-in-Ok-clause-kept
returns-in_err-send_large-in-Ok-clause-kept g c =
    not_memory c.from_residual.result _ _ c.from_residual.ensures.1 c.in_err-send_large-in-Ok.ensures.fault

pub returns-in_err-send_large-in-Ok-clause-failures : goal.returns-in_err-send_large-in-Ok-clause-failures
returns-in_err-send_large-in-Ok-clause-failures g c =
    counts_err _ _ _ _ c.from_residual.ensures
    (counts_write _ _ _ _ c.in_err-send_large-in-Ok.ensures.fault refl c.in_err-send_large-in-Ok.ensures.failures)
