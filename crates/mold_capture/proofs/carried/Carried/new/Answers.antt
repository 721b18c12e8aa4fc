use Rattle.std.proofs.Common.{ℕ, List, ◌∙◌, ap}
use Rattle.mold_capture.specs.declared.run.Run.{Run}
use Rattle.mold_capture.specs.Runs.{pairs_of}
use Rattle.mold_capture.proofs.KeepLemmas.{none_carried}
use Rattle.mold_capture.proofs.carried.Carried.new.Goals as goal

pub returns : goal.returns
returns c =
    ap (λ (es : List (ℕ × Run)). pairs_of es c.new-2.result) c.new.ensures.empty
    ∙ none_carried c.new-2.result
