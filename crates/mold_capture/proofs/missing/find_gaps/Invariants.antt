use Rattle.std.proofs.Common.{◌≡◌, ◌++◌}
use Rattle.std.specs.List.{All}
use Rattle.mold_capture.specs.Runs.{HasRun}
use Rattle.mold_capture.specs.Verdict.{gaps, ranges_of}
use Rattle.mold_capture.proofs.missing.find_gaps.Given as goal

abbrev pub invariant-loop-first : goal.invariant-loop-first
invariant-loop-first l = record {
  same : ranges_of l.missing.items ++ gaps l.next l.first-iterator l.known ≡ gaps 1 l.runs.entries l.known;
  there : All (λ e. HasRun l.runs e.0 e.1) l.first-iterator;
}
