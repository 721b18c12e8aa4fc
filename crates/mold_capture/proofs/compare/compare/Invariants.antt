use Rattle.std.proofs.Common.{◌≡◌, ◌+◌, length, true, false}
use Rattle.std.specs.Prelude.{IfSome}
use Rattle.mold_capture.specs.Refusal.{conflict}
use Rattle.mold_capture.specs.Runs.{HasRun, carried}
use Rattle.mold_capture.specs.Seen.{BringNew, pairs_with}
use Rattle.mold_capture.proofs.compare.compare.Given as goal

abbrev pub invariant-loop-message : goal.invariant-loop-message
invariant-loop-message l = record {
  near : IfSome l.near (λ e. HasRun l.runs e.0 e.1);
  counted : l.number + length l.message-iterator ≡ l.first + length l.blocks;
  same :
      conflict (carried l.runs l.kept) l.number l.message-iterator
      ≡ conflict (carried l.runs l.kept) l.first l.blocks;
  all :
      l.new ≡ false → pairs_with (carried l.runs l.kept) l.number l.message-iterator
      ≡ pairs_with (carried l.runs l.kept) l.first l.blocks;
  some : l.new ≡ true → BringNew (carried l.runs l.kept) l.first l.blocks;
}
