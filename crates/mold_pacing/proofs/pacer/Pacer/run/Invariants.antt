use Rattle.std.proofs.Common.{◌≡◌, ◌≤◌, length, take, vec_capacity, vec_len}
use Rattle.mold_pacing.specs.Run.{IsRun}
use Rattle.mold_pacing.proofs.pacer.Pacer.run.Given as goal

abbrev pub invariant-loop-step : goal.invariant-loop-step
invariant-loop-step l = record {
  ran : IsRun l.fn.self l.self (take l.step-index l.steps) l.asks.items;
  options : l.self.options ≡ l.fn.self.options;
  count : vec_len l.asks ≡ l.step-index;
  room : length l.steps ≤ vec_capacity l.asks;
}
