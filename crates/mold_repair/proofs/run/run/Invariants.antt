use Rattle.std.proofs.Common.{◌≡◌, ◌≤◌, length, take, vec_capacity, vec_len}
use Rattle.mold_repair.specs.Run.{IsRepaired}
use Rattle.mold_repair.proofs.run.run.Given as goal

abbrev pub invariant-loop-step : goal.invariant-loop-step
invariant-loop-step l = record {
  ran : IsRepaired l.fn.repairer l.repairer (take l.step-index l.steps) l.outcomes.items;
  count : vec_len l.outcomes ≡ l.step-index;
  room : length l.steps ≤ vec_capacity l.outcomes;
}
