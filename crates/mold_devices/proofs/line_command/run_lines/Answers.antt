use Rattle.std.proofs.Common.{refl, ◌∙◌}
use Rattle.mold_devices.specs.declared.turn.Turn.TheVariants.{More, Done}
use Rattle.mold_devices.proofs.TurnLemmas.{told_turn, told_sent, told_front, told_whole, restored}
use Rattle.mold_devices.proofs.line_command.run_lines.Goals as goal

pub returns-in_err-send-in-Ok-Done-clause-front : goal.returns-in_err-send-in-Ok-Done-clause-front
returns-in_err-send-in-Ok-Done-clause-front g c =
    told_front (told_turn {turn = Done c.in-Ok-Done.status} c.turns.invariant.told
    (rw c.in-Ok-Done.field-0-is at c.in-Ok-Done.ensures.told))
    refl
    c.send.ensures.front

pub returns-in-Ok-Done-clause-whole : goal.returns-in-Ok-Done-clause-whole
returns-in-Ok-Done-clause-whole g c =
    told_whole c.in-Ok-Done.status _ (told_turn {turn = Done c.in-Ok-Done.status} c.turns.invariant.told
    (rw c.in-Ok-Done.field-0-is at c.in-Ok-Done.ensures.told))
    c.in_ok-send-in-Ok-Done.ensures.whole

pub returns-in-Ok-Done-clause-front : goal.returns-in-Ok-Done-clause-front
returns-in-Ok-Done-clause-front g c =
    told_front (told_turn {turn = Done c.in-Ok-Done.status} c.turns.invariant.told
    (rw c.in-Ok-Done.field-0-is at c.in-Ok-Done.ensures.told))
    refl
    c.send.ensures.front

pub returns-in_err-send-in-Err-clause-front : goal.returns-in_err-send-in-Err-clause-front
returns-in_err-send-in-Err-clause-front g c =
    told_front c.turns.invariant.told
    (restored _ _ _ _ c.truncate.ensures.items (c.len-told.ensures ∙ c.turns.text.ok.0) c.in-Err.ensures.kept)
    c.send-in-Err.ensures.front

pub returns-in-Err-clause-front : goal.returns-in-Err-clause-front
returns-in-Err-clause-front g c =
    told_front c.turns.invariant.told
    (restored _ _ _ _ c.truncate.ensures.items (c.len-told.ensures ∙ c.turns.text.ok.0) c.in-Err.ensures.kept)
    c.send-in-Err.ensures.front

pub turns-preserved-in-Continue-branch-4 : goal.turns-preserved-in-Continue-branch-4
turns-preserved-in-Continue-branch-4 g c = record {
  told =
      told_sent _ _
      (told_turn {turn = More} c.turns.invariant.told (rw c.in-Ok-More.field-0-is at c.in-Ok-More.ensures.told))
      c.in_ok-send.ensures.whole
      c.in_ok-send.ensures.empty;
  source = c.in-Ok-More.ensures.failures ∙ c.turns.invariant.source;
  sink = c.in_ok-send.ensures.failures ∙ c.turns.invariant.sink;
}

pub returns-in_err-send-clause-front : goal.returns-in_err-send-clause-front
returns-in_err-send-clause-front g c =
    told_front
    (told_turn {turn = More} c.turns.invariant.told (rw c.in-Ok-More.field-0-is at c.in-Ok-More.ensures.told))
    refl
    c.send-then-len-ge-LARGE.ensures.front

pub turns-preserved : goal.turns-preserved
turns-preserved g c = record {
  told = told_turn {turn = More} c.turns.invariant.told (rw c.in-Ok-More.field-0-is at c.in-Ok-More.ensures.told);
  source = c.in-Ok-More.ensures.failures ∙ c.turns.invariant.source;
  sink = c.turns.invariant.sink;
}
