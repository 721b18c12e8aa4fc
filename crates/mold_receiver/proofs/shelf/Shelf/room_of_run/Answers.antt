use Rattle.std.proofs.Common.{◌+◌, ◌-◌, arith}
use Rattle.mold_receiver.specs.Shelf.{slots_on}
use Rattle.mold_receiver.proofs.BatchLemmas.{slot_within}
use Rattle.mold_receiver.proofs.RunLemmas.{last_there}
use Rattle.mold_receiver.proofs.shelf.Shelf.room_of_run.Goals as goal

pub overflow_add-slot : goal.overflow_add-slot
overflow_add-slot c =
    let slots = slots_on c.args.self.now in
    let run = c.in-Some.run' in
    let is = c.in-Some.ensures.some in
    omega (
      arith,
      is.some,
      c.requires.slots.few,
      slot_within slots (c.loop-run.slot + (run.count - 1)) _
          (last_there slots c.loop-run.slot run.bytes.now run.count is.some is.there),
    )

pub loop-run-smaller : goal.loop-run-smaller
loop-run-smaller c =
    let slots = slots_on c.args.self.now in
    let run = c.in-Some.run' in
    let is = c.in-Some.ensures.some in
    omega (
      arith,
      is.some,
      slot_within slots (c.loop-run.slot + (run.count - 1)) _
          (last_there slots c.loop-run.slot run.bytes.now run.count is.some is.there),
    )
