use Rattle.std.proofs.Common.{◌≡◌, ◌+◌, min, length, sym, ap, ◌∙◌, arith}
use Rattle.mold_receiver.specs.Batch.{followed_by}
use Rattle.mold_receiver.specs.Slots.{count_held}
use Rattle.mold_receiver.proofs.BatchLemmas.{run_of_none}
use Rattle.mold_receiver.proofs.SlotLemmas.{moved_none}
use Rattle.mold_receiver.proofs.hand.deliver_following.Goals as goal

pub returns-then-held-eq0-clause-delivered : goal.returns-then-held-eq0-clause-delivered
returns-then-held-eq0-clause-delivered c =
    let slots = c.args.slots.now in
    let none : count_held slots ≡ 0 = sym c.held.ensures.count ∙ c.if-held-eq0.true in
    let run = run_of_none slots c.args.start none in
    record {
      batch = sym (ap (followed_by c.args.batch.now (c.args.next + c.args.start)) run);
      stopped = omega (arith, ap length run);
      fits = omega (arith, c.requires.counted);
      near = omega arith;
      moved = moved_none (min c.args.start (length slots)) slots (omega arith) none;
    }
