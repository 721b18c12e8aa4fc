use Rattle.std.proofs.Common.{◌+◌, length, sym, ap, ◌∙◌, arith}
use Rattle.mold_receiver.specs.Batch.{followed_by}
use Rattle.mold_receiver.proofs.BatchLemmas.{run_of_none}
use Rattle.mold_receiver.proofs.hand.hand_following.Goals as goal

pub returns-then-held-eq0-clause-handed : goal.returns-then-held-eq0-clause-handed
returns-then-held-eq0-clause-handed c =
    sym (ap (followed_by c.args.batch.now (c.args.next + c.args.start))
    (run_of_none c.args.slots.now c.args.start (sym c.held.ensures.count ∙ c.if-held-eq0.true)))

pub returns-then-held-eq0-clause-stopped : goal.returns-then-held-eq0-clause-stopped
returns-then-held-eq0-clause-stopped c =
    omega (
      arith,
      ap length (run_of_none c.args.slots.now c.args.start (sym c.held.ensures.count ∙ c.if-held-eq0.true)),
    )
