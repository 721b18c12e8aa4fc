use Rattle.std.proofs.Common.{arith, ltb-true}
use Rattle.mold_index.proofs.FindLemmas.{split_after}
use Rattle.mold_index.proofs.entries.is_last_up_to.Goals as goal

pub returns-then-i-entries-2-clause-split : goal.returns-then-i-entries-2-clause-split
returns-then-i-entries-2-clause-split c = λ last up.
    split_after c.args.entries.now c.args.i c.args.number (record { number = 0; offset = 0 }) up c.if-i-entries.false
    c.if-number-entries.false (λ more. absurd (omega (arith, more, c.if-i-entries-2.true)))

pub returns-else-i-entries-2-clause-split : goal.returns-else-i-entries-2-clause-split
returns-else-i-entries-2-clause-split c = λ below up.
    split_after c.args.entries.now c.args.i c.args.number (record { number = 0; offset = 0 }) up c.if-i-entries.false
    c.if-number-entries.false (λ more. ltb-true _ _ below)
