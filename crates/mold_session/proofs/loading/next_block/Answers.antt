use Rattle.std.proofs.Common.{arith}
use Rattle.mold_session.proofs.loading.next_block.Goals as goal

pub returns-clause-work : goal.returns-clause-work
returns-clause-work g c =
    let first = rw c.in-Some.is at c.in_ok-high.ensures.work in
    let second = rw c.in-Some-2.is at c.in_ok-low.ensures.work in
    omega (arith, first, second, c.in_ok-take_message.ensures.work)
