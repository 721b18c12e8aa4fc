use Rattle.std.proofs.Common.{◌^◌, ◌≤◌, arith}
use Rattle.std.proofs.Math.Nat.{one-le-pow}
use Rattle.mold_pcap.proofs.clock.Clock.ticks.Goals as goal

pub returns-then-self-lt128-clause-some : goal.returns-then-self-lt128-clause-some
returns-then-self-lt128-clause-some c =
    let power : 1 ≤ 10 ^ c.from.result = one-le-pow c.from.result 10 (omega arith) in
    omega (arith, power, c.pow.ensures)
