use Rattle.std.proofs.Common.{arith}
use Rattle.mold_repair.proofs.GapLemmas.{free_stays}
use Rattle.mold_repair.proofs.repairer.Repairer.sends.Goals as goal

pub returns-in_default-clause-same : goal.returns-in_default-clause-same
returns-in_default-clause-same c =
    λ time i f allowed before there past. c.next_over-over.ensures.same time i f before there past

pub returns-then-self-eq0-clause-still : goal.returns-then-self-eq0-clause-still
returns-then-self-eq0-clause-still c =
    let p = c.args.self.now.pacer in
    λ time from before number wants can. c.deadline-time.ensures.least time from before (record {
      opened = can.opened;
      free = free_stays p.flights.items p.state.now time c.in-Some.gap.first from (rw c.in-Some.is at c.find_free.ensures.some).free;
      room = can.room;
    })

pub returns-clause-still : goal.returns-clause-still
returns-clause-still c =
    let p = c.args.self.now.pacer in
    λ time from before number wants can. c.deadline-time.ensures.least time from (omega (arith, c.min.ensures, before))
    (record {
      opened = can.opened;
      free = free_stays p.flights.items p.state.now time c.in-Some.gap.first from (rw c.in-Some.is at c.find_free.ensures.some).free;
      room = can.room;
    })

pub returns-clause-same : goal.returns-clause-same
returns-clause-same c =
    λ time i f allowed before there past. c.next_over-over.ensures.same time i f (omega (arith, c.min.ensures, before))
    there past
