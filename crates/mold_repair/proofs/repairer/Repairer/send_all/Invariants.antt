use Rattle.std.proofs.Common.{◌≡◌, List}
use Rattle.mold_pacing.specs.declared.ask.Ask.{Ask as Sent}
use Rattle.mold_repair.specs.Polls.{HaveRequested}
use Rattle.mold_repair.proofs.RoomLemmas.{room_of}
use Rattle.mold_repair.proofs.repairer.Repairer.send_all.Given as goal

abbrev pub invariant-loop : goal.invariant-loop
invariant-loop l = record {
  sent : List Sent;
  requested : HaveRequested l.fn.self.options.give_up l.fn.self.arbiter.view l.fn.self.pacer l.self.pacer sent;
  arbiter : l.self.arbiter ≡ l.fn.self.arbiter;
  options : l.self.options ≡ l.fn.self.options;
  counts : l.self.counts ≡ l.fn.self.counts;
  delays : l.self.delays ≡ l.fn.self.delays;
  audit : l.self.audit ≡ l.fn.self.audit;
}

abbrev pub decreases-loop : goal.decreases-loop
decreases-loop l = room_of l.self.pacer
