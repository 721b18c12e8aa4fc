use Rattle.std.proofs.Common.{ℕ, List}
use Rattle.mold_wire.specs.declared.session.Session.{Session}
use Rattle.mold_durable.specs.Crash.{IsLaterFile, IsLive}
use Rattle.mold_durable.specs.Storage.{LeavesOnly}
use Rattle.mold_durable.proofs.crash.take_steps.Given as goal

-- The calls so far kept what was committed.
abbrev pub invariant-loop-step : goal.invariant-loop-step
invariant-loop-step g l = record {
  live : (session : Session) (messages : List (List ℕ)) →
      IsLive g.S.Storage.shows g.S.Storage.may_leave session messages l.fn.journal →
      IsLive g.S.Storage.shows g.S.Storage.may_leave session messages l.journal;
  any_moment : (session : Session) (messages : List (List ℕ)) →
      IsLive g.S.Storage.shows g.S.Storage.may_leave session messages l.fn.journal →
      LeavesOnly g.S.Storage.moment g.S.Storage.left_since l.fn.journal.storage l.journal.storage
      (IsLaterFile session messages);
}
