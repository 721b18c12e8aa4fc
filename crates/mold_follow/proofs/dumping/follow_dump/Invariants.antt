use Rattle.mold_follow.proofs.DumpingLemmas.{IsDumping}
use Rattle.mold_follow.proofs.dumping.follow_dump.Given as goal

-- The messages of the looks so far are written.
abbrev pub invariant-loop-look : goal.invariant-loop-look
invariant-loop-look g l =
    IsDumping g.F.GrowingFile.history g.F.GrowingFile.synced l.fn.options l.fn.follower l.follower l.count
    (g.K.Sink.held l.fn.devices.sink, g.K.Sink.held l.devices.sink)
    (g.E.Sink.held l.fn.devices.errors, g.E.Sink.held l.devices.errors)
