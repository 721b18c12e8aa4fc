use Rattle.std.proofs.Common.{◌≡◌, ℕ, List, ◌++◌, length}
use Rattle.std.specs.Io.KnownBytes.{Appends}
use Rattle.mold_devices.proofs.sink.write_all.Given as goal

-- The bytes taken so far come before the rest, no call failed, and the sink is as live as before.
abbrev pub invariant-loop-rest : goal.invariant-loop-rest
invariant-loop-rest g l = record {
  done : List ℕ;
  parts : l.bytes ≡ done ++ l.rest;
  taken : Appends (g.S.Sink.held l.fn.sink) (g.S.Sink.held l.sink) done;
  counted : g.S.Sink.failed l.sink ≡ g.S.Sink.failed l.fn.sink;
  live : g.S.Sink.live l.sink ≡ g.S.Sink.live l.fn.sink;
  untouched : length l.bytes ≡ 0 → l.sink ≡ l.fn.sink;
}

abbrev pub decreases-loop-rest : goal.decreases-loop-rest
decreases-loop-rest g l = length l.rest
