use Rattle.std.proofs.Common.{ap}
use Rattle.mold_devices.specs.Devices.{MemoryHeld}
use Rattle.mold_devices.proofs.memory_sink.MemorySink.at_most.Goals as goal

pub returns : goal.returns
returns c = ap (λ (s : MemoryHeld). record s { most = c.args.n }) c.self.view_is
