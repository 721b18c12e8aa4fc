use Rattle.std.proofs.Common.{ap}
use Rattle.mold_devices.specs.Devices.{MemoryHeld}
use Rattle.mold_devices.proofs.memory_sink.MemorySink.fail_at.Goals as goal

pub returns : goal.returns
returns c = ap (λ (s : MemoryHeld). record s { fails_at = c.args.k }) c.self.view_is
