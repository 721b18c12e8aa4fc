use Rattle.std.proofs.Common.{ap}
use Rattle.mold_devices.specs.Devices.{MemoryHeld}
use Rattle.mold_devices.proofs.memory_sink.MemorySinkSink.failures.Goals as goal

pub returns : goal.returns
returns c = ap (λ (s : MemoryHeld). s.failures) c.self.view_is
