use Rattle.std.proofs.Common.{ap}
use Rattle.mold_devices.specs.Devices.{MemoryLeft}
use Rattle.mold_devices.proofs.memory_source.MemorySourceSource.failures.Goals as goal

pub returns : goal.returns
returns c = ap (λ (s : MemoryLeft). s.failures) c.self.view_is
