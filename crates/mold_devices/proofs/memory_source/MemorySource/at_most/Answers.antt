use Rattle.std.proofs.Common.{ap}
use Rattle.mold_devices.specs.Devices.{MemoryLeft}
use Rattle.mold_devices.proofs.memory_source.MemorySource.at_most.Goals as goal

pub returns : goal.returns
returns c = ap (λ (s : MemoryLeft). record s { most = c.args.n }) c.self.view_is
