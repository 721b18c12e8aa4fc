use Rattle.std.proofs.Common.{ap}
use Rattle.mold_devices.specs.Devices.{MemoryLeft}
use Rattle.mold_devices.proofs.memory_source.MemorySource.fail_at.Goals as goal

pub returns : goal.returns
returns c = ap (λ (s : MemoryLeft). record s { fails_at = c.args.k }) c.self.view_is
