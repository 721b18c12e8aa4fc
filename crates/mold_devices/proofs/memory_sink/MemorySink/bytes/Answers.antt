use Rattle.std.proofs.Common.{ap, ◌∙◌}
use Rattle.mold_devices.specs.Devices.{MemoryHeld}
use Rattle.mold_devices.proofs.memory_sink.MemorySink.bytes.Goals as goal

pub returns : goal.returns
returns c = c.as_slice.ensures.value ∙ ap (λ (s : MemoryHeld). s.held) c.self.view_is
