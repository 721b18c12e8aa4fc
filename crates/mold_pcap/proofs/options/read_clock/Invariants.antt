use Rattle.std.proofs.Common.{◌≡◌, length}
use Rattle.mold_pcap.specs.Options.{clock_of}
use Rattle.mold_pcap.proofs.options.read_clock.Given as goal

-- The remaining options give the clock that all of them give.
abbrev pub invariant-loop-code : goal.invariant-loop-code
invariant-loop-code l = clock_of l.order l.clock l.left ≡ clock_of l.order
    (record { tsresol = 6; tsoffset = 0 }) l.options

abbrev pub decreases-loop-code : goal.decreases-loop-code
decreases-loop-code l = length l.left
