-- How a block is passed over.
use Rattle.std.specs.Prelude.{◌≡◌, ℕ, ◌-◌, ◌≤◌, List, length, drop, Option, IfSome, ◌≢◌}
use Rattle.mold_pcap.specs.Numbers.{number}
use Rattle.mold_pcap.specs.Windows.{IsShort, Passes}
use Rattle.mold_pcap.specs.declared.order.Order.{Order}
use Rattle.mold_pcap.specs.declared.passing.Passing.{Passing}
use Rattle.mold_pcap.specs.declared.passing.Passing.TheVariants.{Whole, Cut, Differs}

-- The length at the end of a block of this total length.
abbrev pub end_length : Order → ℕ → List ℕ → ℕ
end_length order total bytes = number order 4 (drop (total - 4) bytes)

-- The block is passed if it is whole. Otherwise there are fewer bytes, or the length at its end is another one.
abbrev pub PassesBlock : Order → ℕ → Passing → Option (List ℕ) → Option (List ℕ) → Type 0
PassesBlock order total Whole known left =
    Passes total known left × IfSome known (λ bytes. end_length order total bytes ≡ total)
PassesBlock order total Cut known left = IsShort total known
PassesBlock order total Differs known left =
    IfSome known (λ bytes. (total ≤ length bytes) × (end_length order total bytes ≢ total))
