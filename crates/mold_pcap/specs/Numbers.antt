-- The numbers of a capture.
use Rattle.std.specs.Prelude.{ℕ, List}
use Rattle.byteorder.specs.Endian.{big_number, little_number}
use Rattle.mold_pcap.specs.declared.order.Order.{Order}
use Rattle.mold_pcap.specs.declared.order.Order.TheVariants.{Big, Little}

-- The number in the first `n` bytes.
abbrev pub number : Order → ℕ → List ℕ → ℕ
number Big n bytes = big_number n bytes
number Little n bytes = little_number n bytes
