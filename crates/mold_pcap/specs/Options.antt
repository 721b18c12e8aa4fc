-- The options of an interface description.
use Rattle.std.specs.Prelude.{ℕ, zero, suc, ◌+◌, ◌*◌, ◌/◌, List, length, take, drop, slice_index, nat_lt, ◌==◌}
use Rattle.std.specs.Prelude.{if◌then◌else◌}
use Rattle.std.specs.Prelude.{Option, None, Some}
use Rattle.std.specs.Option.{option_map_or}
use Rattle.mold_pcap.specs.Numbers.{number}
use Rattle.mold_pcap.specs.declared.clock.Clock.{Clock}
use Rattle.mold_pcap.specs.declared.order.Order.{Order}

-- The length of a value of `len` bytes with its padding, up to a multiple of 4.
abbrev pub padded : ℕ → ℕ
padded len = (len + 3) / 4 * 4

-- The clock with the unit of the option `if_tsresol`, whose value has one byte.
abbrev pub with_tsresol : Clock → List ℕ → Clock
with_tsresol clock value =
    if length value == 1 then record { tsresol = slice_index value 0; tsoffset = clock.tsoffset } else clock

-- The clock with the offset of the option `if_tsoffset`, whose value has eight bytes.
abbrev pub with_tsoffset : Order → Clock → List ℕ → Clock
with_tsoffset order clock value =
    if length value == 8 then record { tsresol = clock.tsresol; tsoffset = number order 8 value } else clock

-- The clock after an option.
unfoldable pub with_option : Order → Clock → ℕ → List ℕ → Clock
with_option order clock code value =
    if code == 9 then with_tsresol clock value
    else if code == 14 then with_tsoffset order clock value
    else clock

-- The code of the first option, and the length of its value. There is none where the list has ended: at an option of
-- code 0, at its last byte, or before a value that it does not have whole.
unfoldable pub first_option : Order → List ℕ → Option (ℕ × ℕ)
first_option order options =
    if nat_lt (length options) 4 then None
    else if number order 2 options == 0 then None
    else if nat_lt (length options) (4 + number order 2 (drop 2 options)) then None
    else Some (number order 2 options, number order 2 (drop 2 options))

-- The clock after the first option of a list, with this code and length.
abbrev pub next_clock : Order → Clock → List ℕ → ℕ × ℕ → Clock
next_clock order clock options found = with_option order clock found.0 (take found.1 (drop 4 options))

-- The clock after the options of a list.
abbrev pub clock_in : ℕ → Order → Clock → List ℕ → Clock
clock_in zero order clock options = clock
clock_in (suc steps) order clock options = option_map_or
    (λ found. clock_in steps order (next_clock order clock options found) (drop (4 + padded found.1) options))
    (first_option order options) clock

-- The same with as many steps as the list may need.
unfoldable pub clock_of : Order → Clock → List ℕ → Clock
clock_of order clock options = clock_in (length options) order clock options
