-- The time of a frame.
use Rattle.std.specs.Prelude.{ℕ, ◌+◌, ◌-◌, ◌*◌, ◌/◌, ◌%◌, ◌^◌, Option, None, Some, nat_lt, if◌then◌else◌}
use Rattle.std.specs.Prelude.{option_and_then}
use Rattle.mold_pcap.specs.declared.clock.Clock.{Clock}
use Rattle.mold_pcap.specs.declared.resolution.Resolution.{Resolution}
use Rattle.mold_pcap.specs.declared.resolution.Resolution.TheVariants.{Microseconds, Nanoseconds}
use Rattle.mold_pcap.specs.declared.stamp.Stamp.{Stamp}
use Rattle.mold_pcap.specs.declared.stamp.Stamp.TheVariants.{Absent, Classic, Units}
use Rattle.mold_pcap.specs.declared.time.FrameTime.{FrameTime}

-- The units in a second by the option `if_tsresol`: a power of 10 up to 19, or of 2 up to 63.
unfoldable pub ticks_of : ℕ → Option ℕ
ticks_of tsresol =
    if nat_lt tsresol 128 then (if nat_lt 19 tsresol then None else Some (10 ^ tsresol))
    else (if nat_lt 191 tsresol then None else Some (2 ^ (tsresol - 128)))

-- A sum below 2^64. For a negative offset, which two's complement makes larger by 2^64, the sum has to reach that.
abbrev pub shifted_sum : ℕ → ℕ → Option ℕ
shifted_sum tsoffset sum =
    if nat_lt tsoffset (2 ^ 63) then (if nat_lt sum (2 ^ 64) then Some sum else None)
    else (if nat_lt sum (2 ^ 64) then None else Some (sum - 2 ^ 64))

-- The seconds moved by the option `if_tsoffset`, a signed number in two's complement.
unfoldable pub shifted : ℕ → ℕ → Option ℕ
shifted tsoffset seconds = shifted_sum tsoffset (seconds + tsoffset)

-- The nanoseconds of a part of a second, which has `ticks` units.
abbrev pub nanoseconds_of : ℕ → ℕ → ℕ
nanoseconds_of part ticks = part * 1000000000 / ticks

-- The time with these seconds, and the rest of the units.
abbrev pub at_seconds : ℕ → ℕ → ℕ → Option FrameTime
at_seconds ticks units seconds = Some (record { seconds = seconds; nanoseconds = nanoseconds_of (units % ticks) ticks })

-- The time of units of which a second has `ticks`.
abbrev pub ticks_time : ℕ → ℕ → ℕ → Option FrameTime
ticks_time tsoffset units ticks = option_and_then (at_seconds ticks units) (shifted tsoffset (units / ticks))

-- The time of units.
unfoldable pub units_time : Clock → ℕ → Option FrameTime
units_time clock units = option_and_then (ticks_time clock.tsoffset units) (ticks_of clock.tsresol)

-- The time of seconds and a fraction. A fraction beyond a second is carried over.
abbrev pub classic_time : ℕ → ℕ → Resolution → FrameTime
classic_time seconds fraction Microseconds = record {
  seconds = seconds + fraction / 1000000;
  nanoseconds = fraction % 1000000 * 1000;
}
classic_time seconds fraction Nanoseconds = record {
  seconds = seconds + fraction / 1000000000;
  nanoseconds = fraction % 1000000000;
}

-- The time of a frame.
abbrev pub time_of : Stamp → Option FrameTime
time_of Absent = None
time_of (Classic seconds fraction resolution) = Some (classic_time seconds fraction resolution)
time_of (Units units clock) = units_time clock units
