-- The delays between two lines, by which the patience adapts. Times are in nanoseconds.
use Rattle.std.specs.Prelude.{ℕ, ◌+◌, ◌*◌, ◌/◌, ◌%◌, ◌<◌, ◌≤◌, ◌&&◌, Bool, not, List, [], ◌∷◌, max}
use Rattle.std.specs.Prelude.{if◌then◌else◌, min, nat_eq, nat_lt, replicate}
use Rattle.std.specs.List.{list_any}
use Rattle.mold_pacing.specs.declared.arrival.Arrival.{Arrival}
use Rattle.mold_pacing.specs.declared.delay.Delay.{Delay}
use Rattle.mold_pacing.specs.declared.delay.TheConstants.{LAST_LINE}
use Rattle.mold_pacing.specs.declared.delays.TheConstants.{DELAYS, FIRST_PATIENCE, GREATEST_PATIENCE, LEAST_PATIENCE}
use Rattle.mold_pacing.specs.declared.mark.Mark.{Mark}
use Rattle.mold_pacing.specs.declared.mark.TheConstants.{BOTH, LINES, PART, PARTS, SLOTS, TIMES}

-- The record of a delay: its length, and the line that brought the datagram second.
abbrev pub delay_of : ℕ → ℕ → Delay
delay_of span line = record { stamp = span % TIMES * LINES + 1 + min line LAST_LINE }

-- The record before a delay is known.
abbrev pub no_delay : Delay
no_delay = record { stamp = 0 }

-- The records before any delay is known.
abbrev pub no_delays : List Delay
no_delays = replicate DELAYS no_delay

-- Whether this is the record of a delay.
abbrev pub is_delay : Delay → Bool
is_delay d = nat_lt 0 d.stamp

-- The length of a delay.
abbrev pub span_of : Delay → ℕ
span_of d = d.stamp / LINES

-- The length of a delay if it is of this line, and otherwise 0.
abbrev pub delay_on : ℕ → Delay → ℕ
delay_on line d = if nat_eq (d.stamp % LINES) (line + 1) then span_of d else 0

-- The greatest of the delays, or 0 without a delay.
abbrev pub greatest_of : List Delay → ℕ
greatest_of [] = 0
greatest_of (d ∷ ds) = max (span_of d) (greatest_of ds)

-- The greatest stamp of the delays. A greater delay has a greater stamp.
abbrev pub greatest_stamp : List Delay → ℕ
greatest_stamp [] = 0
greatest_stamp (d ∷ ds) = max d.stamp (greatest_stamp ds)

-- The greatest of the delays of this line, or 0 if it has none.
abbrev pub greatest_on : ℕ → List Delay → ℕ
greatest_on line [] = 0
greatest_on line (d ∷ ds) = max (delay_on line d) (greatest_on line ds)

-- The patience that fits the delays: twice the greatest one, but at least 200 microseconds and at most 100
-- milliseconds. Without a delay it is a millisecond.
abbrev pub patience_for : List Delay → ℕ
patience_for ds =
    if list_any is_delay ds then max LEAST_PATIENCE (min (greatest_of ds * 2) GREATEST_PATIENCE) else FIRST_PATIENCE

-- The slot of a first number. Only numbers that differ by a multiple of `SLOTS` have the same slot.
abbrev pub slot_of : ℕ → ℕ
slot_of first = first % SLOTS / PARTS + first % SLOTS % PARTS * PART

-- The record of an arrival: what is kept of it.
abbrev pub mark_of : Arrival → Mark
mark_of a = record { end = a.end; stamp = a.time % TIMES * LINES + a.line % LINES }

-- The record of the arrival keeps all of it.
pub record IsMarked (a : Arrival) : Type 0 where
  pub some : a.first ≤ a.end
  pub few : a.end < a.first + SLOTS
  pub time : a.time < TIMES
  pub line : a.line < LINES

-- The time of a record.
abbrev pub time_of : Mark → ℕ
time_of mark = mark.stamp / LINES

-- The line of a record.
abbrev pub line_of : Mark → ℕ
line_of mark = mark.stamp % LINES

-- The record of a slot before the first arrival.
abbrev pub no_arrival : Mark
no_arrival = record { end = 0; stamp = BOTH }

-- The records before the first arrival.
abbrev pub no_arrivals : List Mark
no_arrivals = replicate SLOTS no_arrival

-- Whether this is the same datagram: it has the same numbers. The record is in the slot of the arrival, and a datagram
-- has fewer than `SLOTS` messages.
abbrev pub is_same : Mark → Arrival → Bool
is_same before a = nat_eq before.end a.end

-- Whether the datagram arrived before, and the other line alone brought it. The line `BOTH` means both lines.
abbrev pub is_second : Mark → Arrival → Bool
is_second before a =
    is_same before a && (not (nat_eq (line_of before) a.line) && not (nat_eq (line_of before) BOTH))

-- The record after both lines brought the datagram.
abbrev pub of_both : Mark → Mark
of_both before = record before { stamp = time_of before * LINES + BOTH }

-- The record after a datagram arrived, in place of the earlier one.
abbrev pub kept : Mark → Arrival → Mark
kept before a =
    if is_second before a then of_both before
    else if is_same before a then before
    else mark_of a
