-- What a repairer counts.
use Rattle.std.specs.Prelude.{ℕ, ◌+◌, ◌-◌, ◌&&◌, ◌==◌, Bool, if◌then◌else◌, Option, None, Some}
use Rattle.std.specs.Io.Iter.{u64_saturate}
use Rattle.mold_pacing.specs.declared.gap.Gap.{Gap}
use Rattle.mold_receiver.specs.declared.line.Line.{Line as TheLine}
use Rattle.mold_receiver.specs.declared.line.Line.TheVariants.{A, B}
use Rattle.mold_receiver.specs.declared.line.LineReport.{LineReport}
use Rattle.mold_receiver.specs.declared.taken.Taken.{Taken}
use Rattle.mold_repair.specs.declared.ask.Ask.{Ask}
use Rattle.mold_repair.specs.declared.line_stats.LineStats.{LineStats}
use Rattle.mold_repair.specs.declared.origin.RepairOrigin.{RepairOrigin}
use Rattle.mold_repair.specs.declared.origin.RepairOrigin.TheVariants.{Line, Server}
use Rattle.mold_repair.specs.declared.stats.RepairCounts.{RepairCounts}

-- The counts at the start.
abbrev pub no_counts : RepairCounts
no_counts = record {
  requests = 0;
  answers = 0;
  useless = 0;
  lost = 0;
  again_a = 0;
  again_b = 0;
  contradictions = 0;
  contradiction = None;
}

-- The counts after a request was returned.
abbrev pub counted_request : RepairCounts → RepairCounts
counted_request c = record c { requests = u64_saturate (c.requests + 1) }

-- Whether no message of the datagram was delivered or stored.
abbrev pub is_useless : Taken → Bool
is_useless taken = (taken.handed == 0) && (taken.kept == 0)

-- The counts after a server's datagram was accepted.
abbrev pub counted_answer : Taken → RepairCounts → RepairCounts
counted_answer taken c =
    if is_useless taken
    then record c { answers = u64_saturate (c.answers + 1); useless = u64_saturate (c.useless + 1) }
    else record c { answers = u64_saturate (c.answers + 1) }

-- The counts after a datagram was accepted on this line. It is counted if no message of it was delivered or stored.
abbrev pub counted_line : TheLine → Taken → RepairCounts → RepairCounts
counted_line A taken c = if is_useless taken then record c { again_a = u64_saturate (c.again_a + 1) } else c
counted_line B taken c = if is_useless taken then record c { again_b = u64_saturate (c.again_b + 1) } else c

-- After a datagram was accepted.
abbrev pub counted_taken : RepairOrigin → Taken → RepairCounts → RepairCounts
counted_taken (Line line) taken c = counted_line line taken c
counted_taken (Server server) taken c = counted_answer taken c

-- The counts after a datagram was compared with the delivered messages. The number is that of the contradiction, if
-- there is one.
abbrev pub counted_contradiction : Option ℕ → RepairCounts → RepairCounts
counted_contradiction None c = c
counted_contradiction (Some number) c =
    record c { contradictions = u64_saturate (c.contradictions + 1); contradiction = Some number }

-- The statistics of a line by the arbiter's report, the count of its datagrams that brought nothing new, and its
-- greatest delay. The other datagrams brought something new.
abbrev pub line_stats : LineReport → ℕ → ℕ → LineStats
line_stats report again late = record {
  datagrams = report.datagrams;
  first = report.datagrams - again;
  again = again;
  refused = report.refused;
  late = late;
}

-- The counts after these messages were given up.
abbrev pub counted_loss : Gap → RepairCounts → RepairCounts
counted_loss gap c = record c { lost = u64_saturate (c.lost + (gap.end - gap.first)) }

-- The counts after a poll, which returned a request or none.
abbrev pub counted_poll : Option Ask → RepairCounts → RepairCounts
counted_poll None c = c
counted_poll (Some ask) c = counted_request c

-- The counts after these messages were given up, if any were.
abbrev pub counted_lost : Option Gap → RepairCounts → RepairCounts
counted_lost None c = c
counted_lost (Some gap) c = counted_loss gap c
