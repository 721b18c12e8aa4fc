-- The sends on the lines of a publisher.
use Rattle.std.specs.Prelude.{Bool, true, false, ◌&&◌, ◌||◌, ◌==◌, nat_lt}
use Rattle.mold_devices.specs.Devices.{one_more}
use Rattle.mold_feeder.specs.declared.send_counts.LineCounts.{LineCounts}
use Rattle.mold_feeder.specs.declared.send_counts.SendCounts.{SendCounts}

-- The counts of a line after one more send. The Boolean states whether it failed.
abbrev pub counted : Bool → SendCounts → SendCounts
counted true counts = record counts { failed = one_more counts.failed }
counted false counts = record counts { sent = one_more counts.sent }

-- Whether there was a send on the line, and each one failed.
abbrev pub all_failed : SendCounts → Bool
all_failed counts = counts.sent == 0 && nat_lt 0 counts.failed

-- Whether each send on line A or each send on line B failed. A line on which nothing was sent does not count.
abbrev pub is_line_lost : LineCounts → Bool
is_line_lost counts = all_failed counts.a || all_failed counts.b
