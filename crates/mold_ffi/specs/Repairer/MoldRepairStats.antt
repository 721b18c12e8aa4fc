-- The statistics of a repairer as the fields of a struct.
use Rattle.std.specs.Prelude.{◌≡◌, ℕ, ◌-◌, Option, None, Some, unwrap_or}
use Rattle.mold_receiver.specs.declared.gap.Gap.{Gap}
use Rattle.mold_repair.specs.StatsOf.{IsStats}
use Rattle.mold_repair.specs.declared.line_stats.LineStats.{LineStats}
use Rattle.mold_repair.specs.declared.repairer.Repairer.{Repairer}
use Rattle.mold_repair.specs.declared.stats.RepairStats.{RepairStats}
use Rattle.mold_ffi.specs.declared.repairer.mold_repair_stats.MoldLineStats.{MoldLineStats}
use Rattle.mold_ffi.specs.declared.repairer.mold_repair_stats.MoldRepairStats.{MoldRepairStats}

-- The fields of a line's statistics.
abbrev pub line_fields : LineStats → MoldLineStats
line_fields stats = record {
  datagrams = stats.datagrams;
  first = stats.first;
  again = stats.again;
  refused = stats.refused;
  late = stats.late;
}

-- The first number of the gap; 0 if there is none.
abbrev pub gap_first : Option Gap → ℕ
gap_first None = 0
gap_first (Some gap) = gap.first

-- The last number of the gap; 0 if there is none.
abbrev pub gap_last : Option Gap → ℕ
gap_last None = 0
gap_last (Some gap) = gap.end - 1

-- The fields of a repairer's statistics.
abbrev pub stats_fields : RepairStats → MoldRepairStats
stats_fields stats = record {
  next = stats.next;
  known = stats.known;
  gap_first = gap_first stats.gap;
  gap_last = gap_last stats.gap;
  missing = stats.missing;
  stored = stats.stored;
  patience = stats.patience;
  requests = stats.counts.requests;
  answers = stats.counts.answers;
  useless = stats.counts.useless;
  lost = stats.counts.lost;
  contradictions = stats.counts.contradictions;
  contradiction = unwrap_or stats.counts.contradiction 0;
  a = line_fields stats.a;
  b = line_fields stats.b;
}

-- The fields are those of the repairer's statistics.
pub record AreStatsOf (repairer : Repairer) (fields : MoldRepairStats) : Type 0 where
  pub stats : RepairStats
  pub are : IsStats repairer stats
  pub by_fields : fields ≡ stats_fields stats
