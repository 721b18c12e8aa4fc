-- The statistics of a repairer.
use Rattle.std.specs.Prelude.{◌≡◌, IfNone, IfSome, max}
use Rattle.std.specs.FinMap as finite
use Rattle.mold_pacing.specs.Delays.{greatest_on}
use Rattle.mold_receiver.specs.Wanted.{HasNoGap, IsNextGap, missing}
use Rattle.mold_receiver.specs.declared.line.Line.TheVariants.{A, B}
use Rattle.mold_repair.specs.Stats.{line_stats}
use Rattle.mold_repair.specs.Timing.{line_index}
use Rattle.mold_repair.specs.declared.origin.RepairOrigin.TheVariants.{Line}
use Rattle.mold_repair.specs.declared.repairer.Repairer.{Repairer}
use Rattle.mold_repair.specs.declared.stats.RepairStats.{RepairStats}

-- The statistics are those of the repairer.
pub record IsStats (r : Repairer) (s : RepairStats) : Type 0 where
  pub next : s.next ≡ r.arbiter.view.next
  pub known : s.known ≡ r.arbiter.view.known
  -- The first gap, if there is one.
  pub first : IfSome s.gap (IsNextGap r.arbiter.view (max 0 r.arbiter.view.next))
  pub none : IfNone s.gap (HasNoGap r.arbiter.view (max 0 r.arbiter.view.next))
  pub lacking : s.missing ≡ missing r.arbiter.view
  pub stored : s.stored ≡ finite.len r.arbiter.view.store
  pub patience : s.patience ≡ r.pacer.state.patience
  pub line_a : s.a ≡ line_stats r.arbiter.reports.a r.counts.again_a
      (greatest_on (line_index (Line A)) r.delays.recent.items)
  pub line_b : s.b ≡ line_stats r.arbiter.reports.b r.counts.again_b
      (greatest_on (line_index (Line B)) r.delays.recent.items)
  pub counts : s.counts ≡ r.counts
