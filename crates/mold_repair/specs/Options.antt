-- The options of a repairer.
use Rattle.std.specs.Prelude.{◌≡◌, ℕ, ◌*◌, ◌-◌, ◌==◌, ◌&&◌, Bool, max, min, nat_le, nat_lt, if◌then◌else◌}
use Rattle.mold_audit.specs.declared.audit.TheConstants.{MAX_AUDIT}
use Rattle.mold_pacing.specs.declared.options.PacerOptions.{PacerOptions}
use Rattle.mold_pacing.specs.declared.delays.TheConstants.{FIRST_PATIENCE}
use Rattle.mold_repair.specs.declared.options.RepairOptions.{RepairOptions}
use Rattle.mold_repair.specs.declared.options.TheConstants.{MAX_BUCKET, MAX_GIVE_UP, MAX_PATIENCE, MAX_PLACES}
use Rattle.mold_repair.specs.declared.options.TheConstants.{MAX_SERVERS, MAX_TIME}
use Rattle.mold_wire.specs.declared.limits.TheConstants.{MAX_COUNT}

-- Whether the times are in their ranges.
abbrev pub are_times : RepairOptions → Bool
are_times o =
    nat_le o.patience MAX_PATIENCE && (nat_lt 0 o.timeout && (nat_le o.timeout o.ceiling && (nat_le o.ceiling MAX_TIME
    && (nat_lt 0 o.settle && (nat_le o.settle MAX_TIME && nat_le o.interval MAX_TIME)))))

-- Whether the other numbers are in their ranges.
abbrev pub are_counts : RepairOptions → Bool
are_counts o =
    nat_lt 0 o.bucket && (nat_le o.bucket MAX_BUCKET && (nat_lt 0 o.places && (nat_le o.places MAX_PLACES
    && (nat_le o.servers MAX_SERVERS && (nat_le o.give_up MAX_GIVE_UP && nat_le o.audit MAX_AUDIT)))))

-- Whether each number is in its range.
abbrev pub are_options : RepairOptions → Bool
are_options o = are_times o && are_counts o

-- The patience before the delays between the lines are known.
abbrev pub first_patience : RepairOptions → ℕ
first_patience o = if o.patience == 0 then FIRST_PATIENCE else o.patience

-- How many nanoseconds a request may be sent before its regular time, which is an interval after that of the last
-- request. It allows `bucket` requests at once.
abbrev pub tolerance : RepairOptions → ℕ
tolerance o = min (o.interval * (o.bucket - 1)) MAX_TIME

-- The pacer has these options. Without a server, requests are counted as if there were one.
pub record ArePacerOptions (o : RepairOptions) (p : PacerOptions) : Type 0 where
  pub patience : p.patience ≡ first_patience o
  pub timeout : p.timeout ≡ o.timeout
  pub ceiling : p.ceiling ≡ o.ceiling
  pub settle : p.settle ≡ o.settle
  pub interval : p.interval ≡ o.interval
  pub early : p.tolerance ≡ tolerance o
  pub most : p.most ≡ MAX_COUNT
  pub places : p.places ≡ o.places
  pub servers : p.servers ≡ max o.servers 1
