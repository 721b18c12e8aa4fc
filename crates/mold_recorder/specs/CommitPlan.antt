-- When the messages that wait in a durable journal are committed.
use Rattle.std.specs.Prelude.{◌≡◌, ℕ, ◌+◌, ◌<◌, Bool, false, if◌then◌else◌, nat_le, List, [], length, Option, None}
use Rattle.std.specs.Prelude.{Some}
use Rattle.mold_session.specs.Records.{records}
use Rattle.mold_session.specs.declared.records.TheConstants.{RECORD_HEAD}
use Rattle.mold_recorder.specs.declared.commit_plan.CommitPlan.{CommitPlan}
use Rattle.mold_recorder.specs.declared.commit_plan.TheConstants.{BUSY_SPAN, IDLE_SPAN, MOST_WAITING}

-- The plan while no message waits.
abbrev pub plan_of_none : CommitPlan
plan_of_none = record { bytes = 0; oldest = None }

-- The time of the oldest message, once a message was appended at the time `now`.
abbrev pub oldest_after : Option ℕ → ℕ → Option ℕ
oldest_after None now = Some now
oldest_after (Some oldest) now = Some oldest

-- The plan after a message of `len` bytes was appended at the time `now`.
abbrev pub plan_after : CommitPlan → ℕ → ℕ → CommitPlan
plan_after plan len now =
    record { bytes = plan.bytes + (RECORD_HEAD + len); oldest = oldest_after plan.oldest now }

-- How long the oldest message may wait. `idle` states whether no port has a datagram.
abbrev pub longest_wait : Bool → ℕ
longest_wait idle = if idle then IDLE_SPAN else BUSY_SPAN

-- Whether a message has waited for `span` at the time `now`.
abbrev pub has_waited : ℕ → Option ℕ → ℕ → Bool
has_waited span None now = false
has_waited span (Some oldest) now = nat_le (oldest + span) now

-- Whether a commit is due at the time `now`.
abbrev pub is_due : CommitPlan → ℕ → Bool → Bool
is_due plan now idle = has_waited (longest_wait idle) plan.oldest now

-- The plan is that of the messages that wait. Their records have less than `MOST_WAITING` bytes.
pub record IsPlanOf (plan : CommitPlan) (waiting : List (List ℕ)) : Type 0 where
  pub counted : plan.bytes ≡ length (records waiting)
  pub few : plan.bytes < MOST_WAITING
  pub timed : plan.oldest ≡ None → waiting ≡ []
