-- The gaps of a listener, and what `mold_listener_skip` returns.
use Rattle.std.specs.Prelude.{◌≡◌, ◌⊎◌, ℕ, ◌-◌, ◌<◌, List, [], Option, Some, length, max}
use Rattle.mold_receiver.specs.Batch.{followed_by}
use Rattle.mold_receiver.specs.Skip.{AreMissing, skipped, skipped_run}
use Rattle.mold_receiver.specs.View.{View}
use Rattle.mold_receiver.specs.Wanted.{lacks}
use Rattle.mold_rule.specs.Ranges.{Range, ranges}
use Rattle.mold_ffi.specs.Listener.BatchedArbiter.{BatchedArbitration}
use Rattle.mold_ffi.specs.declared.code.TheConstants as codes
use Rattle.mold_ffi.specs.declared.handle.held.Held.{Held}
use Rattle.mold_ffi.specs.declared.handle.held.Held.TheVariants.{Listener}

-- The missing numbers from `from` on, as the longest ranges, in ascending order.
abbrev pub gaps_from : View → ℕ → List Range
gaps_from v from = ranges (lacks v.store) (max from v.next) (v.known - max from v.next)

-- The messages from the next one to just below `to` may be given up: there is at least one, and all are missing.
abbrev pub MaySkip : View → ℕ → Type 0
MaySkip v to = (v.next < to) × AreMissing v to

-- The listener after the messages below `to` were given up. The stored messages that follow joined the batch.
abbrev pub skipped_to : BatchedArbitration → ℕ → BatchedArbitration
skipped_to old to = record {
  arbitration = record { view = skipped old.arbitration.view to; reports = old.arbitration.reports };
  batch = followed_by old.batch to (skipped_run old.arbitration.view to);
  from_hear = 0;
}

-- The messages below `to` were given up; or the call was refused, for the first reason that applies, and nothing
-- changed. An allocation can only fail if stored messages follow.
pub record Skips (old : BatchedArbitration) (to code : ℕ) (new : Option Held) : Type 0 where
  pub full : (old.batch.messages ≡ [] → ⊥) → (code ≡ codes.BATCH) × (new ≡ Some (Listener old))
  pub refused : old.batch.messages ≡ [] → (MaySkip old.arbitration.view to → ⊥) →
      (code ≡ codes.NOT_MISSING) × (new ≡ Some (Listener old))
  pub skipped : old.batch.messages ≡ [] → MaySkip old.arbitration.view to →
      ((code ≡ codes.DONE) × (new ≡ Some (Listener (skipped_to old to))))
      ⊎ ((code ≡ codes.MEMORY) × (new ≡ Some (Listener old)) × (0 < length (skipped_run old.arbitration.view to)))
