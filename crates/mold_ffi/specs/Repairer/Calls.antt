-- What the calls of a repairer return and write.
use Rattle.std.specs.Prelude.{◌≡◌, ◌⊎◌, ℕ, ◌-◌, List, [], Option, None, Some, Result, Ok, Err}
use Rattle.mold_pacing.specs.declared.gap.Gap.{Gap}
use Rattle.mold_receiver.specs.declared.taken.Taken.{Taken}
use Rattle.mold_repair.specs.Polls.{IsDeadline}
use Rattle.mold_repair.specs.declared.ask.Ask.{Ask}
use Rattle.mold_repair.specs.declared.origin.RepairOrigin.{RepairOrigin}
use Rattle.mold_rule.specs.declared.refusal.Refusal.{Refusal}
use Rattle.mold_wire.specs.Request.{SpellsRequest}
use Rattle.mold_ffi.specs.Code.Refusal.{refusal_code, refusal_number}
use Rattle.mold_ffi.specs.Repairer.BatchedRepairer.{HasLostAt, HasPolledAt, HasTakenAt, HasWaitedAt}
use Rattle.mold_ffi.specs.declared.checker.mold_range.MoldRange.{MoldRange}
use Rattle.mold_ffi.specs.declared.code.TheConstants as codes
use Rattle.mold_ffi.specs.declared.handle.held.Held.{Held}
use Rattle.mold_ffi.specs.declared.handle.held.Held.TheVariants.{Checker, Listener, Publisher, Repairer, Server}
use Rattle.mold_ffi.specs.declared.listener.mold_taken.MoldTaken.{MoldTaken}
use Rattle.mold_ffi.specs.declared.repairer.batched_repairer.BatchedRepairer.{BatchedRepairer}

-- The handle holds a repairer of which this is true.
abbrev pub HoldsRepairer : Option Held → (BatchedRepairer → Type 0) → Type 0
HoldsRepairer None property = ⊥
HoldsRepairer (Some (Listener batched)) property = ⊥
HoldsRepairer (Some (Publisher exchange)) property = ⊥
HoldsRepairer (Some (Server serving)) property = ⊥
HoldsRepairer (Some (Checker seen)) property = ⊥
HoldsRepairer (Some (Repairer timed)) property = property timed

-- The code of a datagram that was taken or refused.
abbrev pub taken_code : Result Taken Refusal → ℕ
taken_code (Ok taken) = codes.DONE
taken_code (Err refusal) = refusal_code refusal

-- The fields: the three counts, or the number that goes with the refusal. The padding `unused` is unchanged.
abbrev pub taken_fields : Result Taken Refusal → ℕ → MoldTaken
taken_fields (Ok taken) unused = record {
  detail = 0;
  delivered = taken.handed;
  kept = taken.kept;
  dropped = taken.beyond;
  unused = unused;
}
taken_fields (Err refusal) unused =
    record { detail = refusal_number refusal; delivered = 0; kept = 0; dropped = 0; unused = unused }

-- A datagram was taken or refused, or an allocation failed.
pub record TakesAt (now : ℕ) (origin : RepairOrigin) (bytes : List ℕ) (old : BatchedRepairer) (unused code : ℕ)
    (fields : MoldTaken) (new : Option Held) : Type 0 where
  pub result : Result Taken Refusal
  pub by_code : code ≡ taken_code result
  pub by_fields : fields ≡ taken_fields result unused
  pub holds : HoldsRepairer new (λ next. HasTakenAt now origin bytes old next result)

-- A request was written, or there is none to send.
abbrev pub PollsAt : (now : ℕ) (old : BatchedRepairer) (code : ℕ) (before after : List ℕ) (server_before server : ℕ)
    (new : Option Held) → Type 0
PollsAt now old code before after server_before server new =
    ((ask : Ask) × (code ≡ codes.DONE) × SpellsRequest ask.request after × (server ≡ ask.server)
    × HoldsRepairer new (λ next. HasPolledAt now old next (Some ask)))
    ⊎ ((code ≡ codes.ABSENT) × (after ≡ before) × (server ≡ server_before)
    × HoldsRepairer new (λ next. HasPolledAt now old next None))

-- The deadline was written, or no message is missing.
pub record HasDeadlineAt (now : ℕ) (old : BatchedRepairer) (code before after : ℕ) (new : Option Held) : Type 0 where
  pub absent : old.repairer.arbiter.view.next ≡ old.repairer.arbiter.view.known →
      (code ≡ codes.ABSENT) × (after ≡ before)
  pub missing : (old.repairer.arbiter.view.next ≡ old.repairer.arbiter.view.known → ⊥) →
      (code ≡ codes.DONE) × HoldsRepairer new (λ next. IsDeadline old.repairer.options.give_up
      old.repairer.arbiter.view next.repairer.pacer after)
  pub waited : HoldsRepairer new (HasWaitedAt now old)

-- The numbers of a gap as the fields of a struct.
abbrev pub gap_fields : Gap → MoldRange
gap_fields gap = record { first = gap.first; last = gap.end - 1 }

-- Messages were given up, or none are to be given up now, or an allocation failed and only the time passed.
abbrev pub GivesUpAt : (now : ℕ) (old : BatchedRepairer) (code : ℕ) (before after : MoldRange) (new : Option Held) → Type 0
GivesUpAt now old code before after new =
    ((gap : Gap) × (code ≡ codes.DONE) × (after ≡ gap_fields gap)
    × HoldsRepairer new (λ next. HasLostAt now old next (Some gap)))
    ⊎ (((code ≡ codes.ABSENT) × (after ≡ before) × HoldsRepairer new (λ next. HasLostAt now old next None))
    ⊎ ((code ≡ codes.MEMORY) × (after ≡ before) × HoldsRepairer new (HasWaitedAt now old)))

-- The same, if the batch is empty. Otherwise the call is refused, and nothing changes.
pub record LosesAt (now : ℕ) (old : BatchedRepairer) (code : ℕ) (before after : MoldRange) (new : Option Held) :
    Type 0 where
  pub full : (old.batch.messages ≡ [] → ⊥) → (code ≡ codes.BATCH) × (after ≡ before) × (new ≡ Some (Repairer old))
  pub gives_up : old.batch.messages ≡ [] → GivesUpAt now old code before after new
