-- What a repairer's handle holds: the repairer, and the batch of the messages that it delivered.
use Rattle.std.specs.Prelude.{◌≡◌, ℕ, List, [], drop, length, max, Result, IfErr, IfOk, OnErr, OnOk, Option}
use Rattle.mold_audit.specs.Kept.{size_of}
use Rattle.mold_pacing.specs.Delays.{no_arrivals, no_delays}
use Rattle.mold_pacing.specs.State.{fresh}
use Rattle.mold_pacing.specs.declared.gap.Gap.{Gap}
use Rattle.mold_receiver.specs.Arbiter.{HasArbitrated, HasRefused}
use Rattle.mold_receiver.specs.Fresh.{fresh_arbitration_within}
use Rattle.mold_receiver.specs.Origin.{line_of}
use Rattle.mold_receiver.specs.declared.taken.Taken.{Taken}
use Rattle.mold_repair.specs.Auditing.{HasAudited, HasAuditedLoss}
use Rattle.mold_repair.specs.GivingUp.{HasGivenUp}
use Rattle.mold_repair.specs.Header.{head}
use Rattle.mold_repair.specs.Origin.{receiver_origin}
use Rattle.mold_repair.specs.Polls.{HasPolled}
use Rattle.mold_repair.specs.Stats.{counted_lost, counted_poll, counted_taken, no_counts}
use Rattle.mold_repair.specs.Taking.{HasLearned, HasPassed, taken_steps}
use Rattle.mold_repair.specs.Timing.{IsTimed}
use Rattle.mold_repair.specs.declared.ask.Ask.{Ask}
use Rattle.mold_repair.specs.declared.origin.RepairOrigin.{RepairOrigin}
use Rattle.mold_rule.specs.declared.refusal.Refusal.{Refusal}
use Rattle.mold_wire.specs.Reading.{reading}
use Rattle.mold_wire.specs.declared.session.Session.{Session}
use Rattle.mold_ffi.specs.Listener.BatchedArbiter.{BatchedArbitration}
use Rattle.mold_ffi.specs.Listener.Room.{room_of}
use Rattle.mold_ffi.specs.Repairer.MoldRepairOptions.{options_of}
use Rattle.mold_ffi.specs.declared.repairer.batched_repairer.BatchedRepairer.{BatchedRepairer}
use Rattle.mold_ffi.specs.declared.repairer.mold_repair_options.MoldRepairOptions.{MoldRepairOptions}

-- The listener that a repairer is made of: its arbiter and its batch. `mold_listener_hear` does not accept a repairer.
abbrev pub batched_of : BatchedRepairer → BatchedArbitration
batched_of timed = record { arbitration = timed.repairer.arbiter; batch = timed.batch; from_hear = 0 }

-- A repairer with these options, before it was passed a time. It received nothing, and delivered nothing.
pub record IsFresh (session : Session) (fields : MoldRepairOptions) (timed : BatchedRepairer) : Type 0 where
  pub arbiter :
      timed.repairer.arbiter ≡ fresh_arbitration_within (room_of fields.store) session fields.next fields.window
  pub batch : timed.batch ≡ record { first = 0; messages = [] }
  pub options : timed.repairer.options ≡ options_of fields
  pub state : timed.repairer.pacer.state ≡ fresh timed.repairer.pacer.options fields.next
  pub flights : timed.repairer.pacer.flights.items ≡ []
  pub arrivals : timed.repairer.delays.arrivals.items ≡ no_arrivals
  pub delays : timed.repairer.delays.recent.items ≡ no_delays
  pub counts : timed.repairer.counts ≡ no_counts
  pub audit : size_of timed.repairer.audit ≡ fields.audit
  pub noted : timed.repairer.audit.next ≡ 0

-- The same repairer with an empty batch.
pub record IsCleared (old new : BatchedRepairer) : Type 0 where
  pub repairer : new.repairer ≡ old.repairer
  pub batch : new.batch ≡ record { first = 0; messages = [] }

-- A repairer took or refused a datagram at the time `now`. Its arbiter and its batch changed as those of a listener,
-- and its pacer learned of it.
pub record HasTakenAt (now : ℕ) (origin : RepairOrigin) (bytes : List ℕ) (old new : BatchedRepairer)
    (result : Result Taken Refusal) : Type 0 where
  pub taken : IfOk result (λ taken. HasArbitrated (line_of (receiver_origin origin)) old.repairer.arbiter bytes
      old.batch new.repairer.arbiter new.batch taken)
  pub refused : IfErr result (λ refused. HasRefused (line_of (receiver_origin origin)) old.repairer.arbiter bytes
      new.repairer.arbiter refused)
  pub batch : OnErr result (new.batch ≡ old.batch)
  pub learned : OnOk result (HasLearned old.repairer.pacer new.repairer.pacer (taken_steps old.repairer.options now
      origin bytes old.repairer.arbiter.view new.repairer.arbiter.view new.repairer.delays old.repairer.pacer))
  pub timed : OnOk result (IsTimed old.repairer.options (max old.repairer.pacer.state.now now) origin
      (head (reading bytes)) old.repairer.delays new.repairer.delays)
  pub passed : OnErr result (HasPassed now old.repairer.arbiter.view old.repairer.pacer new.repairer.pacer)
  pub delays : OnErr result (new.repairer.delays ≡ old.repairer.delays)
  pub options : new.repairer.options ≡ old.repairer.options
  pub audited : IfOk result (λ taken. HasAudited old.repairer.audit new.repairer.audit
      (counted_taken origin taken old.repairer.counts) new.repairer.counts bytes old.repairer.arbiter.view.next
      (drop (length old.batch.messages) new.batch.messages))
  pub counts : OnErr result (new.repairer.counts ≡ old.repairer.counts)
  pub audit : OnErr result (new.repairer.audit ≡ old.repairer.audit)

-- A repairer was polled at the time `now`, and returned this request or none.
pub record HasPolledAt (now : ℕ) (old new : BatchedRepairer) (result : Option Ask) : Type 0 where
  pub polled : HasPolled old.repairer.options old.repairer.arbiter.view old.repairer.pacer new.repairer.pacer now result
  pub arbiter : new.repairer.arbiter ≡ old.repairer.arbiter
  pub batch : new.batch ≡ old.batch
  pub options : new.repairer.options ≡ old.repairer.options
  pub delays : new.repairer.delays ≡ old.repairer.delays
  pub counts : new.repairer.counts ≡ counted_poll result old.repairer.counts
  pub audit : new.repairer.audit ≡ old.repairer.audit

-- A repairer whose batch was empty gave up these messages at the time `now`, or none. The stored messages that follow
-- joined the batch.
pub record HasLostAt (now : ℕ) (old new : BatchedRepairer) (lost : Option Gap) : Type 0 where
  pub gave : HasGivenUp now old.repairer.options.give_up old.repairer.arbiter new.repairer.arbiter old.batch new.batch
      old.repairer.pacer new.repairer.pacer lost
  pub options : new.repairer.options ≡ old.repairer.options
  pub delays : new.repairer.delays ≡ old.repairer.delays
  pub counts : new.repairer.counts ≡ counted_lost lost old.repairer.counts
  pub audited : HasAuditedLoss old.repairer.audit new.repairer.audit new.batch.messages lost

-- Only the time passed, up to `now`.
pub record HasWaitedAt (now : ℕ) (old new : BatchedRepairer) : Type 0 where
  pub passed : HasPassed now old.repairer.arbiter.view old.repairer.pacer new.repairer.pacer
  pub arbiter : new.repairer.arbiter ≡ old.repairer.arbiter
  pub batch : new.batch ≡ old.batch
  pub options : new.repairer.options ≡ old.repairer.options
  pub delays : new.repairer.delays ≡ old.repairer.delays
  pub counts : new.repairer.counts ≡ old.repairer.counts
  pub audit : new.repairer.audit ≡ old.repairer.audit
