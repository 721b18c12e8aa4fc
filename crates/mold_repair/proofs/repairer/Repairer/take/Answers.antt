use Rattle.std.proofs.Common.{◌∙◌, ℕ, List, [], cond, drop, length, max, nat_lt, ap, subst, sym, arith}
use Rattle.mold_pacing.specs.declared.delays.Delays.{Delays}
use Rattle.mold_pacing.specs.declared.state.PacerState.{PacerState}
use Rattle.mold_pacing.specs.declared.step.Step.{Step}
use Rattle.mold_receiver.specs.Arbiter.{Arbitration, HasArbitrated}
use Rattle.mold_receiver.specs.Origin.{line_of}
use Rattle.mold_receiver.specs.declared.origin.Origin.{Origin}
use Rattle.mold_receiver.specs.View.{View}
use Rattle.mold_repair.specs.Came.{noted}
use Rattle.mold_repair.specs.Header.{head}
use Rattle.mold_repair.specs.Taking.{HasLearned, taken_steps}
use Rattle.mold_repair.specs.Timing.{IsTimed, adapted_from}
use Rattle.mold_repair.specs.declared.options.RepairOptions.{RepairOptions}
use Rattle.mold_audit.specs.declared.audit.Audit.{Audit}
use Rattle.mold_audit.specs.Kept.{HasNoted}
use Rattle.mold_repair.specs.Stats.{counted_taken}
use Rattle.mold_repair.specs.declared.stats.RepairCounts.{RepairCounts}
use Rattle.mold_repair.proofs.AuditLemmas.{is_delivered, noted_last, noted_within}
use Rattle.mold_repair.proofs.CountLemmas.{counted_either}
use Rattle.mold_pacing.specs.declared.flight.Flight.{Flight}
use Rattle.mold_repair.specs.Front.{IsFront}
use Rattle.mold_repair.proofs.FrontLemmas.{front_continues, taken_continues}
use Rattle.mold_repair.proofs.ProgressLemmas.{ReceiverLaws}
use Rattle.mold_repair.proofs.LossLemmas.{contradicted_lost, taken_lost}
use Rattle.mold_repair.proofs.TakingLemmas.{advanced_now, learned_all, passed}
use Rattle.mold_repair.proofs.repairer.Repairer.take.Goals as goal
use Rattle.mold_wire.specs.Reading.{reading}

pub returns-in-Err-clause-passed : goal.returns-in-Err-clause-passed
returns-in-Err-clause-passed c =
    let old = c.args.self.now in
    let known = c.known-known.ensures ∙ ap (λ (v : View). v.known) c.receiver-receiver.ensures in
    (passed c.args.now c.known-known.result old.arbiter.view old.pacer c.advance.new.self
    known c.advance.ensures.options c.advance.ensures.state c.advance.ensures.flights)

pub returns-in-Ok-clause-learned : goal.returns-in-Ok-clause-learned
returns-in-Ok-clause-learned c =
    let old = c.args.self.now in
    let now = c.args.now in
    let origin = c.args.origin in
    let bytes = c.args.datagram.now in
    let v = old.arbiter.view in
    let new = c.adapt.new.self in
    let known = c.known-known.ensures ∙ ap (λ (w : View). w.known) c.receiver-receiver.ensures in
    let next = c.next.ensures ∙ ap (λ (w : View). w.next) c.receiver-receiver.ensures in
    let took = passed now c.known-known.result v old.pacer c.advance.new.self
    known c.advance.ensures.options c.advance.ensures.state c.advance.ensures.flights in
    let after = ap (λ (a : Arbitration). a.view) (c.adapt.ensures.arbiter ∙ c.learn.ensures.arbiter) in
    let between = c.advance.new.self in
    let time = ap (λ (s : PacerState). s.now) c.advance.ensures.state ∙ advanced_now now c.known-known.result old.pacer.state in
    let flights = c.advance.ensures.flights in
    let taken = c.take_top.new.self.view in
    let learned = subst (λ (steps : List Step). HasLearned between c.learn.new.self.pacer
    (cond (nat_lt c.next.result c.known-known.result) steps []))
    (λ i. noted origin bytes taken (time i) (flights i)) c.learn.ensures.learned in
    let all = learned_all now (nat_lt c.next.result c.known-known.result) v
    (noted origin bytes taken (max old.pacer.state.now now) old.pacer.flights.items)
    (adapted_from c.learn.new.self.options origin (head (reading bytes)) new.delays) old.pacer between
    c.learn.new.self.pacer new.pacer took (λ i. nat_lt (next i) (known i)) learned c.adapt.ensures.learned in
    subst (λ (w : View). HasLearned old.pacer new.pacer
    (taken_steps old.options now origin bytes v w new.delays old.pacer)) (sym after)
    (subst (λ (o : RepairOptions). HasLearned old.pacer new.pacer
    (taken_steps o now origin bytes v taken new.delays old.pacer)) c.learn.ensures.options all)

pub returns-in-Ok-clause-timed : goal.returns-in-Ok-clause-timed
returns-in-Ok-clause-timed c =
    let old = c.args.self.now in
    let came = head (reading c.args.datagram.now) in
    let new = c.adapt.new.self in
    let now = c.learn.ensures.now ∙ ap (λ (s : PacerState). s.now) c.advance.ensures.state
    ∙ advanced_now c.args.now c.known-known.result old.pacer.state in
    subst (λ (d : Delays). IsTimed old.options (max old.pacer.state.now c.args.now) c.args.origin came d new.delays)
    c.learn.ensures.delays
    (subst (λ (n : ℕ). IsTimed old.options n c.args.origin came c.learn.new.self.delays new.delays) now
    (subst (λ (o : RepairOptions). IsTimed o c.learn.new.self.pacer.state.now c.args.origin came c.learn.new.self.delays
    new.delays) c.learn.ensures.options c.adapt.ensures.timed))

pub returns-in-Ok-clause-taken : goal.returns-in-Ok-clause-taken
returns-in-Ok-clause-taken c =
    subst (λ (o : Origin). HasArbitrated (line_of o) c.args.self.now.arbiter c.args.datagram.now c.args.batch.now
    c.adapt.new.self.arbiter c.take_top.new.batch c.in-Ok.field-0.taken) c.receiver_origin.ensures
    (subst (λ (a : Arbitration). HasArbitrated (line_of c.receiver_origin.result) c.args.self.now.arbiter
    c.args.datagram.now c.args.batch.now a c.take_top.new.batch c.in-Ok.field-0.taken)
    (sym (c.adapt.ensures.arbiter ∙ c.learn.ensures.arbiter)) c.in-Ok.ensures.taken)

pub audit_taken-found-requires-clause-there : goal.audit_taken-found-requires-clause-there
audit_taken-found-requires-clause-there c =
    let is = is_delivered c.taken_law.ensures _ _ _ _ _ _ _ c.in-Ok.ensures.taken in
    omega (arith, is.long)

pub invariant_of-self-clause-noted : goal.invariant_of-self-clause-noted
invariant_of-self-clause-noted c =
    let old = c.args.self.now in
    let batch = c.take_top.new.batch in
    let is = is_delivered c.taken_law.ensures _ _ _ _ _ _ _ c.in-Ok.ensures.taken in
    let next = c.next-next.ensures ∙ ap (λ (v : View). v.next) c.receiver.ensures in
    let noted = noted_last old.audit c.audit_taken-found.new.audit old.arbiter c.take_top.new.self c.args.batch.now
    batch c.in-Ok.field-0.taken.handed is (rw next at c.audit_taken-found.ensures.noted) in
    noted_within old.audit c.audit_taken-found.new.audit old.arbiter c.take_top.new.self c.args.batch.now batch
    c.in-Ok.field-0.taken.handed is (c.next_law.ensures old.audit c.audit_taken-found.new.audit old.arbiter.view.next
    (drop (length c.args.batch.now.messages) batch.messages) old.noted noted)

pub returns-in-Ok-clause-audited : goal.returns-in-Ok-clause-audited
returns-in-Ok-clause-audited c =
    let old = c.args.self.now in
    let batch = c.take_top.new.batch in
    let is = is_delivered c.taken_law.ensures _ _ _ _ _ _ _ c.in-Ok.ensures.taken in
    let next = c.next-next.ensures ∙ ap (λ (v : View). v.next) c.receiver.ensures in
    let noted = noted_last old.audit c.audit_taken-found.new.audit old.arbiter c.take_top.new.self c.args.batch.now
    batch c.in-Ok.field-0.taken.handed is (rw next at c.audit_taken-found.ensures.noted) in
    record {
      found = c.audit_taken-found.result;
      is = c.audit_taken-found.ensures.compared;
      counts =
          c.adapt.ensures.counts ∙ c.learn.ensures.counts ∙ c.take.ensures
          ∙ ap (counted_taken c.args.origin c.in-Ok.field-0.taken) c.contradict.ensures
          ∙ counted_either c.args.origin c.in-Ok.field-0.taken c.audit_taken-found.result old.counts;
      noted =
          subst (λ (a : Audit). HasNoted old.audit a old.arbiter.view.next
          (drop (length c.args.batch.now.messages) batch.messages))
          (sym (c.adapt.ensures.audit ∙ c.learn.ensures.audit)) noted;
    }

pub returns-in-Ok-clause-given_up : goal.returns-in-Ok-clause-given_up
returns-in-Ok-clause-given_up c =
    ap (λ (k : RepairCounts). k.lost) (c.adapt.ensures.counts ∙ c.learn.ensures.counts ∙ c.take.ensures)
    ∙ taken_lost c.args.origin c.in-Ok.field-0.taken c.contradict.new.self
    ∙ ap (λ (k : RepairCounts). k.lost) c.contradict.ensures
    ∙ contradicted_lost c.audit_taken-found.result c.args.self.now.counts

pub invariant_of-self-clause-formed : goal.invariant_of-self-clause-formed
invariant_of-self-clause-formed c =
    let old = c.args.self.now in
    let laws : ReceiverLaws = record {
      taken = c.taken_law.ensures;
      received = c.well_formed_law.ensures.received;
      gave_up = c.well_formed_law.ensures.skipped;
      keeps = c.having_law.ensures.received;
      keeps_skipped = c.having_law.ensures.skipped;
    } in
    let on = taken_continues laws (line_of c.receiver_origin.result) c.args.datagram.now old.arbiter c.take_top.new.self
    c.args.batch.now c.take_top.new.batch c.in-Ok.field-0.taken c.in-Ok.ensures.taken old.formed in
    on.0.well_formed

pub invariant_of-self-clause-fronted : goal.invariant_of-self-clause-fronted
invariant_of-self-clause-fronted c =
    let old = c.args.self.now in
    let laws : ReceiverLaws = record {
      taken = c.taken_law.ensures;
      received = c.well_formed_law.ensures.received;
      gave_up = c.well_formed_law.ensures.skipped;
      keeps = c.having_law.ensures.received;
      keeps_skipped = c.having_law.ensures.skipped;
    } in
    let on = taken_continues laws (line_of c.receiver_origin.result) c.args.datagram.now old.arbiter c.take_top.new.self
    c.args.batch.now c.take_top.new.batch c.in-Ok.field-0.taken c.in-Ok.ensures.taken old.formed in
    let number = old.front.number in
    let until = old.front.until in
    front_continues old.arbiter.view c.take_top.new.self.view c.advance.new.self.flights.items number until on.0 on.1
    (subst (λ (fs : List Flight). IsFront old.arbiter.view fs number until) (sym c.advance.ensures.flights) old.fronted)
