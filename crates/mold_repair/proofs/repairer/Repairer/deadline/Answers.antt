use Rattle.std.proofs.Common.{◌∙◌, ap, arith, sym}
use Rattle.mold_receiver.specs.View.{View}
use Rattle.mold_repair.proofs.GivingUpLemmas.{due_later}
use Rattle.mold_repair.proofs.ReadyLemmas.{marked_later}
use Rattle.mold_repair.proofs.TakingLemmas.{passed}
use Rattle.mold_repair.proofs.repairer.Repairer.deadline.Goals as goal

pub returns-then-not-is_missing-clause-passed : goal.returns-then-not-is_missing-clause-passed
returns-then-not-is_missing-clause-passed c =
    let old = c.args.self.now in
    let known = c.known-known.ensures ∙ ap (λ (v : View). v.known) c.receiver-receiver.ensures in
    passed c.args.now c.known-known.result old.arbiter.view old.pacer c.advance.new.self
    known c.advance.ensures.options c.advance.ensures.state c.advance.ensures.flights

pub returns-then-is_some-clause-passed : goal.returns-then-is_some-clause-passed
returns-then-is_some-clause-passed c =
    let old = c.args.self.now in
    let known = c.known-known.ensures ∙ ap (λ (v : View). v.known) c.receiver-receiver.ensures in
    passed c.args.now c.known-known.result old.arbiter.view old.pacer c.advance.new.self
    known c.advance.ensures.options c.advance.ensures.state c.advance.ensures.flights

pub returns-clause-passed : goal.returns-clause-passed
returns-clause-passed c =
    let old = c.args.self.now in
    let known = c.known-known.ensures ∙ ap (λ (v : View). v.known) c.receiver-receiver.ensures in
    passed c.args.now c.known-known.result old.arbiter.view old.pacer c.advance.new.self
    known c.advance.ensures.options c.advance.ensures.state c.advance.ensures.flights

pub returns-clause-deadline : goal.returns-clause-deadline
returns-clause-deadline c =
    let sends = c.sends.ensures in
    let ripens = c.ripens-ripens.ensures in
    let old = c.args.self.now in
    let give_up = old.options.give_up in
    let v = old.arbiter.view in
    record {
      now = omega (arith, c.min.ensures, sends.now, ripens.now);
      still = λ time from before. sends.still time from (omega (arith, c.min.ensures, before));
      unripe = λ time known number from before missing unripe.
          ripens.unripe time known number from (omega (arith, c.min.ensures, before)) missing unripe;
      kept = λ time from before. due_later give_up v c.advance.new.self time
          (sym c.given_up.ensures.due ∙ sym c.is_some.ensures ∙ c.if-is_some.false) from
          (λ i f allowed there past. sends.same time i f allowed (omega (arith, c.min.ensures, before)) there past);
      sends = λ number wants. omega (arith, c.min.ensures, sends.bound number wants);
      ripens = λ number missing unripe. omega (arith, c.min.ensures, ripens.bound number missing unripe);
      later = λ some kept none. omega (
        arith,
        c.min.ensures,
        sends.later none,
        ripens.later (marked_later c.args.now c.known-known.result old.pacer.state c.advance.new.self.state
            c.advance.ensures.state some),
      );
    }
