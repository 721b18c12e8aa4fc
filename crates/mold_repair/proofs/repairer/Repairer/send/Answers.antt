use Rattle.std.proofs.Common.{◌∙◌, Option, refl, subst, sym, inl, inr}
use Rattle.std.specs.Prelude.{MatchOption}
use Rattle.mold_pacing.specs.declared.ask.Ask.{Ask as Sent}
use Rattle.mold_repair.specs.Polls.{HasRequested, IsStill}
use Rattle.mold_repair.proofs.FrontLemmas.{front_sent}
use Rattle.mold_repair.proofs.GapLemmas.{sent_is}
use Rattle.mold_repair.proofs.repairer.Repairer.send.Goals as goal

pub returns-then-is_some-clause-sent : goal.returns-then-is_some-clause-sent
returns-then-is_some-clause-sent c = record {
  reason = inl (sym c.given_up.ensures.due ∙ sym c.is_some.ensures ∙ c.if-is_some.true);
  flights = refl;
  state = refl;
  options = refl;
}

pub returns-then-not-can_send-clause-sent : goal.returns-then-not-can_send-clause-sent
returns-then-not-can_send-clause-sent c = record {
  reason = inr (inl (sym c.can_send.ensures ∙ c.if-not-can_send.true));
  flights = c.note_full.ensures.flights;
  state = c.note_full.ensures.state;
  options = c.note_full.ensures.options;
}

pub returns-in_err-gap-clause-sent : goal.returns-in_err-gap-clause-sent
returns-in_err-gap-clause-sent c =
    let old = c.args.self.now in
    let still : IsStill old.options.give_up old.arbiter.view old.pacer old.pacer = record {
      reason = inr (inr (rw c.in_err-gap.was at c.find_free-found.ensures.none));
      flights = refl;
      state = refl;
      options = refl;
    } in
    subst (λ (r : Option Sent). MatchOption r (IsStill old.options.give_up old.arbiter.view old.pacer old.pacer)
    (HasRequested old.options.give_up old.arbiter.view old.pacer old.pacer)) (sym c.from_residual.ensures) still

pub returns-clause-sent : goal.returns-clause-sent
returns-clause-sent c =
    let old = c.args.self.now in
    sent_is old.options.give_up old.arbiter.view old.pacer c.poll.new.self c.in_ok-gap.gap c.poll.result
    (rw c.in_ok-gap.was at c.find_free-found.ensures.some) (sym c.given_up.ensures.due ∙ sym c.is_some.ensures ∙ c.if-is_some.false)
    (sym c.can_send.ensures ∙ c.if-not-can_send.false) c.poll.ensures.asked c.poll.ensures.idle

pub invariant_of-self-2-clause-fronted : goal.invariant_of-self-2-clause-fronted
invariant_of-self-2-clause-fronted c =
    let old = c.args.self.now in
    front_sent old.arbiter.view old.pacer c.poll.new.self c.in_ok-gap.gap c.poll.result
    c.find_free-found.result.front.number c.find_free-found.result.front.until c.find_free-found.ensures.later
    c.find_free-found.ensures.front c.poll.ensures.asked c.poll.ensures.idle
