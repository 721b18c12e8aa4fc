use Rattle.std.proofs.Common.{◌∙◌, ◌++◌, [], true, false}
use Rattle.mold_turns.proofs.RunLemmas.{begins_trans}
use Rattle.mold_serve.proofs.AnsweringLemmas.{offering_done, offering_step, offering_stopped, offers_of, stops_of}
use Rattle.mold_serve.proofs.ServingLemmas.{may_offer, same_twice, service_is}
use Rattle.mold_serve.proofs.responder.Responder.offer_all.Goals as goal

pub returns-in_err-offer_next-clause-offered : goal.returns-in_err-offer_next-clause-offered
returns-in_err-offer_next-clause-offered g c journal may modeled =
    let was = c.packets.invariant in
    offering_stopped _ c.from_residual.result _ (was.offered journal may modeled)
    (stops_of _ _ _ _ c.packets.plan c.offer_next.new.plan _ _ (service_is journal was.same)
    (c.in_err-offer_next.ensures.offered journal (may_offer was.same was.shown was.session was.to may) modeled))
    c.from_residual.ensures.0

pub packets-preserved : goal.packets-preserved
packets-preserved g c =
    let was = c.packets.invariant in
    record {
      offered = λ journal may modeled.
          offering_step _ (was.offered journal may modeled)
          (offers_of _ _ c.in_ok-offer_next.field-0 true _ _ c.packets.plan c.offer_next.new.plan _ _
          (service_is journal was.same) c.if-branch.true
          (c.in_ok-offer_next.ensures.offered journal (may_offer was.same was.shown was.session was.to may) modeled));
      session = c.in_ok-offer_next.ensures.session ∙ was.session;
      to = c.in_ok-offer_next.ensures.to ∙ was.to;
      prints = begins_trans was.prints c.in_ok-offer_next.ensures.prints;
      comes = λ t. c.in_ok-offer_next.ensures.comes t ∙ was.comes t;
      shown = λ journal shows. c.in_ok-offer_next.ensures.shown journal (was.shown journal shows);
      stays = λ earlier stays. c.in_ok-offer_next.ensures.stays earlier (was.stays earlier stays);
      failures = c.in_ok-offer_next.ensures.failures ∙ was.failures;
      same = same_twice was.same c.in_ok-offer_next.ensures.same;
    }

pub returns-clause-offered : goal.returns-clause-offered
returns-clause-offered g c journal may modeled =
    let was = c.packets.invariant in
    let offering = was.offered journal may modeled in
    let none =
    offers_of _ _ c.in_ok-offer_next.field-0 false _ _ c.packets.plan c.offer_next.new.plan _ _
    (service_is journal was.same) c.if-branch.false
    (c.in_ok-offer_next.ensures.offered journal (may_offer was.same was.shown was.session was.to may) modeled) in
    (offering.fails ++ [], offering_done _ offering none.0 none.1)

pub returns-in_err-offer_next-clause-prints : goal.returns-in_err-offer_next-clause-prints
returns-in_err-offer_next-clause-prints g c =
    begins_trans c.packets.invariant.prints c.in_err-offer_next.ensures.prints

pub returns-clause-prints : goal.returns-clause-prints
returns-clause-prints g c = begins_trans c.packets.invariant.prints c.in_ok-offer_next.ensures.prints

pub returns-in_err-offer_next-clause-comes : goal.returns-in_err-offer_next-clause-comes
returns-in_err-offer_next-clause-comes g c t = c.in_err-offer_next.ensures.comes t ∙ c.packets.invariant.comes t

pub returns-clause-comes : goal.returns-clause-comes
returns-clause-comes g c t = c.in_ok-offer_next.ensures.comes t ∙ c.packets.invariant.comes t
