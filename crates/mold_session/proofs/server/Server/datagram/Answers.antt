use Rattle.std.proofs.Common.{◌≡◌, refl, sym, ap, subst, ◌∙◌, true, false, arith}
use Rattle.mold_wire.specs.Packer.{PackerState}
use Rattle.mold_session.specs.Answer.{PlanState, IsSpent}
use Rattle.mold_session.specs.Server.{ServerState, IsServer}
use Rattle.mold_session.specs.Serving.{IsPlanOf}
use Rattle.mold_session.proofs.ServingLemmas.{server_of, sent_next}
use Rattle.mold_session.proofs.server.Server.datagram.Goals as goal

pub returns : goal.returns
returns c =
    let f = c.self.inside in
    let plan = c.args.plan.now in
    let more : IsSpent plan → ⊥ =
    (λ spent. let e : false ≡ true = sym c.if-is_spent.false ∙ c.is_spent.ensures.spent.1 spent in cc) in
    let packed = c.pack_next-count.ensures in
    let same =
    ap (λ (p : PackerState). server_of p.limit f.max_message f.burst f.answered) packed.begun ∙ c.self.view_is in
    let limit = ap (λ (s : ServerState). s.limit) c.self.view_is in
    let server = subst IsServer c.self.view_is c.self.invariant in
    let planned : IsPlanOf c.args.journal.now plan = record { session = c.requires.session; to = c.requires.to } in
    let sent =
    sent_next c.args.journal.now c.args.self.now plan c.advance.new.self f.packer c.pack_next-count.new.packer
    c.pack_next-count.result c.bytes.result.now c.true_packet_law.ensures.piece c.front_law.ensures.front server
    c.is_spent.ensures.plan planned limit more packed c.bytes.ensures.spelled c.advance.ensures
    in (
      (refl, (λ _. tt), same),
      record {
        after = tt;
        spelled = sent.spelled;
        within = omega (arith, c.bytes.ensures.within, ap (λ (p : PackerState). p.limit) packed.begun, limit);
        truth = sent.truth;
        moved = sent.moved;
        more = more;
        none = tt;
        same = tt;
        session = ap (λ (p : PlanState). p.session) c.advance.ensures;
        to = ap (λ (p : PlanState). p.to) c.advance.ensures;
        plan = c.is_spent.ensures.plan;
        journal = packed.journaled;
        server = server;
      },
    )
