use Rattle.std.proofs.Common.{refl, ap, ◌∙◌, arith}
use Rattle.mold_wire.specs.Packer.{PackerState}
use Rattle.mold_session.proofs.ServingLemmas.{server_of, spells_answer}
use Rattle.mold_session.specs.Server.{ServerState}
use Rattle.mold_session.proofs.server.Server.answer.Goals as goal

pub returns : goal.returns
returns c =
    let f = c.self.inside in
    let counted_is = c.self.view_is ∙ c.in_ok-plan.ensures.counted in
    let same =
    ap (λ (p : PackerState). server_of p.limit f.max_message f.burst f.answered) c.pack_next.ensures.begun
    ∙ counted_is
    in
    let limit = ap (λ (s : ServerState). s.limit) counted_is in
    let answer =
    spells_answer c.args.journal.now c.args.self.now c.args.request.now c.in_ok-plan.plan f.packer
    c.pack_next.new.packer c.pack_next.result c.bytes.result.now
    c.true_packet_law.ensures.piece c.front_law.ensures.front c.front_law.ensures.some
    (λ limit message. (c.packet_length_law.ensures.alone limit message).0)
    c.in_ok-plan.ensures.journal c.in_ok-plan.ensures.server c.requires c.in_ok-plan.ensures.planned limit
    c.pack_next.ensures c.bytes.ensures.spelled
    in (
      (refl, (λ _. tt), same),
      record {
        after = tt;
        spelled = answer.spelled;
        within = omega (arith, c.bytes.ensures.within, ap (λ (p : PackerState). p.limit) c.pack_next.ensures.begun, limit);
        truth = answer.truth;
        refused = tt;
        journal = c.in_ok-plan.ensures.journal;
        server = c.in_ok-plan.ensures.server;
      },
    )
