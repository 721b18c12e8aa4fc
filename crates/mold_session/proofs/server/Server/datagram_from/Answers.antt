use Rattle.std.proofs.Common.{◌≡◌, ℕ, ◌≤◌, refl, sym, ap, subst, ◌∙◌, true, false, arith, inl, inr}
use Rattle.mold_session.specs.Answer.{PlanState, IsSpent}
use Rattle.mold_session.specs.Journal.{JournalState}
use Rattle.mold_session.specs.Server.{ServerState, IsServer}
use Rattle.mold_session.specs.Serving.{HasSentNext, IsPlanOf, MayPack}
use Rattle.mold_session.proofs.ServingLemmas.{server_of, sent_next}
use Rattle.mold_session.proofs.server.Server.datagram_from.Goals as goal

pub returns : goal.returns
returns g c =
    let f = c.self.inside in
    let plan = c.args.plan.now in
    let more : IsSpent plan → ⊥ =
    (λ spent. let e : false ≡ true = sym c.if-is_spent.false ∙ c.is_spent.ensures.spent.1 spent in cc) in
    let packed = c.in_ok-count.ensures in
    let same = ap (λ (n : ℕ). server_of n f.max_message f.burst f.answered) packed.limit ∙ c.self.view_is in
    let limit = ap (λ (s : ServerState). s.limit) c.self.view_is in
    let longest = ap (λ (s : ServerState). s.max_message) c.self.view_is in
    let server = subst IsServer c.self.view_is c.self.invariant in
    let sent : (shown : JournalState) → g.J.ServedJournal.shows c.args.journal.now shown →
    shown.max_message ≤ c.args.self.now.max_message → IsPlanOf shown plan →
    HasSentNext shown c.args.self.now.limit plan c.advance.new.self c.bytes.result.now =
    (λ shown shows within planned.
    let may : MayPack shown f.packer.limit plan = record {
      planned = planned;
      limited = c.self.invariant.limited;
      room = omega (arith, within, longest, c.self.invariant.longest);
    } in
    sent_next shown c.args.self.now plan c.advance.new.self f.packer c.pack.new.packer c.in_ok-count.count
    c.bytes.result.now c.true_packet_law.ensures.piece c.front_law.ensures.front server c.is_spent.ensures.plan planned
    limit more (packed.packed shown shows may) c.bytes.ensures.spelled c.advance.ensures)
    in (
      (refl, (λ _. tt), same),
      record {
        after = tt;
        sent = sent;
        within = omega (arith, c.bytes.ensures.within, packed.limit, limit);
        left = omega (
          arith,
          ap (λ (p : PlanState). p.left) c.advance.ensures,
          λ (none : plan.left ≡ 0). more (inl none),
        );
        further = omega (
          arith,
          ap (λ (p : PlanState). p.from) c.advance.ensures,
          packed.begun.some (omega (
            arith,
            c.is_spent.ensures.plan.1,
            λ (same : plan.from ≡ plan.to). more (inr same),
          )),
        );
        more = more;
        none = tt;
        same = tt;
        session = ap (λ (p : PlanState). p.session) c.advance.ensures;
        to = ap (λ (p : PlanState). p.to) c.advance.ensures;
        refused = tt;
        unspent = tt;
        kept = tt;
        shown = packed.shown;
        stays = packed.stays;
        failures = packed.failures;
        plan = c.is_spent.ensures.plan;
        server = server;
      },
    )
