use Rattle.std.proofs.Common.{◌≡◌, ℕ, ◌+◌, None, Some, refl, sym, ap, subst, ◌∙◌, arith}
use Rattle.mold_session.specs.Publisher.{PublisherState, Lends, next_datagram, after_datagram}
use Rattle.mold_session.proofs.PublisherLemmas.{IsNext, stays_idle, is_next, lends_next, still_publisher}
use Rattle.mold_session.specs.Truthful.{IsTrueDatagram}
use Rattle.mold_session.proofs.TruthLemmas.{datagram_true}
use Rattle.mold_session.proofs.publisher.Publisher.datagram.Goals.{After-pack_front-count}
use Rattle.mold_session.proofs.publisher.Publisher.datagram.Goals as goal

pub returns-then-unsent-eq0 : goal.returns-then-unsent-eq0
returns-then-unsent-eq0 c =
    let f = c.self.inside in
    let before : PublisherState = record { journal = f.journal; limit = f.limit; sent = f.sent } in
    let idle = stays_idle before c.front_law.ensures.front c.self.invariant.1
    (sym c.unsent.ensures.value ∙ c.if-unsent-eq0.true) in
    let same : before ≡ after_datagram c.args.self.now = subst (λ (p : PublisherState). before ≡ after_datagram p)
    c.self.view_is idle.same in
    let nothing : Lends (next_datagram c.args.self.now) None =
    subst (λ (p : PublisherState). Lends (next_datagram p) None) c.self.view_is (rw idle.nothing tt)
    in
    let unmoved : after_datagram c.args.self.now ≡ c.args.self.now =
    subst (λ (p : PublisherState). after_datagram p ≡ p) c.self.view_is (sym idle.same)
    in
    ((refl, (λ _. tt), same), record { after = tt; lent = nothing; within = tt; idle = unmoved; truth = tt })

-- The packed messages are those of the next datagram.
packed_next : (c : After-pack_front-count) →
    IsNext (record { journal = c.self.inside.journal; limit = c.self.inside.limit; sent = c.self.inside.sent })
    c.self.inside.packer c.pack_front-count.new.packer c.pack_front-count.result
packed_next c =
    let f = c.self.inside in
    is_next (record { journal = f.journal; limit = f.limit; sent = f.sent }) f.packer c.pack_front-count.new.packer
    c.session-session.result c.iter_from-messages.result c.len.result c.pack_front-count.result
    c.front_law.ensures.only c.front_law.ensures.some
    (λ limit message. (c.packet_length_law.ensures.alone limit message).0)
    c.self.invariant.1 (λ none. c.if-unsent-eq0.false (c.unsent.ensures.value ∙ none)) c.self.invariant.0
    c.session-session.ensures c.iter_from-messages.ensures.from c.len.ensures.value c.pack_front-count.ensures

pub invariant_of-self-2 : goal.invariant_of-self-2
invariant_of-self-2 c =
    let f = c.self.inside in
    let before : PublisherState = record { journal = f.journal; limit = f.limit; sent = f.sent } in
    let next = packed_next (goal.at.invariant_of-self-2 c).After-pack_front-count in (
      next.limit ∙ c.self.invariant.0,
      still_publisher before f.packer c.pack_front-count.new.packer c.pack_front-count.result c.self.invariant.1
          (λ none. c.if-unsent-eq0.false (c.unsent.ensures.value ∙ none)) next,
    )

pub returns : goal.returns
returns c =
    let f = c.self.inside in
    let before : PublisherState = record { journal = f.journal; limit = f.limit; sent = f.sent } in
    let next = packed_next (goal.at.returns c).After-pack_front-count in
    let same : record before { sent = f.sent + c.pack_front-count.result } ≡ after_datagram c.args.self.now =
    subst (λ (p : PublisherState). record before { sent = f.sent + c.pack_front-count.result } ≡ after_datagram p)
    c.self.view_is
    (ap (λ (n : ℕ). record before { sent = f.sent + n }) next.counted)
    in
    let lent =
    lends_next before f.packer c.pack_front-count.new.packer c.pack_front-count.result c.bytes.result.now
    (λ none. c.if-unsent-eq0.false (c.unsent.ensures.value ∙ none)) next c.bytes.ensures.spelled
    in
    let truth =
    datagram_true before c.bytes.result.now c.true_packet_law.ensures.piece c.front_law.ensures.front
    c.self.invariant.1 lent
    in (
      (refl, (λ _. tt), same),
      record {
        after = tt;
        lent = subst (λ (p : PublisherState). Lends (next_datagram p) (Some c.bytes.result.now)) c.self.view_is lent;
        idle = tt;
        within = omega (arith, c.bytes.ensures.within, next.limit, c.self.invariant.0, ap (λ (p : PublisherState). p.limit) c.self.view_is);
        truth = subst (λ (p : PublisherState). IsTrueDatagram p.journal c.bytes.result.now) c.self.view_is truth;
      },
    )
