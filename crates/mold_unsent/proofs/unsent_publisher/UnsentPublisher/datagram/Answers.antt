use Rattle.std.proofs.Common.{◌≡◌, ℕ, ◌+◌, None, Some, length-append, refl, sym, ap, subst, ◌∙◌, arith}
use Rattle.mold_session.specs.Packing.{HasPacked}
use Rattle.mold_session.specs.Publisher.{PublisherState, Lends, next_datagram, after_datagram}
use Rattle.mold_session.specs.Truthful.{IsTrueDatagram}
use Rattle.mold_session.proofs.PublisherLemmas.{IsNext, stays_idle, is_next, lends_next, still_publisher}
use Rattle.mold_session.proofs.TruthLemmas.{datagram_true}
use Rattle.mold_unsent.specs.Unsent.{publisher_of}
use Rattle.mold_unsent.proofs.UnsentLemmas.{after_packed, next_packed, unsent_in_memory}
use Rattle.mold_unsent.proofs.unsent_publisher.UnsentPublisher.datagram.Goals.{After-pack_front-count}
use Rattle.mold_unsent.proofs.unsent_publisher.UnsentPublisher.datagram.Goals as goal

pub returns-then-unsent-eq0 : goal.returns-then-unsent-eq0
returns-then-unsent-eq0 c =
    let f = c.self.inside in
    let before : PublisherState = publisher_of f.earlier f.list.messages f.packed f.packer.limit in
    let idle = stays_idle before c.front_law.ensures.front c.self.invariant.publisher
    (sym c.unsent.ensures.value ∙ c.if-unsent-eq0.true) in
    let same : before ≡ after_datagram c.args.self.now = subst (λ (p : PublisherState). before ≡ after_datagram p)
    c.self.view_is idle.same in
    let nothing : Lends (next_datagram c.args.self.now) None =
    subst (λ (p : PublisherState). Lends (next_datagram p) None) c.self.view_is (rw idle.nothing tt)
    in
    let unmoved : after_datagram c.args.self.now ≡ c.args.self.now =
    subst (λ (p : PublisherState). after_datagram p ≡ p) c.self.view_is (sym idle.same)
    in
    ((refl, (λ _. tt), same), record { after = tt; lent = nothing; within = tt; idle = unmoved; truth = tt })

-- The packed messages are those of the next datagram.
packed_next : (c : After-pack_front-count) →
    let f = c.self.inside in
    IsNext (publisher_of f.earlier f.list.messages f.packed f.packer.limit) f.packer c.pack_front-count.new.packer
    c.pack_front-count.result
packed_next c =
    let f = c.self.inside in
    let before : PublisherState = publisher_of f.earlier f.list.messages f.packed f.packer.limit in
    let all = c.count-before.result + c.len.result in
    let packed : HasPacked f.packer c.pack_front-count.new.packer c.session-session.result (before.sent + 1)
    c.iter_from-messages.result all c.pack_front-count.result =
    subst (λ (n : ℕ). HasPacked f.packer c.pack_front-count.new.packer c.session-session.result (n + f.packed + 1)
    c.iter_from-messages.result all c.pack_front-count.result) c.count-before.ensures.value c.pack_front-count.ensures
    in
    is_next before f.packer c.pack_front-count.new.packer c.session-session.result c.iter_from-messages.result all
    c.pack_front-count.result c.front_law.ensures.only c.front_law.ensures.some
    (λ limit message. (c.packet_length_law.ensures.alone limit message).0) c.self.invariant.publisher
    (λ none. c.if-unsent-eq0.false (c.unsent.ensures.value ∙ none)) refl c.session-session.ensures
    (c.iter_from-messages.ensures ∙ unsent_in_memory f.earlier f.list.messages f.packed f.packer.limit)
    (omega (arith, c.count-before.ensures.value, c.len.ensures, length-append f.earlier.messages f.list.messages))
    packed

pub overflow_add-self : goal.overflow_add-self
overflow_add-self c =
    let f = c.self.inside in
    let next = packed_next (goal.at.overflow_add-self c).After-pack_front-count in
    omega (
      arith,
      next.within,
      length-append f.earlier.messages f.list.messages,
      c.self.invariant.publisher.journaled.few,
    )

pub invariant_of-self-2 : goal.invariant_of-self-2
invariant_of-self-2 c =
    let f = c.self.inside in
    let before : PublisherState = publisher_of f.earlier f.list.messages f.packed f.packer.limit in
    let next = packed_next (goal.at.invariant_of-self-2 c).After-pack_front-count in
    next_packed f.earlier f.list.messages f.packed f.packer c.pack_front-count.new.packer c.pack_front-count.result next
    (still_publisher before f.packer c.pack_front-count.new.packer c.pack_front-count.result c.self.invariant.publisher
    (λ none. c.if-unsent-eq0.false (c.unsent.ensures.value ∙ none)) next)

pub returns : goal.returns
returns c =
    let f = c.self.inside in
    let before : PublisherState = publisher_of f.earlier f.list.messages f.packed f.packer.limit in
    let next = packed_next (goal.at.returns c).After-pack_front-count in
    let new = c.pack_front-count.new.packer in
    let sent : ℕ = f.packed + c.pack_front-count.result in
    let same : publisher_of f.earlier f.list.messages sent new.limit ≡ after_datagram c.args.self.now =
    subst (λ (p : PublisherState). publisher_of f.earlier f.list.messages sent new.limit ≡ after_datagram p)
    c.self.view_is
    (after_packed f.earlier f.list.messages f.packed f.packer new c.pack_front-count.result next)
    in
    let lent =
    lends_next before f.packer new c.pack_front-count.result c.bytes.result.now
    (λ none. c.if-unsent-eq0.false (c.unsent.ensures.value ∙ none)) next c.bytes.ensures.spelled
    in
    let truth =
    datagram_true before c.bytes.result.now c.true_packet_law.ensures.piece c.front_law.ensures.front
    c.self.invariant.publisher lent
    in (
      (refl, (λ _. tt), same),
      record {
        after = tt;
        lent = subst (λ (p : PublisherState). Lends (next_datagram p) (Some c.bytes.result.now)) c.self.view_is lent;
        idle = tt;
        within = omega (arith, c.bytes.ensures.within, next.limit, ap (λ (p : PublisherState). p.limit) c.self.view_is);
        truth = subst (λ (p : PublisherState). IsTrueDatagram p.journal c.bytes.result.now) c.self.view_is truth;
      },
    )
