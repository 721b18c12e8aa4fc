use Rattle.std.proofs.Common.{List, ap, sym, subst}
use Rattle.std.specs.Prelude.{Option}
use Rattle.mold_port_set.specs.PortSet.{Given}
use Rattle.mold_receive.specs.Receiving.{HasBegun, HasBroken, HasStopped, datagram_of_first, state_of}
use Rattle.mold_receive.specs.declared.first_packet.FirstPacket.{FirstPacket}
use Rattle.mold_receive.proofs.CallLemmas.{begun_none, begun_one, broken_first, first_given, if_some_map, on_err_map}
use Rattle.mold_receive.proofs.CallLemmas.{on_ok_with, stopped_first}
use Rattle.mold_receive.proofs.feed_receiver.FeedReceiver.take_first.Goals as goal

pub returns-in_default-clause-begun : goal.returns-in_default-clause-begun
returns-in_default-clause-begun g c = λ lines servers.
    let old = c.args.self.now in
    let held = g.K.Sink.held c.args.sink.now in
    subst (λ (f : Option FirstPacket). HasBegun lines servers old.outgoing.format g.D.PortSet.modeled
    (datagram_of_first lines f) (state_of g.D.PortSet.state old) (state_of g.D.PortSet.state old) held held)
    (sym c.in_default.is)
    (begun_none lines servers old.outgoing.format g.D.PortSet.modeled (state_of g.D.PortSet.state old) held)

pub returns-clause-begun : goal.returns-clause-begun
returns-clause-begun g c =
    let old = c.args.self.now in
    let new = c.take.new.self in
    let made = c.take.ensures.called in
    on_ok_with c.take.result
    (λ goes moved. λ lines servers.
    subst (λ (given : List Given). HasBegun lines servers old.outgoing.format g.D.PortSet.modeled given
    (state_of g.D.PortSet.state old) (state_of g.D.PortSet.state new) (g.K.Sink.held c.args.sink.now)
    (g.K.Sink.held c.take.new.sink))
    (first_given lines c.args.first.now c.in-Some.first _ c.in-Some.is c.as_slice.ensures.value)
    (begun_one lines servers old.outgoing.format g.D.PortSet.modeled _ (state_of g.D.PortSet.state old) new.repairer
    (g.D.PortSet.state new.ports) made.text new.outgoing.text _ _ made.called
    (ap (λ p. g.D.PortSet.state p) c.take.ensures.ports) goes moved))
    made.full made.moved

pub returns-clause-failed : goal.returns-clause-failed
returns-clause-failed g c =
    let old = c.args.self.now in
    let new = c.take.new.self in
    let made = c.take.ensures.called in
    on_err_map c.take.result
    (λ front. λ lines servers.
    subst (λ (given : List Given). HasBroken lines servers old.outgoing.format g.D.PortSet.modeled given
    (state_of g.D.PortSet.state old) (g.K.Sink.held c.args.sink.now) (g.K.Sink.held c.take.new.sink))
    (first_given lines c.args.first.now c.in-Some.first _ c.in-Some.is c.as_slice.ensures.value)
    (broken_first lines servers old.outgoing.format g.D.PortSet.modeled _ (state_of g.D.PortSet.state old) new.repairer
    (g.D.PortSet.state new.ports) made.text _ _ made.called (ap (λ p. g.D.PortSet.state p) c.take.ensures.ports) front))
    made.front

pub returns-clause-cut : goal.returns-clause-cut
returns-clause-cut g c =
    let old = c.args.self.now in
    let new = c.take.new.self in
    let made = c.take.ensures.called in
    on_err_map c.take.result
    (if_some_map c.take.new.stopped
    (λ number is. λ lines servers.
    subst (λ (given : List Given). HasStopped lines servers old.outgoing.format g.D.PortSet.modeled given
    (state_of g.D.PortSet.state old) new.repairer (g.D.PortSet.state new.ports) (g.K.Sink.held c.args.sink.now)
    (g.K.Sink.held c.take.new.sink) number)
    (first_given lines c.args.first.now c.in-Some.first _ c.in-Some.is c.as_slice.ensures.value)
    (stopped_first lines servers old.outgoing.format g.D.PortSet.modeled _ (state_of g.D.PortSet.state old)
    new.repairer (g.D.PortSet.state new.ports) made.text _ _ number made.called
    (ap (λ p. g.D.PortSet.state p) c.take.ensures.ports) is)))
    made.cut
