use Rattle.std.proofs.Common.{◌∙◌, ap, sym}
use Rattle.mold_receiver.specs.Wanted.{wanted}
use Rattle.mold_listen.specs.Listening.{asking_state}
use Rattle.mold_listen.proofs.ListenLemmas.{has_asked}
use Rattle.mold_listen.proofs.feed_listener.FeedListener.ask.Goals as goal

pub returns-clause-asked : goal.returns-clause-asked
returns-clause-asked g c = λ t.
    has_asked c.in-Some.request (wanted c.args.self.now.arbiter.now.view) c.args.server c.args.burst
    c.receive_responses.result
    (asking_state g.D.Datagrams.port c.args.self.now)
    (asking_state g.D.Datagrams.port c.receive_responses.new.self)
    (g.D.Datagrams.port c.send.new.self) _ _
    (ap wanted (sym c.receiver.ensures) ∙ sym c.in-Some.ensures.wanted)
    (c.send.ensures.sent t)
    (sym c.if-is_err.ensures.value)
    c.encode.ensures.spelled
    (c.receive_responses.ensures.sent t)
    (c.receive_responses.ensures.received t)
