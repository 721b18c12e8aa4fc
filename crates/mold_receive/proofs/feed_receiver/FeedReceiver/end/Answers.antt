use Rattle.std.proofs.Common.{◌∙◌, List, ℕ, ap, subst, take}
use Rattle.std.specs.Io.KnownBytes.{Appends}
use Rattle.mold_devices.specs.Devices.{AppendsPrefix}
use Rattle.mold_devices.proofs.WritingLemmas.{ends_front}
use Rattle.mold_turns.specs.Outgoing.{OutgoingState}
use Rattle.mold_turns.proofs.PrintingLemmas.{front_more, front_none}
use Rattle.mold_receive.proofs.CallLemmas.{on_err_of}
use Rattle.mold_receive.proofs.feed_receiver.FeedReceiver.end.Goals as goal

pub returns-in_default-clause-front : goal.returns-in_default-clause-front
returns-in_default-clause-front g c =
    front_more _ _ c.args.self.now.outgoing.text _
    (subst (λ (t : List ℕ). AppendsPrefix (g.K.Sink.held c.args.sink.now) (g.K.Sink.held c.end_with.new.sink) t)
    (ap (λ (n : ℕ). take n c.push_closing.new.self.outgoing.text) c.unwritten-before.ensures ∙ c.in_default.ensures.kept)
    (ends_front c.end_with.ensures.ends))

pub returns-in_err-send_side-clause-front : goal.returns-in_err-send_side-clause-front
returns-in_err-send_side-clause-front g c =
    on_err_of c.from_residual.result (front_none (g.K.Sink.held c.args.sink.now) _)

pub returns-in_err-send-clause-front : goal.returns-in_err-send-clause-front
returns-in_err-send-clause-front g c =
    on_err_of c.from_residual-in_err-send.result
    (subst (λ (t : List ℕ). AppendsPrefix (g.K.Sink.held c.args.sink.now) (g.K.Sink.held c.send.new.sink) t)
    (ap (λ (o : OutgoingState). o.text) c.in_ok-send_side.ensures.empty ∙ c.in-Ok.ensures.text) c.send.ensures.front)

pub returns-clause-written : goal.returns-clause-written
returns-clause-written g c =
    subst (λ (t : List ℕ). Appends (g.K.Sink.held c.args.sink.now) (g.K.Sink.held c.send.new.sink) t)
    (ap (λ (o : OutgoingState). o.text) c.in_ok-send_side.ensures.empty ∙ c.in-Ok.ensures.text)
    c.in_ok-send.ensures.whole
