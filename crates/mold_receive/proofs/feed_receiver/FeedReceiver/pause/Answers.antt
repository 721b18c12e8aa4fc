use Rattle.std.proofs.Common.{ℕ, List, ap, append-nil, refl, sym, ◌++◌, ◌∙◌}
use Rattle.mold_receive.proofs.CallLemmas.{failed_write, on_err_of, received_as, written_none, written_some, written_then}
use Rattle.mold_receive.proofs.feed_receiver.FeedReceiver.pause.Goals as goal

pub returns-in_err-send-clause-failed : goal.returns-in_err-send-clause-failed
returns-in_err-send-clause-failed g c =
    on_err_of c.from_residual.result
    (λ lines servers.
    failed_write lines servers _ _ _ _ _ _ _ (c.is_busy.ensures.asked lines servers).received refl c.in_err-send.ensures.front)

pub returns-clause-written : goal.returns-clause-written
returns-clause-written g c = λ lines servers.
    let text = c.is_busy.new.self.outgoing.text in
    written_then lines servers _ _ _ _ _ _ _ _
    (written_some lines servers _ _ _ _ _ _ text c.send.new.self.text (c.is_busy.ensures.asked lines servers).received
    (sym (append-nil text) ∙ ap (λ (t : List ℕ). text ++ t) (sym c.in_ok-send.ensures.empty)) c.in_ok-send.ensures.whole)
    (written_none lines servers _ _ _ _ _
    (received_as lines servers _ _ _ _ _ (c.send.ensures.format ∙ c.is_busy.ensures.format)
    (c.wait.ensures.asked lines servers).received))

pub returns-then-is_busy-clause-written : goal.returns-then-is_busy-clause-written
returns-then-is_busy-clause-written g c = λ lines servers.
    written_none lines servers _ _ _ _ _ (c.is_busy.ensures.asked lines servers).received
