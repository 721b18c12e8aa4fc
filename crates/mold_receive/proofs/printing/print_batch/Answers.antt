use Rattle.std.proofs.Common.{List, subst, sym, ◌++◌, ◌∙◌}
use Rattle.std.specs.Prelude.{OnOk}
use Rattle.std.proofs.lemmas.Result.{on_ok_weaker}
use Rattle.mold_devices.specs.Writing.{Moves}
use Rattle.mold_listen.specs.Text.{handed_text}
use Rattle.mold_receiver.specs.Store.{Message}
use Rattle.mold_receive.proofs.CallLemmas.{on_err_of}
use Rattle.mold_receive.proofs.PrintingLemmas.{all_printable, cut_front, front_all, front_then, moves_then, moves_whole}
use Rattle.mold_receive.proofs.printing.print_batch.Goals as goal

pub returns-in_err-number-clause-front : goal.returns-in_err-number-clause-front
returns-in_err-number-clause-front g c =
    on_err_of c.from_residual.result (front_all _ _ _ _ _ _ c.in_err-number.ensures.front)

pub returns-in_err-send-clause-front : goal.returns-in_err-send-clause-front
returns-in_err-send-clause-front g c =
    on_err_of c.from_residual-in_err-send.result
    (front_all _ _ _ _ _ _ (front_then _ _ _ _ _ c.in_ok-number.ensures.moved c.in_err-send.ensures.front))

pub returns-in-Some-clause-front : goal.returns-in-Some-clause-front
returns-in-Some-clause-front g c =
    front_all _ _ _ _ _ _
    (cut_front _ _ _ (moves_whole _ _ _ _ _ c.in_ok-number.ensures.moved c.in_ok-send.ensures.whole))

pub returns-in-Some-clause-cut : goal.returns-in-Some-clause-cut
returns-in-Some-clause-cut g c = record {
  empty = sym c.in_ok-number.ensures.stop ∙ c.in-Some.is;
  appended = moves_whole _ _ _ _ _ c.in_ok-number.ensures.moved c.in_ok-send.ensures.whole;
}

pub returns-clause-front : goal.returns-clause-front
returns-clause-front g c =
    on_err_of c.send_large.result
    (front_all _ _ _ _ _ _ (front_then _ _ _ _ _ c.in_ok-number.ensures.moved c.send_large.ensures.front))

pub returns-clause-moved : goal.returns-clause-moved
returns-clause-moved g c =
    let format = c.args.outgoing.now.format in
    let text = c.args.outgoing.now.text in
    let first = c.args.batch.now.first in
    let all = all_printable format first c.args.batch.now.messages
    (sym c.in_ok-number.ensures.stop ∙ c.in_default.is) in
    subst (λ (l : List Message). OnOk c.send_large.result (Moves (g.K.Sink.held c.args.sink.now)
    (g.K.Sink.held c.send_large.new.sink) (text ++ handed_text format first l) c.send_large.new.self.text)) all
    (on_ok_weaker c.send_large.result (λ moved. moves_then _ _ _ _ _ _ c.in_ok-number.ensures.moved moved)
    c.send_large.ensures.moved)
