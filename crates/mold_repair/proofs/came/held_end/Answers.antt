use Rattle.std.proofs.Common.{ap, ◌∙◌, ◌<◌, ◌≤◌, max, subst, sym}
use Rattle.mold_receiver.specs.View.{View}
use Rattle.mold_repair.proofs.HeldLemmas.{end_below, end_none, end_some}
use Rattle.mold_repair.proofs.came.held_end.Goals as goal

pub returns-then-from-next : goal.returns-then-from-next
returns-then-from-next c =
    let v = c.args.arbiter.now.view in
    let next = c.next-next.ensures ∙ ap (λ (w : View). w.next) c.receiver-receiver.ensures in
    next ∙ sym (end_below v c.args.from (subst (λ n. c.args.from < n) next c.if-from-next.true))

pub returns-in-Some : goal.returns-in-Some
returns-in-Some c =
    let v = c.args.arbiter.now.view in
    let next = c.next-next.ensures ∙ ap (λ (w : View). w.next) c.receiver-receiver.ensures in
    end_some v c.args.from c.in-Some.gap (subst (λ n. n ≤ c.args.from) next c.if-from-next.false) c.in-Some.ensures.some

pub returns-in-None : goal.returns-in-None
returns-in-None c =
    let v = c.args.arbiter.now.view in
    let next = c.next-next.ensures ∙ ap (λ (w : View). w.next) c.receiver-receiver.ensures in
    let known = c.known.ensures ∙ ap (λ (w : View). w.known) c.receiver-receiver.ensures in
    c.max.ensures ∙ ap (λ n. max n c.args.from) known
    ∙ end_none v c.args.from (subst (λ n. n ≤ c.args.from) next c.if-from-next.false) c.in-None.ensures.none
