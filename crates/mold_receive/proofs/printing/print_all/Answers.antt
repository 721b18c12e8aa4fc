use Rattle.std.proofs.Common.{arith, ap, append-nil, length, refl, subst, sym, ◌∙◌, ◌++◌, ◌-◌, ◌<◌, ℕ, List}
use Rattle.std.specs.Prelude.{None}
use Rattle.mold_devices.specs.Devices.{AppendsPrefix}
use Rattle.mold_devices.specs.Writing.{Moves}
use Rattle.mold_input.specs.declared.message_format.MessageFormat.{MessageFormat}
use Rattle.mold_listen.specs.Text.{handed_text, printable, stop_after}
use Rattle.mold_listen.proofs.HandedLemmas.{after_is, first_is, none_within}
use Rattle.mold_receive.proofs.CallLemmas.{on_err_of}
use Rattle.mold_receive.proofs.PrintingLemmas.{front_more, moves_here, moves_last, moves_more, moves_none, no_stop, no_text}
use Rattle.mold_receive.proofs.PrintingLemmas.{rest_init, stop_here, stop_init, stop_none, stop_step}
use Rattle.mold_receive.specs.Receiving.{stops_at}
use Rattle.mold_receive.proofs.printing.print_all.Goals as goal
use Rattle.mold_receive.proofs.printing.print_all.Goals.{in-Some+else-stops_at+in_ok-print_one, in_default-get}

pub returns-in_default-2-clause-stop : goal.returns-in_default-2-clause-stop
returns-in_default-2-clause-stop g c = no_stop _ _ _ (sym c.in_default.is-0 ∙ c.first.ensures)

pub returns-in_default-2-clause-moved : goal.returns-in_default-2-clause-moved
returns-in_default-2-clause-moved g c =
    let text = c.args.outgoing.now.text in
    moves_none _ _ _
    (sym (append-nil text)
    ∙ ap (λ (t : List ℕ). text ++ t)
    (sym (no_text _ _ _ (sym c.in_default.is-0 ∙ c.first.ensures))))

pub loop-number-init : goal.loop-number-init
loop-number-init g c = record {
  moved = moves_none _ _ _
      (ap (λ (t : List ℕ). c.args.outgoing.now.text ++ t)
      (rest_init c.args.outgoing.now.format c.in-Some-Some.first c.args.batch.now.messages));
  stop = stop_init c.args.outgoing.now.format c.in-Some-Some.first c.args.batch.now.messages;
  format = refl;
  live = refl;
}

pub returns-then-stops_at-clause-stop : goal.returns-then-stops_at-clause-stop
returns-then-stops_at-clause-stop g c =
    let first = first_is c.args.batch.now.first c.in-Some-Some.first c.args.batch.now.messages
    (sym c.in-Some-Some.is-0 ∙ c.first.ensures) in
    let stops = ap (λ (f : MessageFormat). stops_at f c.in-Some.message.now)
    (sym c.loop-number.invariant.format ∙ sym c.format.ensures) ∙ sym c.stops_at.ensures ∙ c.if-stops_at.true in
    stop_here _ _ _ _ _ _ c.in-Some.ensures stops c.loop-number.invariant.stop
    ∙ ap (λ (n : ℕ). stop_after c.args.outgoing.now.format None n c.args.batch.now.messages) first

pub returns-then-stops_at-clause-moved : goal.returns-then-stops_at-clause-moved
returns-then-stops_at-clause-moved g c =
    let first = first_is c.args.batch.now.first c.in-Some-Some.first c.args.batch.now.messages
    (sym c.in-Some-Some.is-0 ∙ c.first.ensures) in
    let stops = ap (λ (f : MessageFormat). stops_at f c.in-Some.message.now)
    (sym c.loop-number.invariant.format ∙ sym c.format.ensures) ∙ sym c.stops_at.ensures ∙ c.if-stops_at.true in
    subst (λ (n : ℕ). Moves (g.K.Sink.held c.args.sink.now) (g.K.Sink.held c.loop-number.sink)
    (c.args.outgoing.now.text
    ++ handed_text c.args.outgoing.now.format n (printable c.args.outgoing.now.format None c.args.batch.now.messages))
    c.loop-number.outgoing.text) first
    (moves_here c.args.outgoing.now.format c.loop-number.number c.in-Some-Some.first c.args.batch.now.messages
    c.in-Some.message.now (g.K.Sink.held c.args.sink.now) (g.K.Sink.held c.loop-number.sink)
    (c.args.outgoing.now.text ++ handed_text c.args.outgoing.now.format c.in-Some-Some.first
    (printable c.args.outgoing.now.format None c.args.batch.now.messages)) c.loop-number.outgoing.text
    c.in-Some.ensures stops c.loop-number.invariant.moved)

pub loop-number-preserved : goal.loop-number-preserved
loop-number-preserved g c =
    let after = after_is c.args.batch.now.first c.in-Some-Some.after c.args.batch.now.messages
    (sym c.in-Some-Some.is-1 ∙ c.after.ensures) in
    let first = first_is c.args.batch.now.first c.in-Some-Some.first c.args.batch.now.messages
    (sym c.in-Some-Some.is-0 ∙ c.first.ensures) in
    elim c.match-get.branch [
      | in-Some+else-stops_at+in_ok-print_one w ↦
          let goes = ap (λ (f : MessageFormat). stops_at f w.in-Some.message.now)
          (sym c.loop-number.invariant.format ∙ sym w.format.ensures) ∙ sym w.stops_at.ensures ∙ w.if-stops_at.false in
          rw (w.outgoing-is, w.sink-is)
          (record {
            moved = moves_more _ _ _ _ _ _ _ _ _ _ _ _ c.loop-number.auto.number w.in-Some.ensures goes
                c.loop-number.invariant.format c.loop-number.invariant.moved w.in_ok-print_one.ensures.moved;
            stop = stop_step _ _ _ _ _ _ c.loop-number.auto.number w.in-Some.ensures goes
                c.loop-number.invariant.stop;
            format = w.print_one.ensures.format ∙ c.loop-number.invariant.format;
            live = w.print_one.ensures.live ∙ c.loop-number.invariant.live;
          })
      | in_default-get w ↦
          absurd (none_within _ _ w.in_default-get.ensures
          (let e : c.loop-number.number - c.in-Some-Some.first < length c.args.batch.now.messages =
          omega (arith, after, first, c.loop-number-test.true) in e))
    ]

pub returns-in_err-print_one-clause-front : goal.returns-in_err-print_one-clause-front
returns-in_err-print_one-clause-front g c =
    let first = first_is c.args.batch.now.first c.in-Some-Some.first c.args.batch.now.messages
    (sym c.in-Some-Some.is-0 ∙ c.first.ensures) in
    let goes = ap (λ (f : MessageFormat). stops_at f c.in-Some.message.now)
    (sym c.loop-number.invariant.format ∙ sym c.format.ensures) ∙ sym c.stops_at.ensures ∙ c.if-stops_at.false in
    on_err_of c.from_residual.result
    (subst (λ (n : ℕ). AppendsPrefix (g.K.Sink.held c.args.sink.now) (g.K.Sink.held c.print_one.new.sink)
    (c.args.outgoing.now.text
    ++ handed_text c.args.outgoing.now.format n (printable c.args.outgoing.now.format None c.args.batch.now.messages)))
    first
    (front_more _ _ _ _ _ _ _ _ _ _ _ c.loop-number.auto.number c.in-Some.ensures goes c.loop-number.invariant.format
    c.loop-number.invariant.moved c.in_err-print_one.ensures.front))

pub returns-clause-stop : goal.returns-clause-stop
returns-clause-stop g c =
    let after = after_is c.args.batch.now.first c.in-Some-Some.after c.args.batch.now.messages
    (sym c.in-Some-Some.is-1 ∙ c.after.ensures) in
    let first = first_is c.args.batch.now.first c.in-Some-Some.first c.args.batch.now.messages
    (sym c.in-Some-Some.is-0 ∙ c.first.ensures) in
    stop_none _ _ _ _ _ (omega (arith, after, first, c.loop-number-test.false)) c.loop-number.invariant.stop
    ∙ ap (λ (n : ℕ). stop_after c.args.outgoing.now.format None n c.args.batch.now.messages) first

pub returns-clause-moved : goal.returns-clause-moved
returns-clause-moved g c =
    let after = after_is c.args.batch.now.first c.in-Some-Some.after c.args.batch.now.messages
    (sym c.in-Some-Some.is-1 ∙ c.after.ensures) in
    let first = first_is c.args.batch.now.first c.in-Some-Some.first c.args.batch.now.messages
    (sym c.in-Some-Some.is-0 ∙ c.first.ensures) in
    subst (λ (n : ℕ). Moves (g.K.Sink.held c.args.sink.now) (g.K.Sink.held c.loop-number.sink)
    (c.args.outgoing.now.text
    ++ handed_text c.args.outgoing.now.format n (printable c.args.outgoing.now.format None c.args.batch.now.messages))
    c.loop-number.outgoing.text) first
    (moves_last _ _ _ _ _ _ _ _ (omega (arith, after, first, c.loop-number-test.false)) c.loop-number.invariant.moved)
