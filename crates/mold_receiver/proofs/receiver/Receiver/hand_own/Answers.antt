use Rattle.std.proofs.Common.{◌≡◌, ◌+◌, ◌-◌, ◌<◌, ◌≤◌, min, length, length-drop, drop, ℕ, subst, sym, ap, ◌∙◌, arith, None, refl}
use Rattle.std.specs.Prelude.{Result, Ok, Err, OnErr}
use Rattle.mold_wire.specs.declared.packet.Body.TheVariants.{Data}
use Rattle.mold_receiver.specs.declared.taken.Taken.{Taken}
use Rattle.mold_receiver.specs.Batch.{Handed, followed_by}
use Rattle.mold_receiver.specs.Handing.{run_in, run_of}
use Rattle.mold_receiver.specs.Own.{HandsOwn, NeedsRoom}
use Rattle.mold_receiver.specs.Receive.{data_packet, taken_of, view_after}
use Rattle.mold_rule.specs.Refusals.{past_end}
use Rattle.mold_receiver.specs.View.{View, IsWellFormed, view_over}
use Rattle.mold_receiver.proofs.NextLemmas.{at_run, at_taken, handed_view, length-run_of}
use Rattle.mold_receiver.proofs.OwnLemmas.{hands_own, needs_room}
use Rattle.mold_receiver.proofs.ViewLemmas.{slot_numbers}
use Rattle.mold_receiver.proofs.WellLemmas.{stays_well}
use Rattle.mold_receiver.proofs.receiver.Receiver.hand_own.Goals as goal

on_err : {T E : Type 0} {P : Type 0} (r : Result T E) → P → OnErr r P
on_err (Ok x) p = tt
on_err (Err e) p = p

pub deliver_following-requires-clause-numbered : goal.deliver_following-requires-clause-numbered
deliver_following-requires-clause-numbered c =
    let a = c.self.inside in
    slot_numbers a.room a.session a.next a.known a.ended a.slots c.self.invariant

pub returns-in_err-end-clause-needed : goal.returns-in_err-end-clause-needed
returns-in_err-end-clause-needed c =
    let a = c.self.inside in
    let blocks = c.args.blocks.now in
    let begun = subst (λ (v : View). c.args.first ≤ v.next) (sym c.self.view_is) c.requires.packet.begun in
    let ahead = subst (λ (v : View). v.next < c.args.top) (sym c.self.view_is) c.requires.packet.ahead in
    on_err c.from_residual.result
    (subst (λ (v : View). NeedsRoom v (data_packet v.session c.args.first blocks)) c.self.view_is
    (needs_room (view_over a.room a.session a.next a.known a.ended a.slots) (data_packet a.session c.args.first blocks)
    (run_in a.slots (c.args.top - a.next)) begun (rw c.in_err-end.was at c.deliver_following.ensures.needed)
    (at_run a.room a.session a.next a.known a.ended a.slots c.args.first c.args.top blocks c.self.invariant begun ahead
    c.requires.packet.ends)))

pub overflow_cast-result : goal.overflow_cast-result
overflow_cast-result c =
    let a = c.self.inside in
    let blocks = c.args.blocks.now in
    let begun = subst (λ (v : View). c.args.first ≤ v.next) (sym c.self.view_is) c.requires.packet.begun in
    let ahead = subst (λ (v : View). v.next < c.args.top) (sym c.self.view_is) c.requires.packet.ahead in
    let delivered = rw c.in_ok-end.was at c.deliver_following.ensures.delivered in
    let end : c.in_ok-end.end ≡ c.args.top - a.next + length (run_in a.slots (c.args.top - a.next)) =
    delivered.stopped in
    omega (
      arith,
      end,
      ahead,
      length-run_of a.slots a.next c.args.first c.args.top blocks begun ahead c.requires.packet.ends,
      c.requires.few,
      delivered.near,
      c.requires.packet.begun,
      c.requires.packet.ends,
    )

pub invariant_of-self-2 : goal.invariant_of-self-2
invariant_of-self-2 c =
    let a = c.self.inside in
    let blocks = c.args.blocks.now in
    let begun = subst (λ (v : View). c.args.first ≤ v.next) (sym c.self.view_is) c.requires.packet.begun in
    let ahead = subst (λ (v : View). v.next < c.args.top) (sym c.self.view_is) c.requires.packet.ahead in
    let delivered = rw c.in_ok-end.was at c.deliver_following.ensures.delivered in
    let end : c.in_ok-end.end ≡ c.args.top - a.next + length (run_in a.slots (c.args.top - a.next)) =
    delivered.stopped in
    let long = length-run_of a.slots a.next c.args.first c.args.top blocks begun ahead c.requires.packet.ends in
    let new : a.next + c.in_ok-end.end ≡ a.next + length (run_of a.slots a.next c.args.first c.args.top blocks) =
    omega (arith, end, long, ahead) in
    let count : ℕ = min c.in_ok-end.end (length a.slots) in
    let counted : count ≡ min (a.next + c.in_ok-end.end - a.next) (length a.slots) = omega arith in
    let past = subst (λ (v : View). past_end v.ended (Data blocks) (c.args.first + length blocks) ≡ None)
    (sym c.self.view_is) (ap (past_end c.args.self.now.ended (Data blocks)) c.requires.packet.ends ∙ c.requires.end) in
    subst IsWellFormed
    (sym (handed_view a.room a.session a.next a.known a.ended a.slots c.args.first c.args.top blocks
    (a.next + c.in_ok-end.end) count c.max-self-inside.result c.deliver_following.new.slots
    c.self.invariant begun ahead c.requires.packet.ends new counted c.max-self-inside.ensures delivered.moved))
    (stays_well (view_over a.room a.session a.next a.known a.ended a.slots)
    (data_packet a.session c.args.first blocks) c.self.invariant
    (omega (arith, c.requires.packet.ends, c.ranges.top.fits)) refl past)

pub returns-clause-taken : goal.returns-clause-taken
returns-clause-taken c =
    let a = c.self.inside in
    let blocks = c.args.blocks.now in
    let begun = subst (λ (v : View). c.args.first ≤ v.next) (sym c.self.view_is) c.requires.packet.begun in
    let ahead = subst (λ (v : View). v.next < c.args.top) (sym c.self.view_is) c.requires.packet.ahead in
    let delivered = rw c.in_ok-end.was at c.deliver_following.ensures.delivered in
    let end : c.in_ok-end.end ≡ c.args.top - a.next + length (run_in a.slots (c.args.top - a.next)) =
    delivered.stopped in
    let long = length-run_of a.slots a.next c.args.first c.args.top blocks begun ahead c.requires.packet.ends in
    let new : a.next + c.in_ok-end.end ≡ a.next + length (run_of a.slots a.next c.args.first c.args.top blocks) =
    omega (arith, end, long, ahead) in
    let count : ℕ = min c.in_ok-end.end (length a.slots) in
    let counted : count ≡ min (a.next + c.in_ok-end.end - a.next) (length a.slots) = omega arith in
    let handed : c.in_ok-end.end ≡ a.next + c.in_ok-end.end - a.next = omega arith in (
      subst (λ (v : View).
          view_over a.room a.session (a.next + c.in_ok-end.end) c.max-self-inside.result a.ended c.deliver_following.new.slots ≡ view_after v
          (data_packet v.session c.args.first blocks)) c.self.view_is
          (handed_view a.room a.session a.next a.known a.ended a.slots c.args.first c.args.top blocks
          (a.next + c.in_ok-end.end) count c.max-self-inside.result c.deliver_following.new.slots
          c.self.invariant begun ahead c.requires.packet.ends new counted c.max-self-inside.ensures delivered.moved),
      subst (λ (v : View). ◌≡◌ {A = Taken} (record { handed = c.in_ok-end.end; kept = 0; beyond = 0 })
          (taken_of v (data_packet v.session c.args.first blocks)
          (view_after v (data_packet v.session c.args.first blocks)))) c.self.view_is
          ((λ i. record { handed = handed i; kept = 0; beyond = 0 })
          ∙ sym (at_taken a.room a.session a.next a.known a.ended a.slots c.args.first c.args.top blocks
          (a.next + c.in_ok-end.end) count c.self.invariant begun ahead c.requires.packet.ends new counted)),
    )

pub returns-clause-own : goal.returns-clause-own
returns-clause-own c =
    let a = c.self.inside in
    let blocks = c.args.blocks.now in
    let begun = subst (λ (v : View). c.args.first ≤ v.next) (sym c.self.view_is) c.requires.packet.begun in
    let ahead = subst (λ (v : View). v.next < c.args.top) (sym c.self.view_is) c.requires.packet.ahead in
    let run = run_in a.slots (c.args.top - a.next) in
    let delivered = rw c.in_ok-end.was at c.deliver_following.ensures.delivered in
    subst (λ (v : View). HandsOwn v (data_packet v.session c.args.first blocks)
    (drop (v.next - c.args.first) blocks) c.deliver_following.new.batch) c.self.view_is
    (hands_own (view_over a.room a.session a.next a.known a.ended a.slots) (data_packet a.session c.args.first blocks)
    c.deliver_following.new.batch (a.next + (c.args.top - a.next)) run begun
    (omega (arith, ahead, c.requires.packet.ends))
    (omega (arith, begun, ahead, c.requires.packet.ends, length-drop (a.next - c.args.first) blocks))
    (at_run a.room a.session a.next a.known a.ended a.slots c.args.first c.args.top blocks c.self.invariant begun ahead
    c.requires.packet.ends)
    (delivered.batch
    ∙ ap (λ (b : Handed). followed_by b (a.next + (c.args.top - a.next)) run) c.requires.empty))
