use Rattle.std.proofs.Common.{◌≡◌, ◌+◌, ◌-◌, ◌<◌, ◌≤◌, min, length, length-append, length-drop, drop, ℕ, subst, sym, ap, ◌∙◌, arith, None, refl}
use Rattle.std.specs.Prelude.{Result, Ok, Err, OnErr}
use Rattle.mold_wire.specs.declared.packet.Body.TheVariants.{Data}
use Rattle.mold_receiver.specs.declared.taken.Taken.{Taken}
use Rattle.mold_receiver.specs.Batch.{followed_by}
use Rattle.mold_receiver.specs.Handing.{HasNext, run_in, run_of}
use Rattle.mold_receiver.specs.Slots.{slot_at}
use Rattle.mold_receiver.proofs.RunLemmas.{ends_within, run_ends}
use Rattle.mold_receiver.specs.Receive.{TakesMemory, data_packet, handed_on, view_after, taken_of}
use Rattle.mold_rule.specs.Refusals.{past_end}
use Rattle.mold_receiver.specs.View.{View, IsWellFormed, view_over}
use Rattle.mold_receiver.proofs.ViewLemmas.{slot_numbers}
use Rattle.mold_receiver.proofs.WellLemmas.{stays_well}
use Rattle.mold_receiver.proofs.NextLemmas.{handed_view, at_run, at_taken, run_few, some_handed}
use Rattle.mold_receiver.proofs.receiver.Receiver.hand.Goals as goal

pub hand_on-requires-clause-numbered : goal.hand_on-requires-clause-numbered
hand_on-requires-clause-numbered c =
    let a = c.self.inside in
    slot_numbers a.room a.session a.next a.known a.ended a.slots c.self.invariant

pub hand_on-requires-clause-packet : goal.hand_on-requires-clause-packet
hand_on-requires-clause-packet c =
    subst (λ (v : View). HasNext c.args.batch.now v.next c.args.first c.args.top c.args.blocks.now)
    (sym c.self.view_is) c.requires.packet

pub overflow_cast-result : goal.overflow_cast-result
overflow_cast-result c =
    let a = c.self.inside in
    let blocks = c.args.blocks.now in
    let begun = subst (λ (v : View). c.args.first ≤ v.next) (sym c.self.view_is) c.requires.packet.begun in
    let ahead = subst (λ (v : View). v.next < c.args.top) (sym c.self.view_is) c.requires.packet.ahead in
    let new : c.in_ok-next.next ≡ a.next + length (run_of a.slots a.next c.args.first c.args.top blocks) =
    (rw c.in_ok-next.was at c.hand_on.ensures.handed).after in
    omega (
      arith,
      new,
      run_few a.slots a.next c.args.first c.args.top blocks begun ahead c.requires.packet.ends,
      c.requires.few,
      c.len.ensures.range.1,
    )

pub invariant_of-self : goal.invariant_of-self
invariant_of-self c =
    let a = c.self.inside in
    let blocks = c.args.blocks.now in
    let begun = subst (λ (v : View). c.args.first ≤ v.next) (sym c.self.view_is) c.requires.packet.begun in
    let ahead = subst (λ (v : View). v.next < c.args.top) (sym c.self.view_is) c.requires.packet.ahead in
    let new : c.in_ok-next.next ≡ a.next + length (run_of a.slots a.next c.args.first c.args.top blocks) =
    (rw c.in_ok-next.was at c.hand_on.ensures.handed).after in
    let counted : c.min-count.result ≡ min (c.in_ok-next.next - a.next) (length a.slots) = c.min-count.ensures
    ∙ ap (min (c.in_ok-next.next - a.next)) c.len.ensures.length in
    let end = subst (λ (v : View). past_end v.ended (Data blocks) (c.args.first + length blocks) ≡ None)
    (sym c.self.view_is) (ap (past_end c.args.self.now.ended (Data blocks)) c.requires.packet.ends ∙ c.requires.end) in
    subst IsWellFormed
    (sym (handed_view a.room a.session a.next a.known a.ended a.slots c.args.first c.args.top blocks c.in_ok-next.next
    c.min-count.result c.max-self-inside.result c.skip.new.self
    c.self.invariant begun ahead c.requires.packet.ends new counted c.max-self-inside.ensures c.skip.ensures))
    (stays_well (view_over a.room a.session a.next a.known a.ended a.slots)
    (data_packet a.session c.args.first blocks) c.self.invariant
    (omega (arith, c.requires.packet.ends, c.ranges.top.fits)) refl end)

pub returns-clause-handed : goal.returns-clause-handed
returns-clause-handed c =
    let a = c.self.inside in
    let blocks = c.args.blocks.now in
    let begun = subst (λ (v : View). c.args.first ≤ v.next) (sym c.self.view_is) c.requires.packet.begun in
    let ahead = subst (λ (v : View). v.next < c.args.top) (sym c.self.view_is) c.requires.packet.ahead in
    let new : c.in_ok-next.next ≡ a.next + length (run_of a.slots a.next c.args.first c.args.top blocks) =
    (rw c.in_ok-next.was at c.hand_on.ensures.handed).after in
    let run = at_run a.room a.session a.next a.known a.ended a.slots c.args.first c.args.top blocks c.self.invariant begun
    ahead c.requires.packet.ends in
    let pushed : c.hand_on.new.batch ≡ followed_by c.args.batch.now a.next
    (run_of a.slots a.next c.args.first c.args.top blocks) = (rw c.in_ok-next.was at c.hand_on.ensures.handed).batch in
    subst (λ (v : View). c.hand_on.new.batch ≡ followed_by c.args.batch.now v.next
    (handed_on v c.args.first blocks)) c.self.view_is
    (pushed ∙ ap (followed_by c.args.batch.now a.next) (sym run))

pub returns-clause-taken : goal.returns-clause-taken
returns-clause-taken c =
    let a = c.self.inside in
    let blocks = c.args.blocks.now in
    let begun = subst (λ (v : View). c.args.first ≤ v.next) (sym c.self.view_is) c.requires.packet.begun in
    let ahead = subst (λ (v : View). v.next < c.args.top) (sym c.self.view_is) c.requires.packet.ahead in
    let new : c.in_ok-next.next ≡ a.next + length (run_of a.slots a.next c.args.first c.args.top blocks) =
    (rw c.in_ok-next.was at c.hand_on.ensures.handed).after in
    let counted : c.min-count.result ≡ min (c.in_ok-next.next - a.next) (length a.slots) = c.min-count.ensures
    ∙ ap (min (c.in_ok-next.next - a.next)) c.len.ensures.length in (
      subst (λ (v : View).
          view_over a.room a.session c.in_ok-next.next c.max-self-inside.result a.ended c.skip.new.self ≡ view_after v
          (data_packet v.session c.args.first blocks)) c.self.view_is
          (handed_view a.room a.session a.next a.known a.ended a.slots c.args.first c.args.top blocks c.in_ok-next.next
          c.min-count.result c.max-self-inside.result c.skip.new.self
          c.self.invariant begun ahead c.requires.packet.ends new counted c.max-self-inside.ensures c.skip.ensures),
      subst (λ (v : View). ◌≡◌ {A = Taken} (record { handed = c.in_ok-next.next - a.next; kept = 0; beyond = 0 })
          (taken_of v (data_packet v.session c.args.first blocks)
          (view_after v (data_packet v.session c.args.first blocks)))) c.self.view_is
          (sym (at_taken a.room a.session a.next a.known a.ended a.slots c.args.first c.args.top blocks c.in_ok-next.next
          c.min-count.result c.self.invariant begun ahead c.requires.packet.ends new counted)),
    )

on_err : {T E : Type 0} {P : Type 0} (r : Result T E) → P → OnErr r P
on_err (Ok x) p = tt
on_err (Err e) p = p

pub returns-in_err-next-clause-needed : goal.returns-in_err-next-clause-needed
returns-in_err-next-clause-needed c =
    let a = c.self.inside in
    let blocks = c.args.blocks.now in
    let begun = subst (λ (v : View). c.args.first ≤ v.next) (sym c.self.view_is) c.requires.packet.begun in
    let ahead = subst (λ (v : View). v.next < c.args.top) (sym c.self.view_is) c.requires.packet.ahead in
    on_err c.from_residual.result
    (subst (λ (v : View). TakesMemory v (data_packet v.session c.args.first blocks)) c.self.view_is
    (omega (
      arith,
      some_handed a.room a.session a.next a.known a.ended a.slots c.args.first c.args.top blocks c.self.invariant begun ahead
          c.requires.packet.ends,
    )))

pub skip-requires-clause-ends : goal.skip-requires-clause-ends
skip-requires-clause-ends c =
    let a = c.self.inside in
    let blocks = c.args.blocks.now in
    let begun = subst (λ (v : View). c.args.first ≤ v.next) (sym c.self.view_is) c.requires.packet.begun in
    let ahead = subst (λ (v : View). v.next < c.args.top) (sym c.self.view_is) c.requires.packet.ahead in
    let new : c.in_ok-next.next ≡ a.next + length (run_of a.slots a.next c.args.first c.args.top blocks) =
    (rw c.in_ok-next.was at c.hand_on.ensures.handed).after in
    let run = run_in a.slots (c.args.top - a.next) in
    let handed : c.in_ok-next.next - a.next ≡ c.args.top - a.next + length run =
    omega (
      arith,
      new,
      length-append (drop (a.next - c.args.first) blocks) run,
      length-drop (a.next - c.args.first) blocks,
      begun,
      ahead,
      c.requires.packet.ends,
    ) in
    let count : c.min-count.result ≡ min (c.args.top - a.next + length run) (length a.slots) =
    c.min-count.ensures ∙ ap (min (c.in_ok-next.next - a.next)) c.len.ensures.length
    ∙ ap (λ (n : ℕ). min n (length a.slots)) handed in
    ap (λ (n : ℕ). slot_at a.slots n) count
    ∙ ends_within a.slots (c.args.top - a.next + length run) (run_ends a.slots (c.args.top - a.next))
