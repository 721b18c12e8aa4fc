use Rattle.std.proofs.Common.{◌≡◌, ◌+◌, ◌-◌, ◌<◌, ◌≤◌, ℕ, List, length, min, subst, sym, ap, ◌∙◌, arith}
use Rattle.std.specs.Prelude.{Result, Ok, Err, OnErr}
use Rattle.mold_receiver.specs.Batch.{followed_by}
use Rattle.mold_receiver.specs.Handing.{run_in}
use Rattle.mold_receiver.specs.Slots.{slot_at}
use Rattle.mold_receiver.proofs.RunLemmas.{ends_within, run_ends}
use Rattle.mold_receiver.specs.Skip.{skipped, skipped_run}
use Rattle.mold_receiver.specs.Store.{Message}
use Rattle.mold_receiver.specs.View.{View, IsWellFormed, view_over}
use Rattle.mold_receiver.proofs.GivingUpLemmas.{moved_well, skipped_few, skipped_low, skipped_run_is}
use Rattle.mold_receiver.proofs.GivingUpLemmas.{skipped_view}
use Rattle.mold_receiver.proofs.ViewLemmas.{slot_numbers}
use Rattle.mold_receiver.proofs.receiver.Receiver.skip.Goals as goal

pub hand_stored-requires-clause-numbered : goal.hand_stored-requires-clause-numbered
hand_stored-requires-clause-numbered c =
    let a = c.self.inside in
    slot_numbers a.room a.session a.next a.known a.ended a.slots c.self.invariant

pub overflow_cast-result : goal.overflow_cast-result
overflow_cast-result c =
    let a = c.self.inside in
    let v = view_over a.room a.session a.next a.known a.ended a.slots in
    let ahead = subst (λ (w : View). w.next < c.args.to) (sym c.self.view_is) c.requires.ahead in
    let within = subst (λ (w : View). c.args.to ≤ w.known) (sym c.self.view_is) c.requires.missing.0 in
    let end : c.in_ok-end.end ≡ c.args.to - a.next + length (run_in a.slots (c.args.to - a.next)) =
    rw c.in_ok-end.was at c.hand_stored.ensures.stopped in
    omega (
      arith,
      end,
      skipped_few a.room a.session a.next a.known a.ended a.slots c.args.to c.self.invariant (omega (arith, ahead)) within,
      c.len.ensures.range.1,
    )

pub invariant_of-self : goal.invariant_of-self
invariant_of-self c =
    let a = c.self.inside in
    let v = view_over a.room a.session a.next a.known a.ended a.slots in
    let ahead = subst (λ (w : View). w.next < c.args.to) (sym c.self.view_is) c.requires.ahead in
    let within = subst (λ (w : View). c.args.to ≤ w.known) (sym c.self.view_is) c.requires.missing.0 in
    let end : c.in_ok-end.end ≡ c.args.to - a.next + length (run_in a.slots (c.args.to - a.next)) =
    rw c.in_ok-end.was at c.hand_stored.ensures.stopped in
    let low : a.next ≤ c.args.to = omega (arith, ahead) in
    let new : a.next + c.in_ok-end.end ≡ c.args.to + length (run_in a.slots (c.args.to - a.next)) = omega (arith, end, low) in
    let counted : c.min.result ≡ min (a.next + c.in_ok-end.end - a.next) (length a.slots) =
    omega (arith, c.min.ensures, c.len.ensures.length) in
    let is = skipped_view a.room a.session a.next a.known a.ended a.slots c.args.to c.self.invariant low within
    (a.next + c.in_ok-end.end) c.min.result new counted in
    subst IsWellFormed
    (sym ((λ i. view_over a.room a.session (a.next + c.in_ok-end.end) a.known a.ended (c.skip.ensures i)) ∙ is))
    (moved_well v (c.args.to + length (skipped_run v c.args.to)) c.self.invariant (omega (arith, low))
    (omega (
      arith,
      ap (λ (t : List Message). length t)
          (skipped_run_is a.room a.session a.next a.known a.ended a.slots c.args.to c.self.invariant low within),
      skipped_low a.room a.session a.next a.known a.ended a.slots c.args.to c.self.invariant low within,
    )))

pub returns-clause-skipped : goal.returns-clause-skipped
returns-clause-skipped c =
    let a = c.self.inside in
    let v = view_over a.room a.session a.next a.known a.ended a.slots in
    let ahead = subst (λ (w : View). w.next < c.args.to) (sym c.self.view_is) c.requires.ahead in
    let within = subst (λ (w : View). c.args.to ≤ w.known) (sym c.self.view_is) c.requires.missing.0 in
    let end : c.in_ok-end.end ≡ c.args.to - a.next + length (run_in a.slots (c.args.to - a.next)) =
    rw c.in_ok-end.was at c.hand_stored.ensures.stopped in
    let low : a.next ≤ c.args.to = omega (arith, ahead) in
    let new : a.next + c.in_ok-end.end ≡ c.args.to + length (run_in a.slots (c.args.to - a.next)) = omega (arith, end, low) in
    let counted : c.min.result ≡ min (a.next + c.in_ok-end.end - a.next) (length a.slots) =
    omega (arith, c.min.ensures, c.len.ensures.length) in
    let is = skipped_view a.room a.session a.next a.known a.ended a.slots c.args.to c.self.invariant low within
    (a.next + c.in_ok-end.end) c.min.result new counted in
    (λ i. view_over a.room a.session (a.next + c.in_ok-end.end) a.known a.ended (c.skip.ensures i))
    ∙ is
    ∙ ap (λ (w : View). skipped w c.args.to) c.self.view_is

pub returns-clause-handed : goal.returns-clause-handed
returns-clause-handed c =
    let a = c.self.inside in
    let v = view_over a.room a.session a.next a.known a.ended a.slots in
    let ahead = subst (λ (w : View). w.next < c.args.to) (sym c.self.view_is) c.requires.ahead in
    let within = subst (λ (w : View). c.args.to ≤ w.known) (sym c.self.view_is) c.requires.missing.0 in
    let low : a.next ≤ c.args.to = omega (arith, ahead) in
    let at : a.next + (c.args.to - a.next) ≡ c.args.to = omega (arith, low) in
    (rw c.in_ok-end.was at c.hand_stored.ensures.handed)
    ∙ ap (λ (n : ℕ). followed_by c.args.batch.now n (run_in a.slots (c.args.to - a.next))) at
    ∙ ap (followed_by c.args.batch.now c.args.to)
    (sym (skipped_run_is a.room a.session a.next a.known a.ended a.slots c.args.to c.self.invariant low within)
    ∙ ap (λ (w : View). skipped_run w c.args.to) c.self.view_is)

pub returns-clause-count : goal.returns-clause-count
returns-clause-count c =
    let a = c.self.inside in
    let v = view_over a.room a.session a.next a.known a.ended a.slots in
    let ahead = subst (λ (w : View). w.next < c.args.to) (sym c.self.view_is) c.requires.ahead in
    let within = subst (λ (w : View). c.args.to ≤ w.known) (sym c.self.view_is) c.requires.missing.0 in
    let end : c.in_ok-end.end ≡ c.args.to - a.next + length (run_in a.slots (c.args.to - a.next)) =
    rw c.in_ok-end.was at c.hand_stored.ensures.stopped in
    let low : a.next ≤ c.args.to = omega (arith, ahead) in
    omega (
      arith,
      end,
      ap (λ (t : List Message). length t)
          (sym (skipped_run_is a.room a.session a.next a.known a.ended a.slots c.args.to c.self.invariant low within)
          ∙ ap (λ (w : View). skipped_run w c.args.to) c.self.view_is),
    )

on_err : {T E : Type 0} {P : Type 0} (r : Result T E) → P → OnErr r P
on_err (Ok x) p = tt
on_err (Err e) p = p

pub returns-in_err-end-clause-needed : goal.returns-in_err-end-clause-needed
returns-in_err-end-clause-needed c =
    let a = c.self.inside in
    let v = view_over a.room a.session a.next a.known a.ended a.slots in
    let ahead = subst (λ (w : View). w.next < c.args.to) (sym c.self.view_is) c.requires.ahead in
    let within = subst (λ (w : View). c.args.to ≤ w.known) (sym c.self.view_is) c.requires.missing.0 in
    let run = skipped_run_is a.room a.session a.next a.known a.ended a.slots c.args.to c.self.invariant (omega (arith, ahead))
    within in
    on_err c.from_residual.result
    (subst (λ (t : List Message). 0 < length t) (sym run ∙ ap (λ (w : View). skipped_run w c.args.to) c.self.view_is)
    (rw c.in_err-end.was at c.hand_stored.ensures.needed))

pub skip-requires-clause-ends : goal.skip-requires-clause-ends
skip-requires-clause-ends c =
    let a = c.self.inside in
    let start = c.args.to - a.next in
    let end : c.in_ok-end.end ≡ start + length (run_in a.slots start) =
    rw c.in_ok-end.was at c.hand_stored.ensures.stopped in
    ap (λ (n : ℕ). slot_at a.slots n)
    (c.min.ensures ∙ ap (min c.in_ok-end.end) c.len.ensures.length ∙ ap (λ (n : ℕ). min n (length a.slots)) end)
    ∙ ends_within a.slots (start + length (run_in a.slots start)) (run_ends a.slots start)
