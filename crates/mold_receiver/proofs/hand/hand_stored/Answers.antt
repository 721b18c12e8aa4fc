use Rattle.std.proofs.Common.{◌≡◌, ◌+◌, List, length, sym, ap, arith}
use Rattle.std.specs.Prelude.{None, Result, Ok, Err, OnErr}
use Rattle.mold_receiver.specs.Batch.{followed_by}
use Rattle.mold_receiver.specs.Slots.{slot_at}
use Rattle.mold_receiver.specs.Store.{Message}
use Rattle.mold_receiver.proofs.BatchLemmas.{run_none}
use Rattle.mold_receiver.proofs.GivingUpLemmas.{run_held}
use Rattle.mold_receiver.proofs.hand.hand_stored.Goals as goal

on_err : {T E : Type 0} {P : Type 0} (r : Result T E) → P → OnErr r P
on_err (Ok x) p = tt
on_err (Err e) p = p

pub returns-in_default-clause-handed : goal.returns-in_default-clause-handed
returns-in_default-clause-handed c =
    let none : slot_at c.args.slots.now c.args.start ≡ None = sym (rw c.in_default.is at c.get.ensures) in
    ap (followed_by c.args.batch.now (c.args.next + c.args.start)) (sym (run_none c.args.slots.now c.args.start none))

pub returns-in_default-clause-stopped : goal.returns-in_default-clause-stopped
returns-in_default-clause-stopped c =
    let none : slot_at c.args.slots.now c.args.start ≡ None = sym (rw c.in_default.is at c.get.ensures) in
    omega (arith, ap (λ (t : List Message). length t) (run_none c.args.slots.now c.args.start none))

pub returns-in_err-make_room-clause-needed : goal.returns-in_err-make_room-clause-needed
returns-in_err-make_room-clause-needed c =
    on_err c.from_residual.result (run_held c.args.slots.now c.args.start _ (sym c.in-Some.ensures))

pub returns-then-is_err-clause-needed : goal.returns-then-is_err-clause-needed
returns-then-is_err-clause-needed c =
    on_err c.push_stored-end.result (run_held c.args.slots.now c.args.start _ (sym c.in-Some.ensures))
