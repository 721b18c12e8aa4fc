use Rattle.std.proofs.Common.{◌≡◌, ℕ, ◌+◌, ◌-◌, subst, arith, List, length}
use Rattle.std.specs.Prelude.{Result, Ok, Err, OnErr}
use Rattle.mold_receiver.specs.Handing.{run_in}
use Rattle.mold_receiver.specs.Run.{messages_in}
use Rattle.mold_receiver.specs.Store.{Message}
use Rattle.mold_receiver.proofs.BatchLemmas.{IsHanding, grew_twice, handing_done, handing_length, run_none, slot_within}
use Rattle.mold_receiver.proofs.RunLemmas.{handing_many, last_there, messages_long, run_many}
use Rattle.mold_receiver.proofs.hand.push_held.Goals as goal

on_err : {T E : Type 0} {P : Type 0} (r : Result T E) → P → OnErr r P
on_err (Ok x) p = tt
on_err (Err e) p = p

pub push_run-requires-clause-counted : goal.push_run-requires-clause-counted
push_run-requires-clause-counted c =
    let run = c.in-Some.run' in
    let is = c.in-Some.ensures.some in
    omega (
      arith,
      messages_long run.bytes.now 0 run.count,
      is.some,
      c.requires.numbered (c.loop-run.end + (run.count - 1)) _
          (last_there c.args.slots.now c.loop-run.end run.bytes.now run.count is.some is.there),
    )

pub overflow_add-end : goal.overflow_add-end
overflow_add-end c =
    let run = c.in-Some.run' in
    let is = c.in-Some.ensures.some in
    omega (
      arith,
      is.some,
      c.requires.numbered (c.loop-run.end + (run.count - 1)) _
          (last_there c.args.slots.now c.loop-run.end run.bytes.now run.count is.some is.there),
    )

pub loop-run-smaller : goal.loop-run-smaller
loop-run-smaller c =
    let run = c.in-Some.run' in
    let is = c.in-Some.ensures.some in
    omega (
      arith,
      is.some,
      slot_within c.args.slots.now (c.loop-run.end + (run.count - 1)) _
          (last_there c.args.slots.now c.loop-run.end run.bytes.now run.count is.some is.there),
    )

pub returns-in_err-push_run-clause-grew : goal.returns-in_err-push_run-clause-grew
returns-in_err-push_run-clause-grew c =
    let i = c.loop-run.invariant.handing in
    on_err c.from_residual.result
    (grew_twice c.args.batch.now c.loop-run.batch c.push_run.new.self (c.args.next + c.args.start)
    (c.args.next + c.loop-run.end) i.handed i.batch i.counted (rw c.in_err-push_run.was at c.push_run.ensures.grew))

pub loop-run-preserved : goal.loop-run-preserved
loop-run-preserved c =
    let run = c.in-Some.run' in
    let is = c.in-Some.ensures.some in
    let slots = c.args.slots.now in
    let from = c.args.next + c.args.start in
    let end = c.loop-run.end in
    let ms = messages_in run in
    let whole = run_in slots c.args.start in
    let long : length ms ≡ run.count = messages_long run.bytes.now 0 run.count in
    let split = run_many slots end ms is.there in
    let more : IsHanding c.args.batch.now c.push_run.new.self from (c.args.next + end + length ms)
    (run_in slots (end + length ms)) whole =
    handing_many c.args.batch.now c.loop-run.batch c.push_run.new.self from (c.args.next + end) ms
    (run_in slots (end + length ms)) whole
    (subst (λ (t : List Message). IsHanding c.args.batch.now c.loop-run.batch from (c.args.next + end) t whole) split
    c.loop-run.invariant.handing) (rw c.in_ok-push_run.was at c.push_run.ensures.added) in
    let at : c.args.next + end + length ms ≡ c.args.next + (end + run.count) = omega (arith, long) in
    record {
      handing = subst (λ (n : ℕ). IsHanding c.args.batch.now c.push_run.new.self from n
          (run_in slots (end + run.count)) whole) at
          (subst (λ (n : ℕ). IsHanding c.args.batch.now c.push_run.new.self from (c.args.next + end + length ms)
          (run_in slots (end + n)) whole) long more);
      fits = omega (
        arith,
        is.some,
        c.requires.numbered (end + (run.count - 1)) _ (last_there slots end run.bytes.now run.count is.some is.there),
      );
    }

pub returns-clause-handed : goal.returns-clause-handed
returns-clause-handed c =
    let none = run_none c.args.slots.now c.loop-run.end (rw c.in_default.is at c.run.ensures.none) in
    handing_done c.args.batch.now c.loop-run.batch (c.args.next + c.args.start) (c.args.next + c.loop-run.end)
    (run_in c.args.slots.now c.args.start)
    (subst (λ (t : List Message). IsHanding c.args.batch.now c.loop-run.batch (c.args.next + c.args.start)
    (c.args.next + c.loop-run.end) t (run_in c.args.slots.now c.args.start)) none c.loop-run.invariant.handing)

pub returns-clause-stopped : goal.returns-clause-stopped
returns-clause-stopped c =
    let none = run_none c.args.slots.now c.loop-run.end (rw c.in_default.is at c.run.ensures.none) in
    omega (
      arith,
      handing_length c.args.batch.now c.loop-run.batch (c.args.next + c.args.start)
          (c.args.next + c.loop-run.end) (run_in c.args.slots.now c.args.start)
          (subst (λ (t : List Message). IsHanding c.args.batch.now c.loop-run.batch (c.args.next + c.args.start)
          (c.args.next + c.loop-run.end) t
          (run_in c.args.slots.now c.args.start)) none c.loop-run.invariant.handing),
    )
