use Rattle.std.proofs.Common.{◌≡◌, ℕ, ◌+◌, ◌-◌, sym, subst, arith, length, length-drop, drop}
use Rattle.std.specs.Prelude.{Result, Ok, Err, OnErr}
use Rattle.mold_receiver.specs.Batch.{Handed, Follows, followed_by}
use Rattle.mold_receiver.proofs.BatchLemmas.{follows_after, grew_twice}
use Rattle.mold_receiver.proofs.hand.push_run.Goals as goal

on_err : {T E : Type 0} {P : Type 0} (r : Result T E) → P → OnErr r P
on_err (Ok x) p = tt
on_err (Err e) p = p

pub push_stored-requires-clause-follows : goal.push_stored-requires-clause-follows
push_stored-requires-clause-follows c =
    let counted : c.args.next + length (drop (c.args.next - c.args.first) c.args.blocks.now) ≡ c.args.next +
    (c.args.top - c.args.next) =
    omega (arith, c.requires.packet.ends, length-drop (c.args.next - c.args.first) c.args.blocks.now)
    in
    subst (λ (b : Handed). Follows b (c.args.next + (c.args.top - c.args.next)))
    (sym (rw c.in_ok-push_messages.was at c.push_messages.ensures.handed))
    (subst (λ (n : ℕ). Follows
    (followed_by c.args.batch.now c.args.next (drop (c.args.next - c.args.first) c.args.blocks.now)) n) counted
    (follows_after c.args.batch.now c.args.next
    (drop (c.args.next - c.args.first) c.args.blocks.now) c.requires.packet.follows))

pub returns-in_err-end-clause-grew : goal.returns-in_err-end-clause-grew
returns-in_err-end-clause-grew c =
    let counted : c.args.next + length (drop (c.args.next - c.args.first) c.args.blocks.now) ≡ c.args.next +
    (c.args.top - c.args.next) =
    omega (arith, c.requires.packet.ends, length-drop (c.args.next - c.args.first) c.args.blocks.now)
    in
    on_err c.from_residual-in_err-end.result
    (grew_twice c.args.batch.now c.push_messages.new.batch c.push_stored.new.batch c.args.next
    (c.args.next + (c.args.top - c.args.next)) (drop (c.args.next - c.args.first) c.args.blocks.now)
    (rw c.in_ok-push_messages.was at c.push_messages.ensures.handed) counted
    (rw c.in_err-end.was at c.push_stored.ensures.grew))
