use Rattle.std.proofs.Common.{◌≡◌, ℕ, ◌+◌, ◌-◌, ◌++◌, min, drop, replicate, length, None, ap, ◌∙◌, arith}
use Rattle.mold_receiver.specs.Handing.{run_in}
use Rattle.mold_receiver.specs.Slots.{slot_at}
use Rattle.mold_receiver.proofs.RunLemmas.{ends_within, run_ends}
use Rattle.mold_receiver.proofs.StoreLemmas.{run_short}
use Rattle.mold_receiver.proofs.hand.deliver_copied.Goals as goal

pub skip-requires-clause-ends : goal.skip-requires-clause-ends
skip-requires-clause-ends c =
    let slots = c.args.slots.now in
    let stops : ℕ = c.args.start + length (run_in slots c.args.start) in
    let end : c.in_ok-end.end ≡ stops = rw c.in_ok-end.was at c.hand_following.ensures.stopped in
    let count : c.min-count.result ≡ min stops (length slots) =
    omega (arith, end, c.min-count.ensures, c.len.ensures.length) in
    ap (λ (n : ℕ). slot_at slots n) count ∙ ends_within slots stops (run_ends slots c.args.start)

pub returns-clause-delivered : goal.returns-clause-delivered
returns-clause-delivered c =
    let slots = c.args.slots.now in
    let end : c.in_ok-end.end ≡ c.args.start + length (run_in slots c.args.start) =
    rw c.in_ok-end.was at c.hand_following.ensures.stopped in
    let count : c.min-count.result ≡ min c.in_ok-end.end (length slots) =
    omega (arith, c.min-count.ensures, c.len.ensures.length) in
    record {
      batch = rw c.in_ok-end.was at c.hand_following.ensures.handed;
      stopped = end;
      fits = rw c.in_ok-end.was at c.hand_following.ensures.fits;
      near = omega (
        arith,
        end,
        run_short (slot_at slots) c.args.start (length slots - c.args.start),
        c.len.ensures.range.1,
      );
      moved = c.skip.ensures ∙ ap (λ (n : ℕ). drop n slots ++ replicate n None) count;
    }
