use Rattle.std.proofs.Common.{◌≡◌, ◌<◌, ◌≤◌, ◌+◌, ℕ}
use Rattle.std.specs.Prelude.{Some, vec_capacity, vec_len}
use Rattle.mold_receiver.specs.Places.{end_from, ends_from, place_at}
use Rattle.mold_receiver.proofs.ring.Ring.list_ends.Given as goal

abbrev pub invariant-loop-i : goal.invariant-loop-i
invariant-loop-i l = record {
  listed : l.ends.items ≡ ends_from l.bytes 0 l.i;
  ends : l.end ≡ end_from l.bytes 0 l.i;
  there :
      (j : ℕ) → j < l.i →
      place_at l.self (l.slot + j) ≡ Some (record { segment = l.segment; start = end_from l.bytes 0 j });
  long : vec_len l.ends ≡ l.i;
  room : l.count ≤ vec_capacity l.ends;
}
