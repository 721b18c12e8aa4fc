use Rattle.std.proofs.Common.{◌≡◌, ◌⊎◌, ◌<◌, ℕ, get_or}
use Rattle.mold_session.specs.Records.{magic_3}
use Rattle.mold_durable.proofs.head.is_start.Given as goal

abbrev pub invariant-loop-at : goal.invariant-loop-at
invariant-loop-at l = record {
  named : l.magic ≡ magic_3;
  before : (at : ℕ) → at < l.at → (get_or l.bytes at 0 ≡ get_or magic_3 at 0) ⊎ (get_or l.bytes at 0 ≡ 0);
}
