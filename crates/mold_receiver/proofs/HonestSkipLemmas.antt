-- A view stays well formed and honest when messages are given up.
use Rattle.std.proofs.Common.{◌≡◌, ℕ, ◌+◌, ◌-◌, ◌≤◌, Bool, List, length, Some, arith}
use Rattle.std.specs.FinMap as finite
use Rattle.mold_receiver.specs.Honest.{IsHonest, IsSkippedHonestly}
use Rattle.mold_receiver.specs.Skip.{skipped, skipped_run}
use Rattle.mold_receiver.specs.Store.{Message}
use Rattle.mold_receiver.specs.View.{View, IsWellFormed}
use Rattle.mold_receiver.proofs.GivingUpLemmas.{moved_well}
use Rattle.mold_receiver.proofs.LawLemmas.{cut_had}
use Rattle.mold_receiver.proofs.StoreLemmas.{run_reads, run_short}

pub skips_well : (v : View) (to : ℕ) → IsWellFormed v → v.next ≤ to → to ≤ v.known → IsWellFormed (skipped v to)
skips_well v to well ahead within =
    let short = run_short (finite.get v.store) to (v.known - to) in
    moved_well v (to + length (skipped_run v to)) well (omega (arith, ahead)) (omega (arith, short, within))

pub skipped_had : (v : View) (to number : ℕ) (m : Message) → finite.get (skipped v to).store number ≡ Some m →
    finite.get v.store number ≡ Some m
skipped_had v to number m is = (cut_had v.store (to + length (skipped_run v to)) v.window number m is).0

pub skips_honestly : (v : View) (to : ℕ) (published : List Message) (closed : Bool) → IsHonest v published closed →
    v.next ≤ to → to ≤ v.known → IsSkippedHonestly v to published closed
skips_honestly v to published closed honest ahead within = record {
  honest = record {
    well_formed = skips_well v to honest.well_formed ahead within;
    stored = λ number m is. honest.stored number m (skipped_had v to number m is);
    known = honest.known;
    ends = honest.ends;
  };
  handed = λ i m is. honest.stored (to + i) m (run_reads (finite.get v.store) to (v.known - to) i m is);
}
