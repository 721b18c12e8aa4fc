use Rattle.mold_pacing.specs.Flight.{ends_below, is_stale, waits_until}
use Rattle.mold_pacing.proofs.PlaceLemmas.{find_none}
use Rattle.mold_pacing.proofs.RangeLemmas.{all_at, not_stale_before, not_stale_past}
use Rattle.mold_pacing.proofs.place.stale_index.Goals.{then-now-bounds-via-then-now-bounds, then-now-bounds-via-else-now-bounds+then-bounds-number}
use Rattle.mold_pacing.proofs.place.stale_index.Goals as goal

pub returns-then-now-bounds-clause-none : goal.returns-then-now-bounds-clause-none
returns-then-now-bounds-clause-none c =
    let fs = c.args.flights.now in
    let bounds = c.args.bounds in
    find_none (is_stale c.args.now c.args.number) fs (λ i f there. elim c.then-now-bounds.branch [
      | then-now-bounds-via-then-now-bounds w ↦
          not_stale_before c.args.now c.args.number bounds.over f w.if-now-bounds.true
          (all_at (waits_until bounds.over) fs i f c.requires.waits there)
      | then-now-bounds-via-else-now-bounds+then-bounds-number w ↦
          not_stale_past c.args.now c.args.number bounds.end f w.if-bounds-number.true
          (all_at (ends_below bounds.end) fs i f c.requires.ends there)
    ])
