use Rattle.mold_pacing.specs.Flight.{covers, ends_below}
use Rattle.mold_pacing.proofs.RangeLemmas.{all_at, not_covers_end}
use Rattle.mold_pacing.proofs.TableLemmas.{any_none}
use Rattle.mold_pacing.proofs.pacer.Pacer.free_from.Goals as goal

pub returns-then-self-number-clause-free : goal.returns-then-self-number-clause-free
returns-then-self-number-clause-free c time past =
    let old = c.args.self.now in
    let fs = old.flights.items in
    any_none (covers time c.args.number) fs (λ i f there. not_covers_end time c.args.number old.bounds.end f
    c.if-self-number.true (all_at (ends_below old.bounds.end) fs i f old.bounded there))
