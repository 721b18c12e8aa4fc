use Rattle.std.proofs.Common.{List, length, subst}
use Rattle.mold_pacing.specs.declared.flight.Flight.{Flight}
use Rattle.mold_pacing.specs.Table.{AreBelow}
use Rattle.mold_pacing.proofs.ResponseLemmas.{arrival_none}
use Rattle.mold_pacing.proofs.pacer.Pacer.none_begins_from.Goals as goal

pub returns : goal.returns
returns c is end =
    let Below : List Flight → Type 0 = λ t. AreBelow t (length t) c.args.number in
    arrival_none c.args.self.now.state.now c.args.number end c.args.self.now.flights.items
    (subst Below c.deref.ensures.value (c.all_begin_below.ensures is))
