use Rattle.std.proofs.Common.{◌+◌, ◌∙◌, ap, arith, slice_get, sym}
use Rattle.std.specs.List.{list_all}
use Rattle.mold_pacing.specs.Flight.{in_flight, is_over}
use Rattle.mold_pacing.proofs.EndLemmas.{true_is_false}
use Rattle.mold_pacing.proofs.RangeLemmas.{waits_at}
use Rattle.mold_pacing.proofs.WaitingLemmas.{any_still, still_bound}
use Rattle.mold_pacing.proofs.pacer.Pacer.next_over.Goals as goal

pub returns-clause-least : goal.returns-clause-least
returns-clause-least c =
    let old = c.args.self.now in
    λ time number before busy can.
    let here = ap (in_flight old.state.now number) c.deref.ensures.value ∙ busy in
    let still = c.next_over.ensures.stays time number before here in
    true_is_false (sym (ap (in_flight time number) (sym c.deref.ensures.value) ∙ still) ∙ can.free)

pub returns-clause-same : goal.returns-clause-same
returns-clause-same c =
    λ time i f before there past. c.next_over.ensures.same time i f before
    (ap (λ fs. slice_get fs i) c.deref.ensures.value ∙ there) past

pub returns-clause-bound : goal.returns-clause-bound
returns-clause-bound c =
    let old = c.args.self.now in
    let items = c.deref.ensures.value in
    λ number busy. c.next_over.ensures.bound (old.state.now + old.options.ceiling) number
    (ap (in_flight old.state.now number) items ∙ busy)
    (ap (list_all (is_over (old.state.now + old.options.ceiling))) items ∙ old.ends)

pub returns-then-now-self-clause-least : goal.returns-then-now-self-clause-least
returns-then-now-self-clause-least c =
    let old = c.args.self.now in
    let fs = old.flights.items in
    λ time number before busy can.
    let still = any_still old.state.now time number fs
    (λ i f there flies. omega (arith, before, waits_at old.bounds.over fs i f old.waits there)) busy in
    true_is_false (sym still ∙ can.free)

pub returns-then-now-self-clause-same : goal.returns-then-now-self-clause-same
returns-then-now-self-clause-same c =
    let old = c.args.self.now in
    λ time i f before there past.
    absurd (omega (arith, before, past, waits_at old.bounds.over old.flights.items i f old.waits there))

pub returns-then-now-self-clause-bound : goal.returns-then-now-self-clause-bound
returns-then-now-self-clause-bound c =
    let old = c.args.self.now in
    let fs = old.flights.items in
    λ number busy. still_bound old.state.now (old.state.now + old.options.ceiling) number old.bounds.over fs
    (λ i f there flies. waits_at old.bounds.over fs i f old.waits there) busy old.ends
