use Rattle.std.proofs.Common.{List, ap, arith, length, map, min, subst, sym, true, ℕ, ◌+◌, ◌∙◌, ◌≡◌}
use Rattle.std.proofs.lemmas.List.{length-map, with_items_is}
use Rattle.std.specs.Vec.{with_items}
use Rattle.mold_pacing.specs.declared.flight.Flight.{Flight}
use Rattle.mold_pacing.specs.Responses.{after_arrival}
use Rattle.mold_pacing.specs.Table.{AreBelow}
use Rattle.std.specs.List.{list_all}
use Rattle.mold_pacing.specs.Flight.{are_apart, ends_below, flies_from, is_over, waits_until}
use Rattle.mold_pacing.proofs.ApartLemmas.{apart_map}
use Rattle.mold_pacing.proofs.RangeLemmas.{flies_kept, ends_kept, arrival_end, arrival_until}
use Rattle.mold_pacing.proofs.EndLemmas.{all_map, ends_arrival}
use Rattle.mold_pacing.proofs.ResponseLemmas.{arrival_first, arrival_none, changed_ascending}
use Rattle.mold_pacing.proofs.pacer.Pacer.arrive.Goals as goal

pub invariant_of-self-clause-sorted : goal.invariant_of-self-clause-sorted
invariant_of-self-clause-sorted c =
    let old = c.args.self.now in
    let fs = old.flights in
    let now = c.take_arrival-least.new.flights in
    let change = after_arrival old.state.now c.args.came.first c.args.came.end in
    let is = c.take_arrival-least.ensures.flights ∙ ap (map change) c.deref_mut.ensures.value in
    let long = ap (λ (t : List Flight). length t) is ∙ length-map fs.items change ∙ sym fs.ok.0 in
    changed_ascending change fs.items (with_items fs now).items
    (arrival_first old.state.now c.args.came.first c.args.came.end)
    (with_items_is fs now long ∙ is) old.sorted

pub invariant_of-self-clause-ends : goal.invariant_of-self-clause-ends
invariant_of-self-clause-ends c =
    let old = c.args.self.now in
    let fs = old.flights in
    let now = c.take_arrival-least.new.flights in
    let change = after_arrival old.state.now c.args.came.first c.args.came.end in
    let is = c.take_arrival-least.ensures.flights ∙ ap (map change) c.deref_mut.ensures.value in
    let long = ap (λ (t : List Flight). length t) is ∙ length-map fs.items change ∙ sym fs.ok.0 in
    let over = is_over (old.state.now + old.options.ceiling) in
    ap (list_all over) (with_items_is fs now long ∙ is)
    ∙ all_map over over change fs.items (ends_arrival old.state.now c.args.came.first c.args.came.end old.options.ceiling) old.ends

pub returns-then-all_begin_below-clause-flights : goal.returns-then-all_begin_below-clause-flights
returns-then-all_begin_below-clause-flights c =
    let fs = c.args.self.now.flights.items in
    let Below : List Flight → Type 0 = λ t. AreBelow t (length t) c.args.came.first in
    arrival_none c.args.self.now.state.now c.args.came.first c.args.came.end fs
    (subst Below c.deref.ensures.value (c.all_begin_below.ensures c.if-all_begin_below.true))

pub invariant_of-self-clause-apart : goal.invariant_of-self-clause-apart
invariant_of-self-clause-apart c =
    let old = c.args.self.now in
    let fs = old.flights in
    let now = c.take_arrival-least.new.flights in
    let change = after_arrival old.state.now c.args.came.first c.args.came.end in
    let is = c.take_arrival-least.ensures.flights ∙ ap (map change) c.deref_mut.ensures.value in
    let long = ap (λ (t : List Flight). length t) is ∙ length-map fs.items change ∙ sym fs.ok.0 in
    ap (are_apart old.state.now 0) (with_items_is fs now long ∙ is)
    ∙ apart_map old.state.now old.state.now 0 change fs.items (arrival_first old.state.now c.args.came.first c.args.came.end)
    (arrival_end old.state.now c.args.came.first c.args.came.end) (λ f flies. omega (arith, flies, arrival_until old.state.now c.args.came.first c.args.came.end f)) old.apart

pub invariant_of-self-clause-bounded : goal.invariant_of-self-clause-bounded
invariant_of-self-clause-bounded c =
    let old = c.args.self.now in
    let fs = old.flights in
    let now = c.take_arrival-least.new.flights in
    let change = after_arrival old.state.now c.args.came.first c.args.came.end in
    let is = c.take_arrival-least.ensures.flights ∙ ap (map change) c.deref_mut.ensures.value in
    let long = ap (λ (t : List Flight). length t) is ∙ length-map fs.items change ∙ sym fs.ok.0 in
    ap (list_all (ends_below old.bounds.end)) (with_items_is fs now long ∙ is)
    ∙ ends_kept old.bounds.end change fs.items (arrival_end old.state.now c.args.came.first c.args.came.end) old.bounded

pub invariant_of-self-clause-waits : goal.invariant_of-self-clause-waits
invariant_of-self-clause-waits c =
    let old = c.args.self.now in
    let fs = old.flights in
    let now = c.take_arrival-least.new.flights in
    let change = after_arrival old.state.now c.args.came.first c.args.came.end in
    let is = c.take_arrival-least.ensures.flights ∙ ap (map change) c.deref_mut.ensures.value in
    let long = ap (λ (t : List Flight). length t) is ∙ length-map fs.items change ∙ sym fs.ok.0 in
    subst (λ (n : ℕ). list_all (waits_until n) (with_items fs now).items ≡ true) (sym c.min-self.ensures)
    (ap (list_all (waits_until (min old.bounds.over c.take_arrival-least.result))) (with_items_is fs now long)
    ∙ c.take_arrival-least.ensures.waits old.bounds.over
    (ap (list_all (waits_until old.bounds.over)) c.deref_mut.ensures.value ∙ old.waits))

pub invariant_of-self-clause-low : goal.invariant_of-self-clause-low
invariant_of-self-clause-low c =
    let old = c.args.self.now in
    let fs = old.flights in
    let now = c.take_arrival-least.new.flights in
    let change = after_arrival old.state.now c.args.came.first c.args.came.end in
    let is = c.take_arrival-least.ensures.flights ∙ ap (map change) c.deref_mut.ensures.value in
    let long = ap (λ (t : List Flight). length t) is ∙ length-map fs.items change ∙ sym fs.ok.0 in
    let low = old.bounds.low in
    let was = old.low in
    ap (list_all (flies_from old.state.now low)) (with_items_is fs now long ∙ is)
    ∙ flies_kept old.state.now old.state.now low change fs.items (arrival_first old.state.now c.args.came.first c.args.came.end) (λ f flies. omega (arith, flies, arrival_until old.state.now c.args.came.first c.args.came.end f)) was
