use Rattle.std.proofs.Common.{List, ap, arith, length, map, min, subst, sym, true, ℕ, ◌+◌, ◌∙◌, ◌≡◌}
use Rattle.std.proofs.lemmas.List.{length-map, with_items_is}
use Rattle.std.specs.Vec.{with_items}
use Rattle.mold_pacing.proofs.LawLemmas.{responded_now}
use Rattle.mold_pacing.specs.declared.state.PacerState.{PacerState}
use Rattle.mold_pacing.specs.declared.flight.Flight.{Flight}
use Rattle.mold_pacing.specs.Responses.{after_response}
use Rattle.std.specs.List.{list_all}
use Rattle.mold_pacing.specs.Flight.{are_apart, ends_below, flies_from, is_over, waits_until}
use Rattle.mold_pacing.proofs.ApartLemmas.{apart_map}
use Rattle.mold_pacing.proofs.RangeLemmas.{flies_kept, ends_kept, response_end, response_still}
use Rattle.mold_pacing.proofs.EndLemmas.{all_map, ends_response}
use Rattle.mold_pacing.proofs.ResponseLemmas.{response_first, changed_ascending}
use Rattle.mold_pacing.proofs.pacer.Pacer.respond.Goals as goal

pub invariant_of-self-clause-sorted : goal.invariant_of-self-clause-sorted
invariant_of-self-clause-sorted c =
    let old = c.args.self.now in
    let fs = old.flights in
    let now = c.take_response-least.new.flights in
    let change = after_response old.options.settle old.state.now c.args.came.first c.args.came.end in
    let is = c.take_response-least.ensures.flights ∙ ap (map change) c.deref_mut.ensures.value in
    let long = ap (λ (t : List Flight). length t) is ∙ length-map fs.items change ∙ sym fs.ok.0 in
    changed_ascending change fs.items (with_items fs now).items
    (response_first old.options.settle old.state.now c.args.came.first c.args.came.end)
    (with_items_is fs now long ∙ is) old.sorted

pub invariant_of-self-clause-ends : goal.invariant_of-self-clause-ends
invariant_of-self-clause-ends c =
    let old = c.args.self.now in
    let fs = old.flights in
    let now = c.take_response-least.new.flights in
    let change = after_response old.options.settle old.state.now c.args.came.first c.args.came.end in
    let is = c.take_response-least.ensures.flights ∙ ap (map change) c.deref_mut.ensures.value in
    let long = ap (λ (t : List Flight). length t) is ∙ length-map fs.items change ∙ sym fs.ok.0 in
    let over = is_over (old.state.now + old.options.ceiling) in
    let time = ap (λ (s : PacerState). s.now) c.respond-self.ensures
    ∙ responded_now old.options c.args.server c.ended_request-ended.result old.state in
    ap (λ (n : ℕ). list_all (is_over (n + old.options.ceiling)) (with_items fs now).items) time
    ∙ ap (list_all over) (with_items_is fs now long ∙ is)
    ∙ all_map over over change fs.items (ends_response old.options.settle old.state.now c.args.came.first c.args.came.end old.options.ceiling) old.ends

pub invariant_of-self-clause-apart : goal.invariant_of-self-clause-apart
invariant_of-self-clause-apart c =
    let old = c.args.self.now in
    let fs = old.flights in
    let now = c.take_response-least.new.flights in
    let change = after_response old.options.settle old.state.now c.args.came.first c.args.came.end in
    let is = c.take_response-least.ensures.flights ∙ ap (map change) c.deref_mut.ensures.value in
    let long = ap (λ (t : List Flight). length t) is ∙ length-map fs.items change ∙ sym fs.ok.0 in
    let time = ap (λ (s : PacerState). s.now) c.respond-self.ensures
    ∙ responded_now old.options c.args.server c.ended_request-ended.result old.state in
    ap (λ (n : ℕ). are_apart n 0 (with_items fs now).items) time
    ∙ ap (are_apart old.state.now 0) (with_items_is fs now long ∙ is)
    ∙ apart_map old.state.now old.state.now 0 change fs.items (response_first old.options.settle old.state.now c.args.came.first c.args.came.end)
    (response_end old.options.settle old.state.now c.args.came.first c.args.came.end) (response_still old.options.settle old.state.now c.args.came.first c.args.came.end) old.apart

pub invariant_of-self-clause-bounded : goal.invariant_of-self-clause-bounded
invariant_of-self-clause-bounded c =
    let old = c.args.self.now in
    let fs = old.flights in
    let now = c.take_response-least.new.flights in
    let change = after_response old.options.settle old.state.now c.args.came.first c.args.came.end in
    let is = c.take_response-least.ensures.flights ∙ ap (map change) c.deref_mut.ensures.value in
    let long = ap (λ (t : List Flight). length t) is ∙ length-map fs.items change ∙ sym fs.ok.0 in
    ap (list_all (ends_below old.bounds.end)) (with_items_is fs now long ∙ is)
    ∙ ends_kept old.bounds.end change fs.items (response_end old.options.settle old.state.now c.args.came.first c.args.came.end) old.bounded

pub invariant_of-self-clause-waits : goal.invariant_of-self-clause-waits
invariant_of-self-clause-waits c =
    let old = c.args.self.now in
    let fs = old.flights in
    let now = c.take_response-least.new.flights in
    let change = after_response old.options.settle old.state.now c.args.came.first c.args.came.end in
    let is = c.take_response-least.ensures.flights ∙ ap (map change) c.deref_mut.ensures.value in
    let long = ap (λ (t : List Flight). length t) is ∙ length-map fs.items change ∙ sym fs.ok.0 in
    subst (λ (n : ℕ). list_all (waits_until n) (with_items fs now).items ≡ true) (sym c.min-self.ensures)
    (ap (list_all (waits_until (min old.bounds.over c.take_response-least.result))) (with_items_is fs now long)
    ∙ c.take_response-least.ensures.waits old.bounds.over
    (ap (list_all (waits_until old.bounds.over)) c.deref_mut.ensures.value ∙ old.waits))

pub invariant_of-self-clause-low : goal.invariant_of-self-clause-low
invariant_of-self-clause-low c =
    let old = c.args.self.now in
    let fs = old.flights in
    let now = c.take_response-least.new.flights in
    let change = after_response old.options.settle old.state.now c.args.came.first c.args.came.end in
    let is = c.take_response-least.ensures.flights ∙ ap (map change) c.deref_mut.ensures.value in
    let long = ap (λ (t : List Flight). length t) is ∙ length-map fs.items change ∙ sym fs.ok.0 in
    let low = c.low_from-low.result in
    let time = ap (λ (s : PacerState). s.now) c.respond-self.ensures
    ∙ responded_now old.options c.args.server c.ended_request-ended.result old.state in
    let was = subst (λ (t : List Flight). list_all (flies_from old.state.now low) t ≡ true) c.deref.ensures.value
    c.low_from-low.ensures in
    ap (λ (n : ℕ). list_all (flies_from n low) (with_items fs now).items) time
    ∙ ap (list_all (flies_from old.state.now low)) (with_items_is fs now long ∙ is)
    ∙ flies_kept old.state.now old.state.now low change fs.items (response_first old.options.settle old.state.now c.args.came.first c.args.came.end) (response_still old.options.settle old.state.now c.args.came.first c.args.came.end) was
