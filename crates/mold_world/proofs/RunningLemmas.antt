-- The loop that runs events in order.
use Rattle.std.proofs.Common.{◌≡◌, ℕ, ◌+◌, ◌<◌, ◌≤◌, List, [], ◌∷◌, ◌++◌, length, map, take, get_or, append_assoc, Bor}
use Rattle.std.proofs.Common.{refl, sym, ap, subst, ◌∙◌, arith}
use Rattle.std.specs.Prelude.{true, false, Some, Result, Ok, Err, OnErr, OnOk, is_err, slice_get}
use Rattle.std.proofs.lemmas.List.{get_or-map, length-map, take_all, take_more}
use Rattle.std.proofs.lemmas.Option.{slice_get-get_or}
use Rattle.mold_world.proofs.DeliveryLemmas.{refused_hands_nothing}
use Rattle.mold_world.specs.Event.{Happening, seen}
use Rattle.mold_world.specs.Effect.{Outcome, after_event, after_outcome, effect, run_events}
use Rattle.mold_world.specs.HandOns.{handed_by}
use Rattle.mold_world.specs.Headline.{HandOn, IsPrefix, all_handed, handed_in}
use Rattle.mold_world.specs.Kept.{IsWorld}
use Rattle.mold_world.specs.Machine.{AreAllowed, Machine, Step, after as after_step, run}
use Rattle.mold_world.specs.Refusals.{MayWant}
use Rattle.mold_world.specs.Runs.{IsHeadline, IsStopped}
use Rattle.mold_world.specs.Steps.{AreSteps, AreStepsOfAll, NamesAfter, machine_of}
use Rattle.mold_world.specs.World.{SubscriberState, WorldState}
use Rattle.mold_world.specs.declared.event.EventOf.{EventOf}
use Rattle.mold_world.specs.declared.report.Report.{Report}

-- The laws of runs.
pub record RunLaws : Type 0 where
  pub run : (w : WorldState) (happenings : List Happening) → IsWorld w → IsWorld (run_events w happenings)
  pub books : (w : WorldState) (receiver : ℕ) (subscriber : SubscriberState) → IsWorld w →
      slice_get w.subscribers receiver ≡ Some subscriber → IsPrefix subscriber.book.messages w.publisher.journal.messages
  pub whole : (w : WorldState) (receiver : ℕ) (subscriber : SubscriberState) → IsWorld w →
      slice_get w.subscribers receiver ≡ Some subscriber →
      subscriber.arbitration.view.ended ≡ Some subscriber.arbitration.view.next →
      (w.publisher.journal.closed ≡ true) × (subscriber.book.messages ≡ w.publisher.journal.messages)
  pub steps : (w new : WorldState) (happening : Happening) (report : Report) → IsWorld w →
      effect w happening ≡ Ok (report, new) → AreSteps w happening new

-- What holds after success, and after an error.
pub on_ok : {T E X : Type 0} (result : Result T E) → false ≡ is_err result → OnOk result X → X
on_ok (Ok done) is holds = holds
on_ok (Err error) is holds = absurd (let e = is in cc)

pub on_err : {T E X : Type 0} (result : Result T E) → true ≡ is_err result → OnErr result X → X
on_err (Ok done) is holds = absurd (let e = is in cc)
on_err (Err error) is holds = holds

run_more :
    (w : WorldState) (happenings : List Happening) (happening : Happening) →
    run_events w (happenings ++ happening ∷ []) ≡ after_event (run_events w happenings) happening
run_more w [] happening = refl
run_more w (first ∷ happenings) happening = run_more (after_event w first) happenings happening

-- An event of the program.
abbrev Event : Type 0
Event = EventOf (Bor (List ℕ))

seen_at : (events : List Event) (at : ℕ) (none : Event) → at < length events →
    get_or (map seen events) at (seen none) ≡ seen (get_or events at none)
seen_at events at none within = get_or-map seen events at none (seen none) within

within_seen : (events : List Event) (at : ℕ) → at < length events → at < length (map seen events)
within_seen events at within = omega (arith, within, length-map events seen)

-- One more event.
pub passed_more :
    (w now new : WorldState) (events : List Event) (at : ℕ) (none : Event) → at < length events →
    now ≡ run_events w (take at (map seen events)) → new ≡ after_event now (seen (get_or events at none)) →
    new ≡ run_events w (take (at + 1) (map seen events))
passed_more w now new events at none within so is =
    is
    ∙ ap (λ (t : WorldState). after_event t (seen (get_or events at none))) so
    ∙ sym (run_more w (take at (map seen events)) (seen (get_or events at none)))
    ∙ ap (λ (t : Happening). run_events w (take at (map seen events) ++ t ∷ [])) (sym (seen_at events at none within))
    ∙ ap (λ (t : List Happening). run_events w t)
    (sym (take_more (map seen events) at (seen none) (within_seen events at within)))

pub stopped_at :
    (w now : WorldState) (events : List Event) (at : ℕ) (none : Event) → at < length events →
    now ≡ run_events w (take at (map seen events)) → MayWant now (seen (get_or events at none)) →
    IsStopped w (map seen events) at
stopped_at w now events at none within so wants = record {
  happening = seen (get_or events at none);
  found = slice_get-get_or (map seen events) at (seen none) (within_seen events at within)
      ∙ ap (λ (t : Happening). Some t) (seen_at events at none within);
  wanting = subst (λ (t : WorldState). MayWant t (seen (get_or events at none))) so wants;
}

-- All events.
pub passed_all :
    (w now : WorldState) (events : List Event) (at : ℕ) → length events ≤ at →
    now ≡ run_events w (take at (map seen events)) → now ≡ run_events w (map seen events)
passed_all w now events at all so =
    so ∙ ap (λ (t : List Happening). run_events w t)
    (take_all at (map seen events) (omega (arith, all, length-map events seen)))

pub headline_of : (laws : RunLaws) (w : WorldState) (happenings : List Happening) → IsWorld w →
    IsHeadline (run_events w happenings)
headline_of laws w happenings is =
    let kept = laws.run w happenings is in
    record {
      books = λ receiver place here. laws.books (run_events w happenings) receiver place kept here;
      whole = λ receiver place here ended. laws.whole (run_events w happenings) receiver place kept here ended;
    }

-- Two lists of allowed steps, one after the other.
allowed_both :
    (machine : Machine) (first second : List Step) → AreAllowed machine first → AreAllowed (run machine first) second →
    AreAllowed machine (first ++ second)
allowed_both machine [] second one two = two
allowed_both machine (step ∷ first) second one two =
    (one.0, allowed_both (after_step machine step) first second one.1 two)

run_both : (machine : Machine) (first second : List Step) → run machine (first ++ second) ≡ run (run machine first) second
run_both machine [] second = refl
run_both machine (step ∷ first) second = run_both (after_step machine step) first second

handed_both :
    (machine : Machine) (first second : List Step) →
    all_handed machine (first ++ second) ≡ all_handed machine first ++ all_handed (run machine first) second
handed_both machine [] second = refl
handed_both machine (step ∷ first) second =
    let next : Machine = after_step machine step in
    ap (λ (t : List HandOn). handed_in machine step ++ t) (handed_both next first second)
    ∙ sym (append_assoc (handed_in machine step) (all_handed next first) (all_handed (run next first) second))

-- An event is the steps that it names. If it is refused, it has none.
record AreStepsOf (w : WorldState) (happening : Happening) (outcome : Outcome) : Type 0 where
  steps : List Step
  named : NamesAfter w happening outcome steps
  allowed : AreAllowed (machine_of w) steps
  made : machine_of (after_outcome w outcome) ≡ run (machine_of w) steps
  handed : all_handed (machine_of w) steps ≡ handed_by w happening

outcome_steps :
    (w : WorldState) (happening : Happening) (outcome : Outcome) → effect w happening ≡ outcome →
    ((report : Report) (new : WorldState) → outcome ≡ Ok (report, new) → AreSteps w happening new) →
    AreStepsOf w happening outcome
outcome_steps w happening (Ok done) is steps =
    let made = steps done.0 done.1 refl in
    record {
      steps = made.steps;
      named = made.named;
      allowed = made.allowed;
      made = made.made;
      handed = made.handed;
    }
outcome_steps w happening (Err refused) is steps = record {
  steps = [];
  named = refl;
  allowed = tt;
  made = refl;
  handed = sym (refused_hands_nothing w happening refused is);
}

pub run_steps :
    (laws : RunLaws) (w : WorldState) (happenings : List Happening) → IsWorld w →
    AreStepsOfAll w happenings (run_events w happenings)
run_steps laws w [] is = record { steps = []; named = refl; allowed = tt; made = refl; handed = refl }
run_steps laws w (happening ∷ happenings) is =
    let machine : Machine = machine_of w in
    let next : WorldState = after_event w happening in
    let one = outcome_steps w happening (effect w happening) refl (λ report new done.
    laws.steps w new happening report is done)
    in
    let others = run_steps laws next happenings (laws.run w (happening ∷ []) is) in
    record {
      steps = one.steps ++ others.steps;
      named = (one.steps, others.steps, refl, one.named, others.named);
      allowed = allowed_both machine one.steps others.steps one.allowed
          (subst (λ (t : Machine). AreAllowed t others.steps) one.made others.allowed);
      made = others.made
          ∙ ap (λ (t : Machine). run t others.steps) one.made
          ∙ sym (run_both machine one.steps others.steps);
      handed = handed_both machine one.steps others.steps
          ∙ ap (λ (t : List HandOn). t ++ all_handed (run machine one.steps) others.steps) one.handed
          ∙ ap (λ (t : Machine). handed_by w happening ++ all_handed t others.steps) (sym one.made)
          ∙ ap (λ (t : List HandOn). handed_by w happening ++ t) others.handed;
    }
