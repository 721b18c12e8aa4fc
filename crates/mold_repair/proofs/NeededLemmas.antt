-- Each request in flight asks for a message that is missing.
use Rattle.std.proofs.Common.{◌≡◌, ◌⊎◌, ℕ, zero, suc, ◌+◌, ◌-◌, ◌<◌, ◌≤◌, max, min, nat_lt, Bool, true, false, cond}
use Rattle.std.proofs.Common.{List, [], ◌∷◌, ◌++◌, get_or, leb, IfErr, IfOk, MatchOption, OnErr, OnOk}
use Rattle.std.proofs.Common.{Option, None, Some, Result, Ok, Err, refl, ap, ◌∙◌, sym, subst, arith, inl, inr}
use Rattle.std.specs.Prelude.{find, is_some, slice_get}
use Rattle.std.specs.FinMap as finite
use Rattle.std.proofs.lemmas.Bool.{true≢false, cases_Bool, cases_lt, cond-false, cond-true, le-leb, lt-leb}
use Rattle.std.proofs.lemmas.Bool.Decides.{nat_tests}
use Rattle.std.proofs.lemmas.Option.{slice_get-get_or, slice_get_within}
use Rattle.mold_pacing.specs.Flight.{covers}
use Rattle.mold_pacing.specs.Most.{is_partial, learned}
use Rattle.mold_pacing.specs.Polls.{last_request}
use Rattle.mold_pacing.specs.Repeat.{end_for, flight_for}
use Rattle.mold_pacing.specs.Run.{Takes}
use Rattle.mold_pacing.specs.Table.{without}
use Rattle.mold_pacing.specs.declared.ask.Ask.{Ask as Sent}
use Rattle.mold_pacing.specs.declared.delays.Delays.{Delays}
use Rattle.mold_pacing.specs.declared.flight.Flight.{Flight}
use Rattle.mold_pacing.specs.declared.gap.Gap.{Gap}
use Rattle.mold_pacing.specs.declared.options.PacerOptions.{PacerOptions}
use Rattle.mold_pacing.specs.declared.pacer.Pacer.{Pacer}
use Rattle.mold_pacing.specs.declared.state.PacerState.{PacerState}
use Rattle.mold_pacing.specs.declared.step.Step.{Step}
use Rattle.mold_pacing.specs.declared.step.Step.TheVariants.{Advance, Arrive}
use Rattle.mold_receiver.specs.Arbiter.{Arbitration, HasArbitrated, HasRefused, arbitrated}
use Rattle.mold_receiver.specs.Batch.{Handed}
use Rattle.mold_receiver.specs.Having.{HasMessage}
use Rattle.mold_receiver.specs.Origin.{line_of}
use Rattle.mold_receiver.specs.Receive.{HasRoomFor, Reception, ended_after, handed_on, is_dropped, view_after}
use Rattle.mold_receiver.specs.Skip.{skipped}
use Rattle.mold_receiver.specs.Store.{Message}
use Rattle.mold_receiver.specs.View.{View, IsWellFormed}
use Rattle.mold_receiver.specs.declared.taken.Taken.{Taken}
use Rattle.mold_repair.specs.Came.{came_below, filled_steps, held_end, held_from, noted, range, response_steps}
use Rattle.mold_repair.specs.GivingUp.{IsKept, IsLost}
use Rattle.mold_repair.specs.Missing.{IsMissing}
use Rattle.mold_repair.specs.Needed.{AreNeeded, IsNeeded}
use Rattle.mold_repair.specs.Origin.{receiver_origin}
use Rattle.mold_repair.specs.Polls.{HasPolled, HasRequested, HaveRequested, IsStill}
use Rattle.mold_repair.specs.Run.{HasStepped, IsRepaired, nothing}
use Rattle.mold_repair.specs.Taking.{HasLearned, HasPassed, taken_steps}
use Rattle.mold_repair.specs.Header.{head}
use Rattle.mold_repair.specs.Timing.{adapted_from}
use Rattle.mold_repair.specs.declared.ask.Ask.{Ask}
use Rattle.mold_repair.specs.declared.options.RepairOptions.{RepairOptions}
use Rattle.mold_repair.specs.declared.origin.RepairOrigin.{RepairOrigin}
use Rattle.mold_repair.specs.declared.outcome.Outcome.{Outcome}
use Rattle.mold_repair.specs.declared.repairer.Repairer.{Repairer}
use Rattle.mold_repair.specs.declared.step.RepairStep.{RepairStep}
use Rattle.mold_repair.specs.declared.step.RepairStep.TheVariants.{Lost, Pass, Poll, Take}
use Rattle.mold_repair.proofs.FrugalLemmas.{OnceLaws, missing_lacks, none_came, none_if, none_join, none_response, quiet_adapted}
use Rattle.mold_repair.proofs.FrugalLemmas.{quiet_filled}
use Rattle.mold_repair.proofs.HeldLemmas.{held_to, next_stored}
use Rattle.mold_repair.proofs.LawLemmas.{refused_view, taken_view}
use Rattle.mold_repair.proofs.ProgressLemmas.{goes_on}
use Rattle.mold_repair.proofs.TableLemmas.{In, Shrinks, arrive_frees, in_any, in_at, in_find, in_placed, in_without}
use Rattle.mold_repair.proofs.TableLemmas.{run_shrinks, run_split, shrinks_still, shrinks_twice}
use Rattle.mold_repair.proofs.TakingLemmas.{advanced_now, came_some}
use Rattle.mold_rule.specs.declared.refusal.Refusal.{Refusal}
use Rattle.mold_wire.specs.Packet.{messages_of, top_of}
use Rattle.mold_wire.specs.Reading.{reading}
use Rattle.mold_wire.specs.Truth.{Carries}
use Rattle.mold_wire.specs.declared.error.DecodeError.{DecodeError}
use Rattle.mold_wire.specs.declared.packet.Packet.{Packet}

-- The laws of the receiver that are used.
pub record NeededLaws : Type 0 where
  pub once : OnceLaws
  pub dropped : (v : View) (p : Packet) → IsWellFormed v → is_dropped v p ≡ true →
      view_after v p ≡ record v { known = max v.known (top_of p); ended = ended_after p.body p.sequence v.ended }
  pub handed : (v : View) (p : Packet) (i : ℕ) (m : Message) →
      slice_get (handed_on v p.sequence (messages_of p.body)) i ≡ Some m →
      (finite.get v.store (v.next + i) ≡ Some m) ⊎ Carries p (v.next + i) m
  pub stored : (v : View) (p : Packet) (number : ℕ) (m : Message) →
      finite.get (view_after v p).store number ≡ Some m → (finite.get v.store number ≡ Some m) ⊎ Carries p number m
  pub skips : (v : View) (to number : ℕ) (m : Message) →
      finite.get (skipped v to).store number ≡ Some m → finite.get v.store number ≡ Some m

none_some : {X : Type 0} {x : X} → ◌≡◌ {A = Option X} None (Some x) → ⊥
none_some e = cc

-- The requests in flight have no number in common, ask for known numbers, and for one that is missing.
record IsTidy (v : View) (p : Pacer) : Type 0 where
  one : (f g : Flight) (n : ℕ) → In f p.flights.items → In g p.flights.items → p.state.now < f.until →
      p.state.now < g.until → f.first ≤ n → n < f.end → g.first ≤ n → n < g.end → f.first ≡ g.first
  known : (f : Flight) → In f p.flights.items → p.state.now < f.until → f.end ≤ v.known
  needed : (f : Flight) → In f p.flights.items → p.state.now < f.until → IsNeeded v f

-- One of these numbers is missing, or the view has all of them.
has_both : (v : View) (first count : ℕ) → HasMessage v first →
    ((n : ℕ) → suc first ≤ n → n < suc first + count → HasMessage v n)
    → (n : ℕ) → first ≤ n → n < first + suc count → HasMessage v n
has_both v first count here rest n low above =
    elim (cases_lt first n) [
      | inl later ↦ rest n (omega (arith, later)) (omega (arith, above))
      | inr same ↦ (let at : first ≡ n = omega (arith, low, same) in subst (HasMessage v) at here)
    ]

search_missing : (v : View) (count first : ℕ) → first + count ≤ v.known →
    ((n : ℕ) → first ≤ n → n < first + count → HasMessage v n)
    ⊎ ((n : ℕ) × ((first ≤ n) × ((n < first + count) × IsMissing v n)))
search_missing v zero first high = inl (λ n low above. absurd (omega (arith, low, above)))
search_missing v (suc count) first high =
    elim (search_missing v count (suc first) (omega (arith, high))) [
      | inr found ↦ inr (found.0, (omega (arith, found.1.0), (omega (arith, found.1.1.0), found.1.1.1)))
      | inl rest ↦
          elim (cases_lt first v.next) [
            | inl below ↦ inl (has_both v first count (inl below) rest)
            | inr above ↦
                elim (finite.get v.store first) as (λ o. finite.get v.store first ≡ o →
                ((n : ℕ) → first ≤ n → n < first + suc count → HasMessage v n)
                ⊎ ((n : ℕ) × ((first ≤ n) × ((n < first + suc count) × IsMissing v n)))) [
                  | Some m ↦ λ e. inl (has_both v first count (inr (ap is_some e)) rest)
                  | None ↦ λ e. inr (
                    first,
                    (
                      omega arith,
                      (
                        omega arith,
                        record {
                          after = above;
                          below = omega (arith, high);
                          lacked = e;
                        },
                      ),
                    ),
                  )
                ] refl
          ]
    ]

one_shrinks : (v : View) (p q : Pacer) → Shrinks p q → IsTidy v p → (f g : Flight) (n : ℕ) →
    In f q.flights.items → In g q.flights.items → q.state.now < f.until → q.state.now < g.until → f.first ≤ n →
    n < f.end → g.first ≤ n → n < g.end → f.first ≡ g.first
one_shrinks v p q shrinks tidy f g n inf ing lastf lastg lowf highf lowg highg =
    let a = shrinks.old f inf in
    let b = shrinks.old g ing in
    let same = tidy.one a.before b.before n a.there b.there (omega (arith, lastf, a.until, shrinks.later))
    (omega (arith, lastg, b.until, shrinks.later)) (omega (arith, lowf, a.first)) (omega (arith, highf, a.end))
    (omega (arith, lowg, b.first)) (omega (arith, highg, b.end)) in
    a.first ∙ same ∙ sym b.first

tidy_same : (v : View) (p q : Pacer) → Shrinks p q → IsTidy v p → IsTidy v q
tidy_same v p q shrinks tidy = record {
  one = one_shrinks v p q shrinks tidy;
  known = λ f is lasts.
      let old = shrinks.old f is in
      let high = tidy.known old.before old.there (omega (arith, lasts, old.until, shrinks.later)) in
      omega (arith, high, old.end);
  needed = λ f is lasts.
      let old = shrinks.old f is in
      let need = tidy.needed old.before old.there (omega (arith, lasts, old.until, shrinks.later)) in
      record {
        number = need.number;
        low = omega (arith, need.low, old.first);
        high = omega (arith, need.high, old.end);
        missing = need.missing;
      };
}

-- The request has a number that was missing, and the new view has all of its numbers.
abbrev IsFilled : View → Flight → Type 0
IsFilled w f = (n : ℕ) → f.first ≤ n → n < f.end → HasMessage w n

-- If no request in flight is filled, each is needed.
tidy_after : (v w : View) (p q : Pacer) → v.known ≤ w.known → Shrinks p q → IsTidy v p
    → ((f : Flight) → In f q.flights.items → q.state.now < f.until → IsNeeded v f → f.end ≤ w.known → IsFilled w f → ⊥)
    → IsTidy w q
tidy_after v w p q more shrinks tidy never =
    let kept = tidy_same v p q shrinks tidy in
    record {
      one = kept.one;
      known = λ f is lasts. (let high = kept.known f is lasts in omega (arith, high, more));
      needed = λ f is lasts.
          let high = kept.known f is lasts in
          let need = kept.needed f is lasts in
          let end : f.first + (f.end - f.first) ≡ f.end = omega (arith, need.low, need.high) in
          elim (search_missing w (f.end - f.first) f.first (omega (arith, end, high, more))) [
            | inl all ↦ absurd (never f is lasts need (omega (arith, high, more)) (λ n low above. all n low
                (omega (arith, above, end))))
            | inr found ↦ record {
              number = found.0;
              low = found.1.0;
              high = omega (arith, found.1.1.0, end);
              missing = found.1.1.1;
            }
          ];
    }

carried_within : (p : Packet) (q : ℕ) (m : Message) → Carries p q m → (p.sequence ≤ q) × (q < top_of p)
carried_within p q m carries =
    let ms = messages_of p.body in
    elim (cases_lt q p.sequence) [
      | inl below ↦ absurd (none_some
          (sym (cond-false (leb p.sequence q) (slice_get ms (q - p.sequence)) None (lt-leb p.sequence q below)) ∙ carries))
      | inr low ↦
          let there = sym (cond-true (leb p.sequence q) (slice_get ms (q - p.sequence)) None (le-leb p.sequence q low))
          ∙ carries in
          (low, omega (arith, low, slice_get_within ms (q - p.sequence) m there))
    ]

-- What a packet brought, it carries.
brought : NeededLaws → (v : View) (p : Packet) (q : ℕ) → IsMissing v q → HasMessage (view_after v p) q →
    (p.sequence ≤ q) × (q < top_of p)
brought laws v p q missing (inl below) =
    let handed = handed_on v p.sequence (messages_of p.body) in
    let i = q - v.next in
    let at : v.next + i ≡ q = omega (arith, missing.after) in
    let m = get_or handed i [] in
    elim (laws.handed v p i m (slice_get-get_or handed i [] (omega (arith, below, missing.after)))) [
      | inl had ↦ absurd (none_some (sym missing.lacked ∙ subst (λ n. finite.get v.store n ≡ Some m) at had))
      | inr carries ↦ carried_within p q m (subst (λ n. Carries p n m) at carries)
    ]
brought laws v p q missing (inr some) =
    elim (finite.get (view_after v p).store q) as (λ o. finite.get (view_after v p).store q ≡ o →
    (p.sequence ≤ q) × (q < top_of p)) [
      | None ↦ λ e. absurd (true≢false (sym some ∙ ap is_some e))
      | Some m ↦ λ e.
          elim (laws.stored v p q m e) [
            | inl had ↦ absurd (none_some (sym missing.lacked ∙ had))
            | inr carries ↦ carried_within p q m carries
          ]
    ] refl

in_window : (w : View) (q : ℕ) → IsWellFormed w → HasMessage w q → q < w.next + w.window
in_window w q well (inl below) = omega (arith, below)
in_window w q well (inr there) =
    elim (finite.get w.store q) as (λ o. finite.get w.store q ≡ o → q < w.next + w.window) [
      | None ↦ λ e. absurd (true≢false (sym there ∙ ap is_some e))
      | Some m ↦ λ e. (let lies = well.stored q m e in omega (arith, lies.1))
    ] refl

covered_by : (now n : ℕ) (f : Flight) → covers now n f ≡ true → (now < f.until) × ((f.first ≤ n) × (n < f.end))
covered_by now n f is =
    let alive : now < f.until = grind (arith, nat_tests, is) in
    let low : f.first ≤ n = grind (arith, nat_tests, is) in
    let above : n < f.end = grind (arith, nat_tests, is) in
    (alive, (low, above))

covered_from : (now n : ℕ) (f : Flight) → now < f.until → f.first ≤ n → n < f.end → covers now n f ≡ true
covered_from now n f alive low above = grind (arith, nat_tests, alive, low, above)

-- The steps of a datagram that was accepted while messages were missing. The pacer was tidy for the view before it.
module _ (laws : NeededLaws) (options : RepairOptions) (time : ℕ) (origin : RepairOrigin) (bytes : List ℕ)
    (v w : View) (packet : Packet) (read : reading bytes ≡ Ok packet) (is : w ≡ view_after v packet)
    (well : IsWellFormed v) (whole : IsWellFormed w) (delays : Delays) (old new : Pacer) (tidy : IsTidy v old)
    (ran : HasLearned old new (taken_steps options time origin bytes v w delays old)) where
  abbrev came : Gap
  came = came_below (w.next + w.window) (reading bytes)

  abbrev now : ℕ
  now = max old.state.now time

  abbrev request : Option Flight
  request = find (covers now came.first) old.flights.items

  abbrev adapted : List Step
  adapted = adapted_from options origin (head (reading bytes)) delays

  -- What is missing before and not after is in the datagram's range.
  in_came : (q : ℕ) → IsMissing v q → HasMessage w q → (came.first ≤ q) × (q < came.end)
  in_came q missing has =
      let lies = brought laws v packet q missing (subst (λ (x : View). HasMessage x q) is has) in
      let window = in_window w q whole has in
      subst (λ (r : Result Packet DecodeError). ((came_below (w.next + w.window) r).first ≤ q)
      × (q < (came_below (w.next + w.window) r).end)) (sym read)
      (lies.0, omega (arith, lies.1, window, missing.below, well.last))

  -- If a missing message came, the store has room for the packet.
  has_room : (q : ℕ) → IsMissing v q → HasMessage w q → HasRoomFor v packet
  has_room q missing has =
      elim (cases_Bool (is_dropped v packet)) [
        | inr kept ↦ kept
        | inl dropped ↦ absurd
            (missing_lacks v q (subst (λ (x : View). HasMessage x q) (is ∙ laws.dropped v packet well dropped) has) missing)
      ]

  has_came : HasRoomFor v packet → (n : ℕ) → came.first ≤ n → n < came.end → HasMessage w n
  has_came room n low high =
      let lies = subst (λ (r : Result Packet DecodeError). ((came_below (w.next + w.window) r).first ≤ n)
      × (n < (came_below (w.next + w.window) r).end)) read (low, high) in
      let next = ap (λ (x : View). x.next) is in
      let window = ap (λ (x : View). x.window) is in
      subst (λ (x : View). HasMessage x n) (sym is)
      (laws.once.came v packet n well lies.0 (omega (arith, lies.1)) (omega (arith, lies.1, next, window)) room)

  -- The run in its parts.
  record IsInParts : Type 0 where
    at : Pacer
    respond : Pacer
    arrive : Pacer
    fill : Pacer
    advances : Takes old at (Advance time v.known) None
    responds : HasLearned at respond (response_steps origin came)
    arrives : Takes respond arrive (Arrive (held_from w came.first)) None
    fills : HasLearned arrive fill (filled_steps w request)
    adapts : HasLearned fill new adapted

  in_parts : v.next < v.known → came.first < came.end → IsInParts
  in_parts lacks some =
      let on : nat_lt v.next v.known ≡ true = grind (arith, nat_tests, lacks) in
      let steps = ap (λ b. Advance time v.known ∷ (cond b (noted origin bytes w now old.flights.items) [] ++ adapted)) on
      ∙ ap (λ (xs : List Step). Advance time v.known ∷ (xs ++ adapted)) (came_some origin came w request some) in
      let all = subst (HasLearned old new) steps ran in
      let rest = run_split (response_steps origin came ++ (Arrive (held_from w came.first) ∷ filled_steps w request))
      adapted all.0 new all.2 in
      let parts = run_split (response_steps origin came) (Arrive (held_from w came.first) ∷ filled_steps w request) all.0
      rest.0 rest.1.0 in
      record {
        at = all.0;
        respond = parts.0;
        arrive = parts.1.1.0;
        fill = rest.0;
        advances = all.1;
        responds = parts.1.0;
        arrives = parts.1.1.1;
        fills = parts.1.1.2;
        adapts = rest.1.1;
      }

  never_filled : (f : Flight) → In f new.flights.items → new.state.now < f.until → IsNeeded v f → f.end ≤ w.known →
      IsFilled w f → ⊥
  never_filled f there lasts need high filled =
      let q = need.number in
      let lies = in_came q need.missing (filled q need.low need.high) in
      let parts = in_parts (omega (arith, need.missing.after, need.missing.below)) (omega (arith, lies.0, lies.1)) in
      let adapts = run_shrinks adapted parts.fill new (quiet_adapted w options origin (head (reading bytes)) delays).none
      parts.adapts in
      let fills = run_shrinks (filled_steps w request) parts.arrive parts.fill (quiet_filled w request).none parts.fills in
      let after = shrinks_twice parts.arrive parts.fill new fills adapts in
      let arrives = run_shrinks (Arrive (held_from w came.first) ∷ []) parts.respond parts.arrive tt
      (parts.arrive, parts.arrives, refl) in
      let responds = run_shrinks (response_steps origin came) parts.at parts.respond
      (none_response origin came) parts.responds in
      let since = shrinks_twice parts.at parts.respond new responds
      (shrinks_twice parts.respond parts.arrive new arrives after) in
      let third = after.old f there in
      elim (cases_lt f.first came.first) [
        | inr from ↦
            let ends = held_to w came.first f.end whole (omega (arith, lies.0, need.high)) high (λ n low above.
            elim (cases_lt n f.first) [
              | inl before ↦ has_came (has_room q need.missing (filled q need.low need.high)) n low
                  (omega (arith, before, need.low, lies.1))
              | inr within ↦ filled n within above
            ]) in
            arrive_frees (held_from w came.first) parts.respond parts.arrive parts.arrives third.before third.there
            (omega (arith, lasts, third.until, after.later)) (omega (arith, from, third.first))
            (omega (arith, ends, third.end))
        | inl before ↦
            let first = since.old f there in
            let g = first.before in
            let took = parts.advances in
            let time_at = ap (λ (s : PacerState). s.now) took.becomes ∙ advanced_now time v.known old.state in
            let old_there = subst (In g) took.table first.there in
            let alive : now < g.until = omega (arith, lasts, first.until, since.later, time_at) in
            let low : g.first ≤ came.first = omega (arith, before, first.first) in
            let above : came.first < g.end = omega (arith, lies.0, need.high, first.end) in
            let covered = covered_from now came.first g alive low above in
            let found = in_find (covers now came.first) old.flights.items g old_there covered in
            let h = found.0 in
            let covers_h = covered_by now came.first h found.1.1.1 in
            let alive_h = covers_h.0 in
            let low_h = covers_h.1.0 in
            let above_h = covers_h.1.1 in
            let same = tidy.one g h came.first old_there found.1.1.0 (omega (arith, alive)) (omega (arith, alive_h)) low
            above low_h above_h in
            let filled_by = subst (λ (r : Option Flight). HasLearned parts.arrive parts.fill (filled_steps w r)) found.1.0
            parts.fills in
            let last = adapts.old f there in
            let ends = held_to w f.first f.end whole (omega (arith, need.low, need.high)) high filled in
            let from : f.first ≡ h.first = first.first ∙ same in
            let ends_h = subst (λ n. f.end ≤ held_end w n) from ends in
            let at_fill = subst (λ (s : Pacer). In last.before s.flights.items) filled_by.2 last.there in
            let now_fill = ap (λ (s : Pacer). s.state.now) filled_by.2 in
            arrive_frees (held_from w h.first) parts.arrive filled_by.0 filled_by.1 last.before at_fill
            (omega (arith, lasts, last.until, adapts.later, now_fill)) (omega (arith, from, last.first))
            (omega (arith, ends_h, last.end))
      ]

  known_grows : v.known ≤ w.known
  known_grows = let known = ap (λ (x : View). x.known) is in omega (arith, known)

  tidy_taken : IsTidy w new
  tidy_taken =
      let none = none_join (cond (nat_lt v.next v.known) (noted origin bytes w now old.flights.items) []) adapted
      (none_if (nat_lt v.next v.known) (noted origin bytes w now old.flights.items) (none_came w origin came request))
      (quiet_adapted w options origin (head (reading bytes)) delays).none in
      tidy_after v w old new known_grows
      (run_shrinks (taken_steps options time origin bytes v w delays old) old new none ran) tidy never_filled

passed_tidy : (v : View) (p q : Pacer) (time : ℕ) → HasPassed time v p q → IsTidy v p → IsTidy v q
passed_tidy v p q time ran tidy = tidy_same v p q (run_shrinks (Advance time v.known ∷ []) p q tt ran) tidy

viewed : (v w : View) (p : Pacer) → w ≡ v → IsTidy v p → IsTidy w p
viewed v w p same tidy = subst (λ (x : View). IsTidy x p) (sym same) tidy

end_within : (limit : ℕ) (before : Option Flight) → end_for limit before ≤ limit
end_within limit None = omega arith
end_within limit (Some f) =
    elim (nat_lt 0 f.attempts) as (λ b. cond b (min limit f.end) limit ≤ limit) [
      | true ↦ omega arith
      | false ↦ omega arith
    ]

now_if : (b : Bool) (s t : PacerState) → s.now ≡ t.now → (cond b s t).now ≡ t.now
now_if true s t same = same
now_if false s t same = refl

now_learned : (options : PacerOptions) (before : Option Flight) (s : PacerState) → (learned options before s).now ≡ s.now
now_learned options None s = refl
now_learned options (Some f) s =
    now_if (is_partial f) (record s { most = min (f.reached - f.first) options.most; full = 0 }) s refl

-- A request was sent.
module _ (give_up : ℕ) (v : View) (old new : Pacer) (sent : Sent) (did : HasRequested give_up v old new sent)
    (tidy : IsTidy v old) where
  abbrev fs : List Flight
  fs = old.flights.items

  abbrev added : Flight
  added = flight_for old.options old.state.now (last_request old sent.first) sent

  same_now : new.state.now ≡ old.state.now
  same_now = ap (λ (s : PacerState). s.now) did.asked.state
      ∙ now_learned old.options (last_request old sent.first) old.state

  in_new : (f : Flight) → In f new.flights.items → (added ≡ f) ⊎ In f fs
  in_new f is =
      elim (in_placed added (without did.asked.leaves fs) f (subst (In f) did.asked.flights is)) [
        | inl here ↦ inl here
        | inr there ↦ inr (in_without did.asked.leaves fs f there)
      ]

  -- A number of the request is missing.
  sent_missing : (n : ℕ) → sent.first ≤ n → n < sent.end → IsMissing v n
  sent_missing n low high =
      let least = did.asked.least in
      let ends = end_within did.asked.limit (last_request old sent.first) in
      (did.are.wanted least.index least.gap least.there n (omega (arith, low, least.low))
      (omega (arith, high, did.asked.asks.high, ends, least.ends))).missing

  not_both : (g : Flight) (n : ℕ) → In g fs → old.state.now < g.until → g.first ≤ n → n < g.end → sent.first ≤ n →
      n < sent.end → ⊥
  not_both g n is alive low high from to =
      let covered = covered_from old.state.now n g alive low high in
      true≢false (sym (in_any (covers old.state.now n) fs g is covered) ∙ did.asked.asks.free n from to)

  tidy_sent : IsTidy v new
  tidy_sent = record {
    one = λ f g n inf ing lastf lastg lowf highf lowg highg.
        elim (in_new f inf) [
          | inl newf ↦
              let firstf = ap (λ (x : Flight). x.first) newf in
              let endf = ap (λ (x : Flight). x.end) newf in
              elim (in_new g ing) [
                | inl newg ↦ sym firstf ∙ ap (λ (x : Flight). x.first) newg
                | inr oldg ↦ absurd (not_both g n oldg (omega (arith, lastg, same_now)) lowg highg
                    (omega (arith, lowf, firstf)) (omega (arith, highf, endf)))
              ]
          | inr oldf ↦
              elim (in_new g ing) [
                | inl newg ↦
                    let firstg = ap (λ (x : Flight). x.first) newg in
                    let endg = ap (λ (x : Flight). x.end) newg in
                    absurd (not_both f n oldf (omega (arith, lastf, same_now)) lowf highf
                    (omega (arith, lowg, firstg)) (omega (arith, highg, endg)))
                | inr oldg ↦ tidy.one f g n oldf oldg (omega (arith, lastf, same_now)) (omega (arith, lastg, same_now))
                    lowf highf lowg highg
              ]
        ];
    known = λ f is lasts.
        elim (in_new f is) [
          | inr there ↦ tidy.known f there (omega (arith, lasts, same_now))
          | inl here ↦
              let end = ap (λ (x : Flight). x.end) here in
              let last = sent_missing (sent.end - 1) (omega (arith, did.asked.asks.some))
              (omega (arith, did.asked.asks.some)) in
              omega (arith, end, last.below, did.asked.asks.some)
        ];
    needed = λ f is lasts.
        elim (in_new f is) [
          | inr there ↦ tidy.needed f there (omega (arith, lasts, same_now))
          | inl here ↦
              let first = ap (λ (x : Flight). x.first) here in
              let end = ap (λ (x : Flight). x.end) here in
              record {
                number = sent.first;
                low = omega (arith, first);
                high = omega (arith, end, did.asked.asks.some);
                missing = sent_missing sent.first (omega arith) did.asked.asks.some;
              }
        ];
  }

polled_tidy : (give_up : ℕ) (v : View) (old new : Pacer) (sent : Option Sent)
    → MatchOption sent (IsStill give_up v old new) (HasRequested give_up v old new) → IsTidy v old → IsTidy v new
polled_tidy give_up v old new None still tidy =
    let now = ap (λ (s : PacerState). s.now) still.state in
    tidy_same v old new (shrinks_still old new still.flights (omega (arith, now))) tidy
polled_tidy give_up v old new (Some sent) did tidy = tidy_sent give_up v old new sent did tidy

-- Requests were sent, one after the other.
requested_tidy : (give_up : ℕ) (v : View) (old new : Pacer) (sent : List Sent)
    → HaveRequested give_up v old new sent → IsTidy v old → IsTidy v new
requested_tidy give_up v old new [] have tidy = subst (IsTidy v) (sym have) tidy
requested_tidy give_up v old new (ask ∷ sent) have tidy =
    requested_tidy give_up v have.0 new sent have.2 (tidy_sent give_up v old have.0 ask have.1 tidy)

poll_tidy : (options : RepairOptions) (v : View) (old new : Pacer) (now : ℕ) (result : Option Ask)
    → HasPolled options v old new now result → IsTidy v old → IsTidy v new
poll_tidy options v old new now result did tidy =
    let between = passed_tidy v old did.between now (did.between, did.time, refl) tidy in
    elim (cases_lt 0 options.servers) [
      | inl some ↦
          let one = did.some some in
          polled_tidy options.give_up v did.between new one.sent one.polled between
      | inr none ↦
          let all = (did.none (omega (arith, none))).1 in
          polled_tidy options.give_up v all.after new None all.still
          (requested_tidy options.give_up v did.between all.after all.sent all.requested between)
    ]

-- Messages were given up.
lost_tidy : NeededLaws → (give_up : ℕ) (a b : Arbitration) (handed : Handed) (p q : Pacer) (lost : Option Gap)
    → MatchOption lost (IsKept give_up a b nothing handed p q) (IsLost give_up a b nothing handed p q)
    → IsWellFormed b.view → IsTidy a.view p → IsTidy b.view q
lost_tidy laws give_up a b handed p q None kept whole tidy =
    viewed a.view b.view q (ap (λ (x : Arbitration). x.view) kept.arbiter)
    (subst (IsTidy a.view) (sym kept.pacer) tidy)
lost_tidy laws give_up a b handed p q (Some gap) gave whole tidy =
    let v = a.view in
    let w = b.view in
    let view = ap (λ (x : Arbitration). x.view) gave.arbiter in
    let known = ap (λ (x : View). x.known) view in
    let shrinks = run_shrinks (Arrive (range 0 w.next) ∷ []) p q tt (q, gave.pacer, refl) in
    tidy_after v w p q (omega (arith, known)) shrinks tidy (λ f there lasts need high filled.
    let below : need.number < w.next = elim (filled need.number need.low need.high) [
      | inl below ↦ below
      | inr some ↦
          elim (finite.get w.store need.number) as (λ o. finite.get w.store need.number ≡ o → need.number < w.next) [
            | None ↦ λ e. absurd (true≢false (sym some ∙ ap is_some e))
            | Some m ↦ λ e.
                let had = laws.skips v gap.end need.number m
                (subst (λ (x : View). finite.get x.store need.number ≡ Some m) view e) in
                absurd (none_some (sym need.missing.lacked ∙ had))
          ] refl
    ] in
    elim (cases_lt w.next f.end) [
      | inr within ↦ arrive_frees (range 0 w.next) p q gave.pacer f there lasts (omega arith) within
      | inl past ↦
          elim (filled w.next (omega (arith, need.low, below)) past) [
            | inl never ↦ omega (arith, never)
            | inr some ↦ next_stored w whole some
          ]
    ])

taken_tidy : NeededLaws → (old new : Repairer) (time : ℕ) (origin : RepairOrigin) (bytes : List ℕ) (handed : Handed)
    (r : Result Taken Refusal)
    → IfOk r (λ t. HasArbitrated (line_of (receiver_origin origin)) old.arbiter bytes nothing new.arbiter handed t)
    → IfErr r (λ e. HasRefused (line_of (receiver_origin origin)) old.arbiter bytes new.arbiter e)
    → OnOk r (HasLearned old.pacer new.pacer
    (taken_steps old.options time origin bytes old.arbiter.view new.arbiter.view new.delays old.pacer))
    → OnErr r (HasPassed time old.arbiter.view old.pacer new.pacer) → IsWellFormed old.arbiter.view
    → IsWellFormed new.arbiter.view → IsTidy old.arbiter.view old.pacer → IsTidy new.arbiter.view new.pacer
taken_tidy laws old new time origin bytes handed (Ok t) has refused learned passed well whole tidy =
    let v = old.arbiter.view in
    let line = line_of (receiver_origin origin) in
    let view = ap (λ (a : Arbitration). a.view) (has.arbitration ∙ ap (arbitrated line bytes old.arbiter) has.received)
    ∙ taken_view line bytes old.arbiter has.reception in
    let packet = laws.once.receiver.taken v bytes has.reception has.received in
    tidy_taken laws old.options time origin bytes v new.arbiter.view packet.packet packet.read
    (view ∙ ap (λ (x : Reception). x.view) packet.taken) well whole new.delays old.pacer new.pacer tidy learned
taken_tidy laws old new time origin bytes handed (Err e) taken has learned passed well whole tidy =
    let line = line_of (receiver_origin origin) in
    let view : new.arbiter.view ≡ old.arbiter.view = elim has [
      | inl memory ↦ ap (λ (a : Arbitration). a.view) memory.2
      | inr rule ↦
          ap (λ (a : Arbitration). a.view) (rule.1 ∙ ap (arbitrated line bytes old.arbiter) rule.0)
          ∙ refused_view line bytes old.arbiter e
    ] in
    viewed old.arbiter.view new.arbiter.view new.pacer view
    (passed_tidy old.arbiter.view old.pacer new.pacer time passed tidy)

step_tidy : NeededLaws → (old new : Repairer) (step : RepairStep) (o : Outcome) (handed : Handed) →
    HasStepped old new step handed o → IsWellFormed old.arbiter.view → IsWellFormed new.arbiter.view
    → IsTidy old.arbiter.view old.pacer → IsTidy new.arbiter.view new.pacer
step_tidy laws old new (Take time origin datagram) o handed did well whole tidy =
    let t = did.0 in
    taken_tidy laws old new time origin datagram.now handed t.result t.taken t.refused t.learned t.passed well whole tidy
step_tidy laws old new (Poll time) o handed did well whole tidy =
    let v = old.arbiter.view in
    viewed v new.arbiter.view new.pacer (ap (λ (a : Arbitration). a.view) did.arbiter)
    (poll_tidy old.options v old.pacer new.pacer time o.ask did.polled tidy)
step_tidy laws old new (Lost time) o handed (inl did) well whole tidy =
    let gave = did.gave in
    lost_tidy laws old.options.give_up old.arbiter new.arbiter handed gave.between new.pacer o.lost gave.gave whole
    (passed_tidy old.arbiter.view old.pacer gave.between time (gave.between, gave.time, refl) tidy)
step_tidy laws old new (Lost time) o handed (inr did) well whole tidy =
    viewed old.arbiter.view new.arbiter.view new.pacer (ap (λ (a : Arbitration). a.view) did.arbiter)
    (passed_tidy old.arbiter.view old.pacer new.pacer time did.passed tidy)
step_tidy laws old new (Pass time) o handed did well whole tidy =
    viewed old.arbiter.view new.arbiter.view new.pacer (ap (λ (a : Arbitration). a.view) did.arbiter)
    (passed_tidy old.arbiter.view old.pacer new.pacer time did.passed tidy)

run_tidy : NeededLaws → (old new : Repairer) (steps : List RepairStep) (os : List Outcome) →
    IsRepaired old new steps os → IsWellFormed old.arbiter.view → IsTidy old.arbiter.view old.pacer
    → IsTidy new.arbiter.view new.pacer
run_tidy laws old new [] [] ran well tidy = subst (λ (r : Repairer). IsTidy r.arbiter.view r.pacer) (sym ran) tidy
run_tidy laws old new [] (o ∷ os) ran well tidy = absurd ran
run_tidy laws old new (step ∷ steps) [] ran well tidy = absurd ran
run_tidy laws old new (step ∷ steps) (o ∷ os) ran well tidy =
    let next = ran.0 in
    let is = ran.1 in
    let on = goes_on laws.once.receiver old next step o is.handed is.stepped well in
    run_tidy laws next new steps os ran.2 on.well_formed
    (step_tidy laws old next step o is.handed is.stepped well on.well_formed tidy)

not_in : (f : Flight) (table : List Flight) → table ≡ [] → In f table → ⊥
not_in f table none is = subst (In f) none is

pub are_needed : NeededLaws → (old new : Repairer) (steps : List RepairStep) (os : List Outcome) →
    IsRepaired old new steps os → IsWellFormed old.arbiter.view → old.pacer.flights.items ≡ [] → AreNeeded new
are_needed laws old new steps os ran well none i f there lasts =
    let begins : IsTidy old.arbiter.view old.pacer = record {
      one = λ f g n inf ing lastf lastg lowf highf lowg highg. absurd (not_in f old.pacer.flights.items none inf);
      known = λ f is lasts. absurd (not_in f old.pacer.flights.items none is);
      needed = λ f is lasts. absurd (not_in f old.pacer.flights.items none is);
    } in
    (run_tidy laws old new steps os ran well begins).needed f (in_at new.pacer.flights.items i f there) lasts
