-- The polls of the pacer in a poll of the repairer.
use Rattle.std.proofs.Common.{◌≡◌, ℕ, suc, ◌<◌, ◌≤◌, ◌||◌, Bool, true, false, List, [], ◌∷◌, ◌++◌, length, map}
use Rattle.std.proofs.Common.{MatchOption, Option, None, Some, refl, ap, ◌∙◌, sym, subst, arith, inl, inr}
use Rattle.std.specs.Prelude.{slice_get}
use Rattle.std.specs.List.{list_any}
use Rattle.std.proofs.lemmas.Bool.{cases_Bool, cases_lt}
use Rattle.std.proofs.lemmas.Bool.Decides.{nat_tests}
use Rattle.mold_pacing.specs.Frugal.{IsNeverMissing, has}
use Rattle.mold_pacing.specs.Polls.{IsIdle}
use Rattle.mold_pacing.specs.Run.{IsRun}
use Rattle.mold_pacing.specs.declared.ask.Ask.{Ask as Sent}
use Rattle.mold_pacing.specs.declared.gap.Gap.{Gap}
use Rattle.mold_pacing.specs.declared.pacer.Pacer.{Pacer}
use Rattle.mold_pacing.specs.declared.step.Step.{Step}
use Rattle.mold_pacing.specs.declared.step.Step.TheVariants.{Poll as PollGaps}
use Rattle.mold_receiver.specs.View.{View}
use Rattle.mold_repair.specs.Laws.{ArePollSteps, listed, returned_all}
use Rattle.mold_repair.specs.Missing.{IsMissing}
use Rattle.mold_repair.specs.Polls.{HasPolled, HasRequested, HaveRequested, IsStill}
use Rattle.mold_repair.specs.declared.ask.Ask.{Ask}
use Rattle.mold_repair.specs.declared.options.RepairOptions.{RepairOptions}
use Rattle.mold_repair.proofs.PollLemmas.{returned_none}
use Rattle.mold_wire.specs.declared.session.Session.{Session}

pub within : (q : ℕ) (g : Gap) → has q g ≡ true → (g.first ≤ q) × (q < g.end)
within q g is =
    let low : g.first ≤ q = grind (arith, nat_tests, is) in
    let high : q < g.end = grind (arith, nat_tests, is) in
    (low, high)

none_any : (p : Gap → Bool) (gs : List Gap) → ((i : ℕ) (g : Gap) → slice_get gs i ≡ Some g → p g ≡ false) →
    list_any p gs ≡ false
none_any p [] each = refl
none_any p (g ∷ gs) each =
    ap (λ b. b || list_any p gs) (each 0 g refl) ∙ none_any p gs (λ i h is. each (suc i) h is)

-- A number that is not missing is in no gap of a request.
no_gap : (give_up : ℕ) (v : View) (old new : Pacer) (sent : Sent) (did : HasRequested give_up v old new sent) (q : ℕ)
    → (IsMissing v q → ⊥) → list_any (has q) did.gaps ≡ false
no_gap give_up v old new sent did q never =
    none_any (has q) did.gaps (λ i g there.
    elim (cases_Bool (has q g)) [
      | inr out ↦ out
      | inl inside ↦
          let lies = within q g inside in
          absurd (never (did.are.wanted i g there q lies.0 lies.1).missing)
    ])

-- A run of polls with these requests. A number that is not missing is in no gap of these polls.
pub record HasPolls (v : View) (old new : Pacer) (sent : List (Option Sent)) : Type 0 where
  pub steps : List Step
  pub are : ArePollSteps steps
  pub counted : length steps ≡ length sent
  pub ran : IsRun old new steps sent
  pub missing : (q : ℕ) → (IsMissing v q → ⊥) → IsNeverMissing q steps

still_idle : (give_up : ℕ) (v : View) (old new : Pacer) → IsStill give_up v old new → IsIdle old new []
still_idle give_up v old new still = record {
  reason = inr (inl (λ i g there. absurd (let none : ⊥ = cc in none)));
  flights = still.flights;
  state = still.state;
  options = still.options;
}

-- A poll that sends nothing. It has no gaps.
still_polls : (give_up : ℕ) (v : View) (old new : Pacer) → IsStill give_up v old new → HasPolls v old new (None ∷ [])
still_polls give_up v old new still = record {
  steps = PollGaps (record { ref_ptr = (0, 0); now = [] }) ∷ [];
  are = (tt, tt);
  counted = refl;
  ran = (new, still_idle give_up v old new still, refl);
  missing = λ q never. (refl, tt);
}

no_polls : (v : View) (old new : Pacer) → new ≡ old → HasPolls v old new []
no_polls v old new same = record {
  steps = [];
  are = tt;
  counted = refl;
  ran = same;
  missing = λ q never. tt;
}

-- A poll that sends a request, before other polls.
sent_polls : (give_up : ℕ) (v : View) (old next new : Pacer) (ask : Sent) (sent : List (Option Sent))
    → HasRequested give_up v old next ask → HasPolls v next new sent → HasPolls v old new (Some ask ∷ sent)
sent_polls give_up v old next new ask sent did rest = record {
  steps = PollGaps (record { ref_ptr = (0, 0); now = did.gaps }) ∷ rest.steps;
  are = (tt, rest.are);
  counted = ap suc rest.counted;
  ran = (next, did.asked, rest.ran);
  missing = λ q never. (no_gap give_up v old next ask did q never, rest.missing q never);
}

one_poll : (give_up : ℕ) (v : View) (old new : Pacer) (sent : Option Sent)
    → MatchOption sent (IsStill give_up v old new) (HasRequested give_up v old new) → HasPolls v old new (sent ∷ [])
one_poll give_up v old new None still = still_polls give_up v old new still
one_poll give_up v old new (Some ask) did =
    sent_polls give_up v old new new ask [] did (no_polls v new new refl)

all_polls : (give_up : ℕ) (v : View) (old after new : Pacer) (sent : List Sent) → HaveRequested give_up v old after sent
    → IsStill give_up v after new → HasPolls v old new (map Some sent ++ None ∷ [])
all_polls give_up v old after new [] have still =
    subst (λ (p : Pacer). HasPolls v p new (None ∷ [])) have (still_polls give_up v after new still)
all_polls give_up v old after new (ask ∷ sent) have still =
    sent_polls give_up v old have.0 new ask (map Some sent ++ None ∷ []) have.1
    (all_polls give_up v have.0 after new sent have.2 still)

none_served : (session : Session) (servers : ℕ) (sent : List Sent) (rest : List (Option Sent)) → servers ≡ 0 →
    returned_all session servers ((map Some sent ++ None ∷ []) ++ rest) ≡ returned_all session servers rest
none_served session servers [] rest zero = refl
none_served session servers (ask ∷ sent) rest zero =
    ap (λ (a : Option Ask). listed a (returned_all session servers ((map Some sent ++ None ∷ []) ++ rest)))
    (returned_none session servers ask zero)
    ∙ none_served session servers sent rest zero

-- The polls of the pacer, and what a poll of the repairer returned for them.
pub record HasPollsOf (options : RepairOptions) (v : View) (old new : Pacer) (result : Option Ask) : Type 0 where
  pub sent : List (Option Sent)
  pub polls : HasPolls v old new sent
  pub one : 0 < options.servers → length polls.steps ≡ 1
  pub requests : (rest : List (Option Sent)) → returned_all v.session options.servers (sent ++ rest)
      ≡ listed result (returned_all v.session options.servers rest)

pub polls_of : (options : RepairOptions) (v : View) (old new : Pacer) (now : ℕ) (result : Option Ask)
    (did : HasPolled options v old new now result) → HasPollsOf options v did.between new result
polls_of options v old new now result did =
    let servers = options.servers in
    elim (cases_lt 0 servers) [
      | inl some ↦
          let one = did.some some in
          let polls = one_poll options.give_up v did.between new one.sent one.polled in
          record {
            sent = one.sent ∷ [];
            polls = polls;
            one = λ served. polls.counted;
            requests = λ rest.
                ap (λ (a : Option Ask). listed a (returned_all v.session servers rest)) (sym one.answer);
          }
      | inr none ↦
          let zero : servers ≡ 0 = omega (arith, none) in
          let all = did.none zero in
          record {
            sent = map Some all.1.sent ++ None ∷ [];
            polls = all_polls options.give_up v did.between all.1.after new all.1.sent all.1.requested all.1.still;
            one = λ served. absurd (omega (arith, zero, served));
            requests = λ rest. none_served v.session servers all.1.sent rest zero
                ∙ ap (λ (a : Option Ask). listed a (returned_all v.session servers rest)) (sym all.0);
          }
    ]
