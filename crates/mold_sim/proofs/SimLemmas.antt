-- What one more line prints, and what is printed after the last one.
use Rattle.std.proofs.Common.{◌≡◌, ℕ, Bool, true, false, cond, List, [], ◌∷◌, ◌++◌, Option, None, Some, refl, sym, ap, ◌∙◌, append_assoc}
use Rattle.std.specs.Prelude.{◌||◌, Ok, Err}
use Rattle.mold_devices.specs.Lines.{lines_of, GivesLine}
use Rattle.mold_devices.specs.Turns.{GoesOver, IsTurn}
use Rattle.mold_devices.specs.declared.turn.Turn.TheVariants.{More, Done}
use Rattle.mold_sim.specs.Reports.{receiver_lines}
use Rattle.mold_sim.specs.Script.{happening_of}
use Rattle.mold_sim.specs.Sim.{SimState, line_outcome, event_outcome, outcome_of, events_of, then_events, lines_text, lines_refused, script_text, sim_printing}
use Rattle.mold_world.specs.Effect.{Outcome, after_outcome, effect, run_events}
use Rattle.mold_world.specs.Event.{Happening}
use Rattle.mold_world.specs.World.{WorldState}

or_assoc : (a b c : Bool) → a || (b || c) ≡ (a || b) || c
or_assoc true b c = refl
or_assoc false b c = refl

or-false : (b : Bool) → b || false ≡ b
or-false true = refl
or-false false = refl

-- ---- the world after a line

outcome_runs : (w : WorldState) (happenings : List Happening) (outcome : Outcome) (happening : Happening) →
    effect w happening ≡ outcome →
    run_events w (happening ∷ happenings) ≡ run_events (outcome_of w outcome).world happenings
outcome_runs w happenings (Ok done) happening is =
    ap (λ (o : Outcome). run_events (after_outcome w o) happenings) is
outcome_runs w happenings (Err why) happening is =
    ap (λ (o : Outcome). run_events (after_outcome w o) happenings) is

event_runs : (w : WorldState) (happenings : List Happening) (said : Option Happening) →
    run_events w (then_events said happenings) ≡ run_events (event_outcome w said).world happenings
event_runs w happenings None = refl
event_runs w happenings (Some happening) = outcome_runs w happenings (effect w happening) happening refl

-- The events of the lines after a line continue from the world that it leaves.
line_runs : (w : WorldState) (line : List ℕ) (lines : List (List ℕ)) →
    run_events w (events_of (line ∷ lines)) ≡ run_events (line_outcome w line).world (events_of lines)
unfolding line_outcome
line_runs w [] lines = refl
line_runs w (byte ∷ bytes) lines = event_runs w (events_of lines) (happening_of (byte ∷ bytes))

first_text : (w : WorldState) (line : List ℕ) (lines : List (List ℕ)) →
    lines_text w (line ∷ lines) ≡ (line_outcome w line).text ++ lines_text (line_outcome w line).world lines
unfolding lines_text
first_text w line lines = refl

first_refused : (w : WorldState) (line : List ℕ) (lines : List (List ℕ)) →
    lines_refused w (line ∷ lines) ≡ ((line_outcome w line).refused || lines_refused (line_outcome w line).world lines)
unfolding lines_refused
first_refused w line lines = refl

-- The first line prints first.
script-line : (w : WorldState) (line : List ℕ) (lines : List (List ℕ)) →
    script_text w (line ∷ lines) ≡ (line_outcome w line).text ++ script_text (line_outcome w line).world lines
script-line w line lines =
    let now = (line_outcome w line).world in
    let last = receiver_lines 0 (run_events now (events_of lines)).subscribers in
    ap (λ (t : List ℕ). t ++ receiver_lines 0 (run_events w (events_of (line ∷ lines))).subscribers) (first_text w line lines)
    ∙ ap (λ (v : WorldState). ((line_outcome w line).text ++ lines_text now lines) ++ receiver_lines 0 v.subscribers) (line_runs w line lines)
    ∙ append_assoc (line_outcome w line).text (lines_text now lines) last

script-nil : (w : WorldState) → script_text w [] ≡ receiver_lines 0 w.subscribers
unfolding lines_text
script-nil w = refl

refused-nil : (w : WorldState) → lines_refused w [] ≡ false
unfolding lines_refused
refused-nil w = refl

-- ---- iterations

-- The command after one more line.
abbrev pub told_more : WorldState → Bool → Bool → SimState
told_more world refused asked = record { world = world; refused = refused || asked }

-- A line was found and its event applied.
pub record IsTold (s : SimState) (world : WorldState) (asked : Bool) (known left : Option (List ℕ)) (old new : List ℕ) :
    Type 0 where
  pub line : List ℕ
  pub gives : GivesLine known left true line
  pub written : new ≡ old ++ (line_outcome s.world line).text
  pub refused : asked ≡ (line_outcome s.world line).refused
  pub goes_on : world ≡ (line_outcome s.world line).world

more_goes : (s : SimState) (world : WorldState) (asked : Bool) (known left : Option (List ℕ)) (old new : List ℕ)
    (is : IsTold s world asked known left old new) → GivesLine known left true is.line →
    GoesOver (sim_printing s) (sim_printing (told_more world s.refused asked)) known left (line_outcome s.world is.line).text More
more_goes s world asked None left old new is gives = tt
more_goes s world asked (Some xs) None old new is gives = absurd gives
more_goes s world asked (Some xs) (Some ys) old new is gives = (
  ap (script_text s.world) gives
      ∙ script-line s.world is.line (lines_of ys)
      ∙ ap (λ (v : WorldState). (line_outcome s.world is.line).text ++ script_text v (lines_of ys)) (sym is.goes_on),
  ap (λ (b : Bool). cond (s.refused || b) 2 0)
      (ap (lines_refused s.world) gives
      ∙ first_refused s.world is.line (lines_of ys)
      ∙ ap (λ (b : Bool). b || lines_refused (line_outcome s.world is.line).world (lines_of ys)) (sym is.refused)
      ∙ ap (λ (v : WorldState). asked || lines_refused v (lines_of ys)) (sym is.goes_on))
      ∙ ap (λ (b : Bool). cond b 2 0) (or_assoc s.refused asked (lines_refused world (lines_of ys))),
)

-- One iteration prints the result of one line.
pub told_line : (s : SimState) (world : WorldState) (asked : Bool) {known left : Option (List ℕ)} {old new : List ℕ} →
    IsTold s world asked known left old new →
    IsTurn (sim_printing s) (sim_printing (told_more world s.refused asked)) known left old new More
told_line s world asked {known} {left} {old} {new} is = record {
  added = (line_outcome s.world is.line).text;
  written = is.written;
  goes = more_goes s world asked known left old new is is.gives;
}

-- No line was left, and the receivers were printed. The status states whether a line was refused.
pub record IsOver (s : SimState) (known left : Option (List ℕ)) (old new : List ℕ) (status : ℕ) : Type 0 where
  pub line : List ℕ
  pub gives : GivesLine known left false line
  pub written : new ≡ old ++ receiver_lines 0 s.world.subscribers
  pub status_is : status ≡ cond s.refused 2 0

done_goes : (s : SimState) (known left : Option (List ℕ)) (line : List ℕ) (status : ℕ) →
    GivesLine known left false line → status ≡ cond s.refused 2 0 →
    GoesOver (sim_printing s) (sim_printing s) known left (receiver_lines 0 s.world.subscribers) (Done status)
done_goes s None left line status gives is = tt
done_goes s (Some xs) None line status gives is = absurd gives
done_goes s (Some xs) (Some ys) line status gives is = (
  ap (λ (t : List ℕ). script_text s.world (lines_of t)) gives ∙ script-nil s.world,
  ap (λ (b : Bool). cond (s.refused || b) 2 0)
      (ap (λ (t : List ℕ). lines_refused s.world (lines_of t)) gives ∙ refused-nil s.world)
      ∙ ap (λ (b : Bool). cond b 2 0) (or-false s.refused)
      ∙ sym is,
)

-- The last iteration prints the receivers.
pub told_all : (s : SimState) {known left : Option (List ℕ)} {old new : List ℕ} {status : ℕ} →
    IsOver s known left old new status →
    IsTurn (sim_printing s) (sim_printing s) known left old new (Done status)
told_all s {known} {left} {old} {new} {status} is = record {
  added = receiver_lines 0 s.world.subscribers;
  written = is.written;
  goes = done_goes s known left is.line status is.gives is.status_is;
}
