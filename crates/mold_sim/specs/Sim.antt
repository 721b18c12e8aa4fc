-- What `mold sim` prints for its input.
use Rattle.std.specs.Prelude.{ℕ, List, [], ◌∷◌, ◌++◌, codes, Bool, true, false, ◌||◌, if◌then◌else◌, replicate, refl}
use Rattle.std.specs.Prelude.{Option, None, Some, Ok, Err}
use Rattle.std.specs.Coded.{Coded, code_by, coded×, coded_bool}
use Rattle.mold_devices.specs.Lines.{lines_of}
use Rattle.mold_devices.specs.Turns.{Printing}
use Rattle.mold_sim.specs.Reports.{error_words, receiver_lines, report_words}
use Rattle.mold_sim.specs.Script.{happening_of}
use Rattle.mold_text.specs.Line.{line_of}
use Rattle.mold_text.specs.Text.{refused_line}
use Rattle.mold_wire.specs.declared.session.Session.{Session}
use Rattle.mold_world.specs.Codes.{world_code}
use Rattle.mold_world.specs.Effect.{Outcome, effect, run_events}
use Rattle.mold_world.specs.Event.{Happening}
use Rattle.mold_world.specs.World.{WorldState, beginning}

-- The result of a line: the text that is printed, whether the line is refused, and the new world.
pub record LineOutcome : Type 0 where
  pub text : List ℕ
  pub refused : Bool
  pub world : WorldState

-- The result of an event, given its outcome by the rule of events.
abbrev pub outcome_of : WorldState → Outcome → LineOutcome
outcome_of w (Ok done) = record { text = line_of (report_words done.0); refused = false; world = done.1 }
outcome_of w (Err why) = record { text = refused_line (error_words why); refused = true; world = w }

-- The result of a line that is not empty. A line without a valid event is refused as `Syntax`.
abbrev pub event_outcome : WorldState → Option Happening → LineOutcome
event_outcome w None = record { text = refused_line (codes "Syntax" ∷ []); refused = true; world = w }
event_outcome w (Some happening) = outcome_of w (effect w happening)

-- The result of a line. An empty line prints nothing and changes nothing.
unfoldable pub line_outcome : WorldState → List ℕ → LineOutcome
line_outcome w [] = record { text = []; refused = false; world = w }
line_outcome w (byte ∷ bytes) = event_outcome w (happening_of (byte ∷ bytes))

-- The text that is printed for the lines in order.
unfoldable pub lines_text : WorldState → List (List ℕ) → List ℕ
lines_text w [] = []
lines_text w (line ∷ lines) = (line_outcome w line).text ++ lines_text (line_outcome w line).world lines

-- At least one of the lines is refused.
unfoldable pub lines_refused : WorldState → List (List ℕ) → Bool
lines_refused w [] = false
lines_refused w (line ∷ lines) = (line_outcome w line).refused || lines_refused (line_outcome w line).world lines

-- The list of events with one more at its start, if there is one.
abbrev pub then_events : Option Happening → List Happening → List Happening
then_events None happenings = happenings
then_events (Some happening) happenings = happening ∷ happenings

-- The events of the lines, in order. Empty lines and lines without a valid event have none.
abbrev pub events_of : List (List ℕ) → List Happening
events_of [] = []
events_of ([] ∷ lines) = events_of lines
events_of ((byte ∷ bytes) ∷ lines) = then_events (happening_of (byte ∷ bytes)) (events_of lines)

-- The output of a script: the text of each line, and then the lines of the receivers of the final world.
abbrev pub script_text : WorldState → List (List ℕ) → List ℕ
script_text w lines = lines_text w lines ++ receiver_lines 0 (run_events w (events_of lines)).subscribers

-- The model of the command `sim`: the world, and whether a line was refused so far.
pub record SimState : Type 0 where
  pub world : WorldState
  pub refused : Bool

-- The code of the command: the pair of its fields.
abbrev pub sim_code : Coded SimState
sim_code = code_by (WorldState × Bool) (coded× world_code coded_bool)
    (λ s. (s.world, s.refused))
    (λ p. record { world = p.0; refused = p.1 })
    (λ _. refl)

-- What the command prints for the rest of the input, and its exit status. The status is 2 if a line was refused,
-- otherwise 0.
abbrev pub sim_printing : SimState → Printing
sim_printing s = record {
  text = λ input. script_text s.world (lines_of input);
  status = λ input. if s.refused || lines_refused s.world (lines_of input) then 2 else 0;
}

-- The command at its start, with `receivers` receivers of this window.
abbrev pub sim_beginning : Session → ℕ → ℕ → ℕ → ℕ → ℕ → SimState
sim_beginning session limit server_limit burst window receivers = record {
  world = beginning session limit server_limit burst (replicate receivers window);
  refused = false;
}

-- What the command prints for the whole input.
unfoldable pub sim_text : SimState → List ℕ → List ℕ
sim_text start input = (sim_printing start).text input

-- The exit status of the command for the whole input.
unfoldable pub sim_status : SimState → List ℕ → ℕ
sim_status start input = (sim_printing start).status input
