-- The patience that adapts to the delays between the lines.
use Rattle.std.specs.Prelude.{◌≡◌, ℕ, ◌==◌, ◌&&◌, Bool, true, false, List, [], ◌∷◌, not, if◌then◌else◌}
use Rattle.mold_pacing.specs.Delays.{patience_for}
use Rattle.mold_pacing.specs.Lines.{IsTaken}
use Rattle.mold_pacing.specs.declared.arrival.Arrival.{Arrival}
use Rattle.mold_pacing.specs.declared.delays.Delays.{Delays}
use Rattle.mold_pacing.specs.declared.step.Step.{Step}
use Rattle.mold_pacing.specs.declared.step.Step.TheVariants.{Adapt}
use Rattle.mold_receiver.specs.declared.line.Line.TheVariants.{A, B}
use Rattle.mold_repair.specs.declared.header.Head.{Head}
use Rattle.mold_repair.specs.declared.options.RepairOptions.{RepairOptions}
use Rattle.mold_repair.specs.declared.origin.RepairOrigin.{RepairOrigin}
use Rattle.mold_repair.specs.declared.origin.RepairOrigin.TheVariants.{Line, Server}

-- The index of a line. A datagram from a server has none.
abbrev pub line_index : RepairOrigin → ℕ
line_index (Line A) = 0
line_index (Line B) = 1
line_index (Server server) = 0

-- Whether the origin is a line.
abbrev pub is_line : RepairOrigin → Bool
is_line (Line line) = true
is_line (Server server) = false

-- Whether a datagram with this head counts for the delays: the patience adapts, and it brought messages on a line.
abbrev pub is_timed : RepairOptions → RepairOrigin → Head → Bool
is_timed options origin head = (options.patience == 0) && (is_line origin && not (head.first == head.end))

-- The arrival of this head.
abbrev pub arrival_of : ℕ → RepairOrigin → Head → Arrival
arrival_of now origin head =
    record { first = head.first; end = head.end; time = now; line = line_index origin }

-- The delays after a datagram with this head.
pub record IsTimed (options : RepairOptions) (now : ℕ) (origin : RepairOrigin) (head : Head) (old new : Delays) :
    Type 0 where
  pub taken : is_timed options origin head ≡ true → IsTaken old new (arrival_of now origin head)
  pub same : is_timed options origin head ≡ false → new ≡ old

-- What the pacer learns of it: the patience that fits these delays.
abbrev pub adapted_from : RepairOptions → RepairOrigin → Head → Delays → List Step
adapted_from options origin head delays =
    if is_timed options origin head then Adapt (patience_for delays.recent.items) ∷ [] else []
