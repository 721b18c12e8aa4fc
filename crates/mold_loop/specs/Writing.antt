-- Defines what a loop writes to standard output and to standard error, and which count of failures rises.
use Rattle.std.specs.Prelude.{◌≡◌, ◌⊎◌, ℕ, List, [], Option, Result, OnOk}
use Rattle.std.specs.Io.KnownBytes.{Appends}
use Rattle.mold_devices.specs.Faults.{CountsCommand, CountsSink}
use Rattle.mold_devices.specs.declared.fault.CommandFault.{CommandFault}
use Rattle.mold_input.specs.declared.message_format.MessageFormat.TheVariants.{Lines}
use Rattle.mold_turns.specs.Outgoing.{OutgoingState, with_fronts}
use Rattle.mold_turns.specs.Runs.{Begins}

-- All text was written between these states, and the count of failures is the same.
pub record HasWritten (old new : OutgoingState) : Type 0 where
  pub text : new.text ≡ []
  pub side : new.side ≡ []
  pub failures : new.failures ≡ old.failures

-- A prefix of each text of the state `old` was written. After a success, `new` has the rest of both texts.
pub record WritesPart {T E : Type 0} (result : Result T E) (old new : OutgoingState)
    (held_old held_new errors_old errors_new : Option (List ℕ)) : Type 0 where
  -- the text that was written to standard output
  pub written : List ℕ
  pub appended : Appends held_old held_new written
  pub text : Begins written old.text
  -- the text that was written to standard error
  pub said : List ℕ
  pub told : Appends errors_old errors_new said
  pub side : Begins said old.side
  pub whole : OnOk result (old ≡ with_fronts written said new)

-- Messages are printed as lines, and there is no text for standard error.
pub record IsPlain (outgoing : OutgoingState) : Type 0 where
  pub lines : outgoing.format ≡ Lines
  pub none : outgoing.side ≡ []

-- Nothing is written to standard error, and the result changes the count of the sink only.
abbrev pub IsQuiet : {T E : Type 0} → ℕ → ℕ → E → E → Result T CommandFault → Type 0
IsQuiet sink_old sink_new errors_old errors_new result =
    (errors_new ≡ errors_old) × CountsSink sink_old sink_new result

-- How a result of a loop changes the counts of failures of its source and its two sinks. The count of one of the sinks
-- is unchanged. The other counts change as those of a command with one sink.
abbrev pub CountsLoop : {T : Type 0} → ℕ → ℕ → ℕ → ℕ → ℕ → ℕ → Result T CommandFault → Type 0
CountsLoop source_old source_new sink_old sink_new errors_old errors_new result =
    (CountsCommand source_old source_new sink_old sink_new result × (errors_new ≡ errors_old))
    ⊎ (CountsCommand source_old source_new errors_old errors_new result × (sink_new ≡ sink_old))
