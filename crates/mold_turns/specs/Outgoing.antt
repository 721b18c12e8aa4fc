-- The text that a loop still has to write, and its count of failed sends and receives.
use Rattle.std.specs.Prelude.{◌≡◌, ◌<◌, ℕ, ◌+◌, ◌-◌, ◌^◌, min, Bool, true, List, [], ◌++◌, length, Option, None}
use Rattle.mold_devices.specs.Devices.{one_more}
use Rattle.mold_devices.specs.declared.output.TheConstants.{LARGE}
use Rattle.mold_input.specs.declared.message_format.MessageFormat.{MessageFormat}
use Rattle.mold_input.specs.declared.message_format.MessageFormat.TheVariants.{Lines, Blocks, BlocksToEmpty}

-- The text that is not written yet, and the count of failed sends and receives.
pub record OutgoingState : Type 0 where
  -- the text for standard output
  pub text : List ℕ
  -- the text for standard error
  pub side : List ℕ
  pub failures : ℕ
  -- the format in which messages are printed
  pub format : MessageFormat
  -- the number of the empty message before which printing stopped, if it stopped
  pub stopped : Option ℕ

-- The outgoing state at the start, if messages are printed in this format: no text and no failure, and printing has not
-- stopped.
abbrev pub nothing_in : MessageFormat → OutgoingState
nothing_in format = record { text = []; side = []; failures = 0; format = format; stopped = None }

-- The outgoing state at the start, if messages are printed as lines.
abbrev pub nothing_out : OutgoingState
nothing_out = nothing_in Lines

-- The part of a note that goes to standard output. A note is printed text that is not a message. Among blocks no note
-- is printed.
abbrev pub note_text : MessageFormat → List ℕ → List ℕ
note_text Lines note = note
note_text Blocks note = []
note_text BlocksToEmpty note = []

-- The part of a note that goes to standard error.
abbrev pub note_side : MessageFormat → List ℕ → List ℕ
note_side Lines note = []
note_side Blocks note = note
note_side BlocksToEmpty note = note

-- The state after `more` was appended to the text.
abbrev pub with_more : List ℕ → OutgoingState → OutgoingState
with_more more outgoing = record {
  text = outgoing.text ++ more;
  side = outgoing.side;
  failures = outgoing.failures;
  format = outgoing.format;
  stopped = outgoing.stopped;
}

-- The state after `more` was appended to the text for standard output, and `beside` to that for standard error.
abbrev pub with_both : List ℕ → List ℕ → OutgoingState → OutgoingState
with_both more beside outgoing = record {
  text = outgoing.text ++ more;
  side = outgoing.side ++ beside;
  failures = outgoing.failures;
  format = outgoing.format;
  stopped = outgoing.stopped;
}

-- The state with this number of the empty message before which printing stopped, or with none.
abbrev pub with_stop : Option ℕ → OutgoingState → OutgoingState
with_stop stop outgoing = record {
  text = outgoing.text;
  side = outgoing.side;
  failures = outgoing.failures;
  format = outgoing.format;
  stopped = stop;
}

-- The state after a note was appended.
abbrev pub with_note : List ℕ → OutgoingState → OutgoingState
with_note note outgoing =
    with_both (note_text outgoing.format note) (note_side outgoing.format note) outgoing

-- The state with `front` put before its text.
abbrev pub with_front : List ℕ → OutgoingState → OutgoingState
with_front front outgoing = record {
  text = front ++ outgoing.text;
  side = outgoing.side;
  failures = outgoing.failures;
  format = outgoing.format;
  stopped = outgoing.stopped;
}

-- The state with `front` put before its text for standard output, and `said` before that for standard error.
abbrev pub with_fronts : List ℕ → List ℕ → OutgoingState → OutgoingState
with_fronts front said outgoing = record {
  text = front ++ outgoing.text;
  side = said ++ outgoing.side;
  failures = outgoing.failures;
  format = outgoing.format;
  stopped = outgoing.stopped;
}

-- The state after the text for standard error was written.
abbrev pub said_out : OutgoingState → OutgoingState
said_out outgoing = record {
  text = outgoing.text;
  side = [];
  failures = outgoing.failures;
  format = outgoing.format;
  stopped = outgoing.stopped;
}

-- The state after one send or receive failed.
abbrev pub failed_once : OutgoingState → OutgoingState
failed_once outgoing = record {
  text = outgoing.text;
  side = outgoing.side;
  failures = one_more outgoing.failures;
  format = outgoing.format;
  stopped = outgoing.stopped;
}

-- The state after `count` sends or receives failed. The count of failures is at most 18446744073709551615.
abbrev pub failed_often : ℕ → OutgoingState → OutgoingState
failed_often count outgoing = record {
  text = outgoing.text;
  side = outgoing.side;
  failures = min (outgoing.failures + count) (2 ^ 64 - 1);
  format = outgoing.format;
  stopped = outgoing.stopped;
}

-- The format is the same. If messages are printed as lines, the text for standard error is the same too.
pub record KeepsSide (old new : OutgoingState) : Type 0 where
  pub format : new.format ≡ old.format
  pub side : old.format ≡ Lines → new.side ≡ old.side

-- Text that a loop may keep unwritten between turns: none for a live sink, and less than 65,536 bytes for any other.
abbrev pub IsBounded : Bool → List ℕ → Type 0
IsBounded live text = (live ≡ true → text ≡ []) × (length text < LARGE)
