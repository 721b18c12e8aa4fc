-- Loops that also write text to standard error, and how they count failures of two sinks.
use Rattle.std.specs.Prelude.{◌≡◌, ◌⊎◌, ℕ, List, ◌++◌, Option, Result, Ok, Err, OnOk}
use Rattle.std.specs.Io.KnownBytes.{Appends}
use Rattle.mold_devices.specs.Devices.{AppendsPrefix, one_more}
use Rattle.mold_devices.specs.declared.fault.CommandFault.{CommandFault}
use Rattle.mold_devices.specs.declared.fault.CommandFault.TheVariants.{Read, Write, Memory}
use Rattle.mold_turns.specs.Runs.{Begins, Loop, Ran, Rests, TurnRests, run}

-- The fault of a command that reads no input and writes to two sinks. With `Write`, the count of failures of one of
-- them increases by one, and the other count is unchanged. With `Memory`, both are unchanged. `Read` does not occur.
abbrev pub CountsSinksFault : ℕ → ℕ → ℕ → ℕ → CommandFault → Type 0
CountsSinksFault sink_old sink_new errors_old errors_new Read = ⊥
CountsSinksFault sink_old sink_new errors_old errors_new Write =
    ((sink_new ≡ one_more sink_old) × (errors_new ≡ errors_old))
    ⊎ ((sink_new ≡ sink_old) × (errors_new ≡ one_more errors_old))
CountsSinksFault sink_old sink_new errors_old errors_new Memory =
    (sink_new ≡ sink_old) × (errors_new ≡ errors_old)

-- How the result of a command that reads no input changes the counts of failures of its two sinks.
abbrev pub CountsSinks : {T : Type 0} → ℕ → ℕ → ℕ → ℕ → Result T CommandFault → Type 0
CountsSinks sink_old sink_new errors_old errors_new (Ok _) = (sink_new ≡ sink_old) × (errors_new ≡ errors_old)
CountsSinks sink_old sink_new errors_old errors_new (Err fault) =
    CountsSinksFault sink_old sink_new errors_old errors_new fault

-- What one turn that starts at `start` leaves, together with the writes after it, if the loop also writes to standard
-- error. `side s` is all text for standard error, and `beside said s` is the state `s` with `said` put before that
-- text. `now` is the state that the loop holds then.
pub record TurnRestsBeside {C S M T E : Type 0} (loop : Loop C S M) (behind beside : List ℕ → S → S)
    (side : S → List ℕ) (start : S) (result : Result T E) (old new errors_old errors_new : Option (List ℕ)) (now : S) :
    Type 0 where
  -- the text that was written to standard error
  pub said : List ℕ
  pub appended : Appends errors_old errors_new said
  pub turn : TurnRests loop behind start result old new (beside said now)
  -- it is a prefix of the text for standard error after the turn
  pub front : Begins said (side (loop.turn turn.choice start))

-- The same for a loop that sends from two ports. What the other port sent is also a prefix of what the turn sends
-- there.
pub record TurnRestsOfTwo {C S M T E : Type 0} (loop : Loop C S M) (other : S → List M)
    (behind beside : List ℕ → S → S) (side : S → List ℕ) (start : S) (result : Result T E)
    (old new errors_old errors_new : Option (List ℕ)) (now : S) : Type 0 where
  pub turn : TurnRestsBeside loop behind beside side start result old new errors_old errors_new now
  pub others : Begins (other now) (other (loop.turn turn.turn.choice start))

-- What a loop of at most `turns` turns leaves before it prints its last lines, if it also writes to standard error.
pub record RestsBeside {C S M T E : Type 0} (loop : Loop C S M) (behind beside : List ℕ → S → S)
    (side : S → List ℕ) (turns : ℕ) (start : S) (result : Result T E)
    (old new errors_old errors_new : Option (List ℕ)) (now : S) : Type 0 where
  -- the text that was written to standard error
  pub said : List ℕ
  pub appended : Appends errors_old errors_new said
  pub rests : Rests loop behind turns start result old new (beside said now)
  -- it is a prefix of the text of the run for standard error
  pub front : Begins said (side (run loop rests.choices start))

-- The same for a loop that sends from two ports. What the other port sent is also a prefix of what the run sends
-- there.
pub record RestsOfTwo {C S M T E : Type 0} (loop : Loop C S M) (other : S → List M) (behind beside : List ℕ → S → S)
    (side : S → List ℕ) (turns : ℕ) (start : S) (result : Result T E)
    (old new errors_old errors_new : Option (List ℕ)) (now : S) : Type 0 where
  pub rests : RestsBeside loop behind beside side turns start result old new errors_old errors_new now
  pub others : Begins (other now) (other (run loop rests.rests.choices start))

-- The outcome of a loop that also writes to standard error. After a success, all text of the run for standard error is
-- written there, followed by its last lines there (`last_side`). In every case, a prefix of that text is written.
pub record RanBeside {C S M E : Type 0} (loop : Loop C S M) (side : S → List ℕ) (turns : ℕ) (start : S)
    (last last_side : S → List ℕ) (status : S → ℕ) (agrees : S → Type 0) (result : Result ℕ E)
    (old new errors_old errors_new : Option (List ℕ)) (sendings : List M) : Type 0 where
  -- the outcome without standard error
  pub ran : Ran loop turns start last status agrees result old new sendings
  pub said : OnOk result (Appends errors_old errors_new
      (side (run loop ran.choices start) ++ last_side (run loop ran.choices start)))
  pub said_front : AppendsPrefix errors_old errors_new
      (side (run loop ran.choices start) ++ last_side (run loop ran.choices start))
