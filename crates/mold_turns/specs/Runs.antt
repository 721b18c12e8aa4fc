-- Loops that make turns, and what a run of turns leaves.
use Rattle.std.specs.Prelude.{◌≡◌, ℕ, Bool, if◌then◌else◌, List, [], ◌∷◌, ◌++◌, length, Option, Result, IfOk, OnOk}
use Rattle.std.specs.Io.KnownBytes.{Appends}
use Rattle.mold_devices.specs.Devices.{AppendsPrefix}
use Rattle.mold_turns.specs.Outgoing.{IsBounded}

-- A loop over a state `S`. A turn depends on a choice `C` of what cannot be known in advance, such as which sends
-- fail. The loop sends values of type `M`.
pub record Loop (C S M : Type 0) : Type 0 where
  -- the state after one turn
  pub turn : C → S → S
  -- whether the loop ends after a turn
  pub over : S → Bool
  -- all text printed so far
  pub text : S → List ℕ
  -- everything sent so far
  pub sent : S → List M

-- The state after the loop made turns with these choices, one choice for each turn. No turn follows one that ends the
-- loop. A choice states what cannot be known in advance, such as which sends fail.
unfoldable pub run : {C S M : Type 0} → Loop C S M → List C → S → S
run loop [] s = s
run loop (choice ∷ more) s =
    let after = loop.turn choice s in
    if loop.over after then after else run loop more after

-- The list `front` is a prefix of `whole`.
pub record Begins {A : Type 0} (front whole : List A) : Type 0 where
  -- the elements of `whole` after `front`
  pub rest : List A
  pub parts : whole ≡ front ++ rest

-- What one turn that starts at `start` leaves, together with the write after it. `now` is the state that the loop holds
-- then, whose text is not written yet. `behind front s` is the state `s` with `front` put before its text.
pub record TurnRests {C S M T E : Type 0} (loop : Loop C S M) (behind : List ℕ → S → S) (start : S)
    (result : Result T E) (old new : Option (List ℕ)) (now : S) : Type 0 where
  -- the choice of the turn
  pub choice : C
  -- the text that was written after the turn
  pub written : List ℕ
  pub appended : Appends old new written
  -- after a success, the turn ends in `now`, with the written text put before its text
  pub whole : OnOk result (loop.turn choice start ≡ behind written now)
  -- the written text is a prefix of the text after the turn
  pub front : Begins written (loop.text (loop.turn choice start))
  -- what was sent is a prefix of what the turn sends
  pub sent : Begins (loop.sent now) (loop.sent (loop.turn choice start))

-- A loop that ended with a fault has written the text of all completed turns, except what it may keep between turns
-- (`IsBounded`). The state after the last completed turn satisfies `ends`. The contracts of loops pass `IsInNextTurn`
-- for `ends`.
pub record WrittenInTime {C S M : Type 0} (loop : Loop C S M) (start : S) (live : Bool) (old new : Option (List ℕ))
    (ends : S → Type 0) : Type 0 where
  -- the choices of the completed turns
  pub choices : List C
  pub ports : ends (run loop choices start)
  -- their text: what was written of it, and what was not
  pub written : List ℕ
  pub kept : List ℕ
  pub parts : loop.text (run loop choices start) ≡ written ++ kept
  pub bounded : IsBounded live kept
  -- what was written after that
  pub more : List ℕ
  pub appended : Appends old new (written ++ more)

-- What a loop of at most `turns` turns that starts at `start` leaves before it prints its last line. `now` is the
-- state that it holds, whose text is not written yet. `behind front s` is the state `s` with `front` put before its
-- text. There is one choice for each turn.
pub record Rests {C S M T E : Type 0} (loop : Loop C S M) (behind : List ℕ → S → S) (turns : ℕ) (start : S)
    (result : Result T E) (old new : Option (List ℕ)) (now : S) : Type 0 where
  -- the choice of each turn
  pub choices : List C
  pub counted : length choices ≡ turns
  -- the text that was written during the turns
  pub written : List ℕ
  pub appended : Appends old new written
  -- after a success, the run ends in `now`, with the written text put before its text
  pub whole : OnOk result (run loop choices start ≡ behind written now)
  -- the written text is a prefix of the text of the run
  pub front : Begins written (loop.text (run loop choices start))
  -- what was sent is a prefix of what the run sends
  pub sent : Begins (loop.sent now) (loop.sent (run loop choices start))

-- The outcome of a loop of at most `turns` turns from `start`, which agrees with `run` for some choice in each turn.
-- After a success, the text and the last line of that run are written, and its status is returned. In every case, what
-- was written and what was sent are prefixes of what the run writes and sends.
pub record Ran {C S M E : Type 0} (loop : Loop C S M) (turns : ℕ) (start : S) (last : S → List ℕ) (status : S → ℕ)
    (agrees : S → Type 0) (result : Result ℕ E) (old new : Option (List ℕ)) (sendings : List M) : Type 0 where
  -- the choice of each turn
  pub choices : List C
  pub counted : length choices ≡ turns
  -- after a success, the text of the run and its last line are written, and its status is returned
  pub whole : IfOk result (λ answer.
      Appends old new (loop.text (run loop choices start) ++ last (run loop choices start))
      × (answer ≡ status (run loop choices start)))
  -- after a success, `agrees` holds of the last state of the run
  pub left : OnOk result (agrees (run loop choices start))
  -- in any case, a prefix of that text is written
  pub front : AppendsPrefix old new (loop.text (run loop choices start) ++ last (run loop choices start))
  -- in any case, a prefix of what the run sends was sent
  pub sent : Begins sendings (loop.sent (run loop choices start))
