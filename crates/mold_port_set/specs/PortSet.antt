-- Sets of ports: what their receives gave, what they sent, their clock, and how often they failed.
use Rattle.std.specs.Prelude.{ℕ, Bool, true, false, List, [], ◌∷◌, take, Option, None, Some, Result, Ok, Err}

-- A datagram that a receive gave.
pub record Given : Type 0 where
  -- the index of the port
  pub port : ℕ
  pub bytes : List ℕ

-- A datagram that was sent.
pub record Sent (P : Type 0) : Type 0 where
  -- the index of the port that it was sent from
  pub port : ℕ
  pub to : P
  pub bytes : List ℕ

-- The state of a set of ports: the received and sent datagrams, the time, and the count of failures.
pub record PortSetState (P : Type 0) : Type 0 where
  -- the datagrams that receives gave, in order
  pub given : List Given
  -- the datagrams that were sent, in order
  pub sent : List (Sent P)
  -- the time, in nanoseconds since the set was made
  pub now : ℕ
  -- the count of failed waits, sends and receives
  pub failures : ℕ

-- The datagram that a receive on this port gave, from its result and its buffer, if it gave one.
abbrev pub given_by : {E : Type 0} → ℕ → Result (Option ℕ) E → List ℕ → List Given
given_by port (Ok (Some count)) buffer = record { port = port; bytes = take count buffer } ∷ []
given_by port (Ok None) buffer = []
given_by port (Err fault) buffer = []

-- The datagram that a send sent, if it succeeded.
abbrev pub sent_by : {P : Type 0} → Bool → ℕ → P → List ℕ → List (Sent P)
sent_by true port to bytes = []
sent_by false port to bytes = record { port = port; to = to; bytes = bytes } ∷ []
