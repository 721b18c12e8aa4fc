-- Sets of ports in memory.
use Rattle.std.specs.Prelude.{ℕ, ◌-◌, ◌^◌, ◌<◌, ◌≤◌, ◌==◌, ◌⊎◌, ◌&&◌, Bool, true, false, List, [], ◌∷◌, length, take}
use Rattle.std.specs.Prelude.{Option, None, Some, fold, max, min, nat_le, position, remove, slice_get}
use Rattle.mold_port_set.specs.PortSet.{Given, PortSetState, Sent}
use Rattle.mold_port_set.specs.declared.port_datagram.PortDatagram.{PortDatagram}
use Rattle.mold_port_set.specs.declared.port_set_call.PortSetCall.{PortSetCall}
use Rattle.mold_port_set.specs.declared.port_set_call.PortSetCall.TheVariants.{Wait, Receive, Send}
use Rattle.mold_port_set.specs.declared.port_set_step.PortSetStep.{PortSetStep}
use Rattle.mold_port_set.specs.declared.port_set_step.PortSetStep.TheVariants.{Come, Fail}

-- The time from which on the step is due.
abbrev pub time_of : PortSetStep → ℕ
time_of (Come at port bytes) = at
time_of (Fail at call) = at

-- The call that the step is for.
abbrev pub call_of : PortSetStep → PortSetCall
call_of (Come at port bytes) = Receive port
call_of (Fail at call) = call

-- Whether two calls are the same.
abbrev pub is_same_call : PortSetCall → PortSetCall → Bool
is_same_call Wait Wait = true
is_same_call (Receive port) (Receive other) = port == other
is_same_call (Send port) (Send other) = port == other
is_same_call call other = false

-- Whether the step is for this call, and due at the time `now`.
abbrev pub is_due : PortSetCall → ℕ → PortSetStep → Bool
is_due call now step = nat_le (time_of step) now && is_same_call (call_of step) call

-- The steps without the one at this index, if there is an index.
abbrev pub without : Option ℕ → List PortSetStep → List PortSetStep
without None steps = steps
without (Some index) steps = remove steps index

-- The step at this index, if there is an index.
abbrev pub step_at : Option ℕ → List PortSetStep → Option PortSetStep
step_at None steps = None
step_at (Some index) steps = slice_get steps index

-- The step that a call takes at the time `now`: the first step of the script that is for this call, and whose time is
-- not after `now`.
abbrev pub next_step : PortSetCall → ℕ → List PortSetStep → Option PortSetStep
next_step call now steps = step_at (position (is_due call now) steps) steps

-- The steps that remain after a call at the time `now`.
abbrev pub steps_after : PortSetCall → ℕ → List PortSetStep → List PortSetStep
steps_after call now steps = without (position (is_due call now) steps) steps

-- Whether the call is a receive.
abbrev pub is_receive : PortSetCall → Bool
is_receive Wait = false
is_receive (Receive port) = true
is_receive (Send port) = false

-- Whether the step is for a receive, and due at the time `now`.
abbrev pub is_ready : ℕ → PortSetStep → Bool
is_ready now step = nat_le (time_of step) now && is_receive (call_of step)

-- The earlier of `time` and `at`, or `time` if the call is a send.
abbrev pub earlier_for : PortSetCall → ℕ → ℕ → ℕ
earlier_for Wait at time = min at time
earlier_for (Receive port) at time = min at time
earlier_for (Send port) at time = time

-- The earlier of `time` and the step's time, or `time` if the step is for a send.
abbrev pub earlier : ℕ → PortSetStep → ℕ
earlier time step = earlier_for (call_of step) (time_of step) time

-- The time after a wait until `until` that began at the time `now`: the earlier of `until` and the least time of a step
-- for a wait or a receive. It is at least `now`, and at most the greater of `now` and 2^62 - 1.
abbrev pub waited : ℕ → ℕ → List PortSetStep → ℕ
waited now until steps = max (min (fold earlier until steps) (2 ^ 62 - 1)) now

-- The datagram that a receive on this port, into a buffer of `n` bytes, gives if it takes this step.
abbrev pub given_at : ℕ → ℕ → Option PortSetStep → List Given
given_at port n (Some (Come at to bytes)) = record { port = port; bytes = take n bytes.items } ∷ []
given_at port n (Some (Fail at call)) = []
given_at port n None = []

-- Whether the call that takes this step fails.
abbrev pub is_fault : Option PortSetStep → Bool
is_fault (Some (Come at port bytes)) = false
is_fault (Some (Fail at call)) = true
is_fault None = false

-- A datagram that a set in memory gave.
abbrev pub given_of : PortDatagram → Given
given_of kept = record { port = kept.port; bytes = kept.bytes.items }

-- A datagram that a set in memory sent, with its peer.
abbrev pub sent_of : ℕ × PortDatagram → Sent ℕ
sent_of kept = record { port = kept.1.port; to = kept.0; bytes = kept.1.bytes.items }

-- A set of ports in memory.
pub record MemorySetState : Type 0 where
  pub ports : PortSetState ℕ
  -- the steps of the script that were not taken yet, in order
  pub left : List PortSetStep
  -- the number of sent datagrams that can be kept before their list is reallocated
  pub room : ℕ

-- Keeping one more sent datagram of these bytes allocates memory, for the bytes or for the list of datagrams.
abbrev pub AsksMemory : MemorySetState → List ℕ → Type 0
AsksMemory memory bytes = (0 < length bytes) ⊎ (memory.room ≤ length memory.ports.sent)
