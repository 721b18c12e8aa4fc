-- Ports of datagrams: what their receives will give, what they sent, and how often they failed.
use Rattle.std.specs.Prelude.{ℕ, Bool, true, false, List, [], ◌∷◌, ◌++◌, take, drop, Option, None, Some, Result, Ok}
use Rattle.std.specs.Prelude.{Err}
use Rattle.mold_devices.specs.Devices.{one_more}

-- What a receive gives: a datagram with its sender, nothing within the port's time, or a failure.
pub data Receipt (P : Type 0) : Type 0 where
  Datagram : P → List ℕ → Receipt P
  Quiet : Receipt P
  Failure : Receipt P

-- A port: what its receives will give, what it sent, and how often it failed. If `comes` is empty, a receive gives
-- nothing.
pub record Port (P : Type 0) : Type 0 where
  -- what the next receives will give, in order
  pub comes : List (Receipt P)
  -- the datagrams that were sent, each with its peer
  pub sent : List (P × List ℕ)
  -- the count of failed sends and receives
  pub failures : ℕ

-- What a receive into a buffer of `n` bytes gives. A longer datagram is truncated to `n` bytes.
abbrev pub cut : {P : Type 0} → ℕ → Receipt P → Receipt P
cut n (Datagram from bytes) = Datagram from (take n bytes)
cut n Quiet = Quiet
cut n Failure = Failure

-- The first of these receipts, or `Quiet` if there is none.
abbrev pub first : {P : Type 0} → List (Receipt P) → Receipt P
first [] = Quiet
first (receipt ∷ more) = receipt

-- What the next receive of the port gives.
abbrev pub next_of : {P : Type 0} → Port P → Receipt P
next_of port = first port.comes

-- The count of failures after this receipt.
abbrev pub failures_after : {P : Type 0} → ℕ → Receipt P → ℕ
failures_after failures (Datagram from bytes) = failures
failures_after failures Quiet = failures
failures_after failures Failure = one_more failures

-- The port after a receive.
abbrev pub received : {P : Type 0} → Port P → Port P
received port = record {
  comes = drop 1 port.comes;
  sent = port.sent;
  failures = failures_after port.failures (first port.comes);
}

-- The port after a send of these bytes to this peer. If the Boolean is `true`, the send failed and is counted;
-- otherwise the datagram is added to those that were sent.
abbrev pub offered : {P : Type 0} → Bool → P → List ℕ → Port P → Port P
offered true to bytes port = record {
  comes = port.comes;
  sent = port.sent;
  failures = one_more port.failures;
}
offered false to bytes port = record {
  comes = port.comes;
  sent = port.sent ++ (to, bytes) ∷ [];
  failures = port.failures;
}

-- What a receive gave, from its result and its buffer: a datagram, nothing, or a failure.
abbrev pub receipt_of : {P E : Type 0} → Result (Option (ℕ × P)) E → List ℕ → Receipt P
receipt_of (Ok (Some found)) buffer = Datagram found.1 (take found.0 buffer)
receipt_of (Ok None) buffer = Quiet
receipt_of (Err fault) buffer = Failure
