-- A new arbiter.
use Rattle.std.specs.Prelude.{◌≡◌, ℕ, Option, None}
use Rattle.mold_wire.specs.declared.session.Session.{Session}
use Rattle.mold_receiver.specs.Arbiter.{Arbitration}
use Rattle.mold_receiver.specs.View.{IsRoom, View, fresh_within}
use Rattle.mold_receiver.specs.declared.line.LineReport.{LineReport}

-- The view of a new receiver that starts at `next`. Its store has some valid room.
pub record IsNew (v : View) (session : Session) (next window : ℕ) : Type 0 where
  pub room : Option ℕ
  pub valid : IsRoom room
  pub is : v ≡ fresh_within room session next window

-- The report of a line on which nothing was received, if the receiver started at `next`.
abbrev pub fresh_report : ℕ → LineReport
fresh_report next = record { datagrams = 0; refused = 0; front = next }

-- The arbitration of a new receiver that starts at `next`, with this room. Nothing was received on either line.
abbrev pub fresh_arbitration_within : Option ℕ → Session → ℕ → ℕ → Arbitration
fresh_arbitration_within room session next window = record {
  view = fresh_within room session next window;
  reports = record { a = fresh_report next; b = fresh_report next };
}

-- The same for a receiver whose store has room for all messages.
abbrev pub fresh_arbitration : Session → ℕ → ℕ → Arbitration
fresh_arbitration session next window = fresh_arbitration_within None session next window
