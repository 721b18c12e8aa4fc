-- Requests in flight ask for something that is still missing.
use Rattle.std.specs.Prelude.{◌≡◌, ℕ, ◌<◌, ◌≤◌, Some, slice_get}
use Rattle.mold_pacing.specs.declared.flight.Flight.{Flight}
use Rattle.mold_repair.specs.Missing.{IsMissing}
use Rattle.mold_receiver.specs.View.{View}
use Rattle.mold_repair.specs.declared.repairer.Repairer.{Repairer}

-- A message that the request asks for is missing.
pub record IsNeeded (v : View) (request : Flight) : Type 0 where
  pub number : ℕ
  pub low : request.first ≤ number
  pub high : number < request.end
  pub missing : IsMissing v number

-- Each request in flight asks for a message that is missing. If all its messages arrived, it is no longer in flight.
abbrev pub AreNeeded : Repairer → Type 0
AreNeeded r = (i : ℕ) (request : Flight) → slice_get r.pacer.flights.items i ≡ Some request →
    r.pacer.state.now < request.until → IsNeeded r.arbiter.view request
