-- What a repairer does when it is polled, and its deadline.
use Rattle.std.specs.Prelude.{◌≡◌, ◌⊎◌, ℕ, ◌+◌, ◌-◌, ◌<◌, ◌≤◌, ◌==◌, true, false, List, [], ◌∷◌, max, slice_get}
use Rattle.std.specs.Prelude.{if◌then◌else◌, MatchOption, Option, None, Some}
use Rattle.mold_pacing.specs.Asks.{are_gaps}
use Rattle.mold_pacing.specs.Deadline.{CanAsk, can_send}
use Rattle.mold_pacing.specs.Flight.{in_flight}
use Rattle.mold_pacing.specs.Polls.{HasAsked}
use Rattle.mold_pacing.specs.Run.{Takes}
use Rattle.mold_pacing.specs.State.{advanced}
use Rattle.mold_pacing.specs.declared.ask.Ask.{Ask as Sent}
use Rattle.mold_pacing.specs.declared.gap.Gap.{Gap}
use Rattle.mold_pacing.specs.declared.pacer.Pacer.{Pacer}
use Rattle.mold_pacing.specs.declared.step.Step.TheVariants.{Advance}
use Rattle.mold_receiver.specs.View.{View}
use Rattle.mold_repair.specs.GivingUp.{is_due}
use Rattle.mold_repair.specs.Missing.{AreWanted, IsMissing, IsWanted}
use Rattle.mold_repair.specs.declared.ask.Ask.{Ask}
use Rattle.mold_repair.specs.declared.options.RepairOptions.{RepairOptions}
use Rattle.mold_wire.specs.declared.session.Session.{Session}

-- The number may be requested, or a request for it is in flight.
abbrev pub IsSentFor : Pacer → ℕ → Type 0
IsSentFor p number = in_flight p.state.now number p.flights.items ≡ true

-- Gaps with numbers that may be requested. They are in order, and each is as long as it can be.
pub record AreGapsOf (v : View) (p : Pacer) (gaps : List Gap) : Type 0 where
  pub order : are_gaps 0 gaps ≡ true
  pub wanted : AreWanted v p.state.ripe gaps
  pub whole : (i : ℕ) (g : Gap) → slice_get gaps i ≡ Some g → IsWanted v p.state.ripe g.end → ⊥

-- The least number that may be requested and is not in flight.
pub record IsLeastFree (v : View) (p : Pacer) (number : ℕ) : Type 0 where
  pub wanted : IsWanted v p.state.ripe number
  pub free : in_flight p.state.now number p.flights.items ≡ false
  pub least : (other : ℕ) → other < number → IsWanted v p.state.ripe other → IsSentFor p other

-- A gap of numbers that may be requested. It begins with the least one that is not in flight, and ends before a number
-- that may not be requested.
pub record IsFree (v : View) (p : Pacer) (gap : Gap) : Type 0 where
  pub some : gap.first < gap.end
  pub wanted : (number : ℕ) → gap.first ≤ number → number < gap.end → IsWanted v p.state.ripe number
  pub whole : IsWanted v p.state.ripe gap.end → ⊥
  pub free : in_flight p.state.now gap.first p.flights.items ≡ false
  pub least : (number : ℕ) → number < gap.first → IsWanted v p.state.ripe number → IsSentFor p number

-- All numbers that may be requested are in flight.
abbrev pub AreAllSent : View → Pacer → Type 0
AreAllSent v p = (number : ℕ) → IsWanted v p.state.ripe number → IsSentFor p number

-- The pacer sent a request. It begins with the least number that may be requested and is not in flight. No message is
-- to be given up.
pub record HasRequested (give_up : ℕ) (v : View) (old new : Pacer) (sent : Sent) : Type 0 where
  pub kept : is_due give_up v old old.state.now ≡ false
  pub gaps : List Gap
  pub are : AreGapsOf v old gaps
  pub asked : HasAsked old new gaps sent
  pub least : (number : ℕ) → number < sent.first → IsWanted v old.state.ripe number → IsSentFor old number

-- The pacer sent no request: messages are to be given up first, the bucket is empty, the table has no room, or all
-- numbers that may be requested are in flight. Nothing changed.
pub record IsStill (give_up : ℕ) (v : View) (old new : Pacer) : Type 0 where
  pub reason : (is_due give_up v old old.state.now ≡ true) ⊎ (can_send old ≡ false) ⊎ AreAllSent v old
  pub flights : new.flights.items ≡ old.flights.items
  pub state : new.state ≡ old.state
  pub options : new.options ≡ old.options

-- The request that is returned for one that the pacer sent.
abbrev pub ask_of : Session → Sent → Ask
ask_of session sent = record {
  request = record { session = session; sequence = sent.first; count = sent.end - sent.first };
  server = sent.server;
}

-- What is returned. Without a server it is nothing.
abbrev pub returned : Session → ℕ → Option Sent → Option Ask
returned session servers None = None
returned session servers (Some sent) = if servers == 0 then None else Some (ask_of session sent)

-- The pacer sent these requests, one after the other.
abbrev pub HaveRequested : ℕ → View → Pacer → Pacer → List Sent → Type 0
HaveRequested give_up v old new [] = new ≡ old
HaveRequested give_up v old new (sent ∷ more) =
    (next : Pacer) × HasRequested give_up v old next sent × HaveRequested give_up v next new more

-- The pacer sent all requests that could be sent.
pub record HasSentAll (give_up : ℕ) (v : View) (old new : Pacer) : Type 0 where
  pub sent : List Sent
  pub after : Pacer
  pub requested : HaveRequested give_up v old after sent
  pub still : IsStill give_up v after new

-- The pacer sent a request, if it could. It was returned, or none was.
pub record HasSent (options : RepairOptions) (v : View) (old new : Pacer) (result : Option Ask) : Type 0 where
  pub sent : Option Sent
  pub polled : MatchOption sent (IsStill options.give_up v old new) (HasRequested options.give_up v old new)
  pub answer : result ≡ returned v.session options.servers sent

-- The repairer was polled at this time. `v` is its view, and `old` and `new` are its pacer before and after. Without a
-- server, all requests that could be sent count as sent, and none is returned.
pub record HasPolled (options : RepairOptions) (v : View) (old new : Pacer) (now : ℕ) (result : Option Ask) :
    Type 0 where
  -- The pacer at this time.
  pub between : Pacer
  pub time : Takes old between (Advance now v.known) None
  pub none : options.servers ≡ 0 → (result ≡ None) × HasSentAll options.give_up v between new
  pub some : 0 < options.servers → HasSent options v between new result

-- No request can be sent at this time.
abbrev pub NoneCanBeSent : View → Pacer → ℕ → Type 0
NoneCanBeSent v p time = (number : ℕ) → IsWanted v p.state.ripe number → CanAsk p time number → ⊥

-- Nothing happens before the time `deadline`, if no datagram arrives: no request can be sent, no missing number becomes
-- ripe, and no message is to be given up. `p` is the pacer now.
pub record IsDeadline (give_up : ℕ) (v : View) (p : Pacer) (deadline : ℕ) : Type 0 where
  pub now : p.state.now ≤ deadline
  pub still : (time : ℕ) → p.state.now ≤ time → time < deadline → NoneCanBeSent v p time
  pub unripe : (time known number : ℕ) → max p.state.now p.state.marked ≤ time → time < deadline → IsMissing v number →
      p.state.ripe ≤ number → (advanced time known p.state).ripe ≤ number
  pub kept : (time : ℕ) → p.state.now ≤ time → time < deadline → is_due give_up v p time ≡ false
  -- If a number may be requested, the deadline is near.
  pub sends : (number : ℕ) → IsWanted v p.state.ripe number →
      deadline ≤ p.state.now + max p.options.ceiling p.options.interval
  -- If a missing number is not ripe, the next mark is near.
  pub ripens : (number : ℕ) → IsMissing v number → p.state.ripe ≤ number →
      deadline ≤ max p.state.now (p.state.marked + p.state.patience)
  -- If nothing is to be done now, the deadline is later.
  pub later : 0 < p.state.patience → is_due give_up v p p.state.now ≡ false → NoneCanBeSent v p p.state.now →
      p.state.now < deadline
