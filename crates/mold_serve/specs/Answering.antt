-- The remaining responses to a request while they are offered one by one.
use Rattle.std.specs.Prelude.{◌≡◌, ◌⊎◌, Bool, true, false, List, [], ◌∷◌, Result, OnOk}
use Rattle.mold_serve.specs.Serving.{MayAnswer, Service, ResponderState, offer}
use Rattle.mold_session.specs.Answer.{FitAlone, PlanState, planned}
use Rattle.mold_session.specs.Journal.{JournalState}
use Rattle.mold_session.specs.Server.{ServerState}
use Rattle.mold_session.specs.Serving.{IsPlanOf}
use Rattle.mold_turns.specs.Runs.{Begins}
use Rattle.mold_wire.specs.declared.packet.Packet.{Packet}

-- The packets that the plan still sends.
abbrev pub left_of : Service → PlanState → List Packet
left_of service plan = planned service.journal.messages service.limit plan

-- The server may send the packets of the plan: it may respond from the journal, the plan is for messages of the
-- journal, and each of these messages fits a datagram by itself.
pub record MayOffer {J : Type 0} (shows : J → JournalState → Type 0) (held : J) (server : ServerState)
    (plan : PlanState) (journal : JournalState) : Type 0 where
  pub answers : MayAnswer shows held server journal
  pub planned : IsPlanOf journal plan
  pub fit : FitAlone server.limit journal.messages

-- The first of the remaining packets was offered, and `after` are the packets after it. If its line could not be
-- printed because memory ran out, only the port is known.
pub record OffersOne {P T E : Type 0} (to : P) (result : Result T E) (before after : List Packet)
    (old new : ResponderState P) : Type 0 where
  -- whether the send failed
  pub fails : Bool
  -- the packet that was offered
  pub packet : Packet
  pub parts : before ≡ packet ∷ after
  pub port : new.port ≡ (offer to fails packet old).port
  pub whole : OnOk result (new ≡ offer to fails packet old)

-- The first of the remaining packets was offered if the Boolean is `true`. Otherwise no packet remained, and nothing
-- changed.
abbrev pub OffersNext : {P T E : Type 0} → P → Result T E → Bool → List Packet → List Packet →
    ResponderState P → ResponderState P → Type 0
OffersNext to result true before after old new = OffersOne to result before after old new
OffersNext to result false before after old new = (before ≡ []) × (new ≡ old)

-- An error ended the offer of the first of the remaining packets: either it was offered, or nothing was sent, because
-- its messages could not be read.
abbrev pub OffersOrStops : {P T E : Type 0} → P → Result T E → List Packet → List Packet → ResponderState P →
    ResponderState P → Type 0
OffersOrStops to result before after old new = OffersOne to result before after old new ⊎ (new.port ≡ old.port)

-- After a success the state is `wanted`. After an error, what was sent is a prefix of what `wanted` has sent.
pub record Reaches {P T E : Type 0} (result : Result T E) (new wanted : ResponderState P) : Type 0 where
  pub whole : OnOk result (new ≡ wanted)
  pub sent : Begins new.port.sent wanted.port.sent
