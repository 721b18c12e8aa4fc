-- What the receivers of a world do with the datagrams that they receive.
use Rattle.std.specs.Prelude.{◌≡◌, ℕ, List, map, Err}
use Rattle.mold_receiver.specs.Receive.{receive}
use Rattle.mold_rule.specs.declared.refusal.Refusal.{Refusal}
use Rattle.mold_receiver.specs.declared.taken.Taken.{Taken}
use Rattle.mold_world.specs.Event.{Happening}
use Rattle.mold_world.specs.Effect.{given}
use Rattle.mold_world.specs.declared.event.EventOf.TheVariants.{Publish, Datagram, Heartbeat, Close, End}
use Rattle.mold_world.specs.declared.event.EventOf.TheVariants.{Request, Ask, Deliver, Noise, Restart}
use Rattle.mold_world.specs.World.{SubscriberState, WorldState}
use Rattle.mold_world.specs.declared.report.Report.{Report}
use Rattle.mold_world.specs.declared.report.Report.TheVariants.{Delivered, NoiseRefused}
use Rattle.mold_world.specs.declared.way.Way.{Way}

-- The receiver refuses the bytes. Its view is unchanged, and so is its book: the messages that it delivered.
pub record IsUnmoved (subscriber : SubscriberState) (way : Way) (bytes : List ℕ) : Type 0 where
  pub refused : Refusal
  pub received : receive subscriber.arbitration.view bytes ≡ Err refused
  pub view : (given subscriber way bytes).arbitration.view ≡ subscriber.arbitration.view
  pub book : (given subscriber way bytes).book ≡ subscriber.book

-- A datagram was reported as accepted.
pub record ReportsTaken (told : Report) : Type 0 where
  pub taken : Taken
  pub so : told ≡ Delivered taken

-- Bytes were reported as refused.
pub record ReportsRefused (told : Report) : Type 0 where
  pub refused : Refusal
  pub so : told ≡ NoiseRefused refused

-- Every receiver's view and book are unchanged.
pub record KeepsBooks (old new : WorldState) : Type 0 where
  pub views : map (λ (subscriber : SubscriberState). subscriber.arbitration.view) new.subscribers
      ≡ map (λ (subscriber : SubscriberState). subscriber.arbitration.view) old.subscribers
  pub books : map (λ (subscriber : SubscriberState). subscriber.book) new.subscribers
      ≡ map (λ (subscriber : SubscriberState). subscriber.book) old.subscribers

-- What the report of an event states. A delivered datagram was accepted; noise was refused, and every view and every
-- book is unchanged; for other events, nothing is stated.
abbrev pub HasReceived : Happening → Report → WorldState → WorldState → Type 0
HasReceived (Publish message) told old new = Unit {0}
HasReceived Datagram told old new = Unit {0}
HasReceived Heartbeat told old new = Unit {0}
HasReceived Close told old new = Unit {0}
HasReceived End told old new = Unit {0}
HasReceived (Request bytes) told old new = Unit {0}
HasReceived (Ask receiver) told old new = Unit {0}
HasReceived (Deliver receiver way place) told old new = ReportsTaken told
HasReceived (Noise receiver way bytes) told old new = ReportsRefused told × KeepsBooks old new
HasReceived (Restart receiver next) told old new = Unit {0}
