-- The calls that a receiver over ports makes of its repairer, if what they deliver is kept in a durable journal.
use Rattle.std.specs.Prelude.{◌≡◌, ◌⊎◌, ℕ, ◌+◌, Bool, true, List, [], ◌∷◌, ◌++◌, length, None, OnErr, OnOk}
use Rattle.std.specs.Prelude.{Result}
use Rattle.std.specs.Io.KnownBytes.{Appends}
use Rattle.std.specs.Prelude.{Option, if◌then◌else◌}
use Rattle.mold_durable.specs.DurableJournal.{DurableState}
use Rattle.mold_durable.specs.Life.{Life, Lives}
use Rattle.mold_durable.specs.Storage.{LeavesOnly}
use Rattle.mold_port_set.specs.PortSet.{Given, PortSetState}
use Rattle.mold_receive.specs.Receiving.{Call, Follow, all_sent, all_taken, is_finished}
use Rattle.mold_receive.specs.declared.feed_receiver.FeedReceiver.{FeedReceiver}
use Rattle.mold_receiver.specs.Store.{Message}
use Rattle.mold_recorder.specs.Appending.{HasAppended, HasAppendedSome, IsPartFile}
use Rattle.mold_repair.specs.declared.repairer.Repairer.{Repairer}
use Rattle.mold_repair.specs.declared.step.RepairStep.{RepairStep}
use Rattle.mold_session.specs.Records.{SpellsJournal3}
use Rattle.mold_turns.specs.Runs.{Begins}

-- A receiver over ports: its repairer, and its ports.
pub record RecorderState (P : Type 0) : Type 0 where
  pub repairer : Repairer
  pub ports : PortSetState P

-- The state of the receiver `feed`. `state` gives that of its ports.
abbrev pub state_of : {D P : Type 0} → (D → PortSetState P) → FeedReceiver D → RecorderState P
state_of state feed = record { repairer = feed.repairer; ports = state feed.ports }

-- The messages that calls delivered, in order.
unfoldable pub all_delivered : List Call → List Message
all_delivered [] = []
all_delivered (call ∷ calls) = call.is.handed.messages ++ all_delivered calls

-- None of the calls gave up messages.
unfoldable pub AreWhole : List Call → Type 0
AreWhole [] = Unit {0}
AreWhole (call ∷ calls) = (call.outcome.lost ≡ None) × AreWhole calls

-- The receiver took the datagrams `first`, which its ports had given before, and then exactly those that its ports
-- gave. It sent the requests that it was to send. It gave up nothing, and its calls delivered these messages.
-- What ports give and send is stated only if it is known, which it is for ports in memory.
pub record HasDelivered {P : Type 0} (lines : ℕ) (servers : List P) (modeled : Bool) (first : List Given)
    (old new : RecorderState P) (messages : List Message) : Type 0 where
  pub calls : List Call
  pub follow : Follow old.repairer calls new.repairer
  -- what the ports gave since then
  pub since : List Given
  pub given : modeled ≡ true → new.ports.given ≡ old.ports.given ++ since
  pub taken : modeled ≡ true → all_taken lines calls ≡ first ++ since
  pub sent : modeled ≡ true → new.ports.sent ≡ old.ports.sent ++ all_sent lines servers calls
  pub whole : AreWhole calls
  pub delivered : messages ≡ all_delivered calls

-- One call was made of the repairer, with this step. It returned no request, gave up nothing, and delivered these
-- messages.
pub record HasCalled (step : RepairStep) (old new : Repairer) (messages : List Message) : Type 0 where
  pub call : Call
  pub from : call.before ≡ old
  pub to : call.after ≡ new
  pub stepped : call.step ≡ step
  pub asked : call.outcome.ask ≡ None
  pub whole : call.outcome.lost ≡ None
  pub delivered : messages ≡ call.is.handed.messages

-- One call was made of the repairer, as in `HasCalled`. After a success, what it delivered was appended to the journal.
-- After a fault, a prefix of it was.
pub record HasTaken {S T E : Type 0} (shows may_leave : S → List ℕ → Type 0) (moment : S → ℕ)
    (left_since : S → ℕ → List ℕ → Type 0) (step : RepairStep) (old new : Repairer) (before after : DurableState S)
    (result : Result T E) : Type 0 where
  pub messages : List Message
  pub called : HasCalled step old new messages
  pub appended : OnOk result (HasAppended shows may_leave moment left_since before after messages)
  pub some : OnErr result (HasAppendedSome shows may_leave moment left_since before after messages)

-- The receiver delivered messages as in `HasDelivered`, and they were appended to the journal.
pub record HasRecorded {P S : Type 0} (lines : ℕ) (servers : List P) (modeled : Bool)
    (shows may_leave : S → List ℕ → Type 0) (moment : S → ℕ) (left_since : S → ℕ → List ℕ → Type 0)
    (first : List Given) (old new : RecorderState P) (before after : DurableState S) : Type 0 where
  pub messages : List Message
  pub delivered : HasDelivered lines servers modeled first old new messages
  pub appended : HasAppended shows may_leave moment left_since before after messages

-- A fault: the receiver delivered messages as in `HasDelivered`, and a prefix of them was appended to the journal.
pub record HasStopped {P S : Type 0} (lines : ℕ) (servers : List P) (modeled : Bool)
    (shows may_leave : S → List ℕ → Type 0) (moment : S → ℕ) (left_since : S → ℕ → List ℕ → Type 0)
    (first : List Given) (old new : RecorderState P) (before after : DurableState S) : Type 0 where
  pub messages : List Message
  pub delivered : HasDelivered lines servers modeled first old new messages
  pub some : HasAppendedSome shows may_leave moment left_since before after messages

-- The bytes are a file of the session. It has the committed messages of this life, and then a prefix of those that
-- wait and of `more`. If the receiver is finished, it may instead be the closed file of all of them.
abbrev pub IsFileLeft : Life → List Message → Bool → List ℕ → Type 0
IsFileLeft life more finished bytes =
    IsPartFile life more bytes
    ⊎ ((finished ≡ true) × SpellsJournal3 life.session (life.committed ++ (life.waiting ++ more)) true bytes)

-- The life after all messages were committed, and the session was closed if the receiver is finished.
abbrev pub ended_life : Life → List Message → Bool → Life
ended_life life more finished = record life {
  committed = life.committed ++ (life.waiting ++ more);
  closed = if finished then true else life.closed;
  waiting = [];
}

-- The journal was ended: all messages that waited and these are committed. If the receiver is finished, the session is
-- closed.
pub record HasEndedJournal {S : Type 0} (shows may_leave : S → List ℕ → Type 0) (before after : DurableState S)
    (messages : List Message) (finished : Bool) : Type 0 where
  pub counted : after.committed ≡ before.committed + (length before.waiting + length messages)
  pub none : after.waiting ≡ []
  pub closed : after.closed ≡ (if finished then true else before.closed)
  pub lives : (life : Life) → Lives shows may_leave before life →
      Lives shows may_leave after (ended_life life messages finished)

-- A crash at any moment leaves such a file of these messages.
abbrev pub LeavesFiles : {S : Type 0} → (shows may_leave : S → List ℕ → Type 0) (moment : S → ℕ)
    (left_since : S → ℕ → List ℕ → Type 0) (old new : DurableState S) → List Message → Bool → Type 0
LeavesFiles shows may_leave moment left_since old new messages finished =
    (life : Life) → Lives shows may_leave old life →
    LeavesOnly moment left_since old.storage new.storage (IsFileLeft life messages finished)

-- A recorder has ended. All messages that the receiver delivered are committed, after those that the journal had. The
-- session is closed if the receiver is finished.
pub record HasEnded {P S : Type 0} (lines : ℕ) (servers : List P) (modeled : Bool)
    (shows may_leave : S → List ℕ → Type 0) (moment : S → ℕ) (left_since : S → ℕ → List ℕ → Type 0)
    (first : List Given) (old new : RecorderState P) (before after : DurableState S) : Type 0 where
  pub messages : List Message
  pub delivered : HasDelivered lines servers modeled first old new messages
  pub ended : HasEndedJournal shows may_leave before after messages (is_finished new.repairer)
  pub leaves : LeavesFiles shows may_leave moment left_since before after messages (is_finished new.repairer)

-- A recorder has ended with a fault. A crash leaves the messages that were committed before, and a prefix of those that
-- waited and of those that the receiver delivered.
pub record HasBroken {P S : Type 0} (lines : ℕ) (servers : List P) (modeled : Bool)
    (shows may_leave : S → List ℕ → Type 0) (moment : S → ℕ) (left_since : S → ℕ → List ℕ → Type 0)
    (first : List Given) (old : RecorderState P) (before after : DurableState S) : Type 0 where
  -- the prefix of `first` that was taken
  pub took : List Given
  pub part : Begins took first
  pub end : RecorderState P
  pub messages : List Message
  pub delivered : HasDelivered lines servers modeled took old end messages
  pub leaves : LeavesFiles shows may_leave moment left_since before after messages (is_finished end.repairer)

-- Text was written to standard error, and it ends in `last`.
pub record HasSaid (old new : Option (List ℕ)) (last : List ℕ) : Type 0 where
  pub text : List ℕ
  pub appended : Appends old new (text ++ last)
