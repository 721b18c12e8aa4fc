-- The effect of a data packet in the gap at `next`. Such a packet begins with the message `next` and doesn't go past
-- the gap.
use Rattle.std.specs.Prelude.{◌≡◌, true, ℕ, zero, suc, ◌+◌, ◌-◌, ◌<◌, ◌≤◌, List, [], ◌∷◌, length, Some, None}
use Rattle.std.specs.Prelude.{Ok, slice_get, is_some}
use Rattle.std.specs.FinMap as finite
use Rattle.mold_receiver.specs.Receive.{Reception, data_packet, handed_on, receive, view_after}
use Rattle.mold_receiver.specs.Store.{Message}
use Rattle.mold_receiver.specs.View.{View, IsWellFormed}
use Rattle.mold_receiver.specs.Wanted.{missing}

-- The messages with `count` consecutive numbers from `number` on, given a function from numbers to messages.
unfoldable pub messages_from : (ℕ → Message) → ℕ → ℕ → List Message
messages_from message number zero = []
messages_from message number (suc count) = message number ∷ messages_from message (suc number) count

-- The `count` messages from `next` on were received. The new `next` follows them and the stored messages after them.
-- The rest of the store is unchanged.
pub record Took (old : View) (count : ℕ) (new : View) : Type 0 where
  pub low : old.next + count ≤ new.next
  pub high : new.next ≤ old.known
  pub session : new.session ≡ old.session
  pub known : new.known ≡ old.known
  pub ended : new.ended ≡ old.ended
  pub window : new.window ≡ old.window
  pub room : new.room ≡ old.room
  -- Each message between them and the new `next` was stored before.
  pub had : (number : ℕ) → old.next + count ≤ number → number < new.next →
      is_some (finite.get old.store number) ≡ true
  -- Nothing is stored at or below the new `next`.
  pub none : (number : ℕ) → number ≤ new.next → finite.get new.store number ≡ None
  -- From the new `next` on, the store is unchanged.
  pub same : (number : ℕ) → new.next ≤ number → finite.get new.store number ≡ finite.get old.store number

-- If a function from numbers to messages agrees with the packet and the store, its values are the delivered messages.
-- They have the numbers from the old `next` to just below `next`.
pub record HandsOn (old : View) (messages : List Message) (next : ℕ) : Type 0 where
  pub handed : (message : ℕ → Message)
      → ((number : ℕ) (m : Message) → old.next ≤ number → number < old.next + length messages →
      slice_get messages (number - old.next) ≡ Some m → m ≡ message number)
      → ((number : ℕ) (m : Message) → old.next + length messages ≤ number →
      finite.get old.store number ≡ Some m → m ≡ message number)
      → handed_on old old.next messages ≡ messages_from message old.next (next - old.next)

-- The datagram is accepted, and the number of missing messages falls by the number of its messages.
pub record IsTakenInGap (v : View) (messages : List Message) (bytes : List ℕ) : Type 0 where
  pub reception : Reception
  pub received : receive v bytes ≡ Ok reception
  -- The new view is that of the data packet with these messages.
  pub view : reception.view ≡ view_after v (data_packet v.session v.next messages)
  -- The delivered messages are those of that packet, with the stored ones that follow.
  pub handed : reception.handed ≡ handed_on v v.next messages
  pub well_formed : IsWellFormed reception.view
  pub took : Took v (length messages) reception.view
  pub hands : HandsOn v messages reception.view.next
  -- The number of missing messages falls by the number of the packet's messages.
  pub fewer : missing v ≡ length messages + missing reception.view
