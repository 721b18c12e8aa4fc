-- What `mold_listener_hear` returns and writes.
use Rattle.std.specs.Prelude.{◌≡◌, ◌⊎◌, ℕ, ◌+◌, List, [], Option, Some, Result, Ok, Err, drop, length}
use Rattle.mold_receiver.specs.Arbiter.{arbitrated}
use Rattle.mold_receiver.specs.Batch.{handed_from}
use Rattle.mold_receiver.specs.Origin.{line_of}
use Rattle.mold_receiver.specs.Own.{IsCopiedBehind, own_read}
use Rattle.mold_receiver.specs.Receive.{Reception, receive}
use Rattle.mold_receiver.specs.declared.origin.Origin.{Origin}
use Rattle.mold_rule.specs.declared.refusal.Refusal.{Refusal}
use Rattle.mold_rule.specs.declared.refusal.Refusal.TheVariants.{Memory}
use Rattle.mold_wire.specs.Block.{blocks}
use Rattle.mold_wire.specs.Reading.{reading}
use Rattle.mold_ffi.specs.Code.Refusal.{refusal_code}
use Rattle.mold_ffi.specs.Listener.BatchedArbiter.{BatchedArbitration, IsOwed, cleared}
use Rattle.mold_ffi.specs.Listener.Taking.{taking_code}
use Rattle.mold_ffi.specs.Listener.MoldDelivery.{hearing_fields, refused_fields, unheard_fields}
use Rattle.mold_ffi.specs.declared.code.TheConstants as codes
use Rattle.mold_ffi.specs.declared.handle.held.Held.{Held}
use Rattle.mold_ffi.specs.declared.handle.held.Held.TheVariants.{Listener}
use Rattle.mold_ffi.specs.declared.listener.mold_delivery.MoldDelivery.{MoldDelivery}

-- The datagram's own messages.
abbrev pub own_in : BatchedArbitration → List ℕ → List (List ℕ)
own_in old bytes = own_read old.arbitration.view (reading bytes)

-- The listener after a datagram whose messages were not copied, by the result of the receiving rule. The batch has the
-- delivered messages that are not the datagram's own.
abbrev pub received_own : Origin → List ℕ → BatchedArbitration → Result Reception Refusal → BatchedArbitration
received_own origin bytes old (Ok reception) = record {
  arbitration = arbitrated (line_of origin) bytes old.arbitration (Ok reception);
  batch =
      handed_from (old.arbitration.view.next + length (own_in old bytes))
      (drop (length (own_in old bytes)) reception.handed);
  from_hear = length (drop (length (own_in old bytes)) reception.handed);
}
received_own origin bytes old (Err refusal) = record {
  arbitration = arbitrated (line_of origin) bytes old.arbitration (Err refusal);
  batch = record { first = 0; messages = [] };
  from_hear = 0;
}

-- The code, the fields and the listener are those of the result `answer` of the receiving rule. If the datagram was
-- taken, its bytes from the offset on are the blocks of its own messages.
pub record HasHeardOwn (origin : Origin) (bytes : List ℕ) (old : BatchedArbitration)
    (answer : Result Reception Refusal) (code : ℕ) (fields : MoldDelivery) (new : Option Held) : Type 0 where
  pub by_code : code ≡ taking_code answer
  pub by_fields : fields ≡ hearing_fields old.arbitration.view bytes answer
  pub held : new ≡ Some (Listener (received_own origin bytes old answer))
  pub lies : (reception : Reception) → answer ≡ Ok reception →
      drop fields.offset bytes ≡ blocks (own_in old bytes)

-- An allocation for stored messages failed. The receiving rule takes the datagram, but only the batch was emptied.
pub record LacksRoom (bytes : List ℕ) (old : BatchedArbitration) (code : ℕ) (fields : MoldDelivery)
    (new : Option Held) : Type 0 where
  pub by_code : code ≡ refusal_code Memory
  pub by_fields : fields ≡ unheard_fields Memory
  pub copied : IsCopiedBehind old.arbitration.view bytes
  pub held : new ≡ Some (Listener (cleared old))

-- A listener whose batch may be emptied took a datagram, refused it by the receiving rule, or lacked memory for it.
abbrev pub HearsOwn : Origin → List ℕ → BatchedArbitration → ℕ → MoldDelivery → Option Held → Type 0
HearsOwn origin bytes old code fields new =
    HasHeardOwn origin bytes old (receive old.arbitration.view bytes) code fields new
    ⊎ LacksRoom bytes old code fields new

-- A listener took a datagram without copying its messages, refused it, or lacked memory for it. If its batch has
-- messages that only a clear may discard, the call is refused, whatever the bytes are, and nothing changes.
pub record Hears (origin : Origin) (bytes : List ℕ) (old : BatchedArbitration) (code : ℕ) (fields : MoldDelivery)
    (new : Option Held) : Type 0 where
  pub owed : IsOwed old → (code ≡ codes.BATCH) × (fields ≡ refused_fields 0) × (new ≡ Some (Listener old))
  pub hears : (IsOwed old → ⊥) → HearsOwn origin bytes old code fields new
