-- What a datagram delivers without a copy, as the fields of a struct.
use Rattle.std.specs.Prelude.{ℕ, ◌-◌, List, Result, Ok, Err, length}
use Rattle.mold_receiver.specs.Own.{own_read}
use Rattle.mold_receiver.specs.Receive.{Reception}
use Rattle.mold_receiver.specs.Store.{Message}
use Rattle.mold_receiver.specs.View.{View}
use Rattle.mold_receiver.specs.declared.taken.Taken.{Taken}
use Rattle.mold_rule.specs.declared.refusal.Refusal.{Refusal}
use Rattle.mold_wire.specs.Block.{blocks}
use Rattle.mold_wire.specs.Reading.{reading}
use Rattle.mold_ffi.specs.Code.Refusal.{refusal_number}
use Rattle.mold_ffi.specs.declared.listener.mold_delivery.MoldDelivery.{MoldDelivery}

-- The fields for a datagram of `len` bytes that was taken: where the blocks of its own messages begin, how many they
-- are, how many messages the batch has, and the other counts.
abbrev pub own_fields : ℕ → List Message → Taken → MoldDelivery
own_fields len own taken = record {
  detail = 0;
  offset = len - length (blocks own);
  own = length own;
  stored = taken.handed - length own;
  kept = taken.kept;
  dropped = taken.beyond;
}

-- The fields of a call that was refused: the number that goes with the refusal.
abbrev pub refused_fields : ℕ → MoldDelivery
refused_fields number = record { detail = number; offset = 0; own = 0; stored = 0; kept = 0; dropped = 0 }

-- The fields for a refusal by the receiving rule.
abbrev pub unheard_fields : Refusal → MoldDelivery
unheard_fields refusal = refused_fields (refusal_number refusal)

-- The fields of a result of the receiving rule.
abbrev pub hearing_fields : View → List ℕ → Result Reception Refusal → MoldDelivery
hearing_fields v bytes (Ok reception) = own_fields (length bytes) (own_read v (reading bytes)) reception.taken
hearing_fields v bytes (Err refusal) = unheard_fields refusal
