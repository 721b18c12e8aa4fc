-- What `mold_listener_take` returns and writes.
use Rattle.std.specs.Prelude.{◌≡◌, ◌⊎◌, ℕ, List, Option, Some, Result, Ok, Err}
use Rattle.mold_receiver.specs.Receive.{IsCopied, Reception, receive}
use Rattle.mold_receiver.specs.declared.origin.Origin.{Origin}
use Rattle.mold_rule.specs.declared.refusal.Refusal.{Refusal}
use Rattle.mold_rule.specs.declared.refusal.Refusal.TheVariants.{Memory}
use Rattle.mold_ffi.specs.Code.Refusal.{refusal_code}
use Rattle.mold_ffi.specs.Listener.BatchedArbiter.{BatchedArbitration, received}
use Rattle.mold_ffi.specs.Listener.MoldTaken.{taking_fields}
use Rattle.mold_ffi.specs.declared.code.TheConstants as codes
use Rattle.mold_ffi.specs.declared.handle.held.Held.{Held}
use Rattle.mold_ffi.specs.declared.handle.held.Held.TheVariants.{Listener}
use Rattle.mold_ffi.specs.declared.listener.mold_taken.MoldTaken.{MoldTaken}

-- The code for the result of the receiving rule.
abbrev pub taking_code : Result Reception Refusal → ℕ
taking_code (Ok reception) = codes.DONE
taking_code (Err refusal) = refusal_code refusal

-- The code, the fields and the listener are those of the result `answer` of the receiving rule.
pub record HasTaken (origin : Origin) (bytes : List ℕ) (old : BatchedArbitration) (unused : ℕ)
    (answer : Result Reception Refusal) (code : ℕ) (fields : MoldTaken) (new : Option Held) : Type 0 where
  pub by_code : code ≡ taking_code answer
  pub by_fields : fields ≡ taking_fields answer unused
  pub held : new ≡ Some (Listener (received origin bytes old answer))

-- An allocation for a copy failed. The receiving rule takes the datagram, but nothing changed.
pub record LacksMemory (bytes : List ℕ) (old : BatchedArbitration) (unused : ℕ) (code : ℕ) (fields : MoldTaken)
    (new : Option Held) : Type 0 where
  pub by_code : code ≡ refusal_code Memory
  pub by_fields : fields ≡ taking_fields (Err Memory) unused
  pub copied : IsCopied old.arbitration.view bytes
  pub held : new ≡ Some (Listener old)

-- A listener took a datagram, refused it, or lacked memory for it.
abbrev pub Takes : Origin → List ℕ → BatchedArbitration → ℕ → ℕ → MoldTaken → Option Held → Type 0
Takes origin bytes old unused code fields new =
    HasTaken origin bytes old unused (receive old.arbitration.view bytes) code fields new
    ⊎ LacksMemory bytes old unused code fields new
