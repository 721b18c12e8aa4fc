-- A handle may move to another thread, since what it owns may.
use mir.Raw.{raw}
use base.Shift.{Keyless}
use denote.Memory.{lone}
use denote.RawPtr.{Ptr}
use denote.Struct.Struct.{exits_of}
use denote.Struct.Owning.{shape, fields, to}
use denote.Param.Send.{IsSend, AllSend, owning_send, struct_send, sendable}
use Rattle.std.proofs.Common.{Option, None, Some, Global}
use Rattle.std.proofs.Crossing as crossing
use Rattle.std_alloc.proofs.SendSync.{quiet, lies}
use Rattle.std.proofs.alloc.Global.TheSendSync as allocator
use Rattle.mold_ffi.specs.Handle.Ownership.{handle_owns}
use Rattle.mold_ffi.specs.declared.handle.held.Held.{Held}
use Rattle.mold_ffi.specs.contracts.handle.held.Held as held
use Rattle.mold_ffi.proofs.handle.held.Held.TheSendSync.{the_send as held_send}
use Rattle.mold_ffi.specs.contracts.handle.Handle.{the_row, the_type}

-- What a handle owns is not bound to a thread.
keyless : (alloc : Global) (at : Ptr) (value : Option Held) → Keyless (handle_owns alloc at value)
keyless alloc at None = tt
keyless alloc at (Some x) = (lies held.the_row held_send at x, crossing.frees.frees alloc (raw (lone held.the_row.mir)) at)

pub send : IsSend the_row
send =
    let each : AllSend (fields the_type) = (search sendable, (allocator.the_field_send, tt)) in
    owning_send the_type each (λ h. keyless h.alloc h.at h.value)
    (λ k. quiet (to the_type) (exits_of k (fields the_type)) ((struct_send (shape the_type) each).leaving k))
