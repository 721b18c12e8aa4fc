-- What a handle holds, as a box: the rows at which the steps of boxes are used.
use Rattle.std.proofs.Common.{◌≡◌, [], Option, None, Some, true, true≢false, is_some, refl, sym}
use mir.Syntax.{impl, tnil, dnil}
use denote.Signature.{Slot, plain}
use Rattle.std_alloc.proofs.BoxSteps.Form.{Bx}
use Rattle.std.specs.contracts.alloc.Global as heap
use Rattle.std.specs.contracts.impls.GlobalAllocator.TheImpl.{ghosts, dict}
use Rattle.std.proofs.alloc.Global.TheLaws as heap_laws
use Rattle.mold_ffi.specs.contracts.handle.held.Held as held
use Rattle.mold_ffi.proofs.handle.held.Held.TheLaws as held_laws
use Rattle.mold_ffi.specs.contracts.handle.box_parts.BoxParts as parts
use Rattle.mold_ffi.specs.contracts.handle.Handle as handle
use Rattle.mold_ffi.specs.declared.handle.held.Held.{Held}

-- The box: its element, and the allocator.
abbrev pub E : Bx
E = record {
  row = held.the_row;
  laws = held_laws.the_row_laws;
  al = record { row = heap.the_row; laws = heap_laws.the_row_laws; g = ghosts; d = dict; drops = impl [] tnil dnil };
}

abbrev pub FromParts : Slot 0
FromParts = plain (λ _. parts.the_row held.the_row heap.the_row ghosts)

abbrev pub FromAllocator : Slot 0
FromAllocator = plain (λ _. heap.the_row)

abbrev pub FromHandle : Slot 0
FromHandle = plain (λ _. handle.the_row)

-- A handle that is not empty holds exactly one value.
pub has : (value : Option Held) → is_some value ≡ true → (held : Held) × (value ≡ Some held)
has None told = absurd (true≢false (sym told))
has (Some held) told = (held, refl)
