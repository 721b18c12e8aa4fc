-- What a handle owns.
use Rattle.std.specs.Prelude.{Option, None, Some}
use Rattle.std.specs.Box.Ownership.{box_owns}
use Rattle.std.specs.Global.{Global}
use Rattle.std.specs.contracts.impls.GlobalAllocator.TheImpl.{ghosts}
use Rattle.mold_ffi.specs.contracts.handle.held.Held.{the_row}
use Rattle.mold_ffi.specs.declared.handle.held.Held.{Held}
use base.Fml.{Fml, ftrue}
use denote.RawPtr.{Ptr}

-- The memory that a handle owns. An empty handle owns none. Otherwise it owns what a box of its value owns.
abbrev pub handle_owns : Global → Ptr → Option Held → Fml
handle_owns alloc at None = ftrue
handle_owns alloc at (Some held) = box_owns (ghosts.dealloc_token alloc) the_row at held
