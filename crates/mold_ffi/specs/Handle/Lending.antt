-- How what a handle holds is borrowed to be changed.
use Rattle.std.specs.Prelude.{Some}
use Rattle.std.specs.Borrow.{Fml, MutBor, Lends}
use Rattle.mold_ffi.specs.contracts.handle.held.Held.{the_row as held_row}
use Rattle.mold_ffi.specs.contracts.handle.Handle.{the_row}
use Rattle.mold_ffi.specs.declared.handle.Handle.{Handle}
use Rattle.mold_ffi.specs.declared.handle.held.Held.{Held}

-- When the borrow `loan` ends, the handle holds what was last written through it.
abbrev pub LendsHeld : MutBor Handle → MutBor Held → Fml
LendsHeld handle loan = Lends the_row held_row handle loan (λ held. record handle.now { value = Some held })
