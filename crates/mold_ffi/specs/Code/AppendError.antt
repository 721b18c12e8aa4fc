-- The code of a message that is not published, and the number that goes with it.
use Rattle.std.specs.Prelude.{ℕ}
use Rattle.mold_session.specs.declared.error.AppendError.{AppendError}
use Rattle.mold_session.specs.declared.error.AppendError.TheVariants.{Closed, TooLong, Full, Memory}
use Rattle.mold_ffi.specs.declared.code.TheConstants as codes

-- The code for a message that is not published.
abbrev pub append_error_code : AppendError → ℕ
append_error_code Closed = codes.CLOSED
append_error_code (TooLong len) = codes.TOO_LONG
append_error_code Full = codes.NUMBERS
append_error_code Memory = codes.MEMORY

-- The number that goes with the refusal of a message; 0 if it has none.
abbrev pub append_error_number : AppendError → ℕ
append_error_number Closed = 0
append_error_number (TooLong len) = len
append_error_number Full = 0
append_error_number Memory = 0
