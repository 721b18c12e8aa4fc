-- The code of a refused datagram, and the number that goes with it.
use Rattle.std.specs.Prelude.{ℕ}
use Rattle.mold_rule.specs.declared.refusal.Refusal.{Refusal}
use Rattle.mold_rule.specs.declared.refusal.Refusal.TheVariants.{Malformed, WrongSession, SequenceZero, PastLast}
use Rattle.mold_rule.specs.declared.refusal.Refusal.TheVariants.{EndConflict, EndBelow, PastEnd, Conflict, Memory}
use Rattle.mold_ffi.specs.Code.DecodeError.{decode_error_code, decode_error_number}
use Rattle.mold_ffi.specs.declared.code.TheConstants as codes

-- The code for a refused datagram.
abbrev pub refusal_code : Refusal → ℕ
refusal_code (Malformed error) = decode_error_code error
refusal_code WrongSession = codes.WRONG_SESSION
refusal_code SequenceZero = codes.SEQUENCE_ZERO
refusal_code PastLast = codes.PAST_LAST
refusal_code (EndConflict end) = codes.END_CONFLICT
refusal_code (EndBelow known) = codes.END_BELOW
refusal_code (PastEnd end) = codes.PAST_END
refusal_code (Conflict number) = codes.CONFLICT
refusal_code Memory = codes.MEMORY

-- The number that goes with the refusal of a datagram; 0 if it has none.
abbrev pub refusal_number : Refusal → ℕ
refusal_number (Malformed error) = decode_error_number error
refusal_number WrongSession = 0
refusal_number SequenceZero = 0
refusal_number PastLast = 0
refusal_number (EndConflict end) = end
refusal_number (EndBelow known) = known
refusal_number (PastEnd end) = end
refusal_number (Conflict number) = number
refusal_number Memory = 0
