-- The code of a decode fault, and the number that goes with it.
use Rattle.std.specs.Prelude.{ℕ}
use Rattle.mold_wire.specs.declared.error.DecodeError.{DecodeError}
use Rattle.mold_wire.specs.declared.error.DecodeError.TheVariants.{Short, BlockCut, Trailing}
use Rattle.mold_ffi.specs.declared.code.TheConstants as codes

-- The code for a decode fault.
abbrev pub decode_error_code : DecodeError → ℕ
decode_error_code (Short len) = codes.SHORT
decode_error_code (BlockCut index) = codes.BLOCK_CUT
decode_error_code (Trailing at) = codes.TRAILING

-- The number that goes with a decode fault: the length of the datagram, the index of the block that is cut short, or
-- the offset of the first byte after the packet.
abbrev pub decode_error_number : DecodeError → ℕ
decode_error_number (Short len) = len
decode_error_number (BlockCut index) = index
decode_error_number (Trailing at) = at
