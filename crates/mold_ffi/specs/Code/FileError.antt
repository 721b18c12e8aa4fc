-- The code of bytes that are not a journal file, and the number that goes with it. Bytes in memory have no read or
-- write error.
use Rattle.std.specs.Prelude.{ℕ}
use Rattle.mold_session.specs.declared.error.FileError.{FileError}
use Rattle.mold_session.specs.declared.error.FileError.TheVariants.{TooLong, Memory, BadMagic, Short, BlockCut, Read}
use Rattle.mold_session.specs.declared.error.FileError.TheVariants.{Write, Full, CountDiffers, BadFlag, Damaged}
use Rattle.mold_ffi.specs.declared.code.TheConstants as codes

-- The code for bytes that are not a journal file.
abbrev pub file_error_code : FileError → ℕ
file_error_code (Short len) = codes.FILE_SHORT
file_error_code BadMagic = codes.BAD_MAGIC
file_error_code (BadFlag byte) = codes.BAD_FLAG
file_error_code Full = codes.NUMBERS
file_error_code (TooLong len) = codes.TOO_LONG
file_error_code (BlockCut number) = codes.FILE_CUT
file_error_code (CountDiffers count found) = codes.COUNT_DIFFERS
file_error_code (Damaged number) = codes.DAMAGED
file_error_code Read = codes.BROKEN
file_error_code Write = codes.BROKEN
file_error_code Memory = codes.MEMORY

-- The number that goes with the fault of a journal file; 0 if it has none.
abbrev pub file_error_number : FileError → ℕ
file_error_number (Short len) = len
file_error_number BadMagic = 0
file_error_number (BadFlag byte) = byte
file_error_number Full = 0
file_error_number (TooLong len) = len
file_error_number (BlockCut number) = number
file_error_number (CountDiffers count found) = found
file_error_number (Damaged number) = number
file_error_number Read = 0
file_error_number Write = 0
file_error_number Memory = 0
