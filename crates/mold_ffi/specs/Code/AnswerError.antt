-- The code of a request that a server refuses, and the number that goes with it.
use Rattle.std.specs.Prelude.{ℕ}
use Rattle.mold_session.specs.declared.error.AnswerError.{AnswerError}
use Rattle.mold_session.specs.declared.error.AnswerError.TheVariants.{RequestLength, WrongSession, SequenceZero}
use Rattle.mold_session.specs.declared.error.AnswerError.TheVariants.{EmptyRequest, Ahead}
use Rattle.mold_ffi.specs.declared.code.TheConstants as codes

-- The code for a request that a server refuses.
abbrev pub answer_error_code : AnswerError → ℕ
answer_error_code (RequestLength len) = codes.REQUEST_LENGTH
answer_error_code WrongSession = codes.WRONG_SESSION
answer_error_code SequenceZero = codes.SEQUENCE_ZERO
answer_error_code EmptyRequest = codes.EMPTY_REQUEST
answer_error_code (Ahead next) = codes.AHEAD

-- The number that goes with the refusal of a request; 0 if it has none.
abbrev pub answer_error_number : AnswerError → ℕ
answer_error_number (RequestLength len) = len
answer_error_number WrongSession = 0
answer_error_number SequenceZero = 0
answer_error_number EmptyRequest = 0
answer_error_number (Ahead next) = next
