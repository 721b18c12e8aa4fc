-- The code of each error, and the text of each code.
pub mod AnswerError
pub mod AppendError
pub mod DecodeError
pub mod FileError
pub mod Refusal
pub mod Text
