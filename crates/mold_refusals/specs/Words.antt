-- The words for the refusals of publishers, re-request servers and journal files. They are a name and the
-- numbers that belong to it.
use Rattle.std.specs.Prelude.{List, [], ◌∷◌, ℕ, codes, decimal}
use Rattle.mold_session.specs.declared.error.AnswerError.{AnswerError}
use Rattle.mold_session.specs.declared.error.AnswerError.TheVariants as answer
use Rattle.mold_session.specs.declared.error.AppendError.{AppendError}
use Rattle.mold_session.specs.declared.error.AppendError.TheVariants as append
use Rattle.mold_session.specs.declared.error.FileError.{FileError}
use Rattle.mold_session.specs.declared.error.FileError.TheVariants as file

-- The words for the reason why a journal does not accept a message.
abbrev pub append_words : AppendError → List (List ℕ)
append_words append.Closed = codes "Closed" ∷ []
append_words (append.TooLong len) = codes "TooLong" ∷ decimal len ∷ []
append_words append.Full = codes "Full" ∷ []
append_words append.Memory = codes "Memory" ∷ []

-- The words for the reason why a server does not respond to a request.
abbrev pub answer_words : AnswerError → List (List ℕ)
answer_words (answer.RequestLength len) = codes "RequestLength" ∷ decimal len ∷ []
answer_words answer.WrongSession = codes "WrongSession" ∷ []
answer_words answer.SequenceZero = codes "SequenceZero" ∷ []
answer_words answer.EmptyRequest = codes "EmptyRequest" ∷ []
answer_words (answer.Ahead next) = codes "Ahead" ∷ decimal next ∷ []

-- The words for the reason why a journal file cannot be loaded, saved or upgraded.
abbrev pub file_fault_words : FileError → List (List ℕ)
file_fault_words (file.Short len) = codes "Short" ∷ decimal len ∷ []
file_fault_words file.BadMagic = codes "BadMagic" ∷ []
file_fault_words (file.BadFlag byte) = codes "BadFlag" ∷ decimal byte ∷ []
file_fault_words file.Full = codes "Full" ∷ []
file_fault_words (file.TooLong len) = codes "TooLong" ∷ decimal len ∷ []
file_fault_words (file.BlockCut number) = codes "BlockCut" ∷ decimal number ∷ []
file_fault_words (file.CountDiffers count found) = codes "CountDiffers" ∷ decimal count ∷ decimal found ∷ []
file_fault_words (file.Damaged number) = codes "Damaged" ∷ decimal number ∷ []
file_fault_words file.Read = codes "Read" ∷ []
file_fault_words file.Write = codes "Write" ∷ []
file_fault_words file.Memory = codes "Memory" ∷ []
