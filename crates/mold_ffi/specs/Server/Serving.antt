-- A server with the journal from which it responds.
use Rattle.std.specs.Prelude.{◌≡◌, ◌⊎◌, ℕ, ◌-◌, false, List, Option, Some}
use Rattle.mold_session.specs.File.{SpellsJournal, SpellsJournal2}
use Rattle.mold_session.specs.FileFault.{JournalFault}
use Rattle.mold_session.specs.Journal.{IsJournal}
use Rattle.mold_session.specs.Records.{SpellsJournal3}
use Rattle.mold_session.specs.Server.{ServerState, fresh_server}
use Rattle.mold_session.specs.declared.error.FileError.{FileError}
use Rattle.mold_wire.specs.declared.limits.TheConstants.{MESSAGE_OVERHEAD}
use Rattle.mold_ffi.specs.Code.FileError.{file_error_code, file_error_number}
use Rattle.mold_ffi.specs.declared.code.TheConstants as codes
use Rattle.mold_ffi.specs.declared.handle.held.Held.{Held}
use Rattle.mold_ffi.specs.declared.handle.held.Held.TheVariants.{Server}
use Rattle.mold_ffi.specs.declared.server.serving.Serving.{Serving}

-- What a handle holds after its server got this state; the journal is the same.
abbrev pub with_serving : Serving → ServerState → Option Held
with_serving serving server = Some (Server (record { server = server; journal = serving.journal }))

-- The bytes are the file of the journal, and the server has answered no request.
pub record IsOfFile (limit burst : ℕ) (bytes : List ℕ) (serving : Serving) : Type 0 where
  pub server : serving.server ≡ fresh_server limit (limit - MESSAGE_OVERHEAD) burst
  pub bound : serving.journal.max_message ≡ limit - MESSAGE_OVERHEAD
  pub listed : IsJournal serving.journal
  pub spelled : ((serving.journal.closed ≡ false)
      × SpellsJournal serving.journal.session serving.journal.messages bytes)
      ⊎ (SpellsJournal2 serving.journal.session serving.journal.messages serving.journal.closed bytes
      ⊎ SpellsJournal3 serving.journal.session serving.journal.messages serving.journal.closed bytes)

-- The bytes are not the file of a journal whose messages have at most `most` bytes, for the reason that `code` and
-- `number` give.
pub record IsFault (most : ℕ) (bytes : List ℕ) (code number : ℕ) : Type 0 where
  pub error : FileError
  pub fault : JournalFault most bytes error
  pub by_code : code ≡ file_error_code error
  pub by_number : number ≡ file_error_number error

-- The bytes have no fault as such a file, and an allocation failed.
pub record LacksRoom (most : ℕ) (bytes : List ℕ) (code number : ℕ) : Type 0 where
  pub faultless : (error : FileError) → JournalFault most bytes error → ⊥
  pub by_code : code ≡ codes.MEMORY
  pub by_number : number ≡ 0

-- Why no server is made of the bytes: their fault, or if they have none, an allocation that failed.
abbrev pub IsNotLoaded : ℕ → List ℕ → ℕ → ℕ → Type 0
IsNotLoaded most bytes code number = IsFault most bytes code number ⊎ LacksRoom most bytes code number
