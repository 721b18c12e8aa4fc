-- A publisher that continues the session of a journal file of version 3.
use Rattle.std.specs.Prelude.{◌≡◌, ◌⊎◌, ℕ, ◌+◌, ◌-◌, ◌<◌, ◌≤◌, List, length, take, Option, None}
use Rattle.mold_session.specs.Journal.{IsJournal, JournalState}
use Rattle.mold_session.specs.Publisher.{resumed_publisher}
use Rattle.mold_session.specs.Records.{SpellsJournal3, magic_3, records}
use Rattle.mold_wire.specs.declared.limits.TheConstants.{MESSAGE_OVERHEAD}
use Rattle.mold_ffi.specs.Publisher.Exchange.{holding}
use Rattle.mold_ffi.specs.Server.Serving.{IsNotLoaded}
use Rattle.mold_ffi.specs.declared.code.TheConstants as codes
use Rattle.mold_ffi.specs.declared.handle.held.Held.{Held}
use Rattle.mold_ffi.specs.declared.publisher.exchange.Exchange.{Exchange}

-- The offset in a file of version 3 at which the records of these messages end.
abbrev pub end_offset : List (List ℕ) → ℕ
end_offset messages = 18 + length (records messages)

-- The bytes are the file of a journal, and the publisher continues its session. It has no server.
pub record IsResumed (limit : ℕ) (bytes : List ℕ) (exchange : Exchange) : Type 0 where
  pub journal : JournalState
  pub made : exchange ≡ record { publisher = resumed_publisher journal limit; server = None }
  pub bound : journal.max_message ≡ limit - MESSAGE_OVERHEAD
  pub listed : IsJournal journal
  pub spelled : SpellsJournal3 journal.session journal.messages journal.closed bytes

-- A handle that was empty holds a publisher of the journal. `number` is the offset at which the next records go.
pub record HasResumed (limit : ℕ) (bytes : List ℕ) (code number : ℕ) (held : Option Held) : Type 0 where
  pub exchange : Exchange
  pub made : IsResumed limit bytes exchange
  pub by_code : code ≡ codes.DONE
  pub by_number : number ≡ end_offset exchange.publisher.journal.messages
  pub held_is : held ≡ holding exchange

-- Either the handle holds a publisher of the journal, or it is empty. It is empty if the bytes are not such a file, or
-- if they are and an allocation failed. Files of other versions are refused.
pub record Resumes (limit : ℕ) (bytes : List ℕ) (code number : ℕ) (held : Option Held) : Type 0 where
  pub short : length bytes < 18 → (code ≡ codes.FILE_SHORT) × (number ≡ length bytes) × (held ≡ None)
  pub other : 18 ≤ length bytes → (take 8 bytes ≡ magic_3 → ⊥) →
      (code ≡ codes.BAD_MAGIC) × (number ≡ 0) × (held ≡ None)
  pub resumed : 18 ≤ length bytes → take 8 bytes ≡ magic_3 →
      HasResumed limit bytes code number held
      ⊎ (IsNotLoaded (limit - MESSAGE_OVERHEAD) bytes code number × (held ≡ None))
