-- How a file of any version is rewritten in version 2.
use Rattle.std.specs.Prelude.{◌≡◌, ◌⊎◌, ℕ, Bool, true, false, List, length, if◌then◌else◌, Option, Result}
use Rattle.std.specs.Prelude.{Ok, Err, IfSome}
use Rattle.mold_wire.specs.declared.block.TheConstants.{MAX_MESSAGE}
use Rattle.mold_wire.specs.declared.session.Session.{Session}
use Rattle.mold_devices.specs.Devices.{one_more}
use Rattle.mold_session.specs.File.{SpellsJournal, SpellsJournal2, AppendsFile, AppendsFilePrefix}
use Rattle.mold_session.specs.FileFault.{JournalFault}
use Rattle.mold_session.specs.Loading.{Refuses}
use Rattle.mold_session.specs.Records.{SpellsJournal3}
use Rattle.mold_session.specs.declared.error.FileError.{FileError}
use Rattle.mold_session.specs.declared.error.FileError.TheVariants.{Write}
use Rattle.mold_session.specs.declared.upgrading.Upgraded.{Upgraded}

-- The bytes are the file, of this version, of a journal with these messages.
abbrev pub SpellsVersion : ℕ → Session → List (List ℕ) → Bool → List ℕ → Type 0
SpellsVersion version session messages closed bytes =
    ((version ≡ 1) × (closed ≡ false) × SpellsJournal session messages bytes)
    ⊎ (((version ≡ 2) × SpellsJournal2 session messages closed bytes)
    ⊎ ((version ≡ 3) × SpellsJournal3 session messages closed bytes))

-- The source's bytes, if known, were the file of a journal, and a file of version 2 with the same session and messages
-- was appended to the sink. The new file is closed if the old one was or if `close` is true.
pub record Upgrades (known old new : Option (List ℕ)) (close : Bool) (upgraded : Upgraded) : Type 0 where
  pub session : Session
  pub messages : List (List ℕ)
  -- whether the old file states that the session is closed
  pub was : Bool
  pub loaded : IfSome known (λ bytes. SpellsVersion upgraded.from session messages was bytes)
  pub counted : upgraded.messages ≡ length messages
  pub closed : upgraded.closed ≡ (if was then true else close)
  pub saved : AppendsFile old new session messages upgraded.closed

-- The source's bytes, if known, were the file of a journal, and a prefix of the new file was appended to the sink.
pub record BeginsUpgrade (known old new : Option (List ℕ)) (close : Bool) : Type 0 where
  pub version : ℕ
  pub session : Session
  pub messages : List (List ℕ)
  pub was : Bool
  pub loaded : IfSome known (λ bytes. SpellsVersion version session messages was bytes)
  pub saved : AppendsFilePrefix old new session messages (if was then true else close)

-- What a refused upgrade did. If the sink failed, a prefix of the new file was written. Any other error is the
-- fault of the old file, a failed read, or a failed allocation.
abbrev pub RefusesUpgrade : Option (List ℕ) → Option (List ℕ) → Option (List ℕ) → Bool → FileError → Type 0
RefusesUpgrade known old new close Write = BeginsUpgrade known old new close
RefusesUpgrade known old new close error = Refuses (JournalFault MAX_MESSAGE) known error

-- The count of the sink's failures after an error: one more for `Write`, otherwise unchanged.
abbrev pub CountsSaveFault : ℕ → ℕ → FileError → Type 0
CountsSaveFault old new Write = new ≡ one_more old
CountsSaveFault old new error = new ≡ old

-- The count of the sink's failures after a call: one more if the call returned `Write`, otherwise unchanged.
abbrev pub CountsSave : {T : Type 0} → ℕ → ℕ → Result T FileError → Type 0
CountsSave old new (Ok _) = new ≡ old
CountsSave old new (Err error) = CountsSaveFault old new error
