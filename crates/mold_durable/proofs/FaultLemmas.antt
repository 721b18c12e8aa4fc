-- Files of version 3 have no fault.
use Rattle.std.proofs.Common.{inl, inr, ℕ, Bool, List}
use Rattle.mold_wire.specs.declared.session.Session.{Session}
use Rattle.mold_session.specs.FileFault.{JournalFault}
use Rattle.mold_session.specs.Records.{SpellsJournal3}
use Rattle.mold_session.specs.declared.error.FileError.{FileError}
use Rattle.mold_session.specs.declared.error.FileError.TheVariants as file
use Rattle.mold_durable.specs.Reading.{IsOfDevice, OpenFault}
use Rattle.mold_durable.specs.declared.error.OpenError.{OpenError}
use Rattle.mold_durable.specs.declared.error.OpenError.TheVariants.{Short, BadMagic, Full, TooLong, Damaged, Read, Write}
use Rattle.mold_durable.specs.declared.error.OpenError.TheVariants.{Memory}
use Rattle.mold_durable.proofs.HeadLemmas.{file_magic}

module _ (most : ℕ) (session : Session) (messages : List (List ℕ)) (closed : Bool) (bytes : List ℕ)
    (spelled : SpellsJournal3 session messages closed bytes) (none : (error : FileError) → JournalFault most bytes error → ⊥) where
  pub only_device : (error : OpenError) → OpenFault most bytes error → IsOfDevice error
  only_device (Short len) fault = absurd (none (file.Short len) (fault.0, inl fault.1))
  only_device BadMagic fault = absurd (fault.1 (file_magic session messages closed bytes spelled))
  only_device Full fault = absurd (none file.Full (inr fault))
  only_device (TooLong len) fault = absurd (none (file.TooLong len) (inr fault))
  only_device (Damaged number) fault = absurd (none (file.Damaged number) fault)
  only_device Read fault = tt
  only_device Write fault = tt
  only_device Memory fault = tt
