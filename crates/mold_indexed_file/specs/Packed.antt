-- Which messages of a piece of a file are packed, and which error is returned if one is missing.
use Rattle.std.specs.Prelude.{◌≡◌, ◌⊎◌, ℕ, ◌+◌, ◌-◌, ◌<◌, ◌≤◌, List, [], ◌∷◌, ◌++◌, length}
use Rattle.std.specs.List.{flat_map, AllByRecursion}
use Rattle.mold_wire.specs.Block.{IsMessage}
use Rattle.mold_wire.specs.Packer.{HasRoom, Open, PackerState}
use Rattle.mold_wire.specs.Packing.{Fits}
use Rattle.mold_wire.specs.declared.session.Session.{Session}
use Rattle.mold_session.specs.Answer.{PlanState}
use Rattle.mold_session.specs.Loading.{message_spelling}
use Rattle.mold_session.specs.declared.error.FileError.{FileError}
use Rattle.mold_session.specs.declared.error.FileError.TheVariants.{BlockCut, Damaged, Read}
use Rattle.mold_session.specs.declared.file_version.FileVersion.{FileVersion}
use Rattle.mold_session.specs.declared.file_version.FileVersion.TheVariants.{One, Two, Three}
use Rattle.mold_index.specs.Index.{HasNumber, IndexState}
use Rattle.mold_index.specs.Scan.{AreMessagesAndRest, BeginsNoMessage, EndAfter, HasMessage, IsMessageAndRest}
use Rattle.mold_indexed_file.specs.Buffer.{BufferState}

-- ---- messages of some bytes. `spelling` is the encoding of a message.

-- The bytes are `skip` messages, then the messages `found`, and then the bytes `rest`.
pub record FindsMessages (spelling : List ℕ → List ℕ) (skip : ℕ) (bytes : List ℕ) (found : List (List ℕ))
    (rest : List ℕ) : Type 0 where
  pub next : List ℕ
  pub skipped : AreMessagesAndRest spelling skip bytes next
  pub each : AllByRecursion IsMessage found
  pub parts : next ≡ flat_map spelling found ++ rest

-- The open packet has the messages `found`. In the bytes they follow `skip` messages, and the bytes `rest` follow them.
pub record HasMessages (spelling : List ℕ → List ℕ) (skip : ℕ) (bytes : List ℕ) (session : Session) (sequence : ℕ)
    (packer : PackerState) (found : List (List ℕ)) (rest : List ℕ) : Type 0 where
  pub finds : FindsMessages spelling skip bytes found rest
  pub begun : packer.begun ≡ Open session sequence found
  pub fits : Fits packer.limit found

-- The bytes begin with a message for which the open packet has no room.
pub record HasNoRoom (spelling : List ℕ → List ℕ) (packer : PackerState) (bytes : List ℕ) : Type 0 where
  pub message : List ℕ
  pub rest : List ℕ
  pub begins : IsMessageAndRest spelling bytes message rest
  pub full : HasRoom packer.limit packer.begun (length message) → ⊥

-- The packet has the first `count` messages after the first `skip` messages of the bytes: `most` messages, or as many
-- as fit if these are fewer.
pub record HasPackedFrom (spelling : List ℕ → List ℕ) (skip most : ℕ) (bytes : List ℕ) (session : Session)
    (sequence : ℕ) (packer : PackerState) (count : ℕ) : Type 0 where
  pub found : List (List ℕ)
  pub rest : List ℕ
  pub packed : HasMessages spelling skip bytes session sequence packer found rest
  pub counted : count ≡ length found
  pub few : count ≤ most
  pub stops : (count ≡ most) ⊎ HasNoRoom spelling packer rest

-- The bytes have only `index` whole messages. The packet has those after the first `skip`, and needs the next one: it
-- has fewer than `most` messages.
pub record LacksNext (spelling : List ℕ → List ℕ) (skip most : ℕ) (bytes : List ℕ) (session : Session) (sequence : ℕ)
    (packer : PackerState) (index : ℕ) : Type 0 where
  pub found : List (List ℕ)
  pub rest : List ℕ
  pub packed : HasMessages spelling skip bytes session sequence packer found rest
  pub none : BeginsNoMessage spelling rest
  pub counted : index ≡ skip + length found
  pub few : length found < most

-- The bytes have only `index` whole messages, and the packet needs the one after these: it is the first message of the
-- packet, or one before it, or a later one.
abbrev pub Lacks : (List ℕ → List ℕ) → ℕ → ℕ → List ℕ → Session → ℕ → PackerState → ℕ → Type 0
Lacks spelling skip most bytes session sequence packer index =
    ((index ≤ skip) × EndAfter spelling index bytes)
    ⊎ LacksNext spelling skip most bytes session sequence packer index

-- ---- messages of a plan, in the piece that a buffer has

-- The plan's next packet has `count` messages of the piece: the plan's messages, or as many of them as fit.
abbrev pub HasPackedPiece : FileVersion → BufferState → PlanState → PackerState → ℕ → Type 0
HasPackedPiece version buffer plan packer count =
    HasPackedFrom (message_spelling version) (plan.from - buffer.entry.number) (plan.to - plan.from) buffer.bytes
    plan.session plan.from packer count

-- The piece has only `index` whole messages, and the plan's next packet needs the one after these.
abbrev pub LacksAt : FileVersion → BufferState → PlanState → PackerState → ℕ → Type 0
LacksAt version buffer plan packer index =
    Lacks (message_spelling version) (plan.from - buffer.entry.number) (plan.to - plan.from) buffer.bytes
    plan.session plan.from packer index

-- The error for a message that is not whole in a file of this version.
abbrev pub missing : FileVersion → ℕ → FileError
missing One number = BlockCut number
missing (Two count) number = BlockCut number
missing Three number = Damaged number

-- The piece lacks a message that the plan's next packet needs, and the error has that message's number.
pub record IsMissing (version : FileVersion) (buffer : BufferState) (plan : PlanState) (packer : PackerState)
    (error : FileError) : Type 0 where
  pub index : ℕ
  pub lacks : LacksAt version buffer plan packer index
  pub named : error ≡ missing version (buffer.entry.number + index)

-- The piece has the plan's next message, whole, and no datagram of at most `limit` bytes has room for it.
pub record IsTooLong (version : FileVersion) (buffer : BufferState) (plan : PlanState) (limit : ℕ) : Type 0 where
  pub message : List ℕ
  pub has : HasMessage (message_spelling version) (plan.from - buffer.entry.number) buffer.bytes message
  pub long : Fits limit (message ∷ []) → ⊥

-- Why no datagram was packed: a read failed, the index does not have the plan's next message, the piece lacks a
-- message, or the plan's next message is too long for a datagram.
abbrev pub IsPackError : FileVersion → IndexState → BufferState → PlanState → PackerState → FileError → Type 0
IsPackError version index buffer plan packer error =
    (error ≡ Read)
    ⊎ ((error ≡ missing version plan.from) × (HasNumber index plan.from → ⊥))
    ⊎ IsMissing version buffer plan packer error
    ⊎ ((error ≡ missing version plan.from) × IsTooLong version buffer plan packer.limit)
