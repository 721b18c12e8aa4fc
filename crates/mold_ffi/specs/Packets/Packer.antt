-- A packer over a buffer of the caller.
use Rattle.std.specs.Prelude.{◌≡◌, length, drop}
use Rattle.mold_wire.specs.Buffer.{Fields, over, Holds, CanHold}
use Rattle.mold_wire.specs.Packer.{Begun}
use Rattle.mold_ffi.specs.declared.packets.packer.MoldPacker.{MoldPacker}

-- The fields of a packer, and the bytes of its buffer.
abbrev pub fields_of : MoldPacker → Fields
fields_of packer = over packer.buffer.now packer.used packer.count packer.is_open

-- The fields pass the check that the calls make, which does not read the bytes of the buffer. The fields of every
-- packer pass it.
abbrev pub CanBe : Fields → Type 0
CanBe fields = CanHold (length fields.items) fields.used fields.count fields.is_open

-- A call left the packer with the packet `begun`, in the same buffer. The bytes of the buffer after the packet are
-- unchanged.
pub record Packs (old new : MoldPacker) (begun : Begun) : Type 0 where
  pub holds : Holds (fields_of new) begun
  pub limit : length new.buffer.now ≡ length old.buffer.now
  pub behind : drop new.used new.buffer.now ≡ drop new.used old.buffer.now
