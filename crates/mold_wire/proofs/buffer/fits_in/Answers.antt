use Rattle.std.proofs.Common.{arith}
use Rattle.std.proofs.lemmas.Bool.{leb-true, le-leb}
use Rattle.mold_wire.specs.Buffer.{over}
use Rattle.mold_wire.proofs.PackerLemmas.{has_room, Room, room_left}
use Rattle.mold_wire.proofs.buffer.fits_in.Goals as goal

pub returns-then-room-ge-LENGTH_BYTES-clause-held : goal.returns-then-room-ge-LENGTH_BYTES-clause-held
returns-then-room-ge-LENGTH_BYTES-clause-held c count begun holds = (
  λ short. has_room (over c.args.buffer.now c.args.used count c.args.is_open) begun c.args.len holds
      c.if-not-is_open.false (omega (arith, leb-true _ _ short)),
  λ has.
      let room : Room (over c.args.buffer.now c.args.used count c.args.is_open) c.args.len =
      room_left (over c.args.buffer.now c.args.used count c.args.is_open) begun c.args.len holds has
      in
      le-leb _ _ (omega (arith, room.fits)),
)

-- There is no room even for a block's length field.
pub returns-else-room-ge-LENGTH_BYTES-clause-held : goal.returns-else-room-ge-LENGTH_BYTES-clause-held
returns-else-room-ge-LENGTH_BYTES-clause-held c count begun holds = (
  λ long. absurd (omega (arith, leb-true _ _ long)),
  λ has.
      let room : Room (over c.args.buffer.now c.args.used count c.args.is_open) c.args.len =
      room_left (over c.args.buffer.now c.args.used count c.args.is_open) begun c.args.len holds has
      in
      absurd (omega (arith, room.fits)),
)
