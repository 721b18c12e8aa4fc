use Rattle.std.proofs.Common.{length, arith}
use Rattle.mold_wire.specs.Buffer.{fields_of}
use Rattle.mold_wire.proofs.PackerLemmas.{Shows, Room, shows_added, shown_room}
use Rattle.mold_wire.proofs.packer.Packer.add.Goals as goal

pub add_in-self-inside-requires-clause-header : goal.add_in-self-inside-requires-clause-header
add_in-self-inside-requires-clause-header c =
    let fields = fields_of c.self.inside in
    let shown : Shows fields c.args.self.now = record { holds = c.self.invariant; seen = c.self.view_is } in
    (shown_room fields c.args.self.now (length c.args.message.now) shown (c.fits.ensures.0 c.if-not-fits.false)).header

pub add_in-self-inside-requires-clause-room : goal.add_in-self-inside-requires-clause-room
add_in-self-inside-requires-clause-room c =
    let fields = fields_of c.self.inside in
    let shown : Shows fields c.args.self.now = record { holds = c.self.invariant; seen = c.self.view_is } in
    let room : Room fields (length c.args.message.now) =
    shown_room fields c.args.self.now (length c.args.message.now) shown (c.fits.ensures.0 c.if-not-fits.false)
    in
    omega (arith, room.fits)

pub invariant_of-self : goal.invariant_of-self
invariant_of-self c =
    let fields = fields_of c.self.inside in
    let seen_as = c.args.self.now in
    let shown : Shows fields seen_as = record { holds = c.self.invariant; seen = c.self.view_is } in
    (shows_added c.add_in-self-inside.result fields seen_as c.self.inside.buffer.items.len c.deref_mut.result.now
    c.add_in-self-inside.new.buffer c.args.message.now shown (omega arith) (omega arith) c.deref_mut.ensures.value
    (c.fits.ensures.0 c.if-not-fits.false) c.add_in-self-inside.ensures.held).holds

pub returns-clause-added : goal.returns-clause-added
returns-clause-added c =
    let fields = fields_of c.self.inside in
    let seen_as = c.args.self.now in
    let shown : Shows fields seen_as = record { holds = c.self.invariant; seen = c.self.view_is } in
    (shows_added c.add_in-self-inside.result fields seen_as c.self.inside.buffer.items.len c.deref_mut.result.now
    c.add_in-self-inside.new.buffer c.args.message.now shown (omega arith) (omega arith) c.deref_mut.ensures.value
    (c.fits.ensures.0 c.if-not-fits.false) c.add_in-self-inside.ensures.held).seen
