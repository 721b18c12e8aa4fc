use Rattle.std.proofs.Common.{Bool, true, ◌≡◌, ◌+◌, refl, sym, subst, arith}
use Rattle.mold_wire.specs.Buffer.{over, Holds}
use Rattle.mold_wire.specs.Packer.{with_message}
use Rattle.mold_ffi.proofs.packets.packer.mold_packer_add.Goals as goal

pub returns-clause-added : goal.returns-clause-added
returns-clause-added c begun holds room =
    let old = c.args.packer.now in
    let found = c.add_in-packer.result in
    let is_open : old.is_open ≡ true = (c.leaves_room.ensures.exact.0 c.if-not-leaves_room.false).0 in
    let held : Holds (over c.add_in-packer.new.buffer found (old.count + 1) true) (with_message c.args.message.now begun) =
    c.add_in-packer.ensures.held begun
    (subst (λ (b : Bool). Holds (over old.buffer.now old.used old.count b) begun) is_open holds)
    in (
      refl,
      record {
        holds =
            subst
            (λ (b : Bool). Holds (over c.add_in-packer.new.buffer found (old.count + 1) b)
            (with_message c.args.message.now begun)) (sym is_open) held;
        limit = omega arith;
        behind = c.add_in-packer.ensures.behind;
      },
    )
