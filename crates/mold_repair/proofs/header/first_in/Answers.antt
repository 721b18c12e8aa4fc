use Rattle.std.proofs.Common.{◌∙◌, ap, arith}
use Rattle.byteorder.specs.Endian.{big_number}
use Rattle.mold_repair.proofs.HeaderLemmas.{first_is, stated}
use Rattle.mold_repair.proofs.header.first_in.Goals as goal

pub split_at-requires : goal.split_at-requires
split_at-requires c = omega (arith, (stated c.args.datagram.now c.requires.packet c.requires.read).long)

pub read_u64-requires : goal.read_u64-requires
read_u64-requires c =
    omega (
      arith,
      (stated c.args.datagram.now c.requires.packet c.requires.read).long,
      c.split_at.ensures.back_len,
    )

pub returns : goal.returns
returns c =
    first_is c.args.datagram.now c.requires c.read_u64.result
    (c.read_u64.ensures ∙ ap (big_number 8) c.split_at.ensures.back)
