use Rattle.mold_repair.proofs.HeaderLemmas.{head_is}
use Rattle.mold_repair.proofs.header.head_in.Goals as goal

pub returns : goal.returns
returns c =
    head_is c.args.datagram.now c.first_in.result c.args.top c.first_in.ensures c.requires.top
