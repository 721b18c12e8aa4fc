use Rattle.std.proofs.Common.{drop, arith}
use Rattle.mold_wire.proofs.PackerLemmas.{ended, behind_header, header_of}
use Rattle.mold_wire.proofs.buffer.end_in.Goals as goal

pub returns-clause-held : goal.returns-clause-held
returns-clause-held c count =
    ended c.args.session c.args.sequence count c.put.new.out (drop 20 c.args.buffer.now)
    (omega (arith, c.requires.0), omega (arith, c.requires.1)) c.put.ensures

pub returns-clause-behind : goal.returns-clause-behind
returns-clause-behind c =
    behind_header (header_of c.args.session c.args.sequence 65535) c.put.new.out (drop 20 c.args.buffer.now) c.put.ensures
