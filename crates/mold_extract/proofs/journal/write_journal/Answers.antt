use Rattle.std.proofs.Common.{◌+◌, subst}
use Rattle.std.specs.Io.KnownBytes.{Appends}
use Rattle.mold_devices.specs.Devices.{AppendsPrefix}
use Rattle.mold_extract.proofs.JournalLemmas.{file_parts}
use Rattle.mold_extract.proofs.PuttingLemmas.{on_err}
use Rattle.mold_extract.proofs.RunLemmas.{few_between}
use Rattle.mold_extract.proofs.journal.write_journal.Goals as goal

pub put_blocks-requires : goal.put_blocks-requires
put_blocks-requires g c =
    few_between c.args.checker.now.pairs 1 (c.args.count + 1) c.new-carried.result c.requires c.new-carried.ensures

pub returns-in_err-put_blocks-clause-front : goal.returns-in_err-put_blocks-clause-front
returns-in_err-put_blocks-clause-front g c =
    on_err c.from_residual.result
    (subst (AppendsPrefix (g.K.Sink.held c.args.sink.now) (g.K.Sink.held c.put_blocks.new.sink))
    (file_parts c.args.session.0 c.args.checker.now c.args.count c.keep_head.new.buffer c.new-carried.result
    c.keep_head.ensures c.new-carried.ensures)
    c.in_err-put_blocks.ensures.front)

pub returns-clause-whole : goal.returns-clause-whole
returns-clause-whole g c =
    subst (Appends (g.K.Sink.held c.args.sink.now) (g.K.Sink.held c.put_blocks.new.sink))
    (file_parts c.args.session.0 c.args.checker.now c.args.count c.keep_head.new.buffer c.new-carried.result
    c.keep_head.ensures c.new-carried.ensures)
    c.in_ok-put_blocks.ensures.whole
