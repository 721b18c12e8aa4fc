use Rattle.std.proofs.Common.{true, false, append-nil, subst}
use Rattle.mold_input.specs.declared.message_format.MessageFormat.TheVariants.{BlocksToEmpty}
use Rattle.mold_wire.specs.Block.{blocks}
use Rattle.mold_show.specs.Dump.{PrintsAll}
use Rattle.mold_show.proofs.DumpLawLemmas.{blocks_printed, dump_all, ended_printed}
use Rattle.mold_show.proofs.DumpLemmas.{FileLaws}
use Rattle.mold_show.proofs.laws.dump_blocks_law.Goals as goal

pub returns-clause-blocks : goal.returns-clause-blocks
returns-clause-blocks c head messages bytes contents count spelled all =
    blocks_printed c.contents_law.ensures.one head messages bytes contents count spelled all

pub returns-clause-closed : goal.returns-clause-closed
returns-clause-closed c head messages bytes contents count spelled all none is =
    let files : FileLaws = record {
      one_file = c.one_file_law.ensures.one_file;
    } in
    ended_printed c.contents_law.ensures.one head messages bytes contents count spelled all files true none is

pub returns-clause-open : goal.returns-clause-open
returns-clause-open c head messages bytes contents count spelled all none is =
    let files : FileLaws = record {
      one_file = c.one_file_law.ensures.one_file;
    } in
    subst (PrintsAll (dump_all count BlocksToEmpty) contents) (append-nil (blocks messages))
    (ended_printed c.contents_law.ensures.one head messages bytes contents count spelled all files false none is)
