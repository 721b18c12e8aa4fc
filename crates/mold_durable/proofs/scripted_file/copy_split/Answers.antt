use Rattle.std.proofs.Common.{arith}
use Rattle.mold_durable.proofs.ScriptedLemmas.{copied_more, copied_none}
use Rattle.mold_durable.proofs.scripted_file.copy_split.Goals as goal

pub bytes-init : goal.bytes-init
bytes-init c = copied_none _ _ _ _

pub bytes-preserved : goal.bytes-preserved
bytes-preserved c =
    copied_more c.args.earlier.now c.args.later.now c.args.at c.bytes.i _ c.bytes.buffer (omega arith)
    c.byte_at.ensures c.bytes.invariant
