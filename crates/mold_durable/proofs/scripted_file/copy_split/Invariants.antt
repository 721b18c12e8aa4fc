use Rattle.mold_durable.proofs.ScriptedLemmas.{AreCopied}
use Rattle.mold_durable.proofs.scripted_file.copy_split.Given as goal

abbrev pub invariant-bytes : goal.invariant-bytes
invariant-bytes l = AreCopied l.earlier l.later l.at l.i l.buffer
