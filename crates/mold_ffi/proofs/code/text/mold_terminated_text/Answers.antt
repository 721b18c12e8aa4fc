use Rattle.std.proofs.Common.{sym, subst}
use Rattle.std.specs.Ffi.{IsNulTerminated}
use Rattle.mold_ffi.proofs.TextLemmas.{terminated_text_ends}
use Rattle.mold_ffi.proofs.code.text.mold_terminated_text.Goals as goal

pub returns-clause-ends : goal.returns-clause-ends
returns-clause-ends c = subst IsNulTerminated (sym c.terminated.ensures) (terminated_text_ends c.args.code)
