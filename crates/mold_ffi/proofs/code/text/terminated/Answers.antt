use Rattle.std.proofs.Common.{sym, arith}
use Rattle.std.proofs.lemmas.List.{get_or_past}
use Rattle.mold_ffi.specs.Code.Text.{texts}
use Rattle.mold_ffi.specs.declared.code.texts.TheConstants.{UNKNOWN}
use Rattle.mold_ffi.proofs.code.text.terminated.Goals as goal

pub returns-in_default : goal.returns-in_default
returns-in_default c = sym (get_or_past texts c.args.code UNKNOWN.now (omega (arith, c.in_default)))
