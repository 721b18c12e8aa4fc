use Rattle.std.proofs.Common.{sym, subst}
use Rattle.std.specs.Ffi.{IsNulTerminated}
use Rattle.mold_ffi.proofs.TextLemmas.{terminated_text_ends}
use Rattle.mold_ffi.proofs.code.text.mold_text.Goals as goal

pub slice_bounds-text-count : goal.slice_bounds-text-count
slice_bounds-text-count c =
    (subst IsNulTerminated (sym c.terminated-bytes.ensures) (terminated_text_ends c.args.code)).nonempty
