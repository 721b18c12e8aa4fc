use Rattle.std.proofs.Common.{Option, refl}
use Rattle.mold_ffi.specs.Server.Serving.{with_serving}
use Rattle.mold_ffi.specs.declared.handle.held.Held.{Held}
use Rattle.mold_ffi.proofs.ServerLemmas.{plans_held}
use Rattle.mold_ffi.proofs.server.serving.Serving.plan.Goals as goal

pub returns : goal.returns
returns c =
    let serving = c.args.self.now in
    plans_held (Option Held) serving.server serving.server serving.journal c.whole-whole.result c.args.request.now
    c.args.fields.now c.plan.new.fields c.args.number.now c.plan.result c.plan.new.number (with_serving serving)
    c.plan.new.server refl c.whole-whole.ensures c.plan.ensures
