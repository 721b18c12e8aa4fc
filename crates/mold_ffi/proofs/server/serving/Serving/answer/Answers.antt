use Rattle.std.proofs.Common.{Option, refl}
use Rattle.mold_ffi.specs.Server.Serving.{with_serving}
use Rattle.mold_ffi.specs.declared.handle.held.Held.{Held}
use Rattle.mold_ffi.proofs.ServerLemmas.{answers_held}
use Rattle.mold_ffi.proofs.server.serving.Serving.answer.Goals as goal

pub returns : goal.returns
returns c =
    let serving = c.args.self.now in
    answers_held (Option Held) serving.server serving.server serving.journal c.whole-whole.result c.args.request.now
    c.args.buffer.now c.answer.new.buffer c.args.number.now c.answer.result c.answer.new.number (with_serving serving)
    c.answer.new.server refl c.whole-whole.ensures c.answer.ensures
