use Rattle.std.proofs.Common.{refl}
use Rattle.mold_ffi.proofs.ServerLemmas.{serves_held}
use Rattle.mold_ffi.proofs.server.serving.Serving.datagram.Goals as goal

pub returns-clause-serves : goal.returns-clause-serves
returns-clause-serves c =
    let serving = c.args.self.now in
    serves_held serving.server serving.server serving.journal c.whole-whole.result c.args.fields.now
    c.datagram.new.fields c.args.buffer.now c.datagram.new.buffer c.args.size.now c.datagram.result c.datagram.new.size
    refl c.whole-whole.ensures c.datagram.ensures.serves
