use Rattle.std.proofs.Common.{take}
use Rattle.std.specs.Io.KnownBytes.{prepend_known}
use Rattle.std.proofs.KnownBytes.{Consumes-kept}
use Rattle.mold_session.proofs.loading.fill.Goals as goal

pub returns-in_default-clause-bytes : goal.returns-in_default-clause-bytes
returns-in_default-clause-bytes g c =
    Consumes-kept (prepend_known c.args.piece.now (g.S.Source.left c.args.source.now))
    (prepend_known c.loop-count.piece (g.S.Source.left c.loop-count.source))
    (prepend_known c.next_byte.new.piece (g.S.Source.left c.next_byte.new.source))
    (take c.loop-count.count c.loop-count.buffer) c.loop-count.invariant.bytes
    (rw c.in_default.is at c.in_ok-byte.ensures.same)
