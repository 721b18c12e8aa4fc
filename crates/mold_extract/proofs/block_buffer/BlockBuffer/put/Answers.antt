use Rattle.std.proofs.lemmas.Result.{on_ok_weaker}
use Rattle.mold_devices.proofs.DeviceLemmas.{front_after}
use Rattle.mold_extract.proofs.PuttingLemmas.{moves_written, on_err}
use Rattle.mold_extract.proofs.block_buffer.BlockBuffer.put.Goals as goal

pub returns-then-text-gt-ROOM-clause-moved : goal.returns-then-text-gt-ROOM-clause-moved
returns-then-text-gt-ROOM-clause-moved g c =
    on_ok_weaker c.write_all.result
    (moves_written (g.K.Sink.held c.args.sink.now) (g.K.Sink.held c.flush.new.sink) (g.K.Sink.held c.write_all.new.sink)
    c.args.self.now c.args.text.now c.flush.new.self c.in_ok-flush.ensures.whole c.in_ok-flush.ensures.empty)
    c.write_all.ensures.whole

pub returns-then-text-gt-ROOM-clause-front : goal.returns-then-text-gt-ROOM-clause-front
returns-then-text-gt-ROOM-clause-front g c =
    on_err c.write_all.result
    (front_after (g.K.Sink.held c.args.sink.now) (g.K.Sink.held c.flush.new.sink) (g.K.Sink.held c.write_all.new.sink)
    c.args.self.now c.args.text.now c.in_ok-flush.ensures.whole c.write_all.ensures.front)
