use Rattle.std.proofs.lemmas.Result.{on_ok_weaker}
use Rattle.mold_session.proofs.MovingLemmas.{on_err, front_after, front_more, moves_kept, moves_written}
use Rattle.mold_session.proofs.write_buffer.WriteBuffer.put.Goals as goal

pub returns-then-text-gt-ROOM-clause-moved : goal.returns-then-text-gt-ROOM-clause-moved
returns-then-text-gt-ROOM-clause-moved g c =
    on_ok_weaker c.write_all.result
    (moves_written (g.K.Sink.held c.args.sink.now) (g.K.Sink.held c.flush.new.sink) (g.K.Sink.held c.write_all.new.sink)
    c.args.self.now c.args.text.now c.flush.new.self c.in_ok-flush.ensures.whole c.in_ok-flush.ensures.empty)
    c.write_all.ensures.whole

pub returns-then-text-gt-ROOM-clause-front : goal.returns-then-text-gt-ROOM-clause-front
returns-then-text-gt-ROOM-clause-front g c =
    on_err c.write_all.result
    (front_after (g.K.Sink.held c.args.sink.now) (g.K.Sink.held c.flush.new.sink) (g.K.Sink.held c.write_all.new.sink)
    c.args.self.now c.args.text.now c.in_ok-flush.ensures.whole c.write_all.ensures.front)

pub returns-in_err-flush-clause-front : goal.returns-in_err-flush-clause-front
returns-in_err-flush-clause-front g c =
    on_err c.from_residual.result
    (front_more (g.K.Sink.held c.args.sink.now) (g.K.Sink.held c.flush.new.sink) c.args.self.now c.args.text.now
    c.in_err-flush.ensures.front)

pub returns-clause-moved : goal.returns-clause-moved
returns-clause-moved g c =
    moves_kept (g.K.Sink.held c.args.sink.now) (g.K.Sink.held c.flush.new.sink) c.args.self.now c.args.text.now
    c.flush.new.self c.keep-2.new.self c.in_ok-flush.ensures.whole c.in_ok-flush.ensures.empty c.keep-2.ensures
