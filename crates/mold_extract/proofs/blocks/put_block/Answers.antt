use Rattle.std.proofs.lemmas.Result.{on_ok_weaker, on_err_weaker}
use Rattle.mold_extract.proofs.PuttingLemmas.{block_front, block_moves, length_front, on_err}
use Rattle.mold_extract.proofs.blocks.put_block.Goals as goal

pub returns-in_err-put-clause-front : goal.returns-in_err-put-clause-front
returns-in_err-put-clause-front g c =
    on_err c.from_residual.result
    (length_front (g.K.Sink.held c.args.sink.now) (g.K.Sink.held c.put.new.sink) c.args.buffer.now c.length_of.result
    c.args.message.now c.length_of.ensures c.in_err-put.ensures.front)

pub returns-clause-moved : goal.returns-clause-moved
returns-clause-moved g c =
    on_ok_weaker c.put-2.result
    (block_moves (g.K.Sink.held c.args.sink.now) (g.K.Sink.held c.put.new.sink) (g.K.Sink.held c.put-2.new.sink)
    c.args.buffer.now c.length_of.result c.put.new.self c.args.message.now c.put-2.new.self c.length_of.ensures
    c.in_ok-put.ensures.moved)
    c.put-2.ensures.moved

pub returns-clause-front : goal.returns-clause-front
returns-clause-front g c =
    on_err_weaker c.put-2.result
    (block_front (g.K.Sink.held c.args.sink.now) (g.K.Sink.held c.put.new.sink) (g.K.Sink.held c.put-2.new.sink)
    c.args.buffer.now c.length_of.result c.put.new.self c.args.message.now c.length_of.ensures
    c.in_ok-put.ensures.moved)
    c.put-2.ensures.front
