use Rattle.std.proofs.Common.{◌∙◌}
use Rattle.mold_extract.specs.Text.{entry_block}
use Rattle.mold_extract.proofs.PuttingLemmas.{on_err, puts_front, puts_front_in, puts_more}
use Rattle.mold_extract.proofs.blocks.put_blocks.Goals as goal

pub returns-in_err-put_block-clause-front : goal.returns-in_err-put_block-clause-front
returns-in_err-put_block-clause-front g c =
    on_err c.from_residual.result
    (puts_front_in entry_block _ _ _ _ _ _ _ _ _ _ c.in-Some.ensures.next c.loop-message.invariant.puts
    c.in_err-put_block.ensures.front)

pub loop-message-preserved : goal.loop-message-preserved
loop-message-preserved g c = record {
  puts = puts_more entry_block _ _ _ _ _ _ _ _ _ _ _ c.in-Some.ensures.next c.loop-message.invariant.puts
      c.in_ok-put_block.ensures.moved;
  failures = c.in_ok-put_block.ensures.failures ∙ c.loop-message.invariant.failures;
}

pub returns-in_err-flush-clause-front : goal.returns-in_err-flush-clause-front
returns-in_err-flush-clause-front g c =
    on_err c.from_residual-in_err-flush.result
    (puts_front entry_block _ _ _ _ _ _ _ _ c.loop-message.invariant.puts c.in_err-flush.ensures.front)
