use Rattle.std.proofs.Common.{◌∙◌}
use Rattle.mold_extract.specs.Text.{entry_line}
use Rattle.mold_extract.proofs.PuttingLemmas.{on_err, puts_front, puts_front_in, puts_more}
use Rattle.mold_extract.proofs.lines.print_entries.Goals as goal

pub returns-in_err-print_entry-clause-front : goal.returns-in_err-print_entry-clause-front
returns-in_err-print_entry-clause-front g c =
    on_err c.from_residual.result
    (puts_front_in entry_line _ _ _ _ _ _ _ _ _ _ c.in-Some.ensures.next c.loop-number.invariant.puts
    c.in_err-print_entry.ensures.front)

pub loop-number-preserved : goal.loop-number-preserved
loop-number-preserved g c = record {
  puts = puts_more entry_line _ _ _ _ _ _ _ _ _ _ _ c.in-Some.ensures.next c.loop-number.invariant.puts
      c.in_ok-print_entry.ensures.moved;
  failures = c.in_ok-print_entry.ensures.failures ∙ c.loop-number.invariant.failures;
}

pub returns-in_err-send-clause-front : goal.returns-in_err-send-clause-front
returns-in_err-send-clause-front g c =
    on_err c.from_residual-in_err-send.result
    (puts_front entry_line _ _ _ _ _ _ _ _ c.loop-number.invariant.puts c.send.ensures.front)
