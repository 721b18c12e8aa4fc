use Rattle.std.proofs.Common.{◌++◌, List, subst, ◌∙◌}
use Rattle.mold_devices.specs.Writing.{Moves}
use Rattle.mold_capture_commands.specs.Sessions.{pair_text}
use Rattle.mold_capture_commands.specs.SessionState.{lines_text}
use Rattle.mold_capture_commands.specs.declared.pair.Pair.{Pair}
use Rattle.mold_capture_commands.specs.declared.pair_tally.PairTally.{PairTally}
use Rattle.mold_capture_commands.proofs.TextLemmas.{moves_front, moves_more}
use Rattle.mold_capture_commands.proofs.pair_lines.PairLines.print.Goals as goal

pub loop-pair-preserved : goal.loop-pair-preserved
loop-pair-preserved g c =
    let old = g.K.Sink.held c.args.sink.now in
    let mid = g.K.Sink.held c.loop-pair.sink in
    let all = c.args.text.now.items ++ lines_text c.args.self.now in
    let so = subst (λ (l : List (Pair × PairTally)). Moves old mid all (c.loop-pair.text.items ++ lines_text l))
    c.in-Some.ensures.steps c.loop-pair.invariant.moves in
    record {
      moves = moves_more old mid (g.K.Sink.held c.print_pair.new.sink) all c.loop-pair.text.items
          (pair_text c.in-Some.pair.now c.in-Some.tally.now) (lines_text c.next.new.self) c.print_pair.new.text.items so
          c.in_ok-print_pair.ensures.moved;
      counted = c.in_ok-print_pair.ensures.failures ∙ c.loop-pair.invariant.counted;
    }

pub returns-in_err-print_pair-clause-front : goal.returns-in_err-print_pair-clause-front
returns-in_err-print_pair-clause-front g c =
    let old = g.K.Sink.held c.args.sink.now in
    let mid = g.K.Sink.held c.loop-pair.sink in
    let all = c.args.text.now.items ++ lines_text c.args.self.now in
    let so = subst (λ (l : List (Pair × PairTally)). Moves old mid all (c.loop-pair.text.items ++ lines_text l))
    c.in-Some.ensures.steps c.loop-pair.invariant.moves in
    moves_front old mid (g.K.Sink.held c.print_pair.new.sink) all c.loop-pair.text.items
    (pair_text c.in-Some.pair.now c.in-Some.tally.now) (lines_text c.next.new.self) so c.print_pair.ensures.front
