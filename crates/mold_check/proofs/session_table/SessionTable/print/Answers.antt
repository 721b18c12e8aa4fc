use Rattle.std.proofs.Common.{◌++◌, ◌∙◌}
use Rattle.mold_check.specs.EachCheck.{entries_statuses, entries_text, entry_status_by, entry_text, greatest}
use Rattle.mold_check.proofs.EachLemmas.{status_all, status_more}
use Rattle.mold_check.proofs.MovedLemmas.{moves_end, moves_front, moves_more, moves_sent, moves_written}
use Rattle.mold_check.proofs.session_table.SessionTable.print.Goals as goal

pub loop-key-preserved : goal.loop-key-preserved
loop-key-preserved g c =
    let judging = g.J.Judge.judging in
    let names = g.N.Naming.named c.args.naming.now in
    let old = g.K.Sink.held c.args.sink.now in
    let mid = g.K.Sink.held c.loop-key.sink in
    let all = c.args.text.now.items ++ entries_text judging names c.args.refused c.args.self.now in
    let so = rw c.in-Some.ensures.steps at c.loop-key.invariant.moves in
    record {
      moves = moves_more old mid (g.K.Sink.held c.print_entry.new.sink) all c.loop-key.text.items
          (entry_text judging names c.args.refused (c.in-Some.key.now, c.in-Some.judge.now)) (entries_text judging names c.args.refused c.next.new.self)
          c.print_entry.new.text.items so
          (moves_sent _ _ _ _ c.in_ok-status.ensures.whole.0 c.in_ok-status.ensures.empty);
      statuses = status_more c.loop-key.greatest c.in_ok-status.status _
          (greatest (entries_statuses judging c.next.new.self)) _ (entry_status_by judging c.in-Some.key.now.session c.in-Some.judge.now)
          c.greater-greatest.ensures c.in_ok-status.ensures.whole.1
          (rw c.in-Some.ensures.steps at c.loop-key.invariant.statuses);
      counted = c.in_ok-status.ensures.failures ∙ c.loop-key.invariant.counted;
    }

pub returns-in_err-status-clause-front : goal.returns-in_err-status-clause-front
returns-in_err-status-clause-front g c =
    let judging = g.J.Judge.judging in
    let names = g.N.Naming.named c.args.naming.now in
    let old = g.K.Sink.held c.args.sink.now in
    let mid = g.K.Sink.held c.loop-key.sink in
    let all = c.args.text.now.items ++ entries_text judging names c.args.refused c.args.self.now in
    let so = rw c.in-Some.ensures.steps at c.loop-key.invariant.moves in
    moves_front old mid (g.K.Sink.held c.print_entry.new.sink) all c.loop-key.text.items
    (entry_text judging names c.args.refused (c.in-Some.key.now, c.in-Some.judge.now)) (entries_text judging names c.args.refused c.next.new.self) so
    c.print_entry.ensures.front

pub returns-clause-moved : goal.returns-clause-moved
returns-clause-moved g c = (
  moves_end _ _ _ _ (rw c.in-None.ensures.steps.0 at c.loop-key.invariant.moves),
  status_all _ _ (rw c.in-None.ensures.steps.0 at c.loop-key.invariant.statuses),
)

pub returns-clause-front : goal.returns-clause-front
returns-clause-front g c =
    moves_written _ _ _ _ (rw c.in-None.ensures.steps.0 at c.loop-key.invariant.moves)
