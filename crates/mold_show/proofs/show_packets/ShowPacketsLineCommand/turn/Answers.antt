use Rattle.std.proofs.Common.{ap, cond, false}
use Rattle.std.specs.Io.KnownBytes.{prepend_known}
use Rattle.mold_show.specs.Show.{ShowState, line_refused, line_text}
use Rattle.mold_show.proofs.ShowLemmas.{shown_all, shown_line}
use Rattle.mold_show.proofs.ShowPacketsLemmas.{line_first, none_left}
use Rattle.mold_show.proofs.show_packets.ShowPacketsLineCommand.turn.Goals as goal

pub returns-then-not-branch-clause-told : goal.returns-then-not-branch-clause-told
returns-then-not-branch-clause-told g c =
    let known = prepend_known c.args.lines.now.rest (g.S.Source.left c.args.source.now) in
    let left = prepend_known c.advance.new.self.rest (g.S.Source.left c.advance.new.source) in
    let gives = rw c.if-not-branch.true at c.in_ok-advance.ensures.line in
    rw c.end_show.ensures
    (shown_all false c.args.self.now {known = known} {left = left}
    (none_left known left c.advance.new.self.line gives)
    (ap (λ (s : ShowState). cond s.refused 2 0) c.self.view_is))

pub returns-clause-told : goal.returns-clause-told
returns-clause-told g c =
    let known = prepend_known c.args.lines.now.rest (g.S.Source.left c.args.source.now) in
    let left = prepend_known c.advance.new.self.rest (g.S.Source.left c.advance.new.source) in
    let line = c.advance.new.self.line in
    let gives = rw c.if-not-branch.false at c.in_ok-advance.ensures.line in
    let s : ShowState = record { refused = c.self.inside.refused } in
    rw (← c.self.view_is, c.in_ok-self-inside.ensures.refused)
    (rw c.line.ensures
    (shown_line false s (line_refused false line) {known = known} {left = left} (line_text false line)
    (line_first known left line gives)
    (rw (← c.line.ensures) c.in_ok-self-inside.ensures.text)))
