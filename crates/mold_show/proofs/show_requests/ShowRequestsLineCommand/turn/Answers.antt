use Rattle.std.proofs.Common.{ap, cond, true}
use Rattle.std.specs.Prelude.{Ok, Err}
use Rattle.std.specs.Io.KnownBytes.{prepend_known}
use Rattle.mold_show.specs.Show.{ShowState}
use Rattle.mold_show.specs.ShowRequests.{entry_refused, entry_text}
use Rattle.mold_show.proofs.ShowLemmas.{shown_all, shown_line, shown_refused}
use Rattle.mold_show.proofs.ShowRequestsLemmas.{fault_first, message_first, none_left}
use Rattle.mold_show.proofs.show_requests.ShowRequestsLineCommand.turn.Goals as goal

pub returns-in_ok-self-inside-in-Message-clause-told : goal.returns-in_ok-self-inside-in-Message-clause-told
returns-in_ok-self-inside-in-Message-clause-told g c =
    let known = prepend_known c.args.lines.now.unread (g.S.Source.left c.args.source.now) in
    let left = prepend_known c.advance.new.self.unread (g.S.Source.left c.advance.new.source) in
    let message = c.advance.new.self.message in
    let gives = rw c.in-Message.is at c.in_ok-advance.ensures.next in
    let s : ShowState = record { refused = c.self.inside.refused } in
    rw (← c.self.view_is, c.in_ok-self-inside-in-Message.ensures.refused)
    (shown_line true s (entry_refused (Ok c.message.result.now)) {known = known} {left = left}
    (entry_text (Ok c.message.result.now))
    (rw c.message.ensures (message_first known left message gives))
    c.in_ok-self-inside-in-Message.ensures.text)

pub returns-in_ok-refuse_line-in-Fault-clause-told : goal.returns-in_ok-refuse_line-in-Fault-clause-told
returns-in_ok-refuse_line-in-Fault-clause-told g c =
    let known = prepend_known c.args.lines.now.unread (g.S.Source.left c.args.source.now) in
    let left = prepend_known c.advance.new.self.unread (g.S.Source.left c.advance.new.source) in
    let why = c.in-Fault.why in
    let gives = rw c.in-Fault.is at c.in_ok-advance.ensures.next in
    shown_refused true c.args.self.now {known = known} {left = left} (entry_text (Err why))
    (fault_first known left why c.advance.new.self.message gives)
    c.in_ok-refuse_line-in-Fault.ensures.text

pub returns-in-End-clause-told : goal.returns-in-End-clause-told
returns-in-End-clause-told g c =
    let known = prepend_known c.args.lines.now.unread (g.S.Source.left c.args.source.now) in
    let left = prepend_known c.advance.new.self.unread (g.S.Source.left c.advance.new.source) in
    let gives = rw c.in-End.is at c.in_ok-advance.ensures.next in
    rw c.end_show.ensures
    (shown_all true c.args.self.now {known = known} {left = left}
    (none_left known left c.advance.new.self.message gives)
    (ap (λ (s : ShowState). cond s.refused 2 0) c.self.view_is))
