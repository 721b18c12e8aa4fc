use Rattle.std.proofs.Common.{◌≡◌, true, sym, ◌∙◌}
use Rattle.std.proofs.lemmas.Bool.{cond-true, cond-false}
use Rattle.std.specs.Prelude.{if◌then◌else◌}
use Rattle.mold_session.proofs.FileLemmas.{begins_upgrade}
use Rattle.mold_session.proofs.upgrading.upgrade.Goals as goal
use Rattle.mold_session.proofs.upgrading.upgrade.Goals.{then-head, else-head}

pub returns-in_default-clause-refused : goal.returns-in_default-clause-refused
returns-in_default-clause-refused g c =
    let head = c.in_ok-head.head in
    let closed : c.if-head.closed ≡ (if head.closed then true else c.args.close) =
    elim c.if-head.branch [
      | then-head w ↦ w.closed-is ∙ w.if-head.true ∙ sym (cond-true head.closed true c.args.close w.if-head.true)
      | else-head w ↦ w.closed-is ∙ sym (cond-false head.closed true c.args.close w.if-head.false)
    ]
    in
    begins_upgrade (g.S.Source.left c.args.source.now) (g.K.Sink.held c.args.sink.now)
    (g.K.Sink.held c.save_file.new.sink) head c.in_ok-head.list.messages c.args.close c.if-head.closed
    c.in_ok-head.ensures.whole closed c.in_default.ensures.front
