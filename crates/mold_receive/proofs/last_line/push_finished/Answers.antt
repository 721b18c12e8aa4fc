use Rattle.std.proofs.Common.{ℕ, [], ◌∷◌, ap, ◌∙◌}
use Rattle.std.specs.Prelude.{codes, decimal}
use Rattle.std.proofs.lemmas.Result.{on_ok_weaker}
use Rattle.mold_repair.specs.declared.stats.RepairCounts.{RepairCounts}
use Rattle.mold_text.specs.Line.{line_of}
use Rattle.mold_turns.specs.Outgoing.{OutgoingState, with_note}
use Rattle.mold_receive.proofs.last_line.push_finished.Goals as goal

pub returns-clause-line : goal.returns-clause-line
returns-clause-line c =
    let after : ℕ → ℕ → OutgoingState =
    λ next lost. with_note (line_of
    (codes "finished" ∷ codes "next" ∷ decimal next ∷ codes "lost" ∷ decimal lost ∷ codes "failed"
    ∷ decimal c.args.failures ∷ [])) c.args.outgoing.now in
    let stats = c.stats-stats.ensures in
    on_ok_weaker c.push_note.result
    (λ is.
    is
    ∙ ap (λ (next : ℕ). after next c.stats-stats.result.counts.lost) stats.next
    ∙ ap (λ (counts : RepairCounts). after c.args.repairer.now.arbiter.view.next counts.lost) stats.counts)
    c.push_note.ensures.note
