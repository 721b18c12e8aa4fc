use Rattle.std.proofs.Common.{ℕ, [], ◌∷◌, ap, ◌∙◌}
use Rattle.std.specs.Prelude.{codes, decimal}
use Rattle.std.proofs.lemmas.Result.{on_ok_weaker}
use Rattle.mold_repair.specs.declared.stats.RepairCounts.{RepairCounts}
use Rattle.mold_text.specs.Line.{line_of}
use Rattle.mold_turns.specs.Outgoing.{OutgoingState, with_note}
use Rattle.mold_receive.proofs.last_line.push_open.Goals as goal

pub returns-clause-line : goal.returns-clause-line
returns-clause-line c =
    let after : ℕ → ℕ → ℕ → OutgoingState =
    λ next known lost. with_note (line_of
    (codes "open" ∷ codes "next" ∷ decimal next ∷ codes "known" ∷ decimal known ∷ codes "lost" ∷ decimal lost
    ∷ codes "failed" ∷ decimal c.args.failures ∷ [])) c.args.outgoing.now in
    let stats = c.stats-stats.ensures in
    let view = c.args.repairer.now.arbiter.view in
    on_ok_weaker c.push_note.result
    (λ is.
    is
    ∙ ap (λ (next : ℕ). after next c.stats-stats.result.known c.stats-stats.result.counts.lost) stats.next
    ∙ ap (λ (known : ℕ). after view.next known c.stats-stats.result.counts.lost) stats.known
    ∙ ap (λ (counts : RepairCounts). after view.next view.known counts.lost) stats.counts)
    c.push_note.ensures.note
