use Rattle.std.proofs.Common.{arith}
use Rattle.mold_pacing.proofs.PatienceLemmas.{ripe_from, ripe_until}
use Rattle.mold_pacing.proofs.pacer.Pacer.ripens.Goals as goal

pub returns-clause-ripe : goal.returns-clause-ripe
returns-clause-ripe c =
    λ time known past below. ripe_from time known c.args.self.now.state (omega (arith, past, below, c.saturating_add.ensures))

pub returns-clause-least : goal.returns-clause-least
returns-clause-least c =
    λ time known after before. ripe_until time known c.args.self.now.state after (omega (arith, before, c.saturating_add.ensures))
