use Rattle.std.proofs.Common.{◌≡◌, ◌-◌}
use Rattle.mold_frame.specs.Lent.{lent_tagged}
use Rattle.mold_frame.specs.Link.{untagged}
use Rattle.mold_frame.specs.Steps.{after_steps}
use Rattle.mold_frame.proofs.tagged.Tagged.after_tags.Given as goal

-- The remaining steps lead to the end of all steps.
abbrev pub invariant-loop : goal.invariant-loop
invariant-loop l =
    after_steps untagged (2 - l.counter) (lent_tagged l.tagged)
    ≡ after_steps untagged 2 (lent_tagged l.fn.self)
