use Rattle.std.proofs.Common.{◌≡◌, ◌-◌}
use Rattle.mold_frame.specs.Ipv6.{passed}
use Rattle.mold_frame.specs.Lent.{lent_payload}
use Rattle.mold_frame.specs.Steps.{after_steps}
use Rattle.mold_frame.proofs.payload.Payload.after_extensions.Given as goal

-- The remaining steps lead to the end of all steps.
abbrev pub invariant-loop : goal.invariant-loop
invariant-loop l =
    after_steps passed (8 - l.counter) (lent_payload l.payload)
    ≡ after_steps passed 8 (lent_payload l.fn.self)
