use Rattle.std.proofs.Common.{arith}
use Rattle.mold_audit.proofs.SlotLemmas.{emptied_all, emptied_more}
use Rattle.mold_audit.proofs.audit.empty_slots.Goals as goal

pub loop-number-preserved : goal.loop-number-preserved
loop-number-preserved c =
    let old = c.args.slots.now in
    emptied_more old c.loop-number.slots c.args.from c.loop-number.number c.args.to c.requires (omega arith)
    (omega arith) c.loop-number.invariant

pub returns-then-saturating_sub-size : goal.returns-then-saturating_sub-size
returns-then-saturating_sub-size c =
    emptied_all c.args.slots.now c.fill.new.self c.args.from c.args.to (c.fill.ensures.after (λ y same. same))
    (omega (arith, c.saturating_sub.ensures, c.if-saturating_sub-size.true)) c.requires
