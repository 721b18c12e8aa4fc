use Rattle.std.proofs.Common.{ℕ, Some, sym, subst}
use Rattle.std.specs.Io.KnownBytes.{prepend_known}
use Rattle.mold_pcap.specs.Formats.{FormatState}
use Rattle.mold_pcap.specs.Passing.{PassesBlock}
use Rattle.mold_pcap.specs.Reading.{GivesEnd, Leads}
use Rattle.mold_pcap.specs.declared.fault.CaptureFault.TheVariants.{BadBlock, Cut}
use Rattle.mold_pcap.specs.declared.order.Order.{Order}
use Rattle.mold_pcap.specs.declared.passing.Passing.{Passing}
use Rattle.mold_pcap.proofs.CaptureLemmas.{bad_other, cut_other, leads_other, total_of}
use Rattle.mold_pcap.proofs.step.pass_other.Goals as goal
use Rattle.mold_pcap.proofs.step.pass_other.Given.{Over}
use Rattle.mold_pcap.proofs.step.pass_other.Goals.{In_ok-pass_block}

pub pass_block-requires : goal.pass_block-requires
pass_block-requires g c = total_of c.args.format.now c.args.window.now c.args.total c.requires

-- How the block was passed, in the order of the capture.
passed : (g : Over) → (c : In_ok-pass_block g) →
    PassesBlock c.args.format.now.order c.args.total c.in_ok-pass_block.field-0
    (prepend_known c.args.window.now (g.S.Source.left c.args.source.now))
    (prepend_known c.pass_block.new.window (g.S.Source.left c.pass_block.new.source))
passed g c = subst (λ (order : Order). PassesBlock order c.args.total c.in_ok-pass_block.field-0
    (prepend_known c.args.window.now (g.S.Source.left c.args.source.now))
    (prepend_known c.pass_block.new.window (g.S.Source.left c.pass_block.new.source)))
    c.order.ensures c.in_ok-pass_block.ensures.passed

pub returns-in-Whole-clause-step : goal.returns-in-Whole-clause-step
returns-in-Whole-clause-step g c =
    let known = g.S.Source.left c.args.source.now in
    let left = prepend_known c.pass_block.new.window (g.S.Source.left c.pass_block.new.source) in
    let whole = subst (λ (p : Passing). PassesBlock c.args.format.now.order c.args.total p
    (prepend_known c.args.window.now known) left) c.in-Whole.is
    (passed g (goal.at.returns-in-Whole-clause-step g c).In_ok-pass_block) in
    subst (λ (format : FormatState). Leads c.args.format.now (prepend_known c.args.window.now known) format left)
    (sym c.advance.ensures) (leads_other c.args.format.now c.args.window.now known left c.args.total c.requires whole)

pub returns-in-Cut-clause-fault : goal.returns-in-Cut-clause-fault
returns-in-Cut-clause-fault g c =
    let known = g.S.Source.left c.args.source.now in
    let left = prepend_known c.pass_block.new.window (g.S.Source.left c.pass_block.new.source) in
    let cut = subst (λ (p : Passing). PassesBlock c.args.format.now.order c.args.total p
    (prepend_known c.args.window.now known) left) c.in-Cut.is
    (passed g (goal.at.returns-in-Cut-clause-fault g c).In_ok-pass_block) in
    subst (λ (at : ℕ). GivesEnd c.args.format.now (prepend_known c.args.window.now known) (Some (Cut at)))
    (sym c.at.ensures) (cut_other c.args.format.now c.args.window.now known c.args.total c.requires cut)

pub returns-in-Differs-clause-fault : goal.returns-in-Differs-clause-fault
returns-in-Differs-clause-fault g c =
    let known = g.S.Source.left c.args.source.now in
    let left = prepend_known c.pass_block.new.window (g.S.Source.left c.pass_block.new.source) in
    let bad = subst (λ (p : Passing). PassesBlock c.args.format.now.order c.args.total p
    (prepend_known c.args.window.now known) left) c.in-Differs.is
    (passed g (goal.at.returns-in-Differs-clause-fault g c).In_ok-pass_block) in
    subst (λ (at : ℕ). GivesEnd c.args.format.now (prepend_known c.args.window.now known) (Some (BadBlock at)))
    (sym c.at-in-Differs.ensures)
    (bad_other c.args.format.now c.args.window.now known left c.args.total c.requires bad)
