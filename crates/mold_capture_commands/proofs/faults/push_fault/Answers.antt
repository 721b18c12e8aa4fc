use Rattle.std.proofs.Common.{◌≡◌, ◌++◌, subst, sym}
use Rattle.std.specs.Prelude.{OnOk, Some}
use Rattle.mold_pcap.specs.declared.fault.CaptureFault.{CaptureFault}
use Rattle.mold_capture_commands.specs.Faults.{fault_text}
use Rattle.mold_capture_commands.proofs.faults.push_fault.Goals as goal

pub returns-in-BadBlock-clause-line : goal.returns-in-BadBlock-clause-line
returns-in-BadBlock-clause-line c =
    subst (λ (f : CaptureFault). OnOk c.push_at-in-BadBlock.result
    (c.push_at-in-BadBlock.new.text.items ≡ c.args.text.now.items ++ fault_text c.args.name.now (Some f)))
    (sym c.in-BadBlock.is) c.push_at-in-BadBlock.ensures.line

pub returns-in-NoInterface-clause-line : goal.returns-in-NoInterface-clause-line
returns-in-NoInterface-clause-line c =
    subst (λ (f : CaptureFault). OnOk c.push_at-in-NoInterface.result
    (c.push_at-in-NoInterface.new.text.items ≡ c.args.text.now.items ++ fault_text c.args.name.now (Some f)))
    (sym c.in-NoInterface.is) c.push_at-in-NoInterface.ensures.line
