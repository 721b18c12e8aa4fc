use Rattle.std.proofs.Common.{◌≡◌, ℕ, List, drop, sym, ap, subst, ◌∙◌}
use Rattle.std.specs.Io.KnownBytes.{prepend_known}
use Rattle.mold_pcap.specs.Captures.{frame_at}
use Rattle.mold_pcap.specs.Formats.{FormatState, passed_format}
use Rattle.mold_pcap.specs.Looks.{look}
use Rattle.mold_pcap.specs.Reading.{GivesFrame, Leads}
use Rattle.mold_pcap.proofs.CaptureLemmas.{gives_ended, gives_framed, gives_refused, leads_passed}
use Rattle.mold_pcap.proofs.step.take_part.Goals as goal
use Rattle.mold_pcap.proofs.step.take_part.Given.{Over}
use Rattle.mold_pcap.proofs.step.take_part.Goals.{After-look}

-- The look at the window.
looked : (g : Over) → (c : After-look g) → look c.args.format.now c.args.window.now ≡ c.look.result
looked g c = ap (look c.args.format.now) (sym c.rest.ensures) ∙ sym c.look.ensures.look

pub returns-in-Framed-clause-step : goal.returns-in-Framed-clause-step
returns-in-Framed-clause-step g c =
    let known = g.S.Source.left c.args.source.now in
    let window = c.args.window.now in
    let is = looked g (goal.at.returns-in-Framed-clause-step g c).After-look ∙ c.in-Framed.is in
    subst (λ (later : FormatState). GivesFrame c.args.format.now (prepend_known window known)
    (frame_at c.in-Framed.place window) later (prepend_known (drop c.in-Framed.used window) known))
    (sym c.advance.ensures)
    (gives_framed c.args.format.now window known c.in-Framed.place c.in-Framed.used is)

pub returns-in-Passed-clause-step : goal.returns-in-Passed-clause-step
returns-in-Passed-clause-step g c =
    let known = g.S.Source.left c.args.source.now in
    let window = c.args.window.now in
    let format = c.args.format.now in
    let is = looked g (goal.at.returns-in-Passed-clause-step g c).After-look ∙ c.in-Passed.is in
    subst (λ (later : FormatState). Leads format (prepend_known window known) later
    (prepend_known c.skip.new.self known))
    (sym c.pass.ensures)
    (subst (λ (rest : List ℕ). Leads format (prepend_known window known)
    (passed_format format c.in-Passed.next c.in-Passed.used) (prepend_known rest known)) (sym c.skip.ensures)
    (leads_passed format window known c.in-Passed.next c.in-Passed.used is))

pub returns-in-Refused-clause-fault : goal.returns-in-Refused-clause-fault
returns-in-Refused-clause-fault g c =
    gives_refused c.args.format.now c.args.window.now (g.S.Source.left c.args.source.now) c.in-Refused.why
    (looked g (goal.at.returns-in-Refused-clause-fault g c).After-look ∙ c.in-Refused.is)

pub returns-in-Ended-clause-step : goal.returns-in-Ended-clause-step
returns-in-Ended-clause-step g c =
    gives_ended c.args.format.now c.args.window.now (g.S.Source.left c.args.source.now)
    (looked g (goal.at.returns-in-Ended-clause-step g c).After-look ∙ c.in-Ended.is)
