use Rattle.std.proofs.Common.{◌≡◌, ◌<◌, ℕ, List, length, eqb, Option, sym, ap, subst, ◌∙◌}
use Rattle.std.specs.Io.KnownBytes.{IsAtEnd, prepend_known}
use Rattle.mold_devices.specs.Lines.{work_left}
use Rattle.mold_pcap.specs.Captures.{is_nil}
use Rattle.mold_pcap.specs.Formats.{ends}
use Rattle.mold_pcap.specs.Reading.{GivesEnd}
use Rattle.mold_pcap.specs.declared.fault.CaptureFault.{CaptureFault}
use Rattle.mold_pcap.proofs.CaptureLemmas.{gives_short, need_of, nil_is}
use Rattle.mold_pcap.proofs.WindowLemmas.{on_false, on_true}
use Rattle.mold_pcap.proofs.step.read_more.Goals as goal
use Rattle.mold_pcap.proofs.step.read_more.Given.{Over}
use Rattle.mold_pcap.proofs.step.read_more.Goals.{After-ending}

pub fill-requires : goal.fill-requires
fill-requires g c = (need_of c.args.format.now c.args.window.now c.args.need c.requires).1

pub returns-then-branch-clause-work : goal.returns-then-branch-clause-work
returns-then-branch-clause-work g c =
    let need = need_of c.args.format.now c.args.window.now c.args.need c.requires in
    on_true c.in_ok-fill.field-0
    (length c.args.window.now < c.args.need →
    work_left (g.S.Source.bound c.fill.new.source) c.fill.new.self
    < work_left (g.S.Source.bound c.args.source.now) c.args.window.now)
    c.if-branch.true c.in_ok-fill.ensures.less need.0

-- The capture ends here, without a frame.
ended : (g : Over) → (c : After-ending g) →
    GivesEnd c.args.format.now (prepend_known c.args.window.now (g.S.Source.left c.args.source.now)) c.ending.result
ended g c =
    let format = c.args.format.now in
    let window = c.fill.new.self in
    let left = g.S.Source.left c.fill.new.source in
    let known = prepend_known c.args.window.now (g.S.Source.left c.args.source.now) in
    let is_empty : is_nil window ≡ c.is_empty.result =
    nil_is window ∙ ap (λ (t : List ℕ). eqb (length t) 0) (sym c.rest.ensures) ∙ sym c.is_empty.ensures
    in
    let fault : ends format.kind format.at (is_nil window) ≡ c.ending.result =
    ap (ends format.kind format.at) is_empty ∙ sym c.ending.ensures
    in
    subst (λ (o : Option CaptureFault). GivesEnd format known o) fault
    (gives_short format c.args.window.now window (g.S.Source.left c.args.source.now) left c.args.need c.requires
    c.in_ok-fill.ensures.same
    (on_false c.in_ok-fill.field-0 (length window < c.args.need) c.if-branch.false c.in_ok-fill.ensures.short)
    (on_false c.in_ok-fill.field-0 (IsAtEnd left) c.if-branch.false c.in_ok-fill.ensures.end))

pub returns-in-Some-clause-fault : goal.returns-in-Some-clause-fault
returns-in-Some-clause-fault g c =
    subst (λ (o : Option CaptureFault). GivesEnd c.args.format.now
    (prepend_known c.args.window.now (g.S.Source.left c.args.source.now)) o) c.in-Some.is
    (ended g (goal.at.returns-in-Some-clause-fault g c).After-ending)

pub returns-in-None-clause-step : goal.returns-in-None-clause-step
returns-in-None-clause-step g c =
    subst (λ (o : Option CaptureFault). GivesEnd c.args.format.now
    (prepend_known c.args.window.now (g.S.Source.left c.args.source.now)) o) c.in-None.is
    (ended g (goal.at.returns-in-None-clause-step g c).After-ending)
