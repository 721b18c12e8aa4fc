use Rattle.std.proofs.Common.{◌∙◌, ap, refl, subst, sym}
use Rattle.mold_pacing.specs.Lines.{IsTaken}
use Rattle.mold_pacing.specs.State.{adapted}
use Rattle.mold_pacing.specs.declared.state.PacerState.{PacerState}
use Rattle.mold_repair.specs.Header.{head}
use Rattle.mold_repair.specs.Timing.{is_timed}
use Rattle.mold_repair.proofs.GapLemmas.{true_is_false}
use Rattle.mold_repair.proofs.TakingLemmas.{adapted_some}
use Rattle.mold_repair.proofs.repairer.Repairer.adapt.Goals as goal
use Rattle.mold_wire.specs.Reading.{reading}

pub returns-clause-timed : goal.returns-clause-timed
returns-clause-timed c =
    let old = c.args.self.now in
    let came = c.head_in-head.ensures in
    let now = ap (λ (s : PacerState). s.now) c.state.ensures in
    let line = c.line_index.ensures in
    let on = sym (ap (is_timed old.options c.args.origin) came) ∙ sym c.is_timed.ensures ∙ c.if-not-is_timed.false in
    record {
      taken = λ _. subst (IsTaken old.delays c.take.new.self)
          (λ i. record { first = (came i).first; end = (came i).end; time = now i; line = line i }) c.take.ensures;
      same = λ off. absurd (true_is_false (sym on ∙ off));
    }

pub returns-clause-learned : goal.returns-clause-learned
returns-clause-learned c =
    let old = c.args.self.now in
    let came = c.head_in-head.ensures in
    let on = sym (ap (is_timed old.options c.args.origin) came) ∙ sym c.is_timed.ensures ∙ c.if-not-is_timed.false in
    adapted_some old.options c.args.origin (head (reading c.args.datagram.now)) c.take.new.self old.pacer
    c.adapt.new.self on (record {
      none = refl;
      becomes = c.adapt.ensures.state ∙ ap (λ n. adapted n old.pacer.state) c.patience.ensures;
      table = c.adapt.ensures.flights;
      options = c.adapt.ensures.options;
    })
