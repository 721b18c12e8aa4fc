use Rattle.std.proofs.Common.{List, map, take, sym, subst, ◌∙◌}
use Rattle.mold_world.proofs.RunningLemmas.{RunLaws, headline_of, on_err, on_ok, passed_all, passed_more, run_steps, stopped_at}
use Rattle.mold_world.specs.Event.{Happening, seen}
use Rattle.mold_world.specs.HandOns.{handed_by_all}
use Rattle.mold_world.specs.Headline.{ArePublished}
use Rattle.mold_world.specs.Steps.{AreStepsOfAll}
use Rattle.mold_world.specs.Straight.{HasSent}
use Rattle.mold_world.specs.World.{WorldState}
use Rattle.mold_world.proofs.world.World.run.Goals.{After-keep}
use Rattle.mold_world.proofs.world.World.run.Goals as goal

laws : After-keep → RunLaws
laws c = record {
  run = c.run_law.ensures.run;
  books = c.run_law.ensures.books;
  whole = c.run_law.ensures.whole;
  steps = c.run_law.ensures.steps;
}

pub loop-at-preserved : goal.loop-at-preserved
loop-at-preserved c =
    passed_more c.args.self.now c.loop-at.self c.apply_or_skip.new.self c.args.events.now c.loop-at.at _ c.loop-at-test.true
    c.loop-at.invariant (on_ok c.apply_or_skip.result c.if-is_err.ensures.value c.apply_or_skip.ensures.passed)

pub returns-then-is_err-clause-left : goal.returns-then-is_err-clause-left
returns-then-is_err-clause-left c =
    on_err c.apply_or_skip.result c.if-is_err.ensures.value c.apply_or_skip.ensures.same ∙ c.loop-at.invariant

pub returns-then-is_err-clause-stopped : goal.returns-then-is_err-clause-stopped
returns-then-is_err-clause-stopped c =
    stopped_at c.args.self.now c.loop-at.self c.args.events.now c.loop-at.at _ c.loop-at-test.true
    c.loop-at.invariant (on_err c.apply_or_skip.result c.if-is_err.ensures.value c.apply_or_skip.ensures.wanting)

pub returns-then-is_err-clause-headline : goal.returns-then-is_err-clause-headline
returns-then-is_err-clause-headline c =
    λ count. headline_of (laws (goal.at.returns-then-is_err-clause-headline c).After-keep) c.args.self.now
    (take count (map seen c.args.events.now)) c.keep.ensures

pub returns-then-is_err-clause-handed : goal.returns-then-is_err-clause-handed
returns-then-is_err-clause-handed c =
    let left = on_err c.apply_or_skip.result c.if-is_err.ensures.value c.apply_or_skip.ensures.same ∙ c.loop-at.invariant in
    let happened : List Happening = take c.loop-at.at (map seen c.args.events.now) in
    subst (λ (t : WorldState). ArePublished t.publisher.journal.messages (handed_by_all c.args.self.now happened))
    (sym left) (c.run_law.ensures.handed c.args.self.now happened c.keep.ensures)

pub returns-then-is_err-clause-steps : goal.returns-then-is_err-clause-steps
returns-then-is_err-clause-steps c =
    let left = on_err c.apply_or_skip.result c.if-is_err.ensures.value c.apply_or_skip.ensures.same ∙ c.loop-at.invariant in
    let happened : List Happening = take c.loop-at.at (map seen c.args.events.now) in
    subst (λ (t : WorldState). AreStepsOfAll c.args.self.now happened t) (sym left)
    (run_steps (laws (goal.at.returns-then-is_err-clause-steps c).After-keep) c.args.self.now happened c.keep.ensures)

pub returns-clause-left : goal.returns-clause-left
returns-clause-left c =
    passed_all c.args.self.now c.loop-at.self c.args.events.now c.loop-at.at c.loop-at-test.false c.loop-at.invariant

pub returns-clause-headline : goal.returns-clause-headline
returns-clause-headline c =
    λ count. headline_of (laws (goal.at.returns-clause-headline c).After-keep) c.args.self.now
    (take count (map seen c.args.events.now)) c.keep.ensures

pub returns-clause-handed : goal.returns-clause-handed
returns-clause-handed c =
    let left =
    passed_all c.args.self.now c.loop-at.self c.args.events.now c.loop-at.at c.loop-at-test.false c.loop-at.invariant
    in
    let happened : List Happening = map seen c.args.events.now in
    subst (λ (t : WorldState). ArePublished t.publisher.journal.messages (handed_by_all c.args.self.now happened))
    (sym left) (c.run_law.ensures.handed c.args.self.now happened c.keep.ensures)

pub returns-clause-steps : goal.returns-clause-steps
returns-clause-steps c =
    let left =
    passed_all c.args.self.now c.loop-at.self c.args.events.now c.loop-at.at c.loop-at-test.false c.loop-at.invariant
    in
    let happened : List Happening = map seen c.args.events.now in
    subst (λ (t : WorldState). AreStepsOfAll c.args.self.now happened t) (sym left)
    (run_steps (laws (goal.at.returns-clause-steps c).After-keep) c.args.self.now happened c.keep.ensures)

pub returns-clause-straight : goal.returns-clause-straight
returns-clause-straight c =
    let left =
    passed_all c.args.self.now c.loop-at.self c.args.events.now c.loop-at.at c.loop-at-test.false c.loop-at.invariant
    in
    λ receiver path has.
    subst (λ (t : WorldState). HasSent t receiver) (sym left)
    (c.straight_law.ensures c.args.self.now (map seen c.args.events.now) receiver c.keep.ensures path has)
